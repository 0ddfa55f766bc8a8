-- The result of `capacity`.
use Rattle.std.specs.Prelude.{◌≡◌, ℕ, ◌<◌, ◌≤◌, Result, Ok, Err}
use Rattle.rkyv_base.specs.declared.errors.WriteError.TheVariants as write
use Rattle.rkyv_base.specs.declared.errors.WriteError.{WriteError}
use Rattle.rkyv_table.specs.Controls.Numbers.{IsLoadFactor, capacity}
use Rattle.rkyv_table.specs.declared.controls.numbers.CapacityError.{CapacityError}
use Rattle.rkyv_table.specs.declared.controls.numbers.CapacityError.TheVariants.{InvalidLoadFactor}
use Rattle.rkyv_table.specs.declared.controls.numbers.CapacityError.TheVariants.{CapacityTooLarge}

-- the capacity under a valid load factor, within the limit; or the error, with that
-- of the load factor first
abbrev pub IsCapacity : ℕ → ℕ × ℕ → ℕ → Result ℕ CapacityError → Type 0
IsCapacity len factor limit (Ok cap) =
    IsLoadFactor factor × (cap ≡ capacity len factor) × (cap ≤ limit)
IsCapacity len factor limit (Err (InvalidLoadFactor n d)) =
    (factor ≡ (n, d)) × (IsLoadFactor factor → ⊥)
IsCapacity len factor limit (Err (CapacityTooLarge l)) =
    (l ≡ len) × IsLoadFactor factor × (limit < capacity len factor)

-- the error of a write that can't have a capacity
abbrev pub capacity_write_error : {F : Type 0} → CapacityError → WriteError F
capacity_write_error (InvalidLoadFactor n d) = write.InvalidLoadFactor n d
capacity_write_error (CapacityTooLarge l) = write.CapacityTooLarge l
