-- The result of writing a table, by the results of placing and writing.
use Rattle.std.proofs.Common.{arith, inl, inr}
use Rattle.std.proofs.lemmas.Grind.{common_steps}
use Rattle.std.specs.Prelude.{◌≡◌, ℕ, ◌^◌, ◌<◌, List, length}
use Rattle.std.specs.Int.{Width}
use mir.Val.{bits}
use Rattle.rkyv_base.specs.declared.errors.WriteError.{WriteError}
use Rattle.rkyv_base.specs.Lemmas.Writing.{fails_under}
use Rattle.rkyv_base.specs.{ElementSpec, Format, IsLayout, Output, end_of}
use Rattle.rkyv_table.specs.{ArePlaced, HasCapacity, InBuckets, OwnCause, PairsNext, PlacingFails, TableNext, WriteItemsFails, WriteNonemptyFails, WroteItems, WroteNonempty, capacity, table_format}

-- a capacity within the limit fits in a word
pub capacity_fits : {word : Width} {limit table index align text text_limit : ℕ} (len : ℕ) (load_factor : ℕ × ℕ) (max : ℕ) → IsLayout word limit max table index align text text_limit
    → HasCapacity len load_factor max → capacity len load_factor < 2 ^ bits word
capacity_fits len load_factor max l has = omega (arith, has.1, l.capacity_small, l.limit_fits)

module _ {X R : Type 0} (yields : List (ℕ × X) → Type 0) (len : ℕ) (load_factor : ℕ × ℕ) (max : ℕ) (w : Width) (s : ElementSpec) (f : Format X R) (o o' : Output) (limit : ℕ)
    (has : HasCapacity len load_factor max) where
  module _ (some : 0 < len) where
    pub wrote_some : (z : ℕ) → capacity len load_factor < 2 ^ bits w → WroteNonempty yields len (capacity len load_factor) s f o o' limit z
        → WroteItems yields len load_factor max (table_format w s f load_factor) o o' limit (record { pos = z; len = len; load_factor = load_factor })
    wrote_some z fits (pairs, slots, controls, taken, bytes, appended, is) = grind (arith, common_steps)

    module _ {F : Type 0} (other : ℕ → Type 0) where
      own_of : (e : WriteError F) → PlacingFails len other e → OwnCause len load_factor max other e
      own_of e h = grind (arith, common_steps)

      pub fails_some : (e : WriteError F) → WriteNonemptyFails yields len (capacity len load_factor) s f o o' limit other e
          → WriteItemsFails yields len load_factor max (table_format w s f load_factor) o o' limit other e
      fails_some e (inl h) = inl (own_of e h.0, h.1)
      fails_some e (inr (pairs, slots, controls, taken, told)) =
          let n : length pairs ≡ len = taken.exactly.1 in
          let placed : ArePlaced (capacity (length pairs) load_factor) pairs slots controls = rw n taken.placed in
          let inside : InBuckets load_factor pairs slots controls = (omega (arith, n, some), placed) in
          inr (
            has,
            pairs,
            taken.exactly,
            fails_under limit (PairsNext w s f load_factor pairs (end_of o)) (TableNext s f slots controls (end_of o)) o o' e (λ g step h. (slots, controls, inside, h)) told,
          )
