-- Single control bytes of a table.
use Rattle.std.specs.Prelude.{ℕ, ◌+◌, ◌<◌, ◌≤◌, List, Bool, slice_index, slice_set, Option}
use Rattle.std.specs.Prelude.{replicate}
use Rattle.std.specs.List.{find, range_with_len}
use Rattle.rkyv_scan.specs.{is_empty}
use Rattle.rkyv_table.specs.Controls.Numbers.{control_count}

-- the control byte at `index` is empty
abbrev pub is_empty_at : List ℕ → ℕ → Bool
is_empty_at controls index = is_empty (slice_index controls index)

-- a full bucket: one whose control byte is below 128
abbrev pub IsFullBucket : ℕ → List ℕ → ℕ → Type 0
IsFullBucket cap controls bucket = (bucket < cap) × (slice_index controls bucket < 128)

-- some bucket has an empty control byte
abbrev pub HasRoom : ℕ → List ℕ → Type 0
HasRoom cap controls = (bucket : ℕ) × (bucket < cap) × (128 ≤ slice_index controls bucket)

-- the control bytes of a table without items
abbrev pub fresh_controls : ℕ → List ℕ
fresh_controls cap = replicate (control_count cap) 255

-- `controls` with `tag` at index `bucket` and at its mirrored index
abbrev pub with_control : List ℕ → ℕ → ℕ → ℕ → List ℕ
with_control controls cap bucket tag = slice_set (slice_set controls bucket tag) (cap + bucket) tag

-- the first empty index of the stride from `p` on
unfoldable pub empty_index : List ℕ → ℕ → Option ℕ
empty_index controls p = find (is_empty_at controls) (range_with_len p 16)
