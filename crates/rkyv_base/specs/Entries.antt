-- The entry of a key and a value: the key, zeros up to the value's alignment, the value,
-- and zeros up to the greater alignment.
use Rattle.std.specs.Prelude.{◌≡◌, ℕ, ◌+◌, ◌<◌, ◌≤◌, ◌⊎◌, max, nat_le, if◌then◌else◌, List}
use Rattle.rkyv_base.specs.declared.errors.VerifyError.{VerifyError}
use Rattle.rkyv_base.specs.declared.errors.VerifyError.TheVariants.{Refused}
use Rattle.rkyv_base.specs.Bytes.{AgreeOn}
use Rattle.rkyv_base.specs.Writing.{padding}
use Rattle.rkyv_base.specs.ElementSpecs.{ElementSpec}

-- `n` rounded up to a multiple of `a`
abbrev pub round_up : ℕ → ℕ → ℕ
round_up n a = n + padding a n

-- the offset of the value of an entry
abbrev pub value_offset : ElementSpec → ElementSpec → ℕ
value_offset k v = round_up k.size v.align

-- the size of an entry in bytes, even if it is too large
abbrev pub whole_size : ElementSpec → ElementSpec → ℕ
whole_size k v = round_up (value_offset k v + v.size) (max k.align v.align)

-- an entry of this size can be archived
abbrev pub IsSmall : ElementSpec → ElementSpec → Type 0
IsSmall k v = whole_size k v ≤ 1073741824

-- the size `whole`, or 0 if it is too large
abbrev pub size_of_whole : ℕ → ℕ
size_of_whole whole = if nat_le whole 1073741824 then whole else 0

-- the bytes at `p` are a valid entry: a valid key, followed by a valid value
abbrev pub IsValidEntry : ElementSpec → ElementSpec → List ℕ → ℕ → ℕ → ℕ → ℕ → Type 0
IsValidEntry k v b p lo hi l = IsSmall k v × (m : ℕ) × k.is_valid b p lo hi m
    × v.is_valid b (p + value_offset k v) m hi l

-- `e`: first fault of the entry at `p`. It is too large, or its key or its value is invalid
abbrev pub EntryFails : ElementSpec → ElementSpec → List ℕ → ℕ → ℕ → ℕ → VerifyError → Type 0
EntryFails k v b p lo hi e =
    ((1073741824 < whole_size k v) × (e ≡ Refused 0))
    ⊎ (IsSmall k v × (k.fails b p lo hi e
    ⊎ ((m : ℕ) × k.is_valid b p lo hi m × v.fails b (p + value_offset k v) m hi e)))

-- `b` and `c` agree on all bytes of an entry's key and value. The value's parts begin at `m`
pub record EntriesAgree (k v : ElementSpec) (b c : List ℕ) (p lo hi m l : ℕ) : Type 0 where
  pub room : m ≤ hi
  pub key : AgreeOn b c p (p + k.size)
  pub key_parts : AgreeOn b c lo m
  pub value : AgreeOn b c (p + value_offset k v) (p + value_offset k v + v.size)
  pub value_parts : AgreeOn b c m l

-- the entry of a key `k` and a value `v`, as an element
abbrev pub entry_spec : ElementSpec → ElementSpec → ElementSpec
entry_spec k v = record {
  size = size_of_whole (whole_size k v);
  align = max k.align v.align;
  is_valid = IsValidEntry k v;
  fails = EntryFails k v;
}
