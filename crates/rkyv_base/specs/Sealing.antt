-- An archive after a write of one value in place.
use Rattle.std.specs.Prelude.{◌≡◌, ℕ, ◌+◌, ◌≤◌, ◌⊎◌, List, ◌++◌, length, take, drop}
use Rattle.std.specs.Int.{byte_len, to_le_bytes}
use Rattle.rkyv_base.specs.Bytes.{number_at}
use Rattle.rkyv_base.specs.Entries.{entry_spec, value_offset}
use Rattle.rkyv_base.specs.Scalar.{Encoding}
use Rattle.rkyv_base.specs.ElementSpecs.{ElementSpec}

-- the bytes `b`, with the `n` bytes from position `p` on replaced by `w`
abbrev pub with_bytes : List ℕ → ℕ → ℕ → List ℕ → List ℕ
with_bytes b p n w = take p b ++ (w ++ drop (p + n) b)

-- the bytes `b`, with the value `v` at position `p`
abbrev pub with_value : {V : Type 0} → Encoding V → List ℕ → ℕ → V → List ℕ
with_value e b p v = with_bytes b p (byte_len e.word) (to_le_bytes e.word (e.code v))

-- the position of the value of the entry at `p`
abbrev pub value_pos : ElementSpec → ElementSpec → ℕ → ℕ
value_pos k v p = p + value_offset k v

-- the number at position `p` encodes a value
abbrev pub IsCodeAt : {V : Type 0} → Encoding V → List ℕ → ℕ → Type 0
IsCodeAt e b p = e.IsCode (number_at e.word b p)

-- the value of the number at position `p`
abbrev pub value_at : {V : Type 0} → Encoding V → List ℕ → ℕ → V
value_at e b p = e.value (number_at e.word b p)

-- `c`: bytes with the length of `b`, and equal to it except in the `n` bytes from `p` on
pub record ModifiesOnly (b : List ℕ) (p n : ℕ) (c : List ℕ) : Type 0 where
  pub same_length : length c ≡ length b
  pub before : take p c ≡ take p b
  pub after : drop (p + n) c ≡ drop (p + n) b

-- a valid value at `p` in `b` is valid in `c`, with the same parts
abbrev pub StaysValid : ElementSpec → List ℕ → List ℕ → ℕ → Type 0
StaysValid s b c p = (lo hi l : ℕ) → lo ≤ hi → hi ≤ p → s.is_valid b p lo hi l
    → s.is_valid c p lo hi l

-- the entry at `p` stays valid after each write to only its value's bytes
-- that keeps the value valid
abbrev pub EntryStaysValid : ElementSpec → ElementSpec → List ℕ → ℕ → Type 0
EntryStaysValid k v b p = (c : List ℕ) → ModifiesOnly b (value_pos k v p) v.size c
    → StaysValid v b c (value_pos k v p) → StaysValid (entry_spec k v) b c p

-- no byte from `i` on and below `j` is one of the `n` bytes from `p` on
abbrev pub Outside : ℕ → ℕ → ℕ → ℕ → Type 0
Outside p n i j = (j ≤ p) ⊎ (p + n ≤ i)
