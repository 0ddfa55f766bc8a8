-- The size and the alignment of an element, and the condition for valid bytes.
use Rattle.std.specs.Prelude.{◌≡◌, ℕ, ◌+◌, ◌%◌, ◌≤◌, ◌⊎◌, List, length}
use Rattle.rkyv_base.specs.declared.errors.VerifyError.{VerifyError}
use Rattle.rkyv_base.specs.Bytes.{AgreeOn}

-- `is_valid b p lo hi l`: the bytes `b` have a valid value at `p`.
-- Its parts are from `lo` on and below `hi`, and the next part may begin at `l`.
-- `fails b p lo hi e`: `e` is the first fault of the bytes at `p`.
pub record ElementSpec : Type 1 where
  pub size : ℕ
  pub align : ℕ
  pub is_valid : List ℕ → ℕ → ℕ → ℕ → ℕ → Type 0
  pub fails : List ℕ → ℕ → ℕ → ℕ → VerifyError → Type 0

-- `a`: alignment: 1, 2, 4 or 8
abbrev pub IsAlign : ℕ → Type 0
IsAlign a = (a ≡ 1) ⊎ (a ≡ 2) ⊎ (a ≡ 4) ⊎ (a ≡ 8)

-- The laws of an element. Its alignment is 1, 2, 4 or 8. Its size is a multiple of it,
-- and at most 1073741824. That bytes are valid is a proposition. The new lower end is unique,
-- and in the range. No bytes are both valid and faulty, and a fault is unique.
-- A greater upper end keeps a value valid, with the same new lower end.
-- A lesser lower end keeps it valid, with one that is not greater.
-- Validity depends only on the fixed bytes, and on the parts up to the new lower end.
pub record IsElement (s : ElementSpec) : Type 0 where
  pub align_is : IsAlign s.align
  pub size_whole : s.size % s.align ≡ 0
  pub size_small : s.size ≤ 1073741824
  pub proper : (b : List ℕ) (p lo hi l : ℕ) → IsProp (s.is_valid b p lo hi l)
  pub rest_in_range : (b : List ℕ) (p lo hi l : ℕ) → lo ≤ hi → s.is_valid b p lo hi l
      → (lo ≤ l) × (l ≤ hi)
  pub rest_unique : (b : List ℕ) (p lo hi l l' : ℕ) → s.is_valid b p lo hi l
      → s.is_valid b p lo hi l'
      → l ≡ l'
  pub exclusive : (b : List ℕ) (p lo hi l : ℕ) (e : VerifyError) → s.is_valid b p lo hi l
      → s.fails b p lo hi e → ⊥
  pub one_failure : (b : List ℕ) (p lo hi : ℕ) (e e' : VerifyError) → s.fails b p lo hi e
      → s.fails b p lo hi e' → e ≡ e'
  pub widen_hi : (b : List ℕ) (p lo hi hi' l : ℕ) → hi ≤ hi' → s.is_valid b p lo hi l
      → s.is_valid b p lo hi' l
  pub lower_lo : (b : List ℕ) (p lo lo' hi l : ℕ) → lo' ≤ lo → lo ≤ hi → s.is_valid b p lo hi l
      → (l' : ℕ)
      × s.is_valid b p lo' hi l' × (l' ≤ l)
  pub local : (b c : List ℕ) (p lo hi l : ℕ) → lo ≤ hi → AgreeOn b c p (p + s.size)
      → AgreeOn b c lo l
      → s.is_valid b p lo hi l → s.is_valid c p lo hi l

-- the bytes have a valid value at `p`, whose parts are anywhere before it
abbrev pub ValidAt : ElementSpec → List ℕ → ℕ → Type 0
ValidAt s b p = (l : ℕ) × s.is_valid b p 0 p l

-- the bytes `b` have a valid value at `p`, which is inside the bytes and aligned
pub record Viewable (s : ElementSpec) (b : List ℕ) (p : ℕ) : Type 0 where
  pub inside : p + s.size ≤ length b
  pub aligned : p % s.align ≡ 0
  pub valid : ValidAt s b p

-- an element that is valid everywhere, without parts
abbrev pub any_bytes : ℕ → ℕ → ElementSpec
any_bytes size align = record {
  size = size;
  align = align;
  is_valid = λ b p lo hi l. l ≡ lo;
  fails = λ b p lo hi e. ⊥;
}
