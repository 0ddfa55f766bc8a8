-- The laws of keys and their queries.
use Rattle.std.specs.Prelude.{◌≡◌, ℕ, ◌+◌, ◌≤◌, Bool, true, List}
use Rattle.rkyv_scan.specs.{HasherCall}
use Rattle.rkyv_base.specs.{AgreeOn, ElementSpec, ValidAt}
use Rattle.rkyv_keys.specs.Equality.{Comparison}

-- the laws of a key. Keys that are the same make the same calls. These depend only on the bytes
-- on which validity depends, and a copy of these bytes is the same key
pub record IsKey (s : ElementSpec) (same : Comparison) (calls : List ℕ → ℕ → List HasherCall) : Type
    0 where
  pub same_calls : (b c : List ℕ) (p q : ℕ) → ValidAt s b p → ValidAt s c q → same b p c q ≡ true
      → calls b p ≡ calls c q
  pub local : (b c : List ℕ) (p lo hi l : ℕ) → lo ≤ hi → s.is_valid b p lo hi l
      → AgreeOn b c p (p + s.size) → AgreeOn b c lo l → calls b p ≡ calls c p
  pub copied : (b c : List ℕ) (p lo hi l : ℕ) → lo ≤ hi → s.is_valid b p lo hi l
      → AgreeOn b c p (p + s.size) → AgreeOn b c lo l → same b p c p ≡ true

-- the laws of a query. It makes the calls of each key that it fits.
-- It then fits the keys that are the same as that key, and no others
pub record IsQuery {Q : Type 0} (s : ElementSpec) (same : Comparison)
    (key_calls : List ℕ → ℕ → List HasherCall) (calls : Q → List HasherCall)
    (fits : Q → List ℕ → ℕ → Bool) : Type 0 where
  pub same_calls : (q : Q) (b : List ℕ) (p : ℕ) → ValidAt s b p → fits q b p ≡ true
      → calls q ≡ key_calls b p
  pub respects_same : (q : Q) (b c : List ℕ) (p r : ℕ) → ValidAt s b p → ValidAt s c r
      → fits q b p ≡ true → fits q c r ≡ same b p c r

-- a query fits a key that represents a native key if and only if the two are equal
abbrev pub FitsItsEqual : {Q A : Type 0} → ElementSpec → (List ℕ → ℕ → A → Type 0)
    → (Q → A → Bool) → (Q → List ℕ → ℕ → Bool) → Type 0
FitsItsEqual {Q = Q} {A = A} s represents equal fits =
    (q : Q) (a : A) (b : List ℕ) (p : ℕ) → ValidAt s b p
    → represents b p a → fits q b p ≡ equal q a
