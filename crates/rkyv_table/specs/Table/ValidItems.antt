-- Values at several positions, validated in order.
use Rattle.std.specs.Prelude.{◌≡◌, ℕ, ◌≤◌, ◌⊎◌, List, [], ◌∷◌, MatchResult, Result}
use Rattle.std.proofs.Math.Nat.{le_trans}
use Rattle.rkyv_base.specs.declared.errors.VerifyError.{VerifyError}
use Rattle.rkyv_base.specs.{ElementSpec}

-- the values at the positions `at i` are valid in order, with their parts below `hi`. Each leaves
-- the lower end for the next
abbrev pub AreValidAt : ElementSpec → (ℕ → ℕ) → List ℕ → ℕ → List ℕ → ℕ → ℕ → Type 0
AreValidAt s at b hi [] lo l = l ≡ lo
AreValidAt s at b hi (i ∷ is) lo l =
    (m : ℕ) × s.is_valid b (at i) lo hi m × AreValidAt s at b hi is m l

-- the values are valid, and leave some lower end
abbrev pub AreValid : ElementSpec → (ℕ → ℕ) → List ℕ → ℕ → List ℕ → ℕ → Type 0
AreValid s at b hi is lo = (l : ℕ) × AreValidAt s at b hi is lo l

-- `e`: first fault of the first value that isn't valid
abbrev pub FirstFails : ElementSpec → (ℕ → ℕ) → List ℕ → ℕ → List ℕ → ℕ → VerifyError → Type 0
FirstFails s at b hi [] lo e = ⊥
FirstFails s at b hi (i ∷ is) lo e =
    s.fails b (at i) lo hi e ⊎ ((m : ℕ) × s.is_valid b (at i) lo hi m × FirstFails s at b hi is m e)

-- the value at `p` is valid, and the result is the new lower end; or the result is its first fault
abbrev pub ChecksValue : ElementSpec → List ℕ → ℕ → ℕ → ℕ → Result ℕ VerifyError → Type 0
ChecksValue s b p lo hi result = MatchResult result
    (λ rest. (lo ≤ rest) × (rest ≤ hi) × s.is_valid b p lo hi rest)
    (s.fails b p lo hi)

-- the value at `q` is valid in a range of its own between `lo` and `hi`. It leaves a lower end
-- that is at most `l`
pub record IsValidWithin (s : ElementSpec) (b : List ℕ) (q lo hi l : ℕ) : Type 0 where
  pub lower : ℕ
  pub rest : ℕ
  pub above : lo ≤ lower
  pub below : lower ≤ hi
  pub ends : rest ≤ l
  pub is_valid : s.is_valid b q lower hi rest

-- the same with a lesser lower end of the range
abbrev pub within_lower : (s : ElementSpec) (b : List ℕ) (q lo lo' hi l : ℕ) → lo' ≤ lo
    → IsValidWithin s b q lo hi l → IsValidWithin s b q lo' hi l
within_lower s b q lo lo' hi l less h = record {
  lower = h.lower;
  rest = h.rest;
  above = le_trans less h.above;
  below = h.below;
  ends = h.ends;
  is_valid = h.is_valid;
}
