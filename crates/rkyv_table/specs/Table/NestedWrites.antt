-- Values that are written among their parts, as a map that is the value of another map.
use Rattle.std.specs.Prelude.{◌≡◌, ℕ, ◌+◌, ◌-◌, ◌≤◌, Bool, List, length}
use Rattle.rkyv_base.specs.{AgreeOn, ElementSpec, IsValidArchive, ModifiesOnly, StaysValid}

-- `c`: bytes `b` after a write among the parts of the value at `q`. A valid value
-- stays valid with the same lower end, and the bytes outside its parts are unchanged
pub record WritesAmongParts (s : ElementSpec) (b c : List ℕ) (q : ℕ) : Type 0 where
  pub is_valid : StaysValid s b c q
  pub sealed : (lo hi l : ℕ) → lo ≤ hi → hi ≤ q → s.is_valid b q lo hi l
      → ModifiesOnly b lo (l - lo) c

-- `c`: bytes of the archive `b` within `limit` after a write that keeps it valid. Its root is
-- at the same position
pub record KeepsArchive (limit : ℕ) (s : ElementSpec) (b c : List ℕ) : Type 0 where
  pub same_length : length c ≡ length b
  pub valid : IsValidArchive limit s c

-- the value at `q` is valid, with its parts in some range before it
pub record IsValidBefore (s : ElementSpec) (b : List ℕ) (q : ℕ) : Type 0 where
  pub lower : ℕ
  pub upper : ℕ
  pub rest : ℕ
  pub order : lower ≤ upper
  pub before : upper ≤ q
  pub is_valid : s.is_valid b q lower upper rest

-- the value at `q` is the same in both: its own bytes, and the range of its parts
pub record StaysAt (s : ElementSpec) (b c : List ℕ) (q : ℕ) : Type 0 where
  pub valid : IsValidBefore s b q
  pub fixed : AgreeOn b c q (q + s.size)
  pub parts : AgreeOn b c valid.lower valid.rest

-- `fits` of a key depends only on the bytes of the key and of its parts
abbrev pub RestsOnParts : ElementSpec → (List ℕ → ℕ → Bool) → Type 0
RestsOnParts k fits = (b c : List ℕ) (q : ℕ) → StaysAt k b c q → fits c q ≡ fits b q
