-- The buckets that a walk over a written table visits.
use Rattle.std.specs.Prelude.{ℕ, ◌≡◌, ◌<◌, ◌↔◌, List, eqb, length}
use Rattle.std.specs.List.{AllPairs, Contains, IsDistinct}
use Rattle.rkyv_table.specs.Controls.Laws.{AreHashes}
use Rattle.rkyv_table.specs.Controls.Placing.{AreWrittenControls, walk}

-- a walk visits each home bucket once, in ascending order, and no other
pub record VisitsHomes (cap : ℕ) (homes controls : List ℕ) : Type 0 where
  pub members : (bucket : ℕ) → Contains (walk controls cap) bucket ↔ Contains homes bucket
  pub ascending : AllPairs (λ a b. a < b) (walk controls cap)
  pub once : IsDistinct eqb homes
  pub count : length (walk controls cap) ≡ length homes

-- a walk over written control bytes visits each home bucket once, and no other
abbrev pub WalkVisitsHomes : Type 0
WalkVisitsHomes = (cap : ℕ) (hashes homes controls : List ℕ) → length hashes < cap
    → AreHashes hashes → AreWrittenControls cap hashes homes controls
    → VisitsHomes cap homes controls
