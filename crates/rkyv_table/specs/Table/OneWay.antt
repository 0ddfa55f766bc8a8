-- Values that are written in only one way.
use Rattle.std.specs.Prelude.{◌≡◌, ℕ, List}
use Rattle.rkyv_base.specs.{Format}

-- the parts of a value, its resolver and its fixed bytes are functions of the value
-- and the position
pub record WritesOneWay {V R : Type 0} (f : Format V R) : Type 0 where
  pub parts : (v : V) (p : ℕ) (part part' : List ℕ) (r r' : R)
      → f.parts v p part r → f.parts v p part' r' → (part ≡ part') × (r ≡ r')
  pub image : (v : V) (begin p : ℕ) (part out out' : List ℕ) (r : R)
      → f.parts v begin part r → f.image v r p out → f.image v r p out' → out ≡ out'
