-- The header of an index map: its table of indices' header, and then the distance to its entries.
use Rattle.std.specs.Prelude.{◌≡◌, ℕ, ◌⊎◌, ℤ, pos, ◌-ℤ◌, FitsSigned, List, ◌++◌, MatchResult}
use Rattle.std.specs.Prelude.{Result}
use Rattle.std.specs.Int.{Width, cast_unsigned, to_le_bytes}
use Rattle.rkyv_table.specs.{HeaderOverflows, IsHeader, TableResolver, capacity}
use Rattle.rkyv_index.specs.Map.IndexLayout.{distance_pos}

-- the resolver of an index map: its table of indices' resolver, and the position of its entries
pub record IndexResolver : Type 0 where
  pub table : TableResolver
  pub entries : ℕ

-- `out`: header at `p` of an index map of `len` pairs in `cap` buckets
pub record IsIndexHeader (w : Width) (len cap : ℕ) (r : IndexResolver) (p : ℕ)
    (out : List ℕ) : Type 0 where
  pub table : List ℕ
  pub header : IsHeader w len cap r.table.pos p table
  pub distance : ℤ
  pub fits : FitsSigned w distance
  pub distance_value : distance ≡ pos r.entries -ℤ pos (distance_pos w p)
  pub is : out ≡ table ++ to_le_bytes w (cast_unsigned w distance)

-- the map isn't empty and the distance to its table of indices doesn't fit in the width,
-- or the distance to the entries doesn't fit
abbrev pub IndexOverflows : Width → ℕ → IndexResolver → ℕ → Type 0
IndexOverflows w len r p = HeaderOverflows w len r.table.pos p
    ⊎ (FitsSigned w (pos r.entries -ℤ pos (distance_pos w p)) → ⊥)

-- `after`: header at `p` of the index map of the resolver. With an error, a distance doesn't fit
-- in the width, and the bytes are unchanged
abbrev pub WritesIndexHeader : {T E : Type 0} → Width → IndexResolver → ℕ → List ℕ → List ℕ
    → Result T E → Type 0
WritesIndexHeader w r p before after result = MatchResult result
    (λ _. IsIndexHeader w r.table.len (capacity r.table.len r.table.load_factor) r p after)
    (λ _. IndexOverflows w r.table.len r p × (after ≡ before))
