-- Regions that cover the bytes of an archive.
use Rattle.std.proofs.Common.{◌≡◌, ◌∙◌, ◌<◌, ℕ, List, [], ◌∷◌, ◌++◌, refl, sym, subst}
use Rattle.rkyv_inspect.specs.{Covers}
use Rattle.rkyv_inspect.specs.declared.regions.Region.{Region}

-- one more region, from the end of the last one on
pub covers_more : (begin middle : ℕ) (regions : List Region) (region : Region) → Covers begin regions middle
    → region.begin ≡ middle → middle < region.end → Covers begin (regions ++ region ∷ []) region.end
covers_more begin middle [] region covers begins ends = (begins ∙ sym covers, subst (λ n. n < region.end) (sym covers) ends, refl)
covers_more begin middle (first ∷ regions) region covers begins ends =
    (covers.0, covers.1, covers_more first.end middle regions region covers.2 begins ends)
