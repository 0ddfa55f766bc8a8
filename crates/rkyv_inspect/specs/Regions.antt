-- The regions of an archive.
use Rattle.std.specs.Prelude.{ℕ, List, [], ◌∷◌, length, max, min, ◌≡◌, ◌<◌, ◌≤◌, IfOk}
use Rattle.std.specs.Prelude.{Result}
use Rattle.rkyv_inspect.specs.declared.errors.InspectError.{InspectError}
use Rattle.rkyv_inspect.specs.declared.inspection.Inspection.{Inspection}
use Rattle.rkyv_inspect.specs.declared.regions.Region.{Region}
use Rattle.rkyv_inspect.specs.declared.regions.RegionList.{RegionList}

-- each region has a byte or more, and begins at the end of the region before it. The first
-- begins at `begin`, and the last ends at `end`
abbrev pub Covers : ℕ → List Region → ℕ → Type 0
Covers begin [] end = begin ≡ end
Covers begin (region ∷ regions) end =
    (region.begin ≡ begin) × (begin < region.end) × Covers region.end regions end

-- the regions of `list` cover the bytes before its end, which are among the `len` bytes
pub record IsRegionList (len : ℕ) (list : RegionList) : Type 0 where
  pub covers : Covers 0 list.regions.items list.end
  pub within : list.end ≤ len

-- `new`: the list `old` after the bytes before `end`, which are among the `len` bytes
pub record AddsUpTo (len end : ℕ) (old new : RegionList) : Type 0 where
  pub list : IsRegionList len new
  pub end_is : new.end ≡ max old.end (min end len)

-- the regions of an inspection, if there is one, cover the bytes `b`
abbrev pub RegionsCover : List ℕ → Result Inspection InspectError → Type 0
RegionsCover b result = IfOk result (λ inspection. Covers 0 inspection.regions.items (length b))
