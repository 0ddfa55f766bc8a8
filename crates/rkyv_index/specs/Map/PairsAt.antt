-- Pairs at the indices of an index map that represents a list.
use Rattle.rkyv_base.specs.declared.element.HasSpec.{Ghosts as Specs}
use Rattle.rkyv_base.specs.declared.width.Word.{Ghosts as Words}
use Rattle.std.specs.Prelude.{◌≡◌, ℕ, ◌≤◌, List, MatchOption, None, Option, Some, slice_get}
use Rattle.std.specs.Borrow.{Bor}
use Rattle.rkyv_base.specs.{AtView, IsAt}
use Rattle.rkyv_base.specs.declared.view.View.{View}
use Rattle.rkyv_keys.specs.{NativePairs}
use Rattle.rkyv_index.specs.Map.{IsPairOf, index_len, index_view}
use Rattle.rkyv_index.specs.Map.IndexFormat.{IndexRepresents}
use Rattle.rkyv_index.specs.declared.map.ArchivedIndexMap.{ArchivedIndexMap}
use Rattle.rkyv_index.specs.declared.map.IndexMapOf.{IndexMapOf}

-- In an index map that represents a list of pairs, the key and the value at an index represent the
-- pair of the list at that index, or there is neither. `found`: result of `get_index`, `wt`: word
-- of the archive, `native`: what represents the pairs
abbrev pub PairsAtAreListed : {A B K V W : Type 0} → (H : Type 0) → Words W → Specs K → Specs V
    → NativePairs A B → Type 0
PairsAtAreListed {A} {B} {K} {V} {W} H wt ks vs native =
    (map : ArchivedIndexMap K V H W ks vs wt) (header : View (IndexMapOf K V H W))
    (archive : Bor (List ℕ)) (p : ℕ) (factor : ℕ × ℕ) (pairs : List (A × B)) (index : ℕ)
    (found : Option (View K × View V)) → index_view map ≡ header → IsAt header archive p
    → IndexRepresents wt.word ks.spec vs.spec native.key native.value native.key_hash factor
    archive.now p pairs
    → MatchOption found (index_len map ≤ index) (IsPairOf map index)
    → MatchOption found (slice_get pairs index ≡ None)
    (λ views. (pair : A × B) × (slice_get pairs index ≡ Some pair)
    × AtView native.key views.0 pair.0 × AtView native.value views.1 pair.1)
