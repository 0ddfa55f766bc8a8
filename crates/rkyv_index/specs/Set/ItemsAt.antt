-- Items at the indices of an index set that represents a list.
use Rattle.rkyv_base.specs.declared.element.HasSpec.{Ghosts as Specs}
use Rattle.rkyv_base.specs.declared.width.Word.{Ghosts as Words}
use Rattle.std.specs.Prelude.{◌≡◌, ℕ, ◌≤◌, List, MatchOption, None, Option, Some, slice_get}
use Rattle.std.specs.Borrow.{Bor}
use Rattle.rkyv_base.specs.{AtView, IsAt, archive_of, pos_of}
use Rattle.rkyv_base.specs.declared.view.View.{View}
use Rattle.rkyv_index.specs.Map.{index_len, index_view}
use Rattle.rkyv_index.specs.Set.IndexSet.{IsMemberOf, keys_of}
use Rattle.rkyv_index.specs.Set.SetFormat.{IndexSetRepresents}
use Rattle.rkyv_index.specs.declared.set.ArchivedIndexSet.{ArchivedIndexSet}
use Rattle.rkyv_index.specs.declared.set.IndexSetOf.{IndexSetOf}

-- In an index set that represents a list of keys, the key at an index represents the item of the
-- list at that index, or there is neither. `found`: result of `get_index`, `wt`: word of the
-- archive, `key`: what represents the keys
abbrev pub ItemsAtAreListed : {A K W : Type 0} → (H : Type 0) → Words W → Specs K
    → (List ℕ → ℕ → A → Type 0) → (List ℕ → ℕ → ℕ) → Type 0
ItemsAtAreListed {A} {K} {W} H wt ks key key_hash =
    (set : ArchivedIndexSet K H W ks wt) (header : View (IndexSetOf K H W)) (archive : Bor (List ℕ))
    (p : ℕ) (factor : ℕ × ℕ) (items : List A) (index : ℕ) (found : Option (View K))
    → IsAt (index_view (keys_of set)) (archive_of header) (pos_of header) → IsAt header archive p
    → IndexSetRepresents wt.word ks.spec key key_hash factor archive.now p items
    → MatchOption found (index_len (keys_of set) ≤ index) (IsMemberOf set index)
    → MatchOption found (slice_get items index ≡ None)
    (λ view. (item : A) × (slice_get items index ≡ Some item) × AtView key view item)
