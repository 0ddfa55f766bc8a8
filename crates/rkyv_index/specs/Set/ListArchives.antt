-- Archives with a root index set that represents a list of keys, and lookups in one.
use Rattle.rkyv_base.specs.declared.element.HasSpec.{Ghosts as Specs}
use Rattle.rkyv_base.specs.declared.width.Word.{Ghosts as Words}
use Rattle.std.specs.Prelude.{◌≡◌, ℕ, ◌-◌, Bool, List, Option, length}
use Rattle.std.specs.Borrow.{Bor}
use Rattle.std.specs.Int.{Width}
use Rattle.std.specs.List.{list_any, position}
use Rattle.rkyv_base.specs.{ElementSpec, IsAt, archive_of, pos_of}
use Rattle.rkyv_base.specs.declared.view.View.{View}
use Rattle.rkyv_keys.specs.{IsFoundAt, NativeKeys}
use Rattle.rkyv_index.specs.Map.{FindsFirstKey, IsIndex, index_view}
use Rattle.rkyv_index.specs.Set.IndexSet.{index_of_set, index_set_spec, keys_of}
use Rattle.rkyv_index.specs.Set.SetFormat.{IndexSetRepresents}
use Rattle.rkyv_index.specs.declared.set.ArchivedIndexSet.{ArchivedIndexSet}
use Rattle.rkyv_index.specs.declared.set.IndexSetOf.{IndexSetOf}

-- the position of the root of an archive, if the root is an index set
abbrev pub index_set_root : Width → ElementSpec → List ℕ → ℕ
index_set_root w k b = length b - (index_set_spec w k).size

-- The root of the archive is an index set that represents a list of keys. A lookup of a native
-- key finds the first equal key, if the list has one. `index`: its index, `member`: if there is one
pub record FindsInRootSet {A Q K H W : Type 0} {ks : Specs K} {wt : Words W} (keys : NativeKeys A Q)
    (set : ArchivedIndexSet K H W ks wt) (query : Q) (items : List A) : Type 0 where
  pub index : (found : Option ℕ)
      → FindsFirstKey (index_of_set set) keys.key_hash (keys.fits query) (IsIndex found)
      → found ≡ position (keys.equal query) items
  pub member : (found : Bool)
      → FindsFirstKey (index_of_set set) keys.key_hash (keys.fits query) (IsFoundAt found)
      → found ≡ list_any (keys.equal query) items

-- Lookups by a query in a root set that represents a list find the first key that equals
-- the query. `wt`: word of the archive, `keys`: its native keys
abbrev pub MembersFoundAreListed : {A Q K W : Type 0} → (H : Type 0) → Words W → Specs K
    → NativeKeys A Q → Type 0
MembersFoundAreListed {A} {Q} {K} {W} H wt ks keys =
    (set : ArchivedIndexSet K H W ks wt) (root : View (IndexSetOf K H W)) (archive : Bor (List ℕ))
    (factor : ℕ × ℕ) (items : List A) (query : Q)
    → IsAt (index_view (keys_of set)) (archive_of root) (pos_of root)
    → IsAt root archive (index_set_root wt.word ks.spec archive.now)
    → IndexSetRepresents wt.word ks.spec keys.represents keys.key_hash factor archive.now
    (index_set_root wt.word ks.spec archive.now) items
    → FindsInRootSet keys set query items
