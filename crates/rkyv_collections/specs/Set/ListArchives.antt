-- Sets that represent a list of keys, archives with such a root set, and lookups in one.
use Rattle.rkyv_base.specs.declared.element.HasSpec.{Ghosts as Specs}
use Rattle.rkyv_base.specs.declared.width.Word.{Ghosts as Words}
use Rattle.std.specs.Prelude.{◌≡◌, ℕ, ◌-◌, Bool, List, length}
use Rattle.std.specs.Borrow.{Bor}
use Rattle.std.specs.Int.{Width}
use Rattle.std.specs.List.{list_any}
use Rattle.rkyv_base.specs.{ElementSpec, IsAt, archive_of, pos_of}
use Rattle.rkyv_base.specs.declared.view.View.{View}
use Rattle.rkyv_collections.specs.Map.{FindsFirstKey}
use Rattle.rkyv_keys.specs.{IsFoundAt, NativeKeys}
use Rattle.rkyv_collections.specs.Set.{IsSetAt, set_bytes, set_pos, set_spec}
use Rattle.rkyv_collections.specs.Set.SetFormat.{SetRepresents}
use Rattle.rkyv_collections.specs.declared.set.ArchivedHashSet.{ArchivedHashSet}
use Rattle.rkyv_collections.specs.declared.set.HashSetOf.{HashSetOf}

-- the position of the root of an archive, if the root is a set
abbrev pub set_root : Width → ElementSpec → List ℕ → ℕ
set_root w k b = length b - (set_spec w k).size

-- The root of the archive is a set that represents a list of keys. A lookup of a native key
-- is `true` if and only if it equals a key of the list.
-- `wt`: word of the archive, `keys`: its native keys
abbrev pub MembersFoundAreListed : {A Q K W : Type 0} → (H : Type 0) → Words W → Specs K
    → NativeKeys A Q → Type 0
MembersFoundAreListed {A} {Q} {K} {W} H wt ks keys =
    (set : ArchivedHashSet K H W ks wt) (root : View (HashSetOf K H W)) (archive : Bor (List ℕ))
    (factor : ℕ × ℕ) (items : List A) (query : Q) (found : Bool)
    → IsSetAt set (archive_of root) (pos_of root)
    → IsAt root archive (set_root wt.word ks.spec archive.now)
    → SetRepresents wt.word ks.spec keys.represents keys.key_hash factor archive.now
    (set_root wt.word ks.spec archive.now) items
    → FindsFirstKey set.map keys.key_hash (keys.fits query (set_bytes set)) (IsFoundAt found)
    → found ≡ list_any (keys.equal query) items

-- In a set that represents a list of keys, a lookup of a native key
-- is `true` if and only if it equals a key of the list.
-- `wt`: word of the archive, `keys`: its native keys
abbrev pub SetLookupsFindListed : {A Q K W : Type 0} → (H : Type 0) → Words W → Specs K
    → NativeKeys A Q → Type 0
SetLookupsFindListed {A} {Q} {K} {W} H wt ks keys =
    (set : ArchivedHashSet K H W ks wt) (factor : ℕ × ℕ) (items : List A) (query : Q) (found : Bool)
    → SetRepresents wt.word ks.spec keys.represents keys.key_hash factor (set_bytes set)
    (set_pos set) items
    → FindsFirstKey set.map keys.key_hash (keys.fits query (set_bytes set)) (IsFoundAt found)
    → found ≡ list_any (keys.equal query) items
