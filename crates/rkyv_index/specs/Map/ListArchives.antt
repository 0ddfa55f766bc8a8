-- Archives with a root index map that represents a list of pairs, and lookups in one.
use Rattle.rkyv_base.specs.declared.element.HasSpec.{Ghosts as Specs}
use Rattle.rkyv_base.specs.declared.width.Word.{Ghosts as Words}
use Rattle.std.specs.Prelude.{◌≡◌, ℕ, ◌-◌, List, Option, length}
use Rattle.std.specs.Borrow.{Bor}
use Rattle.std.specs.Int.{Width}
use Rattle.std.specs.List.{position}
use Rattle.rkyv_base.specs.{ElementSpec, IsAt, entry_spec}
use Rattle.rkyv_base.specs.declared.view.View.{View}
use Rattle.rkyv_keys.specs.{FoundValues, NativeKeys, first_value}
use Rattle.rkyv_index.specs.Map.{FindsFirstKey, IsIndex, IsValueAt, index_of, index_view}
use Rattle.rkyv_index.specs.Map.IndexFormat.{IndexRepresents}
use Rattle.rkyv_index.specs.Map.IndexLayout.{index_spec}
use Rattle.rkyv_index.specs.declared.map.ArchivedIndexMap.{ArchivedIndexMap}
use Rattle.rkyv_index.specs.declared.map.IndexMapOf.{IndexMapOf}

-- the position of the root of an archive, if the root is an index map
abbrev pub index_root : Width → ElementSpec → ElementSpec → List ℕ → ℕ
index_root w k v b = length b - (index_spec w (entry_spec k v)).size

-- The root of the archive is an index map that represents a list of pairs. A lookup of a native key
-- finds the first pair with an equal key, and `None` if no pair has one. `index`: its index,
-- `value`: its value
pub record FindsInRoot {A Q B K V H W : Type 0} {ks : Specs K} {vs : Specs V} {wt : Words W}
    (keys : NativeKeys A Q) (values : FoundValues V B) (map : ArchivedIndexMap K V H W ks vs wt)
    (query : Q) (pairs : List (A × B)) : Type 0 where
  pub index : (found : Option ℕ)
      → FindsFirstKey (index_of map) keys.key_hash (keys.fits query) (IsIndex found)
      → found ≡ position (λ pair. keys.equal query pair.0) pairs
  pub value : (found : Option (View V))
      → FindsFirstKey (index_of map) keys.key_hash (keys.fits query) (IsValueAt map found)
      → values.IsFound found (first_value (keys.equal query) pairs)

-- Lookups by a query in a root map that represents a list find the first key that equals
-- the query. `wt`: word of the archive, `keys`: its native keys, `values`: how its values are found
abbrev pub FoundAreListed : {A Q B K V W : Type 0} → (H : Type 0) → Words W → Specs K → Specs V
    → NativeKeys A Q → FoundValues V B → Type 0
FoundAreListed {A} {Q} {B} {K} {V} {W} H wt ks vs keys values =
    (map : ArchivedIndexMap K V H W ks vs wt) (root : View (IndexMapOf K V H W))
    (archive : Bor (List ℕ)) (factor : ℕ × ℕ) (pairs : List (A × B)) (query : Q)
    → index_view map ≡ root → IsAt root archive (index_root wt.word ks.spec vs.spec archive.now)
    → IndexRepresents wt.word ks.spec vs.spec keys.represents values.represents keys.key_hash
    factor archive.now (index_root wt.word ks.spec vs.spec archive.now) pairs
    → FindsInRoot keys values map query pairs
