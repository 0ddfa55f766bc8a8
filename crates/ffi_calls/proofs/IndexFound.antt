-- The map of a view, and the stored key and value of the pair at an index.
use Rattle.rkyv_base.specs.declared.element.HasSpec.{Ghosts as Specs}
use Rattle.rkyv_base.specs.declared.width.Word.{Ghosts as Words}
use Rattle.std.proofs.Common.{◌≡◌, ℕ, List, refl}
use Rattle.std.specs.Int.{Width}
use Rattle.rkyv_base.specs.{ElementSpec}
use Rattle.rkyv_base.specs.declared.view.View.{View}
use Rattle.rkyv_table.proofs.Moved.{moved}
use Rattle.rkyv_collections.specs.{MapAt}
use Rattle.rkyv_index.specs.{IsKeyOf, IsValueOf, index_bytes}
use Rattle.rkyv_index.specs.declared.map.ArchivedIndexMap.{ArchivedIndexMap}
use Rattle.ffi_calls.specs.{index_at, pair_pos_at, value_pos_at}
use Rattle.ffi_calls.proofs.AtViews.{there}

-- the map at a position
abbrev map_of : Width → ElementSpec → ElementSpec → List ℕ → ℕ → MapAt
map_of w k v b p = record { word = w; key = k; value = v; bytes = b; pos = p }

-- a property of a map is one of the same map, of equal bytes at an equal position
pub of_same_map : (P : MapAt → Type 0) (w : Width) (k v : ElementSpec) (b c : List ℕ) (p q : ℕ) → b ≡ c → p ≡ q → P (map_of w k v b p) → P (map_of w k v c q)
of_same_map P w k v b c p q e f h = moved (λ x y. P (map_of w k v x y)) b c p q e f h

module _ {K V H W : Type 0} {ks : Specs K} {vs : Specs V} {wt : Words W} (m : ArchivedIndexMap K V H W ks vs wt) where
  -- a value at the view of a key is at its pair
  pub key_there : {X : Type 0} (reads : List ℕ → ℕ → X → Type 0) (i : ℕ) (key : View K) (x : X) → reads key.archive.now key.pos x → IsKeyOf m i key → reads (index_bytes m) (pair_pos_at (index_at m) i) x
  key_there reads i key x read is = there (λ b q. reads b q x) key.archive _ key.pos _ (index_bytes m) is.at.0 refl is.at.1 read

  -- a value at the view of a value is at the value of its pair
  pub value_there : {Y : Type 0} (reads : List ℕ → ℕ → Y → Type 0) (i : ℕ) (value : View V) (y : Y) → reads value.archive.now value.pos y → IsValueOf m i value → reads (index_bytes m) (value_pos_at (index_at m) i) y
  value_there reads i value y read is = there (λ b q. reads b q y) value.archive _ value.pos _ (index_bytes m) is.at.0 refl is.at.1 read
