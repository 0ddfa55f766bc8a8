-- Queries that match a key of a written map.
use Rattle.std.specs.Prelude.{◌≡◌, ℕ, ◌<◌, ◌≤◌, List, Option, Some, length, true}
use Rattle.std.specs.Int.{Width}
use Rattle.rkyv_base.specs.{ElementSpec, Viewable, entry_spec}
use Rattle.rkyv_keys.specs.{Comparison, KeyLookup}
use Rattle.rkyv_table.specs.{item_found}
use Rattle.rkyv_collections.specs.Map.{MapWrittenAt}
use Rattle.rkyv_collections.specs.Map.Equality.{pair_at}
use Rattle.rkyv_collections.specs.Map.MapSpec.{map_spec}

module _ (w : Width) (k v : ElementSpec) where
  -- no two pairs of the map at `p`, with the home buckets `homes`, have the same key
  abbrev pub HasDistinctKeys : Comparison → List ℕ → ℕ → List ℕ → Type 0
  HasDistinctKeys same_key b p homes = (i j : ℕ) → i < length homes → j < length homes
      → same_key b (pair_at w k v b p homes i) b (pair_at w k v b p homes j) ≡ true → i ≡ j

  -- `found`: position of a pair with the key of the pair with the number `i`, and not inserted
  -- after it. If the keys are distinct, it is that pair
  pub record FindsSameKey (same_key : Comparison) (b : List ℕ) (p : ℕ) (homes : List ℕ) (i : ℕ)
      (found : Option ℕ) : Type 0 where
    pub number : ℕ
    pub not_after : number ≤ i
    pub at : found ≡ Some (pair_at w k v b p homes number)
    pub same : same_key b (pair_at w k v b p homes number) b (pair_at w k v b p homes i) ≡ true
    pub alone : HasDistinctKeys same_key b p homes → number ≡ i

  -- in a valid written map, each query finds a key if it matches one.
  -- `lookup_of`: the lookup of a query
  abbrev pub FindsMatchedKeys : {Q : Type 0} → (Q → KeyLookup) → Type 0
  FindsMatchedKeys {Q} lookup_of = (b : List ℕ) (p : ℕ) (homes : List ℕ) (i : ℕ) (q : Q)
      → Viewable (map_spec w k v) b p
      → MapWrittenAt w (entry_spec k v) (lookup_of q).key_hash b p homes → i < length homes
      → (lookup_of q).fits b (pair_at w k v b p homes i) ≡ true
      → FindsSameKey (lookup_of q).same b p homes i
      (item_found w (entry_spec k v).size b p (lookup_of q).hash ((lookup_of q).fits b))
