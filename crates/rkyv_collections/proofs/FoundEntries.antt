-- From a lookup in the table of a map to a lookup in the map.
use Rattle.rkyv_base.specs.declared.element.HasSpec.{Ghosts as Specs}
use Rattle.rkyv_base.specs.declared.width.Word.{Ghosts as Words}
use Rattle.std.proofs.Common.{◌≡◌, ℕ, ◌<◌, ◌^◌, ◌∙◌, ap, sym, Bool, true, List, None, Option, Some, map, arith}
use Rattle.std.proofs.lemmas.Grind.{common_steps}
use Rattle.std.specs.Borrow.{Bor}
use Rattle.std.specs.List.{find}
use Rattle.std.specs.Prelude.{IfSome}
use Rattle.rkyv_scan.specs.{Hasher, HasherCall, generic_kind, hash_of_calls}
use Rattle.rkyv_base.specs.{IsAt, IsElement, IsValidView, archive_of, entry_spec, entry_specs, pos_of, pos_of_found}
use Rattle.rkyv_base.specs.declared.entry.Entry.{Entry}
use Rattle.rkyv_base.specs.declared.view.View.{View}
use Rattle.rkyv_keys.specs.{Comparison, IsQuery, hash_at}
use Rattle.rkyv_table.specs.{ComparesBy, FindsFirst, FindsFound, FindsItem, IsItem, IsUnderHash, WrittenAt, home_positions, item_found, pos_found, table_bytes, table_pos}
use Rattle.rkyv_table.specs.declared.table.ArchivedHashTable.{ArchivedHashTable}
use Rattle.rkyv_collections.specs.{AreUnderHash, ComparesKeysBy, FindsBy, FindsFirstBy, FindsKey, FindsOneKey, IsAcceptedKey, IsEntryIn, IsMap, IsViewAt, MapWrittenAt, map_archive, map_bytes, map_pos}
use Rattle.rkyv_collections.specs.declared.map.ArchivedHashMap.{ArchivedHashMap}
use Rattle.rkyv_collections.proofs.Lookups.{entry_of_item, key_of_entry, under_hash}
use Rattle.rkyv_collections.proofs.MisplacedKeys.{finds_only_key}

module _ {K V H W : Type 0} {ks : Specs K} {vs : Specs V} {wt : Words W} (m : ArchivedHashMap K V H W ks vs wt) (t : ArchivedHashTable (Entry K V) W (entry_specs ks vs) wt) (at : IsAt t.view (map_archive m) (map_pos m)) where
  same : table_bytes t ≡ map_bytes m
  same = ap (λ (x : Bor (List ℕ)). x.now) at.0

  same_pos : table_pos t ≡ map_pos m
  same_pos = at.1

  -- a comparison of an entry by its key depends only on the position of the key
  key_compared : (post : View K → Bool → Type 0) (accept : ℕ → Bool) → ComparesKeysBy m post accept
      → (entry : View (Entry K V)) (r : Bool) → IsItem t entry
      → (key : View K) × IsAt key (archive_of entry) (pos_of entry) × IsValidView ks.spec key × post key r
      → r ≡ accept entry.pos
  key_compared post accept compares entry r item e = grind (arith, common_steps, key_of_entry, entry_of_item)

  -- a found item is an entry of the map
  pub entry_found : (result : Option (View (Entry K V))) → IfSome result (IsItem t) → IfSome result (IsEntryIn m)
  entry_found None item = item
  entry_found (Some entry) item = entry_of_item m t at entry item

  -- the table finds the same position as the map
  found_there : (hash query_hash : ℕ) (accept : ℕ → Bool) → hash ≡ query_hash
      → pos_found generic_kind wt.word (entry_spec ks.spec vs.spec).size (table_bytes t) (table_pos t) hash accept
      ≡ pos_found generic_kind wt.word (entry_spec ks.spec vs.spec).size (map_bytes m) (map_pos m) query_hash accept
  found_there hash query_hash accept e = grind (arith, same, same_pos)

  -- the table was written with the same home buckets and the same positions,
  -- and each accepted item is under the hash
  written_there : (hashes homes : List ℕ) → WrittenAt wt.word (map_bytes m) (map_pos m) hashes homes → WrittenAt wt.word (table_bytes t) (table_pos t) hashes homes
  written_there hashes homes written = rw (same, same_pos) written

  positions_there : (homes : List ℕ) → home_positions wt.word (entry_spec ks.spec vs.spec).size (table_bytes t) (table_pos t) homes ≡ home_positions wt.word (entry_spec ks.spec vs.spec).size (map_bytes m) (map_pos m) homes
  positions_there homes = grind (arith, common_steps, same, same_pos)

  under_there : (hash query_hash : ℕ) (key_hash : List ℕ → ℕ → ℕ) (accept : ℕ → Bool) (homes : List ℕ) → hash ≡ query_hash
      → AreUnderHash m query_hash key_hash accept → MapWrittenAt wt.word (entry_spec ks.spec vs.spec) key_hash (map_bytes m) (map_pos m) homes
      → IsUnderHash hash (map (key_hash (map_bytes m)) (home_positions wt.word (entry_spec ks.spec vs.spec).size (map_bytes m) (map_pos m) homes))
      (home_positions wt.word (entry_spec ks.spec vs.spec).size (table_bytes t) (table_pos t) homes) accept
  under_there hash query_hash key_hash accept homes e under written =
      let here = under_hash m hash key_hash accept homes (λ q key_pos fits. under q key_pos fits ∙ sym e) written in
      rw (positions_there homes) here

  -- a lookup in the table that compares each entry by its key finds the same as one in the map
  -- that compares keys
  module _ (compared : View (Entry K V) → Bool → Type 0) (post : View K → Bool → Type 0) (hash query_hash : ℕ) (same_hash : hash ≡ query_hash) (result : Option (View (Entry K V))) where
    abbrev ComparedByKey : Type 0
    ComparedByKey = (entry : View (Entry K V)) (r : Bool) → compared entry r → (key : View K) × IsAt key (archive_of entry) (pos_of entry) × IsValidView ks.spec key × post key r

    entry_compared : ComparedByKey → (accept : ℕ → Bool) → ComparesKeysBy m post accept → ComparesBy compared t accept
    entry_compared by_key accept compares entry r item h = key_compared post accept compares entry r item (by_key entry r h)

    pub found_by_key : FindsFound compared generic_kind t hash (pos_of_found result) → ComparedByKey → FindsBy m post query_hash (IsViewAt result)
    found_by_key found by_key = λ accept compares. found accept (entry_compared by_key accept compares) ∙ found_there hash query_hash accept same_hash

    -- the comparison accepted the key of the found entry
    accepted_of : ComparedByKey → (found : Option (View (Entry K V))) → IfSome found (IsItem t) → IfSome found (λ entry. compared entry true) → IfSome (pos_of_found found) (IsAcceptedKey m post)
    accepted_of by_key None item is_accepted = is_accepted
    accepted_of by_key (Some entry) item is_accepted = grind (arith, key_of_entry, entry_of_item)

    pub accepted_by_key : FindsItem compared generic_kind t hash result → ComparedByKey → IfSome (pos_of_found result) (IsAcceptedKey m post)
    accepted_by_key got by_key = accepted_of by_key result got.walked got.accepted

    pub first_by_key : FindsFirst compared t hash (pos_of_found result) → ComparedByKey → (key_hash : List ℕ → ℕ → ℕ) → FindsFirstBy m post query_hash key_hash (IsViewAt result)
    first_by_key found by_key key_hash = λ accept compares under homes written.
        let hashes = map (key_hash (map_bytes m)) (home_positions wt.word (entry_spec ks.spec vs.spec).size (map_bytes m) (map_pos m) homes) in
        found hashes homes accept (written_there hashes homes written) (entry_compared by_key accept compares) (under_there hash query_hash key_hash accept homes same_hash under written)
        ∙ ap (find accept) (positions_there homes)

-- if no key is misplaced, a lookup under the hash of a query finds the only key that fits
pub one_found : {K V H W Q State : Type 0} {ks : Specs K} {vs : Specs V} {wt : Words W} (m : ArchivedHashMap K V H W ks vs wt) (kl : IsElement ks.spec) (vl : IsElement vs.spec) (hasher : Hasher State)
    (same_key : Comparison) (key_calls : List ℕ → ℕ → List HasherCall) (calls : Q → List HasherCall) (fits : Q → List ℕ → ℕ → Bool)
    → IsQuery ks.spec same_key key_calls calls fits → IsMap m → (q : Q) → hash_of_calls hasher (calls q) < 2 ^ 64 → (P : Option ℕ → Type 0)
    → FindsKey m (hash_of_calls hasher (calls q)) (fits q (map_bytes m)) P
    → FindsOneKey m (hash_at hasher key_calls) same_key (fits q (map_bytes m)) P
one_found {ks = ks} {vs = vs} {wt = wt} m kl vl hasher same_key key_calls calls fits query is q small P found = λ none. (
  item_found wt.word (entry_spec ks.spec vs.spec).size (map_bytes m) (map_pos m) (hash_of_calls hasher (calls q)) (fits q (map_bytes m)),
  finds_only_key wt.word ks.spec vs.spec kl vl hasher same_key key_calls calls fits query (map_bytes m) (map_pos m) is q small none,
  found,
)
