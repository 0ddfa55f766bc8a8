-- The entries and keys of a map, and their hashes.
use Rattle.rkyv_base.specs.declared.element.HasSpec.{Ghosts as Specs}
use Rattle.rkyv_base.specs.declared.width.Word.{Ghosts as Words}
use Rattle.std.proofs.Common.{ℕ, ap, sym, arith, Bool, map, subst, List}
use Rattle.std.proofs.lemmas.Grind.{common_steps}
use Rattle.std.proofs.lemmas.List.{get_or-map, length-map}
use Rattle.rkyv_scan.specs.{Hasher, HasherCall, hash_of_calls}
use Rattle.rkyv_base.specs.{IsAt, IsElement, IsValidView, ValidAt, archive_of, entry_spec, entry_specs, pos_of}
use Rattle.rkyv_base.specs.Lemmas.Entry.{entry_element}
use Rattle.rkyv_base.specs.declared.view.View.{View}
use Rattle.rkyv_base.specs.declared.entry.Entry.{Entry}
use Rattle.rkyv_keys.specs.{Comparison, IsQuery, hash_at}
use Rattle.rkyv_keys.specs.Lemmas.OfEntries.{valid_key}
use Rattle.rkyv_table.specs.{IsItem, IsUnderHash, home_positions}
use Rattle.rkyv_table.specs.declared.table.ArchivedHashTable.{ArchivedHashTable}
use Rattle.rkyv_table.proofs.ValidTable.{item_viewable}
use Rattle.rkyv_collections.specs.{AreUnderHash, IsEntryIn, IsKeyIn, IsMap, MapWrittenAt, map_archive, map_bytes, map_pos}
use Rattle.rkyv_collections.specs.declared.map.ArchivedHashMap.{ArchivedHashMap}
use Rattle.rkyv_table.proofs.WrittenTables.{home_count, home_pos, home_walked}

module _ {K V H W : Type 0} {ks : Specs K} {vs : Specs V} {wt : Words W} (m : ArchivedHashMap K V H W ks vs wt) where
  -- an item of the table is an entry of the map
  pub entry_of_item : (t : ArchivedHashTable (Entry K V) W (entry_specs ks vs) wt) → IsAt t.view (map_archive m) (map_pos m) → (entry : View (Entry K V)) → IsItem t entry
      → IsEntryIn m entry
  entry_of_item t at entry item = grind (arith, common_steps)

  -- a valid key at an entry of the map is a key of the map
  pub key_of_entry : (entry : View (Entry K V)) (key : View K) → IsEntryIn m entry → IsAt key (archive_of entry) (pos_of entry) → IsValidView ks.spec key
      → IsKeyIn m key
  key_of_entry entry key is at viewable = grind (arith, common_steps)

  -- the keys under the hash are the items under it
  pub under_hash : (hash : ℕ) (key_hash : List ℕ → ℕ → ℕ) (accept : ℕ → Bool) (homes : List ℕ)
      → AreUnderHash m hash key_hash accept → MapWrittenAt wt.word (entry_spec ks.spec vs.spec) key_hash (map_bytes m) (map_pos m) homes
      → IsUnderHash hash (map (key_hash (map_bytes m)) (home_positions wt.word (entry_spec ks.spec vs.spec).size (map_bytes m) (map_pos m) homes))
      (home_positions wt.word (entry_spec ks.spec vs.spec).size (map_bytes m) (map_pos m) homes) accept
  under_hash hash key_hash accept homes under written i h accepted = grind (arith, home_count, home_walked, home_pos, length-map, get_or-map)

  -- a query accepts only keys under its own hash
  pub query_under_hash : {Q State : Type 0} (kl : IsElement ks.spec) (vl : IsElement vs.spec) (hasher : Hasher State)
      (same : Comparison) (key_calls : List ℕ → ℕ → List HasherCall) (calls : Q → List HasherCall) (fits : Q → List ℕ → ℕ → Bool)
      → IsQuery ks.spec same key_calls calls fits → IsMap m → (q : Q)
      → AreUnderHash m (hash_of_calls hasher (calls q)) (hash_at hasher key_calls) (fits q (map_bytes m))
  query_under_hash kl vl hasher same key_calls calls fits query is q key_pos key accepted =
      let b = map_bytes m in
      let item = item_viewable wt.word (entry_spec ks.spec vs.spec) (entry_element ks.spec vs.spec kl vl) b (map_pos m) is key.0 key.1 in
      let valid : ValidAt ks.spec b key_pos = valid_key kl vl b key_pos (subst (ValidAt (entry_spec ks.spec vs.spec) b) (sym key.2) item.valid) in
      ap (hash_of_calls hasher) (sym (query.same_calls q b key_pos valid accepted))
