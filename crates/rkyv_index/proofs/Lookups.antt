-- From a lookup in a table of indices to a lookup in an index map.
use Rattle.rkyv_base.specs.declared.element.HasSpec.{Ghosts as Specs}
use Rattle.rkyv_base.specs.declared.width.Word.{Ghosts as Words}
use Rattle.std.proofs.Common.{arith, ◌≡◌, ℕ, ◌∙◌, ap, sym, subst, Bool, map, List, Option}
use Rattle.std.proofs.lemmas.Grind.{common_steps}
use Rattle.std.specs.Borrow.{Bor}
use Rattle.std.specs.Int.{Width, byte_len}
use Rattle.std.specs.List.{find}
use Rattle.std.specs.Option.{option_map}
use Rattle.rkyv_scan.specs.{generic_kind}
use Rattle.rkyv_base.specs.{ElementSpec, Encoding, IsAt, IsElement, IsIndexEncoding, IsScalar, bytes_of, entry_spec, number_at, pos_of_found}
use Rattle.rkyv_base.specs.Lemmas.Entry.{entry_element}
use Rattle.rkyv_base.specs.declared.view.View.{View}
use Rattle.rkyv_table.specs.{ComparesBy, CountsEnd, FindsFirst, FindsFound, IsItem, IsUnderHash, IsWalked, WrittenAt, count_after, home_positions, item_at, pos_found, probe_length_at, table_bytes, table_pos}
use Rattle.rkyv_table.specs.declared.table.ArchivedHashTable.{ArchivedHashTable}
use Rattle.rkyv_index.specs.{AreUnderHash, ComparesKeysBy, IndexWrittenAt, IsIndexOf, IsKeyOf, IsStored, IsWritten, index_archive, index_bytes, index_found, index_len, index_of, index_pos, index_strides, indices_of, key_pos}
use Rattle.rkyv_index.specs.declared.map.ArchivedIndexMap.{ArchivedIndexMap}
use Rattle.rkyv_index.proofs.ValidIndexMap.{index_below, index_inside}
use Rattle.rkyv_index.proofs.WrittenLookups.{find-map, under_hash}

module _ {K V H W P N : Type 0} {ks : Specs K} {vs : Specs V} {ts : Specs P} {wt : Words W} (m : ArchivedIndexMap K V H W ks vs wt) (e : Encoding N) (pk : IsScalar ts.spec e) (index : IsIndexEncoding wt.word e)
    (t : ArchivedHashTable P W ts wt) (at : IsAt t.view (index_archive m) (index_pos m)) where
  abbrev w : Width
  w = wt.word

  abbrev s : ElementSpec
  s = entry_spec ks.spec vs.spec

  abbrev law : IsElement s
  law = entry_element ks.spec vs.spec ks.laws vs.laws

  size_is : ts.spec.size ≡ byte_len w
  size_is = pk.size ∙ ap byte_len index.word

  bytes_same : table_bytes t ≡ index_bytes m
  bytes_same = ap (λ (x : Bor (List ℕ)). x.now) at.0

  -- a function of the size, the bytes and the position of the table is a function of the map's
  table_is : {X : Type 0} (F : ℕ → List ℕ → ℕ → X) → F ts.spec.size (table_bytes t) (table_pos t) ≡ F (byte_len w) (index_bytes m) (index_pos m)
  table_is F = ap (λ n. F n (table_bytes t) (table_pos t)) size_is ∙ ap (λ (x : List ℕ). F (byte_len w) x (table_pos t)) bytes_same ∙ ap (F (byte_len w) (index_bytes m)) at.1

  found_is : (hash : ℕ) (accept : ℕ → Bool) → pos_found generic_kind w ts.spec.size (table_bytes t) (table_pos t) hash accept
      ≡ pos_found generic_kind w (byte_len w) (index_bytes m) (index_pos m) hash accept
  found_is hash accept = table_is (λ n x q. pos_found generic_kind w n x q hash accept)

  end_is : (hash : ℕ) (accept : ℕ → Bool) → probe_length_at generic_kind w ts.spec.size (table_bytes t) (table_pos t) hash accept
      ≡ probe_length_at generic_kind w (byte_len w) (index_bytes m) (index_pos m) hash accept
  end_is hash accept = table_is (λ n x q. probe_length_at generic_kind w n x q hash accept)

  homes_are : (homes : List ℕ) → home_positions w ts.spec.size (table_bytes t) (table_pos t) homes ≡ home_positions w (byte_len w) (index_bytes m) (index_pos m) homes
  homes_are homes = table_is (λ n x q. home_positions w n x q homes)

  -- an item of the table is in a full bucket of the map
  item_there : (h : View P) → IsItem t h → (i : ℕ) × IsWalked w (index_bytes m) (index_pos m) i × (h.pos ≡ item_at w (byte_len w) (index_bytes m) (index_pos m) i)
  item_there h item = grind (arith, common_steps)

  -- an item of the table is read in the archive of the map
  pub read_there : (h : View P) → IsItem t h → bytes_of h ≡ index_bytes m
  read_there h item = ap (λ (x : Bor (List ℕ)). x.now) (item.1.archive ∙ at.0)

  -- the number in a full bucket is an index of the map
  index_at_bucket : (h : View P) (i : ℕ) → IsWalked w (index_bytes m) (index_pos m) i → h.pos ≡ item_at w (byte_len w) (index_bytes m) (index_pos m) i → bytes_of h ≡ index_bytes m → IsIndexOf w m.view h
  index_at_bucket h i walked pos read = grind (arith, common_steps, index_inside w wt.kind s law (index_bytes m) (index_pos m) m.valid i walked, index_below w wt.kind s law (index_bytes m) (index_pos m) m.valid i walked)

  pub item_index : (h : View P) → IsItem t h → IsIndexOf w m.view h
  item_index h item = grind (arith, common_steps, item_there, index_at_bucket, read_there)

  -- an item of the table has that index
  pub item_stored : (h : View P) → IsItem t h → IsStored m (number_at w (bytes_of h) h.pos)
  item_stored h item =
      let there = item_there h item in
      (h.pos, (there.0, there.1, there.2), ap (λ (x : List ℕ). number_at w x h.pos) (sym (read_there h item)))

  -- the index at the found position is the one that the map finds
  pub index_is : (result : Option (View P)) (hash : ℕ) (accept : ℕ → Bool)
      → pos_of_found result ≡ pos_found generic_kind w ts.spec.size (table_bytes t) (table_pos t) hash (λ q. accept (number_at w (index_bytes m) q))
      → option_map (number_at w (index_bytes m)) (pos_of_found result)
      ≡ option_map (number_at w (index_bytes m)) (pos_found generic_kind w (byte_len w) (index_bytes m) (index_pos m) hash (λ q. accept (number_at w (index_bytes m) q)))
  index_is result hash accept found = grind (arith, common_steps, found_is)

  module _ (key_hash : List ℕ → ℕ → ℕ) (homes : List ℕ) (written : IndexWrittenAt w s.size key_hash (index_bytes m) (index_pos m) homes) where
    abbrev hashes : List ℕ
    hashes = map (λ i. key_hash (index_bytes m) (key_pos m i)) (indices_of (index_len m))

    pub written_there : WrittenAt w (table_bytes t) (table_pos t) hashes homes
    written_there = subst (λ q. WrittenAt w (table_bytes t) q hashes homes) (sym at.1) (subst (λ (x : List ℕ). WrittenAt w x (index_pos m) hashes homes) (sym bytes_same) written.table)

    pub under_there : (hash : ℕ) (accept : ℕ → Bool) → AreUnderHash (index_of m) hash key_hash accept
        → IsUnderHash hash hashes (home_positions w ts.spec.size (table_bytes t) (table_pos t) homes) (λ q. accept (number_at w (index_bytes m) q))
    under_there hash accept under = grind (arith, common_steps, homes_are homes, under_hash w s.size key_hash (index_bytes m) (index_pos m) homes written hash accept under)

    pub first_is : (result : Option (View P)) (accept : ℕ → Bool)
        → pos_of_found result ≡ find (λ q. accept (number_at w (index_bytes m) q)) (home_positions w ts.spec.size (table_bytes t) (table_pos t) homes)
        → option_map (number_at w (index_bytes m)) (pos_of_found result) ≡ find accept (indices_of (index_len m))
    first_is result accept found =
        ap (option_map (number_at w (index_bytes m))) (found ∙ ap (find (λ q. accept (number_at w (index_bytes m) q))) (homes_are homes))
        ∙ find-map (number_at w (index_bytes m)) accept (home_positions w (byte_len w) (index_bytes m) (index_pos m) homes)
        ∙ ap (find accept) written.indices

  -- If the table compares each item by the key at its index, its lookup finds the same as one
  -- in the map that compares keys.
  module _ (Post : View P → Bool → Type 0) (post : View K → Bool → Type 0) (post_at_key : (h : View P) (r : Bool) → Post h r → (key : View K) × IsKeyOf m (number_at w (bytes_of h) h.pos) key × post key r)
      (result : Option (View P)) (accept : ℕ → Bool) (compares : ComparesKeysBy (index_of m) post accept) (hash : ℕ) where
    abbrev accept_at : ℕ → Bool
    accept_at q = accept (number_at w (index_bytes m) q)

    items_compare : ComparesBy Post t accept_at
    items_compare h r item is = grind (arith, common_steps)

    pub finds_index : FindsFound Post generic_kind t hash (pos_of_found result)
        → option_map (number_at w (index_bytes m)) (pos_of_found result) ≡ index_found w (index_bytes m) (index_pos m) hash accept
    finds_index found = index_is result hash accept (found accept_at items_compare)

    -- it reads as many strides
    pub counts_index : (query_hash before after : ℕ) → hash ≡ query_hash → CountsEnd Post generic_kind t hash before after
        → after ≡ count_after before (index_strides w (index_bytes m) (index_pos m) query_hash accept)
    counts_index query_hash before after under counts =
        counts accept_at items_compare ∙ ap (count_after before) (end_is hash accept_at ∙ ap (λ h. index_strides w (index_bytes m) (index_pos m) h accept) under)

    pub finds_first_index : (key_hash : List ℕ → ℕ → ℕ) → AreUnderHash (index_of m) hash key_hash accept → FindsFirst Post t hash (pos_of_found result)
        → (homes : List ℕ) → IsWritten (index_of m) key_hash homes → option_map (number_at w (index_bytes m)) (pos_of_found result) ≡ find accept (indices_of (index_len m))
    finds_first_index key_hash under found homes written =
        first_is key_hash homes written result accept
        (found (hashes key_hash homes written) homes accept_at (written_there key_hash homes written) items_compare (under_there key_hash homes written hash accept under))
