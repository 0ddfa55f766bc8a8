-- The positions of the pairs of a written map, in a walk and in a lookup.
use Rattle.std.proofs.lemmas.Grind.{common_steps}
use Rattle.std.proofs.Common.{◌≡◌, ℕ, ◌^◌, ◌<◌, ◌∙◌, inl, inr, sym, ap, arith, subst, List, Bool, true, length, map, slice_index}
use Rattle.std.specs.Int.{Width}
use Rattle.std.specs.List.{Contains, find, list_all}
use Rattle.std.proofs.lemmas.List.{get_or-map, get_or_default, length-map}
use Rattle.std.proofs.lemmas.List.Elements.{All-contains_itself, All-weaker}
use Rattle.std.proofs.lemmas.List.Folds.{list_all-map}
use Rattle.std.proofs.lemmas.List.Sums.{AllPass-from_list_all, list_all-from_AllPass}
use Rattle.rkyv_scan.specs.{generic_kind}
use Rattle.rkyv_scan.specs.Lemmas.KindLaws.{word_lawful}
use Rattle.rkyv_base.specs.{ElementSpec, IsElement, ValidAt, Viewable, entry_spec}
use Rattle.rkyv_base.specs.Lemmas.Entry.{entry_element}
use Rattle.rkyv_keys.specs.Lemmas.OfEntries.{valid_key}
use Rattle.rkyv_table.specs.{IsWalked, cap_at, home_positions, item_at, item_positions, len_at, pos_found, table_controls, walk}
use Rattle.rkyv_table.proofs.FirstFound.{first_found}
use Rattle.rkyv_table.proofs.ValidTable.{item_viewable}
use Rattle.rkyv_table.proofs.RawWalks.{walk_count}
use Rattle.rkyv_table.proofs.WalkedHomes.{walked_homes}
use Rattle.rkyv_table.proofs.Walks.{full_walked}
use Rattle.rkyv_collections.specs.{MapWrittenAt, map_spec, pair_at}
use Rattle.rkyv_table.proofs.WrittenTables.{home_pos, home_walked}

module _ (w : Width) (k v : ElementSpec) (kl : IsElement k) (vl : IsElement v) (key_hash : List ℕ → ℕ → ℕ)
    (b : List ℕ) (p : ℕ) (homes : List ℕ) (view : Viewable (map_spec w k v) b p) (written : MapWrittenAt w (entry_spec k v) key_hash b p homes) where
  positions : List ℕ
  positions = home_positions w (entry_spec k v).size b p homes

  hashes : List ℕ
  hashes = map (key_hash b) positions

  hash_count : length hashes ≡ length homes
  unfolding hashes positions
  hash_count = length-map positions (key_hash b) ∙ length-map homes (item_at w (entry_spec k v).size b p)

  pub pos_of_pair : (i : ℕ) → i < length homes → slice_index (home_positions w (entry_spec k v).size b p homes) i ≡ pair_at w k v b p homes i
  pos_of_pair i h = home_pos w (entry_spec k v).size b p homes i h

  -- the hash with the number `i` is the hash of the key with that number
  pub hash_of_pair : (i : ℕ) → i < length homes
      → slice_index (map (key_hash b) (home_positions w (entry_spec k v).size b p homes)) i ≡ key_hash b (pair_at w k v b p homes i)
  unfolding hashes positions
  hash_of_pair i h =
      let n = length-map homes (item_at w (entry_spec k v).size b p) in
      get_or-map (key_hash b) positions i 0 0 (omega arith) ∙ ap (key_hash b) (pos_of_pair i h)

  pub hash_small : (i : ℕ) → i < length homes → key_hash b (pair_at w k v b p homes i) < 2 ^ 64
  unfolding hashes positions
  hash_small i h = subst (λ n. n < 2 ^ 64) (hash_of_pair i h) (written.fit i 0 (omega (arith, hash_count)))

  pub pair_walked : (i : ℕ) → i < length homes → IsWalked w b p (slice_index homes i)
  unfolding hashes positions
  pair_walked i h = home_walked w b p hashes homes written i h

  pub pair_valid : (i : ℕ) → i < length homes → ValidAt (entry_spec k v) b (pair_at w k v b p homes i)
  pair_valid i h = (item_viewable w (entry_spec k v) (entry_element k v kl vl) b p view (slice_index homes i) (pair_walked i h)).valid

  pub key_valid : (i : ℕ) → i < length homes → ValidAt k b (pair_at w k v b p homes i)
  key_valid i h = valid_key kl vl b (pair_at w k v b p homes i) (pair_valid i h)

  -- the length in the header is the number of pairs
  pub len_is_count : len_at w b p ≡ length homes
  unfolding hashes positions
  len_is_count = written.count ∙ hash_count

  -- a full bucket is the home bucket of a pair
  walked_pair : (bucket : ℕ) → Contains (walk (table_controls w b p) (cap_at w b p)) bucket → Contains homes bucket
  unfolding hashes positions
  walked_pair bucket at = elim written.placed [
    | inl none ↦ grind (arith, common_steps, walk_count w (entry_spec k v) (entry_element k v kl vl) b p view, entry_element k v kl vl, len_is_count)
    | inr placed ↦ ((walked_homes (cap_at w b p) hashes homes (table_controls w b p) placed.0 written.fit placed.1).members bucket).0 at
  ]

  -- a property of each walked pair is one of each inserted pair, and the other way round
  pub all_inserted : (matches : ℕ → Bool) → list_all matches (item_positions w (entry_spec k v).size b p) ≡ true
      → (i : ℕ) → i < length homes → matches (pair_at w k v b p homes i) ≡ true
  all_inserted matches every i h =
      let at : ℕ → ℕ = item_at w (entry_spec k v).size b p in
      let ws = walk (table_controls w b p) (cap_at w b p) in
      let each = AllPass-from_list_all (λ bucket. matches (at bucket)) ws (sym (list_all-map matches at ws) ∙ every) in
      let here = full_walked (cap_at w b p) (table_controls w b p) (slice_index homes i) (pair_walked i h) in
      subst (λ bucket. matches (at bucket) ≡ true) here.2 (each here.0 (slice_index homes i) here.1)

  pub all_walked : (matches : ℕ → Bool) → ((i : ℕ) → i < length homes → matches (pair_at w k v b p homes i) ≡ true)
      → list_all matches (item_positions w (entry_spec k v).size b p) ≡ true
  all_walked matches every =
      let at : ℕ → ℕ = item_at w (entry_spec k v).size b p in
      let ws = walk (table_controls w b p) (cap_at w b p) in
      list_all-map matches at ws
      ∙ list_all-from_AllPass (λ bucket. matches (at bucket)) ws
      (All-weaker (Contains ws) (λ bucket. matches (at bucket) ≡ true)
      (λ bucket in_walk.
      let home = walked_pair bucket in_walk in
      let is : slice_index homes home.0 ≡ bucket = get_or_default homes home.0 0 bucket home.1 ∙ home.2 in
      subst (λ x. matches (at x) ≡ true) is (every home.0 home.1))
      ws (All-contains_itself ws))

  -- a lookup that accepts only keys under the hash finds the first accepted one
  pub first_accepted : (hash : ℕ) (accept : ℕ → Bool) → hash < 2 ^ 64
      → ((i : ℕ) → i < length homes → accept (pair_at w k v b p homes i) ≡ true → key_hash b (pair_at w k v b p homes i) ≡ hash)
      → pos_found generic_kind w (entry_spec k v).size b p hash accept ≡ find accept (home_positions w (entry_spec k v).size b p homes)
  unfolding hashes positions
  first_accepted hash accept small under =
      first_found generic_kind word_lawful w (entry_spec k v).size b p hash small hashes homes accept written
      (λ i h accepted.
      let l : i < length homes = omega (arith, hash_count) in
      hash_of_pair i l ∙ under i l (ap accept (sym (pos_of_pair i l)) ∙ accepted))
