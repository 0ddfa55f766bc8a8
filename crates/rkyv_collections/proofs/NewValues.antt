-- After a write of one value, a map represents the list with the new value.
use Rattle.std.proofs.Common.{◌≡◌, ◌≢◌, ℕ, ◌+◌, ◌*◌, ◌<◌, ◌∙◌, sym, ap, subst, arith, List, length, map, Some, slice_index}
use Rattle.std.specs.Prelude.{slice_get, slice_set}
use Rattle.std.specs.Int.{Width, byte_len}
use Rattle.std.proofs.lemmas.List.{ext_get_or, get_or-map, length-map, length-set}
use Rattle.std.proofs.lemmas.Option.{slice_get_within}
use Rattle.rkyv_base.specs.{AgreeOn, ElementSpec, PairRepresents, entry_spec}
use Rattle.rkyv_table.specs.{IsWalked, WrittenAt, capacity, home_positions, item_at}
use Rattle.rkyv_table.specs.Lemmas.SameHeader.{cap_same, len_same}
use Rattle.rkyv_table.proofs.Lists.{set_each}
use Rattle.rkyv_table.proofs.WrittenTables.{home_pos, home_walked, homes_differ}
use Rattle.rkyv_collections.specs.{MapRepresents, MapWrittenAt}
use Rattle.rkyv_collections.specs.Lemmas.PairHomes.{homes_count}

-- if all entries have the same positions and their keys the same hashes, a written map is still one
pub written_again : (w : Width) (s : ElementSpec) (key_hash : List ℕ → ℕ → ℕ) (b c : List ℕ) (p : ℕ) → ((j : ℕ) → item_at w s.size c p j ≡ item_at w s.size b p j)
    → ((j : ℕ) → IsWalked w b p j → key_hash c (item_at w s.size b p j) ≡ key_hash b (item_at w s.size b p j)) → (homes : List ℕ) → MapWrittenAt w s key_hash b p homes
    → WrittenAt w c p (map (key_hash b) (home_positions w s.size b p homes)) homes → MapWrittenAt w s key_hash c p homes
written_again w s key_hash b c p positions same homes written =
    let hb = home_positions w s.size b p homes in
    let hc = home_positions w s.size c p homes in
    let hashes = map (key_hash b) hb in
    let nb : length hb ≡ length homes = length-map homes (item_at w s.size b p) in
    let nc : length hc ≡ length homes = length-map homes (item_at w s.size c p) in
    let n : length hashes ≡ length hb = length-map hb (key_hash b) in
    subst (λ xs. WrittenAt w c p xs homes) (ext_get_or 0 hashes (map (key_hash c) hc) (n ∙ nb ∙ sym nc ∙ sym (length-map hc (key_hash c)))
    (λ j below.
    let there = home_walked w b p hashes homes written j (omega (arith, below, n, nb)) in
    let atb : slice_index hb j ≡ item_at w s.size b p (slice_index homes j) = get_or-map (item_at w s.size b p) homes j 0 0 (omega arith) in
    let atc : slice_index hc j ≡ item_at w s.size c p (slice_index homes j) = get_or-map (item_at w s.size c p) homes j 0 0 (omega arith) in
    get_or-map (key_hash b) hb j 0 0 (omega arith) ∙ ap (key_hash b) atb ∙ sym (same (slice_index homes j) there)
    ∙ ap (key_hash c) (sym (positions (slice_index homes j)) ∙ sym atc) ∙ sym (get_or-map (key_hash c) hc j 0 0 (omega arith))))

module _ (w : Width) (k v : ElementSpec) {A B : Type 0} (key : List ℕ → ℕ → A → Type 0) (value : List ℕ → ℕ → B → Type 0) (key_hash : List ℕ → ℕ → ℕ) (b c : List ℕ) (p n : ℕ) (factor : ℕ × ℕ)
    (pairs : List (A × B)) (pair : A × B) (new : B) (st : MapRepresents w k v key value key_hash factor b p pairs) (at_n : slice_get pairs n ≡ Some pair) where
  abbrev at : ℕ → ℕ
  at = item_at w (entry_spec k v).size b p

  abbrev positions : List ℕ → List ℕ
  positions d = home_positions w (entry_spec k v).size d p st.homes

  abbrev hashes : List ℕ
  hashes = map (key_hash b) (positions b)

  has_home : (j : ℕ) → j < length pairs → j < length st.homes
  has_home j h = omega (arith, homes_count st)

  -- the home bucket of the pair `j`
  pub home : ℕ → ℕ
  home j = slice_index st.homes j

  walked_home : (j : ℕ) → j < length pairs → IsWalked w b p (home j)
  unfolding home
  walked_home j h = home_walked w b p hashes st.homes st.written j (has_home j h)

  pos_home : (j : ℕ) → j < length pairs → slice_index (positions b) j ≡ at (home j)
  unfolding home
  pos_home j h = home_pos w (entry_spec k v).size b p st.homes j (has_home j h)

  inside : n < length pairs
  inside = slice_get_within pairs n pair at_n

  -- the home bucket of the pair is full, and the pair is in it
  pub own_walked : IsWalked w b p (home n)
  own_walked = walked_home n inside

  pub own_pos : slice_index (positions b) n ≡ at (home n)
  own_pos = pos_home n inside

  -- no two pairs have one home bucket
  apart : (j : ℕ) → j < length pairs → j ≢ n → home j ≢ home n
  unfolding home
  apart j h = homes_differ w b p hashes st.homes st.written j n (has_home j h) (has_home n inside)

  module _ (header : AgreeOn b c p (p + 3 * byte_len w)) (stay : (j : ℕ) → item_at w (entry_spec k v).size c p j ≡ at j)
      (again : (homes : List ℕ) → MapWrittenAt w (entry_spec k v) key_hash b p homes → MapWrittenAt w (entry_spec k v) key_hash c p homes)
      (own : key b (at (home n)) pair.0 → PairRepresents k v key value c (at (home n)) (pair.0, new))
      (others : (j : ℕ) → IsWalked w b p j → j ≢ home n → (x : A × B) → PairRepresents k v key value b (at j) x → PairRepresents k v key value c (at j) x) where
    pos_stays : (j : ℕ) → j < length pairs → slice_index (positions c) j ≡ at (home j)
    unfolding home
    pos_stays j h = get_or-map (item_at w (entry_spec k v).size c p) st.homes j 0 0 (omega (arith, homes_count st)) ∙ stay (home j)

    own_represents : PairRepresents k v key value c (slice_index (positions c) n) (pair.0, new)
    own_represents = subst (λ z. PairRepresents k v key value c z (pair.0, new)) (sym (pos_stays n inside)) (own (subst (λ z. key b z pair.0) own_pos (st.at n pair at_n).0))

    other_represents : (j : ℕ) (x : A × B) → slice_get pairs j ≡ Some x → j ≢ n → PairRepresents k v key value c (slice_index (positions c) j) x
    other_represents j x at_j ne =
        let h = slice_get_within pairs j x at_j in
        let before = subst (λ z. PairRepresents k v key value b z x) (pos_home j h) (st.at j x at_j) in
        subst (λ z. PairRepresents k v key value c z x) (sym (pos_stays j h)) (others (home j) (walked_home j h) (apart j h ne) x before)

    -- the pair has the new value, and all other pairs are unchanged
    pub new_value_represents : MapRepresents w k v key value key_hash factor c p (slice_set pairs n (pair.0, new))
    new_value_represents =
        let y : A × B = (pair.0, new) in
        let same_count = length-set pairs n y in
        record {
          homes = st.homes;
          written = again st.homes st.written;
          len = sym (len_same w b c p header) ∙ st.len ∙ sym same_count;
          cap = sym (cap_same w b c p header) ∙ st.cap ∙ ap (λ m. capacity m factor) (sym same_count);
          at = set_each (λ j x. PairRepresents k v key value c (slice_index (positions c) j) x) pairs n y inside own_represents other_represents;
        }
