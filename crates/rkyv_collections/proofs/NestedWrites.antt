-- A write among the parts of one value keeps the map. In the list that the map represents,
-- only that value changes.
use Rattle.std.proofs.Common.{◌≡◌, ℕ, ◌-◌, ◌∙◌, inl, inr, sym, subst, arith, Bool, List, length, map, Some, slice_index}
use Rattle.std.specs.Prelude.{slice_get, slice_set}
use Rattle.std.specs.Int.{Width}
use Rattle.std.specs.List.{find}
use Rattle.std.specs.Option.{option_map}
use Rattle.std.proofs.lemmas.Bool.{cases_eq}
use Rattle.std.proofs.lemmas.Option.{same_Some}
use Rattle.rkyv_base.specs.{ElementSpec, IsElement, ModifiesOnly, RepresentsLocally, StaysValid, Viewable, entry_spec, value_pos, whole_size}
use Rattle.rkyv_base.specs.Lemmas.Entry.{entry_element, key_and_value_inside, size_of_small}
use Rattle.rkyv_base.proofs.Sealing.{sealed_wider, viewable_kept}
use Rattle.rkyv_table.specs.{IsWalked, StaysAt, WritesAmongParts, WritesValue, home_positions, item_at}
use Rattle.rkyv_table.specs.Lemmas.ItemPositions.{item_is_valid, valid_part}
use Rattle.rkyv_table.specs.Lemmas.SameHeader.{item_same}
use Rattle.rkyv_table.proofs.ValidTable.{item_viewable}
use Rattle.rkyv_table.proofs.SameLookups.{pos_found_same}
use Rattle.rkyv_table.proofs.SameTable.{written_there}
use Rattle.rkyv_table.proofs.SealedTable.{value_kept}
use Rattle.rkyv_table.proofs.NestedEntries.{entry_written, key_of_other, key_of_own, represents_on, value_of_other}
use Rattle.rkyv_table.proofs.NestedTables.{KeepsOuter, outer_kept}
use Rattle.rkyv_collections.specs.{AgreesOnKeys, IsKeyPosAt, KeepsOuterMap, MapRepresents, map_spec}
use Rattle.rkyv_collections.proofs.FirstWrites.{count, each_alike, nth_found, some_pos}
use Rattle.rkyv_collections.proofs.NewValues.{home, new_value_represents, own_pos, own_walked, written_again}
use Rattle.rkyv_keys.specs.{HashLocal, with_first}

module _ (w : Width) (k v : ElementSpec) (kl : IsElement k) (vl : IsElement v) (key_hash : List ℕ → ℕ → ℕ) (local : HashLocal k key_hash) (b c : List ℕ) (p i : ℕ)
    (view : Viewable (map_spec w k v) b p) (walked : IsWalked w b p i) (writes : WritesAmongParts v b c (value_pos k v (item_at w (entry_spec k v).size b p i))) where
  abbrev E : ElementSpec
  E = entry_spec k v

  abbrev at : ℕ → ℕ
  at = item_at w E.size b p

  kept : KeepsOuter w E b c p i
  kept = outer_kept w E (entry_element k v kl vl) b p i view walked c (entry_written k v kl vl b c (at i) writes)

  key_stays : (j : ℕ) → IsWalked w b p j → StaysAt k b c (at j)
  key_stays j there = elim (cases_eq j i) [
    | inl e ↦ subst (λ n. StaysAt k b c (at n)) (sym e) (key_of_own k v kl vl b c (at i) writes kept.own)
    | inr ne ↦ key_of_other k v kl vl b c (at j) (kept.others j there ne)
  ]

  hash_stays : (j : ℕ) → IsWalked w b p j → key_hash c (at j) ≡ key_hash b (at j)
  hash_stays j there = let h = key_stays j there in sym (local b c (at j) h.valid.lower h.valid.upper h.valid.rest h.valid.order h.valid.is_valid h.fixed h.parts)

  pos_stays : (j : ℕ) → item_at w E.size c p j ≡ at j
  pos_stays j = sym (item_same w b c p kept.header E.size j)

  length_same : length c ≡ length b
  length_same = (kept.nested.sealed 0 p view.valid.0 (omega arith) (omega arith) view.valid.1).same_length

  pub nested_kept : KeepsOuterMap w k v key_hash b c p i
  nested_kept = record {
    valid = viewable_kept (map_spec w k v) b c p length_same kept.nested.is_valid view;
    nested = kept.nested;
    header = kept.header;
    controls = kept.controls;
    positions = pos_stays;
    keys = key_stays;
    values = λ j there ne. value_of_other k v kl vl b c (at j) (kept.others j there ne);
    hashes = hash_stays;
    lookups = λ hash fits small rests.
        pos_found_same w b c p kept.header kept.controls E (entry_element k v kl vl) view hash small (fits c) (fits b)
        (λ j there. rests b c (at j) (key_stays j there));
    written = λ homes written.
        written_again w E key_hash b c p pos_stays hash_stays homes written
        (written_there w b c p kept.header (λ some. sym kept.controls) (map (key_hash b) (home_positions w E.size b p homes)) homes written);
  }

module _ (w : Width) (k v : ElementSpec) (kl : IsElement k) (vl : IsElement v) (key_hash : List ℕ → ℕ → ℕ) (local : HashLocal k key_hash) {A B : Type 0} (key : List ℕ → ℕ → A → Type 0) (value : List ℕ → ℕ → B → Type 0)
    (kn : RepresentsLocally k key) (vn : RepresentsLocally v value) (b c : List ℕ) (p n : ℕ) (factor : ℕ × ℕ) (pairs : List (A × B)) (pair : A × B) (new : B) (view : Viewable (map_spec w k v) b p)
    (st : MapRepresents w k v key value key_hash factor b p pairs) (at_n : slice_get pairs n ≡ Some pair) where
  abbrev key_pos : ℕ
  key_pos = slice_index (home_positions w (entry_spec k v).size b p st.homes) n

  pub nested_represents : WritesAmongParts v b c (value_pos k v key_pos) → value c (value_pos k v key_pos) new → MapRepresents w k v key value key_hash factor c p (slice_set pairs n (pair.0, new))
  nested_represents writes represents =
      let i = home w k v key value key_hash b c p n factor pairs pair new st at_n n in
      let there = own_walked w k v key value key_hash b c p n factor pairs pair new st at_n in
      let is = own_pos w k v key value key_hash b c p n factor pairs pair new st at_n in
      let item = item_at w (entry_spec k v).size b p in
      let kept = nested_kept w k v kl vl key_hash local b c p i view there (subst (λ z. WritesAmongParts v b c (value_pos k v z)) is writes) in
      new_value_represents w k v key value key_hash b c p n factor pairs pair new st at_n kept.header kept.positions kept.written
      (λ before. (represents_on k key kn pair.0 b c (item i) (kept.keys i there) before, subst (λ z. value c (value_pos k v z) new) is represents))
      (λ j full ne x before. (represents_on k key kn x.0 b c (item j) (kept.keys j full) before.0, represents_on v value vn x.1 b c (value_pos k v (item j)) (kept.values j full ne) before.1))

module _ (w : Width) (k v : ElementSpec) (kl : IsElement k) (vl : IsElement v) {A B : Type 0} (key : List ℕ → ℕ → A → Type 0) (value : List ℕ → ℕ → B → Type 0)
    (key_hash : List ℕ → ℕ → ℕ) (factor : ℕ × ℕ) (b : List ℕ) (p : ℕ) (pairs : List (A × B)) (new : B) (accept : ℕ → Bool) (accept_value : A → Bool)
    (view : Viewable (map_spec w k v) b p) (agrees : AgreesOnKeys k key b accept accept_value) (st : MapRepresents w k v key value key_hash factor b p pairs) where
  -- after a write among the parts of the first accepted value, the map represents
  -- the list with the new value
  pub nested_first : RepresentsLocally k key → RepresentsLocally v value → HashLocal k key_hash → (c : List ℕ) (pos : ℕ)
      → Some pos ≡ option_map (value_pos k v) (find accept (home_positions w (entry_spec k v).size b p st.homes)) → WritesAmongParts v b c pos → value c pos new
      → MapRepresents w k v key value key_hash factor c p (with_first accept_value new pairs)
  nested_first kn vn local c pos found writes represents =
      let xs = home_positions w (entry_spec k v).size b p st.homes in
      let t = some_pos (value_pos k v) (find accept xs) pos found in
      elim (nth_found accept_value (λ before. new) accept xs pairs (count w k v kl vl key value key_hash factor b p pairs (λ before. new) accept accept_value view agrees st)
      (each_alike w k v kl vl key value key_hash factor b p pairs (λ before. new) accept accept_value view agrees st)) [
        | inl none ↦ absurd (let e = t.1 ∙ none.0 in cc)
        | inr r ↦ grind (arith, same_Some, nested_represents)
      ]

-- a write of one value in place is one among the parts of the map
pub value_nested : (w : Width) (k v : ElementSpec) (kl : IsElement k) (vl : IsElement v) (b c : List ℕ) (p i : ℕ) → Viewable (map_spec w k v) b p → IsWalked w b p i
    → WritesValue k v b c (item_at w (entry_spec k v).size b p i) → WritesAmongParts (map_spec w k v) b c p
value_nested w k v kl vl b c p i view walked writes =
    let s = entry_spec k v in
    let law = entry_element k v kl vl in
    let q = item_at w s.size b p i in
    let there = item_viewable w s law b p view i walked in
    let small = size_of_small (whole_size k v) there.valid.1.0 in
    let within = key_and_value_inside k v in record {
      is_valid = (value_kept w k v kl vl b p i view walked c writes.sealed writes.keeps).0.is_valid;
      sealed = λ lo hi l o o' h.
          let t = valid_part w s law b p lo hi l h (omega (arith, walked.0)) in
          let x = item_is_valid w s law b p lo hi l h i walked t in
          let above = t.part.above in
          sealed_wider b c (value_pos k v q) v.size lo (l - lo) (omega (arith, above, x.1)) (omega (arith, above, x.1, x.2, small, within.1)) writes.sealed;
    }

-- the same for a key at `q` and its value at `pos`
pub value_nested_at : (w : Width) (k v : ElementSpec) (kl : IsElement k) (vl : IsElement v) (b c : List ℕ) (p q pos : ℕ) → Viewable (map_spec w k v) b p
    → IsKeyPosAt w k v b p q → pos ≡ value_pos k v q → ModifiesOnly b pos v.size c → StaysValid v b c pos → WritesAmongParts (map_spec w k v) b c p
value_nested_at w k v kl vl b c p q pos view at is sealed keeps = grind (arith, value_nested)
