-- If no key is misplaced, a lookup finds the one key that fits.
use Rattle.std.proofs.lemmas.Grind.{common_steps}
use Rattle.std.proofs.Common.{◌≡◌, ℕ, zero, suc, ◌+◌, ◌^◌, ◌<◌, ◌≤◌, ◌∙◌, inl, inr, refl, sym, ap, arith, subst, List, Bool, true, false, not, Option, Some, None, length, filter}
use Rattle.std.specs.Option.{option_map}
use Rattle.std.specs.Int.{Width, byte_len}
use Rattle.std.specs.List.{range_with_len}
use Rattle.std.proofs.lemmas.Bool.{cases_Bool, cases_eq, not-false}
use Rattle.std.proofs.lemmas.Option.{none-some, same_Some}
use Rattle.rkyv_scan.specs.{Hasher, HasherCall, generic_kind, hash_of_calls}
use Rattle.rkyv_scan.specs.Lemmas.KindLaws.{word_lawful}
use Rattle.rkyv_base.specs.{ElementSpec, IsArchiveWord, IsElement, ValidAt, Viewable, entry_spec, number_at}
use Rattle.rkyv_base.specs.Lemmas.Entry.{entry_element}
use Rattle.rkyv_keys.specs.{Comparison, IsQuery, hash_at}
use Rattle.rkyv_keys.specs.Lemmas.OfEntries.{valid_key}
use Rattle.rkyv_table.specs.{cap_at, found, is_found_at, item_at, len_at, table_controls}
use Rattle.rkyv_table.proofs.ValidTable.{controls_accepted, no_items}
use Rattle.rkyv_table.proofs.Misplaced.{found_at_is, found_walked}
use Rattle.rkyv_table.proofs.SameLookups.{found_same}
use Rattle.rkyv_table.proofs.Walks.{walked_full}
use Rattle.rkyv_table.proofs.Lists.{option_map_some}
use Rattle.rkyv_index.specs.{FindsTheOne, Index, index_found, index_misplaced, index_spec, own_found, pair_pos, stored_index_spec}
use Rattle.rkyv_index.specs.Lemmas.IndexLaws.{stored_index_element}
use Rattle.rkyv_index.proofs.ValidIndexMap.{entry_viewable, index_below, table_there}

-- if no number of a range passes `P`, each number fails it
none_kept : (P : ℕ → Bool) (a n : ℕ) → length (filter P (range_with_len a n)) ≡ 0 → (i : ℕ) → a ≤ i → i < a + n → P i ≡ false
none_kept P a zero e i from to = absurd (omega arith)
none_kept P a (suc n) e i from to = elim (cases_Bool (P a)) [
  | inl t ↦ let e' : suc (length (filter P (range_with_len (a + 1) n))) ≡ 0 = rw t at e in absurd (omega (arith, e'))
  | inr f ↦
      let e' : length (filter P (range_with_len (a + 1) n)) ≡ 0 = rw f at e in
      elim (cases_eq a i) [
        | inl same ↦ subst (λ j. P j ≡ false) same f
        | inr ne ↦ none_kept P (a + 1) n e' i (omega (arith, from, ne)) (omega (arith, to))
      ]
]

module _ {K Q : Type 0} (m : Index K) (kind : IsArchiveWord m.word) (kl : IsElement m.key) (vl : IsElement m.value)
    {State : Type 0} (hasher : Hasher State) (same : Comparison) (key_calls : List ℕ → ℕ → List HasherCall) (calls : Q → List HasherCall) (fits : Q → List ℕ → ℕ → Bool)
    (query : IsQuery m.key same key_calls calls fits) (view : Viewable (index_spec m.word (entry_spec m.key m.value)) m.bytes m.pos) (q : Q)
    (small : hash_of_calls hasher (calls q) < 2 ^ 64) (none : index_misplaced m (record { hash = hash_at hasher key_calls; same = same }) ≡ 0) where
  abbrev w : Width
  w = m.word

  abbrev k : ElementSpec
  k = m.key

  abbrev v : ElementSpec
  v = m.value

  abbrev b : List ℕ
  b = m.bytes

  abbrev p : ℕ
  p = m.pos

  abbrev s : ElementSpec
  s = entry_spec k v

  abbrev law : IsElement s
  law = entry_element k v kl vl

  abbrev len : ℕ
  len = len_at w b p

  abbrev at : ℕ → ℕ
  at = pair_pos w s.size b p

  abbrev accept : ℕ → Bool
  accept i = fits q b (at i)

  abbrev controls : List ℕ
  controls = table_controls w b p

  abbrev cap : ℕ
  cap = cap_at w b p

  abbrev read : ℕ → ℕ
  read i = number_at w b (item_at w (byte_len w) b p i)

  key_valid : (i : ℕ) → i < len → ValidAt k b (at i)
  key_valid i below = valid_key kl vl b (at i) (entry_viewable w kind s law b p view i below).valid

  -- a found index is the index of a key that fits
  found_fits : (i : ℕ) → index_found w b p (hash_of_calls hasher (calls q)) accept ≡ Some i → (i < len) × (accept i ≡ true)
  found_fits i e =
      let f = option_map_some (number_at w b) _ i e in
      let g = option_map_some (item_at w (byte_len w) b p) (found generic_kind controls cap len (hash_of_calls hasher (calls q)) (λ j. accept (read j))) f.0 f.1 in
      elim (cases_eq cap 0) [
        | inl z ↦
            let n = no_items w (stored_index_spec w) (stored_index_element w kind) b p (table_there w kind s law b p view) z in
            absurd (none-some g.0 (subst (λ m. found generic_kind controls cap m (hash_of_calls hasher (calls q)) (λ j. accept (read j)) ≡ Some g.0) n g.1))
        | inr some ↦
            let ok = controls_accepted w (stored_index_spec w) (stored_index_element w kind) b p (table_there w kind s law b p view) (omega arith) in
            let there = found_walked generic_kind cap len (hash_of_calls hasher (calls q)) controls word_lawful ok small (λ j. accept (read j)) g.0 g.1 in
            grind (arith, common_steps, index_below w kind s law b p view g.0 (walked_full cap controls g.0 there.1), walked_full cap controls g.0 there.1)
      ]

  -- a lookup finds the index of a key that fits
  found_itself : (i : ℕ) → i < len → accept i ≡ true → index_found w b p (hash_of_calls hasher (calls q)) accept ≡ Some i
  found_itself i below ok =
      let own = own_found m (record { hash = hash_at hasher key_calls; same = same }) in
      let P : ℕ → Bool = λ j. not (is_found_at j (own j)) in
      let own_result = found_at_is i (own i) (not-false (is_found_at i (own i)) (none_kept P 0 len none i (omega arith) (omega (arith, below)))) in
      let same_hash : hash_of_calls hasher (calls q) ≡ hash_at hasher key_calls b (at i) = ap (hash_of_calls hasher) (query.same_calls q b (at i) (key_valid i below) ok) in
      let agree : (j : ℕ) → j < len → accept j ≡ same b (at i) b (at j) = λ j less. query.respects_same q b b (at i) (at j) (key_valid i below) (key_valid j less) ok in
      let of : Option ℕ → Option ℕ = λ o. option_map (number_at w b) (option_map (item_at w (byte_len w) b p) o) in
      let lookup = found_same w b b p refl refl (stored_index_spec w) (stored_index_element w kind) (table_there w kind s law b p view) (hash_of_calls hasher (calls q)) small (λ j. accept (read j)) (λ j. same b (at i) b (at (read j)))
      (λ j there. agree (read j) (index_below w kind s law b p view j there)) in
      ap of lookup ∙ ap (λ h. index_found w b p h (λ j. same b (at i) b (at j))) same_hash ∙ own_result

  by_found : (o : Option ℕ) → index_found w b p (hash_of_calls hasher (calls q)) accept ≡ o → FindsTheOne len accept o
  by_found None e = grind (arith, cases_Bool, none-some, found_itself)
  by_found (Some i) e =
      let f = found_fits i e in
      record { below = f.0; fitting = f.1; alone = λ j below t. same_Some j i (sym (found_itself j below t) ∙ e) }

  pub finds_the_one : FindsTheOne len accept (index_found w b p (hash_of_calls hasher (calls q)) accept)
  finds_the_one = by_found (index_found w b p (hash_of_calls hasher (calls q)) accept) refl
