-- Maps whose keys feed no `usize` and no `isize`, under hashers that differ only in these.
use Rattle.std.proofs.lemmas.Grind.{common_steps}
use Rattle.std.proofs.Common.{◌≡◌, ℕ, ◌<◌, ◌∙◌, arith, sym, ap, subst, Bool, List, length, map, slice_index}
use Rattle.std.specs.Int.{Width}
use Rattle.std.specs.List.{find}
use Rattle.std.proofs.lemmas.List.{ext_get_or, get_or-map, length-map}
use Rattle.rkyv_scan.specs.{HasherCall, SizeWords, fx_hash, generic_kind}
use Rattle.rkyv_scan.specs.Lemmas.Numbers.{fx_fits}
use Rattle.rkyv_scan.proofs.HashLaws.{fixed_alike}
use Rattle.rkyv_base.specs.{ElementSpec, IsElement, Viewable, entry_spec}
use Rattle.rkyv_keys.specs.{Comparison, IsQuery, MakesFixedCalls, fx_hash_at}
use Rattle.rkyv_keys.specs.Lemmas.OfEntries.{valid_key}
use Rattle.rkyv_table.specs.{WrittenAt, home_positions, item_at, pos_found}
use Rattle.rkyv_collections.specs.{MapWrittenAt, QueriedAlike, map_spec, pair_at}
use Rattle.rkyv_collections.proofs.WrittenPairs.{first_accepted, key_valid, pair_valid, pos_of_pair}

module _ (w : Width) (k v : ElementSpec) (kl : IsElement k) (vl : IsElement v) (key_calls : List ℕ → ℕ → List HasherCall) (fixed : MakesFixedCalls k key_calls)
    (one other : SizeWords) (b : List ℕ) (p : ℕ) (homes : List ℕ) (view : Viewable (map_spec w k v) b p)
    (written : MapWrittenAt w (entry_spec k v) (fx_hash_at one key_calls) b p homes) where
  keys_alike : (i : ℕ) → i < length homes → fx_hash_at one key_calls b (pair_at w k v b p homes i) ≡ fx_hash_at other key_calls b (pair_at w k v b p homes i)
  keys_alike i h = fixed_alike one other (key_calls b (pair_at w k v b p homes i)) (fixed b (pair_at w k v b p homes i) (key_valid w k v kl vl (fx_hash_at one key_calls) b p homes view written i h))

  hashes_alike : map (fx_hash_at one key_calls b) (home_positions w (entry_spec k v).size b p homes)
      ≡ map (fx_hash_at other key_calls b) (home_positions w (entry_spec k v).size b p homes)
  hashes_alike =
      let positions = home_positions w (entry_spec k v).size b p homes in
      let f = fx_hash_at one key_calls b in
      let g = fx_hash_at other key_calls b in
      let total : length positions ≡ length homes = length-map homes (item_at w (entry_spec k v).size b p) in
      ext_get_or 0 (map f positions) (map g positions) (length-map positions f ∙ sym (length-map positions g))
      (λ i below.
      let n : i < length homes = omega (arith, below, length-map positions f, total) in
      let here : slice_index positions i ≡ pair_at w k v b p homes i = pos_of_pair w k v kl vl f' b p homes view written i n in
      get_or-map f positions i 0 0 (omega (arith, n, total)) ∙ ap f here ∙ keys_alike i n ∙ ap g (sym here) ∙ sym (get_or-map g positions i 0 0 (omega (arith, n, total))))
    where
      f' : List ℕ → ℕ → ℕ
      f' = fx_hash_at one key_calls

  pub written_alike : MapWrittenAt w (entry_spec k v) (fx_hash_at other key_calls) b p homes
  written_alike = subst (λ (hashes : List ℕ). WrittenAt w b p hashes homes) hashes_alike written

-- under either hasher, a query finds the first key that it fits
pub queried_alike : (w : Width) (k v : ElementSpec) (kl : IsElement k) (vl : IsElement v) {Q : Type 0} (same : Comparison) (key_calls : List ℕ → ℕ → List HasherCall)
    (calls : Q → List HasherCall) (fits : Q → List ℕ → ℕ → Bool)
    → IsQuery k same key_calls calls fits → MakesFixedCalls k key_calls → QueriedAlike w k v key_calls calls fits
queried_alike w k v kl vl same key_calls calls fits is fixed one other b p homes view written query =
    first one written ∙ sym (first other (written_alike w k v kl vl key_calls fixed one other b p homes view written))
  where
    first : (sizes : SizeWords) → MapWrittenAt w (entry_spec k v) (fx_hash_at sizes key_calls) b p homes
        → pos_found generic_kind w (entry_spec k v).size b p (fx_hash sizes (calls query)) (fits query b) ≡ find (fits query b) (home_positions w (entry_spec k v).size b p homes)
    first sizes there =
        let h = fx_hash_at sizes key_calls in
        first_accepted w k v kl vl h b p homes view there (fx_hash sizes (calls query)) (fits query b) (fx_fits sizes (calls query))
        (λ i below accepted. grind (arith, common_steps, pair_valid w k v kl vl h b p homes view there i below, valid_key))
