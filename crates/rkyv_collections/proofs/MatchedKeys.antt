-- A query that matches a key of a written map finds the first key that is the same.
use Rattle.std.proofs.Common.{◌≡◌, ℕ, ◌^◌, ◌<◌, ◌≤◌, ◌∙◌, sym, ap, arith, List, Bool, true, Some, get_or, length}
use Rattle.std.proofs.lemmas.Grind.{common_steps}
use Rattle.std.specs.Int.{Width}
use Rattle.std.specs.List.{position_or_len}
use Rattle.std.proofs.lemmas.Bool.{cases_lt}
use Rattle.std.proofs.lemmas.List.{length-map}
use Rattle.std.proofs.lemmas.List.Folds.{find_at}
use Rattle.std.proofs.lemmas.List.Sums.{passes_at_first, prefix_len_passes}
use Rattle.std.proofs.lemmas.Option.{slice_get-get_or}
use Rattle.rkyv_scan.specs.{Hasher, HasherCall, hash_of_calls}
use Rattle.rkyv_base.specs.{ElementSpec, IsElement, ValidAt, entry_spec}
use Rattle.rkyv_keys.specs.{Comparison, IsQuery, query_of}
use Rattle.rkyv_table.specs.{home_positions, item_at}
use Rattle.rkyv_collections.specs.{FindsMatchedKeys, pair_at}
use Rattle.rkyv_collections.proofs.WrittenPairs.{first_accepted, key_valid, pos_of_pair}

-- the first number that passes a test is not after another that does
first_not_after : (test : ℕ → Bool) (xs : List ℕ) (i : ℕ) → test (get_or xs i 0) ≡ true → position_or_len test xs ≤ i
first_not_after test xs i passes = grind (arith, common_steps, cases_lt, prefix_len_passes)

pub finds_matched : {Q State : Type 0} (w : Width) (k v : ElementSpec) (kl : IsElement k) (vl : IsElement v) (hasher : Hasher State) (same : Comparison)
    (key_calls : List ℕ → ℕ → List HasherCall) (calls : Q → List HasherCall) (fits : Q → List ℕ → ℕ → Bool)
    → IsQuery k same key_calls calls fits → ((q : Q) → hash_of_calls hasher (calls q) < 2 ^ 64)
    → FindsMatchedKeys w k v (λ q. query_of hasher key_calls same (calls q) (fits q))
finds_matched {State = State} w k v kl vl hasher same key_calls calls fits query small = λ b p homes i q view written below matched.
    let key_hash : List ℕ → ℕ → ℕ = λ c r. hash_of_calls hasher (key_calls c r) in
    let at : ℕ → ℕ = pair_at w k v b p homes in
    let xs = home_positions w (entry_spec k v).size b p homes in
    let n = length-map homes (item_at w (entry_spec k v).size b p) in
    let valid : (j : ℕ) → j < length homes → ValidAt k b (at j) = key_valid w k v kl vl key_hash b p homes view written in
    let place : (j : ℕ) → j < length homes → get_or xs j 0 ≡ at j = pos_of_pair w k v kl vl key_hash b p homes view written in
    let number : ℕ = position_or_len (fits q b) xs in
    let not_after : number ≤ i = first_not_after (fits q b) xs i (ap (fits q b) (place i below) ∙ matched) in
    let inside : number < length homes = omega arith in
    let in_list : number < length xs = omega arith in
    let passes : fits q b (at number) ≡ true = ap (fits q b) (sym (place number inside)) ∙ passes_at_first (fits q b) xs 0 in_list in
    let equal : same b (at number) b (at i) ≡ true =
    sym (query.respects_same q b b (at number) (at i) (valid number inside) (valid i below) passes) ∙ matched in
    record {
      number = number;
      not_after = not_after;
      at = first_accepted w k v kl vl key_hash b p homes view written (hash_of_calls hasher (calls q)) (fits q b) (small q)
          (λ j l accepted. ap (hash_of_calls hasher) (sym (query.same_calls q b (at j) (valid j l) accepted)))
          ∙ find_at (fits q b) xs ∙ slice_get-get_or xs number 0 in_list ∙ ap Some (place number inside);
      same = equal;
      alone = λ distinct. distinct number i inside below equal;
    }
