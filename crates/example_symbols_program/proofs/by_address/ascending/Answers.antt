use Rattle.std.proofs.Common.{◌≡◌, nat_cmp, rules, subst}
use Rattle.std.specs.List.Sorted.{IsPermutation, IsStableByKey}
use Rattle.std.proofs.lemmas.Fn.{always_returns_same}
use Rattle.std.proofs.lemmas.List.Sorted.{IsNonDecreasingBy-from_sort_by_key}
use Rattle.example_symbols_program.proofs.by_address.ascending.Goals as goal

pub returns : goal.returns
returns c =
    let entries = c.in_ok-row.ensures in
    let sort = c.in_ok-sort_by_key.ensures in
    record {
      permutation = subst (λ l. IsPermutation l c.sort_by_key.new.self.items) entries sort.permutation;
      sorted = IsNonDecreasingBy-from_sort_by_key (λ entry. entry.0) _ sort.sorted (λ a r q k. search rules);
      stable = subst (λ l. IsStableByKey (λ entry. entry.0) nat_cmp l c.sort_by_key.new.self.items) entries (sort.stable (λ entry. entry.0) (always_returns_same _ (λ a r. r ≡ a.0.now.0) _ (λ a r q k. search rules)));
    }
