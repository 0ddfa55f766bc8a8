use Rattle.std.proofs.Common.{Some, ap, sym, ◌∙◌}
use Rattle.std.specs.Option.{option_map}
use Rattle.rkyv_index.specs.{stored_index}
use Rattle.rkyv_index.proofs.IndicesFound.{counts_as, finds_as}
use Rattle.rkyv_index.proofs.map.read.entries.find_index.Goals as goal

pub returns-clause-found : goal.returns-clause-found
returns-clause-found g c =
    let w = g.W.Word.word in
    let found = c.get_counted-found.result in
    record {
      item = found;
      found = finds_as _ _ (λ h r x. x.1) c.args.table c.args.hash found c.get_counted-found.ensures.found;
      is = ap Some c.read_index.ensures ∙ ap (option_map (stored_index w)) (sym c.in_ok-found.was);
    }

pub returns-in_err-found-clause-found : goal.returns-in_err-found-clause-found
returns-in_err-found-clause-found g c =
    let w = g.W.Word.word in
    let found = c.get_counted-found.result in
    record {
      item = found;
      found = finds_as _ _ (λ h r x. x.1) c.args.table c.args.hash found c.get_counted-found.ensures.found;
      is = c.from_residual.ensures ∙ ap (option_map (stored_index w)) (sym c.in_err-found.was);
    }

pub returns-clause-counts : goal.returns-clause-counts
returns-clause-counts g c = counts_as _ _ (λ h r x. x.1) c.args.table c.args.hash _ _ c.get_counted-found.ensures.counts

pub returns-in_err-found-clause-counts : goal.returns-in_err-found-clause-counts
returns-in_err-found-clause-counts g c = counts_as _ _ (λ h r x. x.1) c.args.table c.args.hash _ _ c.get_counted-found.ensures.counts
