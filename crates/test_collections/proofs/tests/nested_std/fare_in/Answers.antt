use Rattle.std.proofs.Common.{Some, None, ap, sym, ◌∙◌, ◌==◌}
use Rattle.std.specs.Int.{w64}
use Rattle.rkyv_base.specs.{unsigned}
use Rattle.rkyv_keys.specs.Lemmas.FirstPairs.{scalar_by_view}
use Rattle.test_collections.proofs.tests.nested_std.fare_in.Goals as goal

pub returns-in-Some : goal.returns-in-Some
returns-in-Some c = λ map related.
    let found = c.in-Some.ensures in
    let listed = c.lookups_find_listed.ensures c.args.fares _ (λ other. c.args.line == other) _ map.map.entries (λ a q valid there. ap (λ other. c.args.line == other) there) related in
    ap Some (sym c.to_native.ensures) ∙ scalar_by_view (unsigned w64) (Some c.in-Some.fare) _ (listed.returns_value (Some c.in-Some.fare) found.walked found.first)

pub returns-in-None : goal.returns-in-None
returns-in-None c = λ map related.
    let found = c.in-None.ensures in
    let listed = c.lookups_find_listed.ensures c.args.fares _ (λ other. c.args.line == other) _ map.map.entries (λ a q valid there. ap (λ other. c.args.line == other) there) related in
    scalar_by_view (unsigned w64) None _ (listed.returns_value None found.walked found.first)
