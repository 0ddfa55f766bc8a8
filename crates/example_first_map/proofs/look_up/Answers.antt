use Rattle.std.proofs.Common.{Ok, Some, None, ap, sym, ◌∙◌}
use Rattle.std.specs.Int.{w32, w64}
use Rattle.rkyv_base.specs.{text_at, unsigned}
use Rattle.rkyv_keys.specs.{same_bytes}
use Rattle.rkyv_collections.proofs.ListArchives.{scalar_at_root}
use Rattle.example_first_map.proofs.look_up.Goals as goal

pub returns-in-Some-clause-found : goal.returns-in-Some-clause-found
returns-in-Some-clause-found c = let found = c.in-Some.ensures in
    ap Some (sym c.to_native.ensures)
    ∙ scalar_at_root (unsigned w64) c.of-symbols.result _ _ _ (λ b q. same_bytes c.args.name.now (text_at w32 b q)) (Some c.in-Some.address)
    c.of-symbols.ensures.view c.in_ok-access.ensures.root.1 found.walked found.finds

pub returns-in-None-clause-found : goal.returns-in-None-clause-found
returns-in-None-clause-found c = let found = c.in-None.ensures in
    scalar_at_root (unsigned w64) c.of-symbols.result _ _ _ (λ b q. same_bytes c.args.name.now (text_at w32 b q)) None
    c.of-symbols.ensures.view c.in_ok-access.ensures.root.1 found.walked found.finds

pub returns-in_err-access-clause-listed : goal.returns-in_err-access-clause-listed
returns-in_err-access-clause-listed c = λ symbols is.
    let accepted = c.in_err-access.ensures.accepts is.accepted in absurd cc

pub returns-in-Some-clause-listed : goal.returns-in-Some-clause-listed
returns-in-Some-clause-listed c = λ symbols is. let found = c.in-Some.ensures in
    ap Ok (ap Some (sym c.to_native.ensures)
    ∙ c.scalars_found_are_listed.ensures c.of-symbols.result _ _ _ _ c.args.name (Some c.in-Some.address)
    c.of-symbols.ensures.view c.in_ok-access.ensures.root.1 is.represents found.walked found.first)

pub returns-in-None-clause-listed : goal.returns-in-None-clause-listed
returns-in-None-clause-listed c = λ symbols is. let found = c.in-None.ensures in
    ap Ok (c.scalars_found_are_listed.ensures c.of-symbols.result _ _ _ _ c.args.name None
    c.of-symbols.ensures.view c.in_ok-access.ensures.root.1 is.represents found.walked found.first)
