use Rattle.std.proofs.Common.{None, Some, ap, sym, ◌∙◌}
use Rattle.std.specs.Int.{w32, w64}
use Rattle.rkyv_base.specs.Lemmas.Access.{root_viewable}
use Rattle.rkyv_base.specs.{narrow_limit, text_at, unsigned}
use Rattle.rkyv_keys.specs.{same_bytes}
use Rattle.rkyv_collections.proofs.ListArchives.{scalar_at_root}
use Rattle.example_symbols.specs.{IsTable, Represents, address_found, header_spec}
use Rattle.example_symbols.proofs.table.address_in.Goals as goal

pub access_unchecked-requires : goal.access_unchecked-requires
unfolding IsTable
access_unchecked-requires c = root_viewable narrow_limit header_spec c.args.table.now c.requires

pub returns-clause-found : goal.returns-clause-found
unfolding address_found
returns-clause-found c = let found = c.in_ok-get.ensures in
    ap Some (sym c.to_native.ensures)
    ∙ scalar_at_root (unsigned w64) c.of-map.result _ _ _ (λ b q. same_bytes c.args.name.now (text_at w32 b q)) (Some c.in_ok-get.field-0)
    c.of-map.ensures.view c.access_unchecked.ensures.at found.walked found.finds

pub returns-in_err-get-clause-found : goal.returns-in_err-get-clause-found
unfolding address_found
returns-in_err-get-clause-found c = let found = c.in_err-get.ensures in
    c.from_residual.ensures
    ∙ scalar_at_root (unsigned w64) c.of-map.result _ _ _ (λ b q. same_bytes c.args.name.now (text_at w32 b q)) None
    c.of-map.ensures.view c.access_unchecked.ensures.at found.walked found.finds

pub returns-clause-listed : goal.returns-clause-listed
unfolding Represents
returns-clause-listed c = λ symbols represents. let found = c.in_ok-get.ensures in
    ap Some (sym c.to_native.ensures)
    ∙ c.scalars_found_are_listed.ensures c.of-map.result _ _ (7, 8) symbols c.args.name (Some c.in_ok-get.field-0)
    c.of-map.ensures.view c.access_unchecked.ensures.at represents found.walked found.first

pub returns-in_err-get-clause-listed : goal.returns-in_err-get-clause-listed
unfolding Represents
returns-in_err-get-clause-listed c = λ symbols represents. let found = c.in_err-get.ensures in
    c.from_residual.ensures ∙ c.scalars_found_are_listed.ensures c.of-map.result _ _ (7, 8) symbols c.args.name None
    c.of-map.ensures.view c.access_unchecked.ensures.at represents found.walked found.first
