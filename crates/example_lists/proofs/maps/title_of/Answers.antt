use Rattle.std.proofs.Common.{Some, None, ap, refl, ◌∙◌}
use Rattle.example_lists.proofs.maps.title_of.Goals as goal

pub returns-in-Some-clause-listed : goal.returns-in-Some-clause-listed
returns-in-Some-clause-listed c = λ list is. let found = c.in-Some.ensures in (
  Some c.as_str.result,
  refl,
  ap Some c.as_str.ensures
      ∙ c.texts_found_are_listed.ensures c.of-titles.result _ _ _ _ c.args.key (Some c.in-Some.title)
      c.of-titles.ensures.view c.in_ok-access.ensures.root.1 is.represents found.walked found.first,
)

pub returns-in-None-clause-listed : goal.returns-in-None-clause-listed
returns-in-None-clause-listed c = λ list is. let found = c.in-None.ensures in (
  None,
  refl,
  c.texts_found_are_listed.ensures c.of-titles.result _ _ _ _ c.args.key None
      c.of-titles.ensures.view c.in_ok-access.ensures.root.1 is.represents found.walked found.first,
)
