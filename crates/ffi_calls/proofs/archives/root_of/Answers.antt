use Rattle.std.proofs.Common.{◌∙◌, subst, sym}
use Rattle.rkyv_base.specs.Lemmas.Access.{root_viewable}
use Rattle.rkyv_base.specs.{Viewable}
use Rattle.ffi_calls.proofs.archives.root_of.Goals as goal

pub access_unchecked-requires : goal.access_unchecked-requires
access_unchecked-requires g c = root_viewable g.W.Width.LIMIT g.T.HasSpec.spec c.args.archive.now c.requires

pub returns-clause-at : goal.returns-clause-at
returns-clause-at g c = c.pos.ensures ∙ c.access_unchecked.ensures.at.1

pub returns-clause-viewable : goal.returns-clause-viewable
returns-clause-viewable g c = subst (Viewable g.T.HasSpec.spec c.args.archive.now) (sym (returns-clause-at g c)) (root_viewable g.W.Width.LIMIT g.T.HasSpec.spec c.args.archive.now c.requires)
