use Rattle.std.proofs.Common.{ap, ◌∙◌}
use Rattle.rkyv_table.specs.{strides_from}
use Rattle.rkyv_table.proofs.ProbeSteps.{all_strides, begins}
use Rattle.rkyv_table.proofs.controls.probe.Probe.starting_at.Goals as goal

pub invariant_of-result : goal.invariant_of-result
invariant_of-result c = begins c.args.cap c.args.start c.requires.begun c.requires.fits

pub returns : goal.returns
returns c = λ hash e. ap (λ s. strides_from c.args.cap s 0) e ∙ all_strides hash c.args.cap
