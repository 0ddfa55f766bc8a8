use Rattle.rkyv_base.specs.Lemmas.Words.{wide_distances_fit}
use Rattle.rkyv_base.proofs.laws.wide_distances_fit.Goals as goal

pub returns : goal.returns
returns c = wide_distances_fit
