use Rattle.rkyv_dict.proofs.BuildResults.{builds_have_result}
use Rattle.rkyv_dict.proofs.laws.builds_have_result.Goals as goal

pub returns : goal.returns
returns c = builds_have_result
