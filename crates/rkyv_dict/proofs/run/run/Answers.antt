use Rattle.rkyv_dict.proofs.Running.{nothing_written}
use Rattle.rkyv_dict.proofs.Writing.{if_some, on_err}
use Rattle.rkyv_dict.proofs.run.run.Goals as goal

pub returns-in_err-script-clause-front : goal.returns-in_err-script-clause-front
returns-in_err-script-clause-front g c = on_err _ _ (if_some _ _ (λ script. nothing_written _ script))
