use Rattle.rkyv_dict.proofs.Sound.{applied_sound}
use Rattle.rkyv_dict.proofs.dict.Dict.execute.Goals as goal

pub returns-in-Some-clause-sound : goal.returns-in-Some-clause-sound
returns-in-Some-clause-sound c = applied_sound c.apply.result _ _ _ _ _ c.requires c.apply.ensures
