use Rattle.std.proofs.Common.{refl}
use Rattle.rkyv_dict.proofs.Sound.{none_sound}
use Rattle.rkyv_dict.proofs.dict.Dict.new.Goals as goal

pub returns-clause-sound : goal.returns-clause-sound
returns-clause-sound c = none_sound _ refl
