use Rattle.std.proofs.Common.{◌∙◌}
use Rattle.rkyv_collections.proofs.SealedMap.{satisfies_implied}
use Rattle.rkyv_collections.proofs.map.ArchivedHashMap.get_key_value_seal.Goals as goal

pub returns-clause-finds : goal.returns-clause-finds
returns-clause-finds g c = satisfies_implied _ _ _ _ (λ key_pos at. c.lend_pair.ensures.at ∙ at) c.key_pos_of-found.ensures.finds
