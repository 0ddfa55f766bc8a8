use Rattle.std.proofs.Common.{ap, ◌∙◌}
use Rattle.std.specs.Option.{option_map}
use Rattle.rkyv_base.specs.{value_pos}
use Rattle.rkyv_collections.proofs.SealedMap.{satisfies_implied}
use Rattle.rkyv_collections.proofs.map.ArchivedHashMap.get_seal.Goals as goal

pub returns-clause-finds : goal.returns-clause-finds
returns-clause-finds g c = satisfies_implied _ _ _ _ (λ key_pos at. c.lend_value.ensures.at ∙ ap (option_map (value_pos g.K.HasSpec.spec g.V.HasSpec.spec)) at) c.key_pos_of-found.ensures.finds
