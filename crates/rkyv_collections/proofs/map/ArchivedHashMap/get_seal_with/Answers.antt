use Rattle.std.proofs.Common.{ap, ◌∙◌}
use Rattle.std.specs.Option.{option_map}
use Rattle.rkyv_base.specs.{value_pos}
use Rattle.rkyv_collections.proofs.SealedMap.{satisfies_implied_by}
use Rattle.rkyv_collections.proofs.map.ArchivedHashMap.get_seal_with.Goals as goal

pub returns-clause-finds : goal.returns-clause-finds
returns-clause-finds g c = satisfies_implied_by _ _ _ _ _ (λ key_pos at. c.lend_value.ensures.at ∙ ap (option_map (value_pos g.K.HasSpec.spec g.V.HasSpec.spec)) at) c.key_pos_with-found.ensures.finds
