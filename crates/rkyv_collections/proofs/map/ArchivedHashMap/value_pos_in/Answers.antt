use Rattle.std.proofs.Common.{◌≡◌, ◌∙◌}
use Rattle.std.specs.Option.{option_map}
use Rattle.rkyv_base.specs.{value_pos}
use Rattle.rkyv_collections.specs.{IsValueAt}
use Rattle.rkyv_keys.specs.{query_of}
use Rattle.rkyv_collections.proofs.SealedMap.{satisfies_read}
use Rattle.rkyv_collections.proofs.map.ArchivedHashMap.value_pos_in.Goals as goal

pub returns-clause-finds : goal.returns-clause-finds
returns-clause-finds g c =
    satisfies_read c.map_over.result c.args.archive.now c.args.root c.map_over.ensures.bytes c.map_over.ensures.pos (IsValueAt g.K.HasSpec.spec g.V.HasSpec.spec c.get.result) (λ found. c.found_pos.result ≡ option_map (value_pos g.K.HasSpec.spec g.V.HasSpec.spec) found) (λ found at. c.found_pos.ensures ∙ at)
    (query_of g.H.KeyHasher.hasher g.K.KeyElement.key_calls g.K.ElementEq.same (g.Q.KeyHash.calls c.args.key.now) (g.Q.Query.fits c.args.key.now)) c.get.ensures.finds c.get.ensures.first c.get.ensures.complete
