use Rattle.std.proofs.Common.{◌≡◌, ◌∙◌}
use Rattle.rkyv_base.specs.{archive_in, pos_in}
use Rattle.rkyv_collections.specs.{IsViewAt}
use Rattle.rkyv_keys.specs.{query_of}
use Rattle.rkyv_collections.proofs.SealedMap.{satisfies_read}
use Rattle.rkyv_collections.proofs.map.ArchivedHashMap.key_pos_of.Goals as goal

pub returns-clause-finds : goal.returns-clause-finds
returns-clause-finds g c =
    satisfies_read c.map_in.result (archive_in c.args.this.now) (pos_in c.args.this.now) c.map_in.ensures.bytes c.map_in.ensures.pos (IsViewAt c.entry_of.result) (λ key_pos. c.found_pos.result ≡ key_pos) (λ key_pos at. c.found_pos.ensures ∙ at)
    (query_of g.H.KeyHasher.hasher g.K.KeyElement.key_calls g.K.ElementEq.same (g.Q.KeyHash.calls c.args.key.now) (g.Q.Query.fits c.args.key.now)) c.entry_of.ensures.finds c.entry_of.ensures.first c.entry_of.ensures.complete
