use Rattle.std.proofs.Common.{◌∙◌}
use Rattle.rkyv_collections.proofs.SealedPairs.{lends_first}
use Rattle.rkyv_collections.proofs.map.in_place.iter_seal.IterMut.next_seal.Goals as goal

pub returns-clause-first : goal.returns-clause-first
returns-clause-first g c = λ w p is.
    let e = c.pair_at.ensures in
    lends_first g.K.HasSpec.spec g.V.HasSpec.spec g.K.HasSpec.laws g.V.HasSpec.laws w p c.in_ok-pos.pos c.args.self.now.entries c.next_pos.new.self.entries c.bytes_mut.result.now
    (c.bytes_mut.ensures ∙ c.in_ok-pos.ensures.archive.bytes) (c.in_ok-pos.ensures.takes w p is) c.pair_at.result e.viewable e.key e.value e.found
