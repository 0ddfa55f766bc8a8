use Rattle.std.proofs.Common.{◌<◌, subst}
use Rattle.rkyv_collections.proofs.SealedPairs.{none_large, yields_key_pos}
use Rattle.rkyv_collections.proofs.map.in_place.iter_seal.IterMut.next_pos.Goals as goal

pub returns-then-whole_size-gt-MAX_ELEMENT_SIZE-clause-takes : goal.returns-then-whole_size-gt-MAX_ELEMENT_SIZE-clause-takes
returns-then-whole_size-gt-MAX_ELEMENT_SIZE-clause-takes g c = λ w p is.
    let none = none_large g.K.HasSpec.spec g.V.HasSpec.spec g.K.HasSpec.laws g.V.HasSpec.laws w p c.args.self.now.entries
    (subst (λ n. 1073741824 < n) c.whole_size.ensures c.if-whole_size-gt-MAX_ELEMENT_SIZE.true) is in
    record { none = none; still = none; iter = is }

pub returns-clause-takes : goal.returns-clause-takes
returns-clause-takes g c = yields_key_pos g.K.HasSpec.spec g.V.HasSpec.spec g.K.HasSpec.laws g.V.HasSpec.laws c.args.self.now.entries c.next_pos.new.self c.next_pos.result c.next_pos.ensures.takes
