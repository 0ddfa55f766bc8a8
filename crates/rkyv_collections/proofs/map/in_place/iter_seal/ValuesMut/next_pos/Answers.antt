use Rattle.rkyv_collections.proofs.map.in_place.iter_seal.ValuesMut.next_pos.Goals as goal

pub returns-clause-takes : goal.returns-clause-takes
returns-clause-takes g c = λ w p is. (c.in_ok-key.key, c.behind.ensures, c.in_ok-key.ensures.takes w p is)
