use Rattle.std.proofs.Common.{arith}
use Rattle.std.proofs.lemmas.Grind.{common_steps}
use Rattle.rkyv_base.proofs.Sealing.{value_set}
use Rattle.rkyv_base.proofs.seal.set_at.Goals as goal

pub returns : goal.returns
returns g c =
    let set = value_set g.N.HasSpec.spec g.N.Scalar.encoding g.met.N.Scalar.laws c.args.bytes.now _ c.args.pos c.args.value _ (rw g.met.N.Scalar.laws.size at c.requires) c.write.ensures (grind (arith, common_steps)) in
    record { written = grind (arith, common_steps); sealed = set.sealed; reads = set.reads; value = set.value; is_valid = set.is_valid }
