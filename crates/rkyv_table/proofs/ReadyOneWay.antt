-- The ready elements are written in only one way.
use Rattle.std.proofs.Common.{arith}
use Rattle.std.proofs.lemmas.Grind.{common_steps}
use Rattle.std.specs.Int.{Width}
use Rattle.rkyv_base.specs.{ElementSpec, Encoding, Format, IsArchiveWord, pair_format, scalar_format, text_format, written_as}
use Rattle.rkyv_table.specs.{WritesOneWay}

pub scalars_one_way : {V : Type 0} (e : Encoding V) → WritesOneWay (scalar_format e)
scalars_one_way e = grind (arith, common_steps)

pub written_as_one_way : {X V R : Type 0} (value_of : X → V) (f : Format V R) → WritesOneWay f → WritesOneWay (written_as value_of f)
written_as_one_way value_of f one = grind (arith, common_steps)

pub texts_one_way : (w : Width) → IsArchiveWord w → WritesOneWay (text_format w)
texts_one_way w kind = grind (arith, common_steps)

module _ {V W R Q : Type 0} (k v : ElementSpec) (kf : Format V R) (vf : Format W Q) (ko : WritesOneWay kf) (vo : WritesOneWay vf) where
  pub pairs_one_way : WritesOneWay (pair_format k v kf vf)
  pairs_one_way = grind (arith, common_steps)
