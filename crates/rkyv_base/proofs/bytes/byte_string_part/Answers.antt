use Rattle.std.proofs.Common.{arith}
use Rattle.std.proofs.lemmas.Grind.{common_steps}
use Rattle.std.proofs.lemmas.Int.{to_z-of_z}
use Rattle.rkyv_base.specs.Lemmas.ByteStrings.{byte_string_reads, viewable_byte_string}
use Rattle.rkyv_base.proofs.bytes.byte_string_part.Goals as goal

pub pos_of_begin-at-requires : goal.pos_of_begin-at-requires
pos_of_begin-at-requires g c = grind (arith, viewable_byte_string, to_z-of_z)

pub returns : goal.returns
returns g c = grind (arith, common_steps, to_z-of_z, byte_string_reads)
