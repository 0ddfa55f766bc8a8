use Rattle.std.proofs.Common.{arith, inl, inr, refl}
use Rattle.std.proofs.lemmas.Grind.{common_steps}
use Rattle.std.specs.Int.{w32}
use Rattle.rkyv_base.proofs.Sealing.{joined, key_in_front}
use Rattle.rkyv_base.specs.{scalar_spec, unsigned}
use Rattle.rkyv_base.specs.Lemmas.Numbers.{unsigned_codes}
use Rattle.rkyv_base.specs.Lemmas.Scalar.{scalar_element}
use Rattle.test_base.proofs.tests.seals.sets_behind_key.Goals as goal

pub new-key-requires : goal.new-key-requires
new-key-requires c =
    let number = scalar_spec (unsigned w32) in
    let laws = scalar_element (unsigned w32) (inr (inr (inl refl))) (unsigned_codes w32) in
    grind (arith, common_steps, key_in_front number number laws laws c.args.archive.now c.args.entry_pos c.requires.entry)

pub to_native-requires : goal.to_native-requires
to_native-requires c =
    let number = scalar_spec (unsigned w32) in
    let laws = scalar_element (unsigned w32) (inr (inr (inl refl))) (unsigned_codes w32) in
    grind (arith, common_steps, key_in_front number number laws laws c.args.archive.now c.args.entry_pos c.requires.entry)

pub returns-clause-written : goal.returns-clause-written
returns-clause-written c = grind (arith, common_steps, joined)
