use Rattle.std.proofs.Common.{ℕ, ◌-◌, length, List}
use Rattle.test_keys.proofs.tests.written.finds_itself.Goals as goal

pub returns-in-Ok : goal.returns-in-Ok
returns-in-Ok g c =
    let key = c.args.key.now in
    let b : List ℕ = c.in_ok-bytes.bytes.items in
    let made = c.in_ok-bytes.ensures in
    let law = g.met.V.NativeKey.native key key b (length b - g.V.Archived.HasSpec.spec.size) made.0.valid made.1 in
    let itself = g.met.V.Eq.laws.refl key in
    let same = c.same.ensures in
    let root = c.in-Ok.ensures.root in
    let slice = c.as_slice.ensures.value in
    cc (same, law, itself, root.1.0, root.1.1, slice)
