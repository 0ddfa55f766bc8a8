use Rattle.std.proofs.Common.{subst, sym}
use Rattle.std.specs.Int.{w32}
use Rattle.rkyv_base.specs.{Viewable, bytes_in, pos_in, scalar_spec, text_spec, unsigned}
use Rattle.rkyv_collections.specs.{map_spec}
use Rattle.test_collections.proofs.tests.recipes.change.Goals as goal

pub get_seal-requires-2 : goal.get_seal-requires-2
get_seal-requires-2 c =
    let things = map_spec w32 (text_spec w32) (scalar_spec (unsigned w32)) in
    let at = c.into_archive.ensures in
    record { map = subst (λ b. Viewable things b (pos_in c.into_archive.result)) (sym at.bytes) (subst (Viewable things (bytes_in c.in-Some.things)) (sym at.pos) c.in-Some.ensures.viewable) }
