use Rattle.std.proofs.Common.{◌≡◌, ℕ, ◌∙◌, None, Option, Some, ap}
use Rattle.std.specs.Option.{option_map}
use Rattle.rkyv_scan.specs.{generic_kind, hash_of_calls}
use Rattle.rkyv_base.specs.{entry_spec, value_pos}
use Rattle.rkyv_table.specs.{pos_found}
use Rattle.rkyv_collections.specs.{IsKeyPosAt}
use Rattle.test_collections.proofs.Views.{view_transport}
use Rattle.test_collections.proofs.tests.sealed.value_found.Goals as goal

pub returns-in-Some-clause-walked : goal.returns-in-Some-clause-walked
returns-in-Some-clause-walked g c =
    let is = c.in-Some.ensures.walked in
    let transport = view_transport c.of-map.result c.new.result c.args.bytes c.args.root c.of-map.ensures.view c.new.ensures.0 c.new.ensures.1 in
    (is.key, transport (λ d r. IsKeyPosAt g.W.Word.word g.K.HasSpec.spec g.V.HasSpec.spec d r is.key) is.walked, c.pos.ensures ∙ is.at.1)

pub returns-in-Some-clause-finds : goal.returns-in-Some-clause-finds
returns-in-Some-clause-finds g c =
    let k = g.K.HasSpec.spec in
    let v = g.V.HasSpec.spec in
    let hash = hash_of_calls g.H.KeyHasher.hasher (g.Q.KeyHash.calls c.args.key.now) in
    ap Some c.pos.ensures
    ∙ view_transport c.of-map.result c.new.result c.args.bytes c.args.root c.of-map.ensures.view c.new.ensures.0 c.new.ensures.1
    (λ d r. Some c.in-Some.value.pos ≡ option_map (value_pos k v) (pos_found generic_kind g.W.Word.word (entry_spec k v).size d r hash (g.Q.Query.fits c.args.key.now d))) c.in-Some.ensures.finds

pub returns-in-None-clause-finds : goal.returns-in-None-clause-finds
returns-in-None-clause-finds g c =
    let k = g.K.HasSpec.spec in
    let v = g.V.HasSpec.spec in
    let hash = hash_of_calls g.H.KeyHasher.hasher (g.Q.KeyHash.calls c.args.key.now) in
    let none : Option ℕ = None in
    view_transport c.of-map.result c.new.result c.args.bytes c.args.root c.of-map.ensures.view c.new.ensures.0 c.new.ensures.1
    (λ d r. none ≡ option_map (value_pos k v) (pos_found generic_kind g.W.Word.word (entry_spec k v).size d r hash (g.Q.Query.fits c.args.key.now d))) c.in-None.ensures.finds
