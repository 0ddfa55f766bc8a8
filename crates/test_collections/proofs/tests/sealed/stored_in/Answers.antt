use Rattle.std.proofs.Common.{◌≡◌, ℕ, None, Option, Some, ap, refl, subst, sym}
use Rattle.std.specs.Prelude.{IfSome}
use Rattle.std.specs.Option.{option_map}
use Rattle.rkyv_base.specs.{Viewable}
use Rattle.rkyv_collections.specs.{map_spec}
use Rattle.test_collections.proofs.tests.sealed.stored_in.Goals as goal

-- the value in `result`, if there is one, is `y`
new_value : {V : Type 0} (o : Option ℕ) (y : V) (result : Option V) → result ≡ option_map (λ _. y) o → IfSome result (λ n. n ≡ y)
new_value None y result e = rw e tt
new_value (Some x) y result e = rw e refl

pub stored-requires : goal.stored-requires
stored-requires g c =
    let s = map_spec g.W.Word.word g.K.HasSpec.spec g.N.HasSpec.spec in
    let at = c.in_ok-access_in.ensures.root.1 in
    subst (Viewable s c.args.bytes.now) (sym c.pos-root.ensures) (subst (λ b. Viewable s b c.in_ok-access_in.field-0.pos) (ap (λ a. a.now) at.0) c.in_ok-access_in.ensures.viewable)

pub returns : goal.returns
returns g c = new_value _ c.args.value c.stored.result c.stored.ensures
