use Rattle.std.proofs.Common.{◌≡◌, ℕ, IfSome, None, Option, Some, ap, refl, subst, sym, ◌∙◌}
use Rattle.std.specs.Int.{w32}
use Rattle.std.specs.Option.{option_map}
use Rattle.rkyv_base.specs.{number_at}
use Rattle.rkyv_collections.proofs.FoundValues.{read_at}
use Rattle.example_message.specs.{ArePartsFields, FieldsRepresent, IsFields, number_in_fields, number_spec, value_found}
use Rattle.rkyv_table.proofs.Moved.{moved}
use Rattle.example_message.proofs.Found.{no_number_in_part, number_in_part}
use Rattle.example_message.proofs.message.number_of.Goals as goal

pub of-requires : goal.of-requires
of-requires c =
    let same : c.in_ok-pos.field-0 ≡ Some c.in-Some.pos = c.in-Some.is in
    moved IsFields _ _ _ _ (sym (ap (λ a. a.now) c.new.ensures.0)) (sym c.new.ensures.1) (subst (λ o. IfSome o (IsFields c.args.message.now)) same c.in_ok-pos.ensures.viewable)

pub returns-in-Some-clause-listed : goal.returns-in-Some-clause-listed
returns-in-Some-clause-listed c = λ parts represents.
    let same : c.in_ok-pos.field-0 ≡ Some c.in-Some.pos = c.in-Some.is in
    let at = read_at c.of.result _ _ _ c.of.ensures.view c.new.ensures in
    number_in_part c.args.message.now c.args.field.now c.in-Some.pos _ _ (subst (ArePartsFields c.args.message.now c.args.part.now parts) same (c.in_ok-pos.ensures.listed parts represents))
    (λ factor list there. c.field_number.ensures.listed factor list (moved (λ x q. FieldsRepresent factor x q list) _ _ _ _ (sym at.0) (sym at.1) there))

pub returns-in-None-clause-listed : goal.returns-in-None-clause-listed
returns-in-None-clause-listed c = λ parts represents.
    let same : c.in_ok-pos.field-0 ≡ None = c.in-None.is in
    no_number_in_part c.args.message.now c.args.field.now _ (subst (ArePartsFields c.args.message.now c.args.part.now parts) same (c.in_ok-pos.ensures.listed parts represents))

pub returns-in-Some-clause-found : goal.returns-in-Some-clause-found
returns-in-Some-clause-found c =
    let same : c.in_ok-pos.field-0 ≡ Some c.in-Some.pos = c.in-Some.is in
    let b = c.args.message.now in
    let field = c.args.field.now in
    let at = read_at c.of.result _ _ _ c.of.ensures.view c.new.ensures in
    let number = c.field_number.result in
    subst (λ p. number ≡ option_map (number_at w32 b) (number_in_fields field b p)) (sym same ∙ c.in_ok-pos.ensures.found)
    (moved (λ x q. number ≡ option_map (number_at w32 x) (value_found number_spec field x q)) _ _ _ _ at.0 at.1 c.field_number.ensures.found)

pub returns-in-None-clause-found : goal.returns-in-None-clause-found
returns-in-None-clause-found c =
    let same : c.in_ok-pos.field-0 ≡ None = c.in-None.is in
    let b = c.args.message.now in
    let none : Option ℕ = None in
    subst (λ p. none ≡ option_map (number_at w32 b) (number_in_fields c.args.field.now b p)) (sym same ∙ c.in_ok-pos.ensures.found) refl
