use Rattle.std.proofs.Common.{◌≡◌, ◌-◌, ◌%◌, IfSome, Some, None, ap, arith, false, refl, subst, sym, ◌∙◌}
use Rattle.rkyv_base.specs.Lemmas.Access.{root_viewable}
use Rattle.rkyv_base.specs.{ValidAt}
use Rattle.rkyv_table.specs.{WritesAmongParts}
use Rattle.example_message.specs.{ArePartsFields, FindsFirstPart, IsFields, IsMessage, IsPartsPos, PartsRepresent, Represents, WritesIfFound, fields_spec, header_spec, number_in_fields, root, with_number}
use Rattle.example_message.proofs.Found.{none_set, number_set, only_written}
use Rattle.example_message.proofs.message.set_number.Goals as goal

pub returns-in-Some-clause-written : goal.returns-in-Some-clause-written
returns-in-Some-clause-written c =
    let same : c.in_ok-pos.field-0 ≡ Some c.in-Some.pos = c.in-Some.is in
    let b = c.args.message.now in
    let d = c.set_value_of.new.archive in
    let found = c.set_value_of.result in
    subst (λ p. WritesIfFound (number_in_fields c.args.field.now b p) c.args.number b d found) (sym same ∙ c.in_ok-pos.ensures.found) (only_written b d c.in-Some.pos _ _ _ c.set_value_of.ensures.sets.finds)

pub returns-in-None-clause-written : goal.returns-in-None-clause-written
returns-in-None-clause-written c =
    let same : c.in_ok-pos.field-0 ≡ None = c.in-None.is in
    let b = c.args.message.now in
    subst (λ p. WritesIfFound (number_in_fields c.args.field.now b p) c.args.number b b false) (sym same ∙ c.in_ok-pos.ensures.found) (refl, refl)

pub returns-in-Some-clause-kept : goal.returns-in-Some-clause-kept
unfolding IsMessage
returns-in-Some-clause-kept c =
    let same : c.in_ok-pos.field-0 ≡ Some c.in-Some.pos = c.in-Some.is in
    let b = c.args.message.now in
    let is = c.in_ok-pos.ensures.checked in
    let view = root_viewable 4_294_967_295 header_spec b is in
    let fields = subst (λ o. IfSome o (IsFields b)) same c.in_ok-pos.ensures.viewable in
    let at = subst (λ o. IfSome o (IsPartsPos b)) same c.in_ok-pos.ensures.at in
    let wrote = c.set_value_of.ensures.parts in
    let long = (wrote.sealed 0 c.in-Some.pos fields.valid.0 (omega arith) (omega arith) fields.valid.1).same_length in
    let kept = c.nested_writes_keep_maps.ensures b c.set_value_of.new.archive (root b) at.0 view at.1 (subst (WritesAmongParts fields_spec b c.set_value_of.new.archive) at.2 wrote) in
    let there : root b ≡ root c.set_value_of.new.archive = ap (λ n. n - header_spec.size) (sym long) in
    let inside = is.inside in
    let within = is.within in
    record {
      within = omega (arith, long, within);
      inside = omega (arith, long, inside);
      aligned = subst (λ n. n % header_spec.align ≡ 0) there kept.valid.aligned;
      valid = subst (ValidAt header_spec c.set_value_of.new.archive) there kept.valid.valid;
    }

pub returns-in-None-clause-kept : goal.returns-in-None-clause-kept
returns-in-None-clause-kept c = c.in_ok-pos.ensures.checked

pub returns-in-Some-clause-listed : goal.returns-in-Some-clause-listed
unfolding IsMessage Represents
returns-in-Some-clause-listed c = λ parts represents.
    let same : c.in_ok-pos.field-0 ≡ Some c.in-Some.pos = c.in-Some.is in
    let b = c.args.message.now in
    let d = c.set_value_of.new.archive in
    let part = c.args.part in
    let pos = c.in-Some.pos in
    let view = root_viewable 4_294_967_295 header_spec b c.in_ok-pos.ensures.checked in
    let fields = subst (λ o. IfSome o (IsFields b)) same c.in_ok-pos.ensures.viewable in
    let wrote = c.set_value_of.ensures.parts in
    let long = (wrote.sealed 0 pos fields.valid.0 (omega arith) (omega arith) fields.valid.1).same_length in
    let there : root b ≡ root d = ap (λ n. n - header_spec.size) (sym long) in
    let first = subst (FindsFirstPart b part.now) same c.in_ok-pos.ensures.first in
    let set = number_set b d part.now c.args.field.now c.args.number parts (root b) _ pos _ (subst (ArePartsFields b part.now parts) same (c.in_ok-pos.ensures.listed parts represents)) c.set_value_of.ensures.listed
    (λ new new_represents. c.nested_writes_represent.ensures b d (root b) pos (7, 8) parts part new view represents first wrote new_represents) in
    (set.0, subst (λ n. PartsRepresent (7, 8) d n (with_number part.now c.args.field.now c.args.number parts)) there set.1)

pub returns-in-None-clause-listed : goal.returns-in-None-clause-listed
unfolding Represents
returns-in-None-clause-listed c = λ parts represents.
    let same : c.in_ok-pos.field-0 ≡ None = c.in-None.is in
    let b = c.args.message.now in
    none_set b c.args.part.now c.args.field.now c.args.number parts (root b) _ (subst (ArePartsFields b c.args.part.now parts) same (c.in_ok-pos.ensures.listed parts represents)) represents
