use Rattle.std.proofs.Common.{None, Some, ap, sym, ◌∙◌}
use Rattle.std.specs.Int.{w32}
use Rattle.std.specs.Option.{option_map}
use Rattle.rkyv_base.specs.{ScalarRepresents, number_at, unsigned}
use Rattle.rkyv_keys.specs.{same_bytes}
use Rattle.example_message.specs.{is_named}
use Rattle.rkyv_collections.specs.{map_bytes}
use Rattle.rkyv_collections.proofs.FoundValues.{none_listed, number_listed}
use Rattle.example_message.proofs.message.field_number.Goals as goal

pub returns-clause-listed : goal.returns-clause-listed
returns-clause-listed c = λ factor list represents.
    let listed = c.lookups_find_listed.ensures c.args.fields _ (is_named c.args.field.now) factor list (λ stored q s there. ap (same_bytes c.args.field.now) there) represents in
    number_listed (number_at w32) c.in_ok-get.field-0 _ _ c.to_native.ensures (listed.returns_value (Some c.in_ok-get.field-0) c.in_ok-get.ensures.walked c.in_ok-get.ensures.first)

pub returns-in_err-get-clause-listed : goal.returns-in_err-get-clause-listed
returns-in_err-get-clause-listed c = λ factor list represents.
    let listed = c.lookups_find_listed.ensures c.args.fields _ (is_named c.args.field.now) factor list (λ stored q s there. ap (same_bytes c.args.field.now) there) represents in
    rw c.from_residual.ensures (none_listed (ScalarRepresents (unsigned w32)) _ (listed.returns_value None c.in_err-get.ensures.walked c.in_err-get.ensures.first))

pub returns-clause-found : goal.returns-clause-found
returns-clause-found c =
    let at = ap (λ a. number_at w32 a.now c.in_ok-get.field-0.pos) (sym c.in_ok-get.ensures.walked.at.0) in
    ap Some (sym (at ∙ c.to_native.ensures)) ∙ ap (option_map (number_at w32 (map_bytes c.args.fields))) c.in_ok-get.ensures.finds

pub returns-in_err-get-clause-found : goal.returns-in_err-get-clause-found
returns-in_err-get-clause-found c = c.from_residual.ensures ∙ ap (option_map (number_at w32 (map_bytes c.args.fields))) c.in_err-get.ensures.finds
