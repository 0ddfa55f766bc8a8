use Rattle.std.proofs.Common.{◌≡◌, ℕ, None, Option, Some, ap, sym, ◌∙◌}
use Rattle.std.specs.Int.{w32}
use Rattle.std.specs.Option.{option_map}
use Rattle.std.proofs.lemmas.Result.{err_from_is_err_and}
use Rattle.rkyv_base.specs.{value_pos}
use Rattle.rkyv_keys.specs.{same_bytes}
use Rattle.rkyv_collections.specs.{FindsFirstKeyAt, IsKeyPosAt}
use Rattle.example_message.specs.{IsFields, IsMessage, PartsRepresent, Represents, ValidationFails, fields_spec, is_named, is_named_at, name_hash, name_spec, value_found}
use Rattle.rkyv_table.proofs.Moved.{moved}
use Rattle.rkyv_collections.proofs.FoundValues.{read_at}
use Rattle.example_message.proofs.Found.{no_part_found, part_found}
use Rattle.example_message.proofs.message.pos_of_part.Goals as goal

pub returns-in_err-access-clause-checked : goal.returns-in_err-access-clause-checked
unfolding ValidationFails
returns-in_err-access-clause-checked c =
    let p = err_from_is_err_and c.from_residual.result c.from_residual.ensures.1 in
    rw (p.1, p.2) c.in_err-access.ensures.root

pub returns-in-Some-clause-checked : goal.returns-in-Some-clause-checked
unfolding IsMessage
returns-in-Some-clause-checked c = c.in_ok-access.ensures.root.0

pub returns-in-None-clause-checked : goal.returns-in-None-clause-checked
unfolding IsMessage
returns-in-None-clause-checked c = c.in_ok-access.ensures.root.0

pub returns-in-Some-clause-viewable : goal.returns-in-Some-clause-viewable
returns-in-Some-clause-viewable c =
    let at = read_at c.of-map.result _ _ _ c.of-map.ensures.view c.in_ok-access.ensures.root.1 in
    moved IsFields _ _ _ _ (ap (λ a. a.now) c.in-Some.ensures.walked.at.0 ∙ at.0) (sym c.pos.ensures) c.in-Some.ensures.walked.viewable

pub returns-in-Some-clause-listed : goal.returns-in-Some-clause-listed
unfolding Represents
returns-in-Some-clause-listed c = λ parts represents.
    let at = read_at c.of-map.result _ _ _ c.of-map.ensures.view c.in_ok-access.ensures.root.1 in
    let listed = c.lookups_find_listed.ensures c.of-map.result _ (is_named c.args.part.now) (7, 8) parts (λ stored q s there. ap (same_bytes c.args.part.now) there) (moved (λ b p. PartsRepresent (7, 8) b p parts) _ _ _ _ (sym at.0) (sym at.1) represents) in
    part_found _ _ c.in-Some.fields _ (ap (λ a. a.now) c.in-Some.ensures.walked.at.0 ∙ at.0) (sym c.pos.ensures) (listed.returns_value (Some c.in-Some.fields) c.in-Some.ensures.walked c.in-Some.ensures.first)

pub returns-in-None-clause-listed : goal.returns-in-None-clause-listed
unfolding Represents
returns-in-None-clause-listed c = λ parts represents.
    let at = read_at c.of-map.result _ _ _ c.of-map.ensures.view c.in_ok-access.ensures.root.1 in
    let listed = c.lookups_find_listed.ensures c.of-map.result _ (is_named c.args.part.now) (7, 8) parts (λ stored q s there. ap (same_bytes c.args.part.now) there) (moved (λ b p. PartsRepresent (7, 8) b p parts) _ _ _ _ (sym at.0) (sym at.1) represents) in
    no_part_found _ _ (listed.returns_value None c.in-None.ensures.walked c.in-None.ensures.first)

pub returns-in_err-access-clause-accepts : goal.returns-in_err-access-clause-accepts
unfolding IsMessage
returns-in_err-access-clause-accepts c =
    let p = err_from_is_err_and c.from_residual.result c.from_residual.ensures.1 in
    rw p.1 c.in_err-access.ensures.accepts

pub returns-in-Some-clause-at : goal.returns-in-Some-clause-at
returns-in-Some-clause-at c =
    let at = read_at c.of-map.result _ _ _ c.of-map.ensures.view c.in_ok-access.ensures.root.1 in
    let is = c.in-Some.ensures.walked in
    (is.key, moved (λ b p. IsKeyPosAt w32 name_spec fields_spec b p is.key) _ _ _ _ at.0 at.1 is.walked, c.pos.ensures ∙ is.at.1)

pub returns-in-Some-clause-first : goal.returns-in-Some-clause-first
returns-in-Some-clause-first c = λ homes written.
    let at = read_at c.of-map.result _ _ _ c.of-map.ensures.view c.in_ok-access.ensures.root.1 in
    let found : ℕ = c.in-Some.fields.pos in
    ap Some c.pos.ensures
    ∙ moved (λ b p. FindsFirstKeyAt w32 name_spec fields_spec b p name_hash (is_named_at c.args.part.now b) (λ key_pos. Some found ≡ option_map (value_pos name_spec fields_spec) key_pos)) _ _ _ _
    at.0 at.1 c.in-Some.ensures.first homes written

pub returns-in-None-clause-first : goal.returns-in-None-clause-first
returns-in-None-clause-first c =
    let at = read_at c.of-map.result _ _ _ c.of-map.ensures.view c.in_ok-access.ensures.root.1 in
    let none : Option ℕ = None in
    moved (λ b p. FindsFirstKeyAt w32 name_spec fields_spec b p name_hash (is_named_at c.args.part.now b) (λ key_pos. none ≡ option_map (value_pos name_spec fields_spec) key_pos)) _ _ _ _
    at.0 at.1 c.in-None.ensures.first

pub returns-in-Some-clause-found : goal.returns-in-Some-clause-found
returns-in-Some-clause-found c =
    let at = read_at c.of-map.result _ _ _ c.of-map.ensures.view c.in_ok-access.ensures.root.1 in
    let found : ℕ = c.in-Some.fields.pos in
    ap Some c.pos.ensures ∙ moved (λ b p. Some found ≡ value_found fields_spec c.args.part.now b p) _ _ _ _ at.0 at.1 c.in-Some.ensures.finds

pub returns-in-None-clause-found : goal.returns-in-None-clause-found
returns-in-None-clause-found c =
    let at = read_at c.of-map.result _ _ _ c.of-map.ensures.view c.in_ok-access.ensures.root.1 in
    let none : Option ℕ = None in
    moved (λ b p. none ≡ value_found fields_spec c.args.part.now b p) _ _ _ _ at.0 at.1 c.in-None.ensures.finds
