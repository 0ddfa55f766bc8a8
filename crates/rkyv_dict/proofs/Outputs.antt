-- A script has one output.
use Rattle.std.proofs.Common.{◌≡◌, ℕ, sym, ap, ◌∙◌, subst, inl, inr, List, [], ◌∷◌, ◌++◌, Option, None, Some}
use Rattle.std.specs.Prelude.{codes}
use Rattle.rkyv_dict.specs.{BuildErrorsAreOne, Request, RunsTo, ScriptsAreOne, State, StepsIf, StepsLine, StepsTo, build_archive, built_line, check_archive, count_misplaced, form_of, get_value, kind_of_pairs, line, list_pairs, put_numbers, put_texts, request_of, set_kind, set_load_factor, set_width, show_hex, verify_error_line}
use Rattle.rkyv_dict.proofs.Once.{builds_are_one, checks_are_one}
use Rattle.rkyv_dict.proofs.BuildErrors.{build_errors_are_one}

-- the state with the archive `b`, built from its list
built_state : State → List ℕ → State
built_state s b = record s { archive = Some (record { bytes = b; built_of = Some s.pairs }) }

does_one : BuildErrorsAreOne → (s : State) (request : Request) (a b : List ℕ) (t u : State) → StepsTo s request a t → StepsTo s request b u → (a ≡ b) × (t ≡ u)
unfolding built_state
does_one h s (set_kind kind) a b t u x y = (x.0 ∙ sym y.0, x.1 ∙ sym y.1)
does_one h s (set_width bits) a b t u x y = (x.0 ∙ sym y.0, x.1 ∙ sym y.1)
does_one h s (set_load_factor n d) a b t u x y = (x.0 ∙ sym y.0, x.1 ∙ sym y.1)
does_one h s (put_numbers key value) a b t u x y = (x.0 ∙ sym y.0, x.1 ∙ sym y.1)
does_one h s (put_texts key value) a b t u x y = (x.0 ∙ sym y.0, x.1 ∙ sym y.1)
does_one h s build_archive a b t u (inl x) (inl y) =
    let e = builds_are_one (form_of s) s.load_factor s.pairs x.bytes y.bytes x.is_built y.is_built in
    (x.prints ∙ ap built_line e ∙ sym y.prints, x.after ∙ ap (built_state s) e ∙ sym y.after)
does_one h s build_archive a b t u (inl x) (inr y) = absurd (h.built (form_of s) s.load_factor s.pairs x.bytes y.cause x.is_built y.applies y.reported)
does_one h s build_archive a b t u (inr x) (inl y) = absurd (h.built (form_of s) s.load_factor s.pairs y.bytes x.cause y.is_built x.applies x.reported)
does_one h s build_archive a b t u (inr x) (inr y) =
    let e = h.causes (form_of s) s.load_factor s.pairs x.cause y.cause x.applies y.applies x.reported y.reported in
    (x.prints ∙ ap (λ l. line (codes "error " ++ l)) e ∙ sym y.prints, x.after ∙ sym y.after)
does_one h s (check_archive bytes) a b t u (inl x) (inl y) = (x.prints ∙ sym y.prints, x.after ∙ sym y.after)
does_one h s (check_archive bytes) a b t u (inl x) (inr y) = absurd ((checks_are_one (form_of s) bytes y.error y.applies).0 x.accepted)
does_one h s (check_archive bytes) a b t u (inr x) (inl y) = absurd ((checks_are_one (form_of s) bytes x.error x.applies).0 y.accepted)
does_one h s (check_archive bytes) a b t u (inr x) (inr y) =
    let e = (checks_are_one (form_of s) bytes x.error x.applies).1 y.error y.applies in
    (x.prints ∙ ap verify_error_line e ∙ sym y.prints, x.after ∙ sym y.after)
does_one h s show_hex a b t u x y = (x.0 ∙ sym y.0, x.1 ∙ sym y.1)
does_one h s (get_value key) a b t u x y = (x.0 ∙ sym y.0, x.1 ∙ sym y.1)
does_one h s list_pairs a b t u x y = (x.0 ∙ sym y.0, x.1 ∙ sym y.1)
does_one h s count_misplaced a b t u x y = (x.0 ∙ sym y.0, x.1 ∙ sym y.1)

does_if_one : BuildErrorsAreOne → (s : State) (request : Option Request) (a b : List ℕ) (t u : State) → StepsIf s request a t → StepsIf s request b u → (a ≡ b) × (t ≡ u)
does_if_one h s None a b t u x y = (x.0 ∙ sym y.0, x.1 ∙ sym y.1)
does_if_one h s (Some request) a b t u x y = does_one h s request a b t u x y

line_one : BuildErrorsAreOne → (s : State) (l a b : List ℕ) (t u : State) → StepsLine s l a t → StepsLine s l b u → (a ≡ b) × (t ≡ u)
line_one h s [] a b t u x y = (x.0 ∙ sym y.0, x.1 ∙ sym y.1)
line_one h s (c ∷ cs) a b t u x y = does_if_one h s (request_of (kind_of_pairs s.pairs) (c ∷ cs)) a b t u x y

runs_one : BuildErrorsAreOne → ScriptsAreOne
unfolding RunsTo
runs_one h [] s o p t u x y = (x.0 ∙ sym y.0, x.1 ∙ sym y.1)
runs_one h (l ∷ ls) s o p t u x y =
    let one = line_one h s l x.0 y.0 x.1 y.1 x.3 y.3 in
    let there = subst (λ (n : State). RunsTo n ls y.2 u) (sym one.1) y.4 in
    let two = runs_one h ls x.1 x.2 y.2 t u x.4 there in
    (x.5 ∙ ap (λ l. l ++ x.2) one.0 ∙ ap (λ l. y.0 ++ l) two.0 ∙ sym y.5, two.1)

pub scripts_are_one : ScriptsAreOne
scripts_are_one = runs_one build_errors_are_one
