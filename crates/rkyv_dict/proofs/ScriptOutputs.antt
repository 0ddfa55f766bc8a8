-- The lines of each script have an output.
use Rattle.std.proofs.Common.{ℕ, ◌<◌, ◌^◌, refl, inl, inr, List, [], ◌∷◌, ◌++◌, Option, None, Some, IfSome}
use Rattle.std.specs.Str.{IsUtf8}
use Rattle.std.proofs.lemmas.List.Elements.{All-nil, All-push}
use Rattle.rkyv_dict.specs.{AreNative, Pairs, Request, RunsTo, ScriptsHaveOutput, State, StepsIf, StepsLine, StepsTo, archive_output, audit_line, bad_line, build_archive, built_line, check_archive, count_misplaced, emptied, entry_count, error_line, form_of, get_line, get_value, hex_line, kind_of_pairs, lines_of, list_lines, list_pairs, no_pairs, numbers, ok_line, put_numbers, put_texts, request_of, set_kind, set_load_factor, set_width, show_hex, start, texts, verify_error_line, with_numbers, with_texts}
use Rattle.rkyv_dict.specs.declared.form.Kind.{Kind}
use Rattle.rkyv_dict.specs.declared.form.Kind.TheVariants.{Num, Text}
use Rattle.rkyv_dict.proofs.BuildResults.{builds_have_result}
use Rattle.rkyv_dict.proofs.NativeRequests.{IsNative, request_native}
use Rattle.rkyv_dict.proofs.ValidOrNot.{checks_have_result}

none_native : (kind : Kind) → AreNative (no_pairs kind)
none_native Num = All-nil (λ pair. (pair.0 < 2 ^ 32) × (pair.1 < 2 ^ 32))
none_native Text = All-nil (λ pair. IsUtf8 pair.0 × IsUtf8 pair.1)

more_numbers : (pairs : Pairs) (key value : ℕ) → AreNative pairs → (key < 2 ^ 32) × (value < 2 ^ 32) → AreNative (with_numbers pairs key value)
more_numbers (numbers pairs) key value native one = All-push (λ pair. (pair.0 < 2 ^ 32) × (pair.1 < 2 ^ 32)) pairs (key, value) native one
more_numbers (texts pairs) key value native one = native

more_texts : (pairs : Pairs) (key value : List ℕ) → AreNative pairs → IsUtf8 key × IsUtf8 value → AreNative (with_texts pairs key value)
more_texts (numbers pairs) key value native one = native
more_texts (texts pairs) key value native one = All-push (λ pair. IsUtf8 pair.0 × IsUtf8 pair.1) pairs (key, value) native one

-- a request has an output, and keeps the pairs native
request_output : (s : State) (request : Request) → AreNative s.pairs → IsNative request → (printed : List ℕ) × (next : State) × StepsTo s request printed next × AreNative next.pairs
request_output s (set_kind kind) native one = ([], emptied kind s.bits s, (refl, refl), none_native kind)
request_output s (set_width bits) native one = ([], emptied (kind_of_pairs s.pairs) bits s, (refl, refl), none_native (kind_of_pairs s.pairs))
request_output s (set_load_factor numerator denominator) native one = ([], record s { load_factor = (numerator, denominator) }, (refl, refl), native)
request_output s (put_numbers key value) native one = ([], record s { pairs = with_numbers s.pairs key value }, (refl, refl), more_numbers s.pairs key value native one)
request_output s (put_texts key value) native one = ([], record s { pairs = with_texts s.pairs key value }, (refl, refl), more_texts s.pairs key value native one)
request_output s build_archive native one = elim (builds_have_result s.bits s.load_factor s.pairs native) [
  | inl built ↦ (
    built_line built.0,
    record s { archive = Some (record { bytes = built.0; built_of = Some s.pairs }) },
    inl (record { bytes = built.0; is_built = built.1; prints = refl; after = refl }),
    native,
  )
  | inr fault ↦ (error_line fault.0, record s { archive = None }, inr (record { cause = fault.0; applies = fault.1; reported = fault.2; prints = refl; after = refl }), native)
]
request_output s (check_archive bytes) native one = elim (checks_have_result (form_of s) bytes) [
  | inl accepted ↦ (
    ok_line (entry_count (form_of s) bytes),
    record s { archive = Some (record { bytes = bytes; built_of = None }) },
    inl (record { accepted = accepted; prints = refl; after = refl }),
    native,
  )
  | inr fault ↦ (verify_error_line fault.0, s, inr (record { error = fault.0; applies = fault.1; prints = refl; after = refl }), native)
]
request_output s show_hex native one = (archive_output hex_line s.archive, s, (refl, refl), native)
request_output s (get_value key) native one = (archive_output (get_line (form_of s) key) s.archive, s, (refl, refl), native)
request_output s list_pairs native one = (archive_output (list_lines (form_of s)) s.archive, s, (refl, refl), native)
request_output s count_misplaced native one = (archive_output (audit_line (form_of s)) s.archive, s, (refl, refl), native)

output_if : (s : State) (request : Option Request) → AreNative s.pairs → IfSome request IsNative → (printed : List ℕ) × (next : State) × StepsIf s request printed next × AreNative next.pairs
output_if s None native one = (bad_line, s, (refl, refl), native)
output_if s (Some request) native one = request_output s request native one

line_output : (s : State) (line : List ℕ) → AreNative s.pairs → (printed : List ℕ) × (next : State) × StepsLine s line printed next × AreNative next.pairs
line_output s [] native = ([], s, (refl, refl), native)
line_output s (b ∷ bs) native = output_if s (request_of (kind_of_pairs s.pairs) (b ∷ bs)) native (request_native (kind_of_pairs s.pairs) (b ∷ bs))

lines_output : (lines : List (List ℕ)) (s : State) → AreNative s.pairs → (output : List ℕ) × (last : State) × RunsTo s lines output last × AreNative last.pairs
unfolding RunsTo
lines_output [] s native = ([], s, (refl, refl), native)
lines_output (l ∷ ls) s native =
    let first = line_output s l native in
    let others = lines_output ls first.1 first.3 in
    (first.0 ++ others.0, others.1, (first.0, first.1, others.0, first.2, others.2, refl), others.3)

pub scripts_have_output : ScriptsHaveOutput
scripts_have_output = record {
  from_start = λ script. let run = lines_output (lines_of script) start (none_native Num) in (run.0, run.1, run.2);
  from_state = lines_output;
}
