use Rattle.std.proofs.Common.{◌≡◌, ◌∙◌, ◌++◌, ap, sym, subst, List, Option, OnOk, Result, ℕ}
use Rattle.rkyv_dict.specs.{RootRepresents, first_value_text, lookup_key, value_line}
use Rattle.rkyv_dict.specs.declared.form.ArchiveWidth.TheVariants.{Bits32, Bits64}
use Rattle.rkyv_dict.specs.declared.form.Kind.TheVariants.{Num, Text}
use Rattle.rkyv_dict.proofs.Firsts.{first_number, first_text, form_is}
use Rattle.rkyv_dict.proofs.archives.push_value.Goals as goal

same_value : {T E : Type 0} (r : Result T E) (old new : List ℕ) (a b : Option (List ℕ)) → a ≡ b → OnOk r (new ≡ old ++ value_line a) → OnOk r (new ≡ old ++ value_line b)
same_value r old new a b e h = subst (λ t. OnOk r (new ≡ old ++ value_line t)) e h

pub returns-in-Bits32-clause-first : goal.returns-in-Bits32-clause-first
returns-in-Bits32-clause-first c = λ pairs factor represents.
    let same = form_is c.args.form Num Bits32 c.in-Num-Number.is-0 c.in-Bits32.is in
    let first = first_number Bits32 factor c.args.bytes.now pairs c.in-Num-Number.number (subst (λ f. RootRepresents f factor c.args.bytes.now pairs) same represents) in
    same_value c.push_found.result _ _ _ _ (first.2 ∙ ap (λ key. first_value_text pairs (lookup_key key)) (sym c.in-Num-Number.is-1)) (c.push_found.ensures.first first.0 first.1)

pub returns-in-Bits64-clause-first : goal.returns-in-Bits64-clause-first
returns-in-Bits64-clause-first c = λ pairs factor represents.
    let same = form_is c.args.form Num Bits64 c.in-Num-Number.is-0 c.in-Bits64.is in
    let first = first_number Bits64 factor c.args.bytes.now pairs c.in-Num-Number.number (subst (λ f. RootRepresents f factor c.args.bytes.now pairs) same represents) in
    same_value c.push_found-in-Bits64.result _ _ _ _ (first.2 ∙ ap (λ key. first_value_text pairs (lookup_key key)) (sym c.in-Num-Number.is-1)) (c.push_found-in-Bits64.ensures.first first.0 first.1)

pub returns-in-Bits32-bits-clause-first : goal.returns-in-Bits32-bits-clause-first
returns-in-Bits32-bits-clause-first c = λ pairs factor represents.
    let same = form_is c.args.form Text Bits32 c.in-Text-Text.is-0 c.in-Bits32-bits.is in
    let first = first_text Bits32 factor c.args.bytes.now pairs c.in-Text-Text.text.now (subst (λ f. RootRepresents f factor c.args.bytes.now pairs) same represents) in
    same_value c.push_found-in-Bits32-bits.result _ _ _ _ (first.2 ∙ ap (λ key. first_value_text pairs (lookup_key key)) (sym c.in-Text-Text.is-1)) (c.push_found-in-Bits32-bits.ensures.first first.0 first.1)

pub returns-in-Bits64-bits-clause-first : goal.returns-in-Bits64-bits-clause-first
returns-in-Bits64-bits-clause-first c = λ pairs factor represents.
    let same = form_is c.args.form Text Bits64 c.in-Text-Text.is-0 c.in-Bits64-bits.is in
    let first = first_text Bits64 factor c.args.bytes.now pairs c.in-Text-Text.text.now (subst (λ f. RootRepresents f factor c.args.bytes.now pairs) same represents) in
    same_value c.push_found-in-Bits64-bits.result _ _ _ _ (first.2 ∙ ap (λ key. first_value_text pairs (lookup_key key)) (sym c.in-Text-Text.is-1)) (c.push_found-in-Bits64-bits.ensures.first first.0 first.1)
