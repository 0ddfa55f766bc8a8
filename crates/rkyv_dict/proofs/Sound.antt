-- The archive of a state is valid.
use Rattle.std.proofs.Common.{◌≡◌, ℕ, List, ◌++◌, Option, Some, None, Result, refl, sym, subst, ap, ◌∙◌, inl, inr, arith}
use Rattle.std.specs.Prelude.{OnOk}
use Rattle.std.specs.Option.{ForSome, option_map}
use Rattle.rkyv_dict.specs.declared.dict.Dict.{Dict}
use Rattle.rkyv_dict.specs.declared.dict.Stored.{Stored}
use Rattle.rkyv_dict.specs.declared.form.ArchiveWidth.{ArchiveWidth}
use Rattle.rkyv_dict.specs.declared.form.Form.{Form}
use Rattle.std.proofs.lemmas.Result.{on_ok_weaker}
use Rattle.rkyv_dict.specs.{AppendsSome, Archived, archived_of, pairs_of, state_of, IsArchive, IsArchiveOf, IsBuilt, IsMapArchive, IsSound, IsSoundIn, LookupKey, Pairs, PairsRepresent, Request, RootRepresents, State, StepsTo, archive_output, build_archive, check_archive, count_misplaced, first_value_text, form_of, form_of_pairs, get_line, get_value, kind_of_pairs, list_pairs, numbers, put_numbers, put_texts, set_kind, set_load_factor, set_width, show_hex, start, texts, value_found, value_in, value_line, with_numbers, with_texts}

kind_with_numbers : (pairs : Pairs) (key value : ℕ) → kind_of_pairs (with_numbers pairs key value) ≡ kind_of_pairs pairs
kind_with_numbers (numbers pairs) key value = refl
kind_with_numbers (texts pairs) key value = refl

kind_with_texts : (pairs : Pairs) (key value : List ℕ) → kind_of_pairs (with_texts pairs key value) ≡ kind_of_pairs pairs
kind_with_texts (numbers pairs) key value = refl
kind_with_texts (texts pairs) key value = refl

-- a built archive is valid and represents the pairs
built_archive : (bits : ArchiveWidth) (factor : ℕ × ℕ) (pairs : Pairs) (bytes : List ℕ) → IsBuilt (form_of_pairs bits pairs) factor pairs bytes → IsArchive (form_of_pairs bits pairs) bytes
unfolding IsArchiveOf IsMapArchive
built_archive bits factor (numbers pairs) bytes built = built.0
built_archive bits factor (texts pairs) bytes built = built.0

built_represents : (bits : ArchiveWidth) (factor : ℕ × ℕ) (pairs : Pairs) (bytes : List ℕ) → IsBuilt (form_of_pairs bits pairs) factor pairs bytes → RootRepresents (form_of_pairs bits pairs) factor bytes pairs
unfolding IsArchiveOf PairsRepresent
built_represents bits factor (numbers pairs) bytes built = built.1
built_represents bits factor (texts pairs) bytes built = built.1

pub sound_here : (s : State) (a : Archived) → IsSound s → s.archive ≡ Some a → IsSoundIn (form_of s) a
unfolding IsSound
sound_here s a sound is = sound a is

pub archive_here : (s : State) (a : Archived) (form : Form) (bytes : List ℕ) → IsSound s → s.archive ≡ Some a → form ≡ form_of s → bytes ≡ a.bytes → IsArchive form bytes
archive_here s a form bytes sound is f b = rw (f, b) (sound_here s a sound is).archive

-- the archive of a dictionary
pub archive_of_dict : (d : Dict) (a : Stored) (form : Form) (bytes : List ℕ) → IsSound (state_of d) → d.archive ≡ Some a → form ≡ form_of (state_of d) → bytes ≡ a.bytes.items → IsArchive form bytes
archive_of_dict d a form bytes sound is = archive_here (state_of d) (archived_of (pairs_of d.list) a) form bytes sound (ap (option_map (archived_of (pairs_of d.list))) is)

-- `get` returns the value of the first pair of a built archive, else that of a lookup
value_by : {U E : Type 0} (form : Form) (bytes : List ℕ) (built : Option Pairs) (r : Result U E) (now old : List ℕ) (key : LookupKey)
    → ForSome built (λ pairs. (factor : ℕ × ℕ) × RootRepresents form factor bytes pairs)
    → OnOk r (now ≡ old ++ value_line (value_found form bytes key))
    → ((pairs : Pairs) (factor : ℕ × ℕ) → RootRepresents form factor bytes pairs → OnOk r (now ≡ old ++ value_line (first_value_text pairs key)))
    → OnOk r (now ≡ old ++ value_line (value_in form bytes built key))
value_by form bytes None r now old key represents found first = found
value_by form bytes (Some pairs) r now old key represents found first = let h = represents pairs refl in first pairs h.0 h.1

pub value_here : {U E : Type 0} (s : State) (a : Archived) (form : Form) (bytes : List ℕ) (r : Result U E) (now old : List ℕ) (key : LookupKey)
    → IsSound s → s.archive ≡ Some a → form ≡ form_of s → bytes ≡ a.bytes
    → OnOk r (now ≡ old ++ value_line (value_found form bytes key))
    → ((pairs : Pairs) (factor : ℕ × ℕ) → RootRepresents form factor bytes pairs → OnOk r (now ≡ old ++ value_line (first_value_text pairs key)))
    → OnOk r (now ≡ old ++ archive_output (get_line (form_of s) key) s.archive)
value_here s a form bytes r now old key sound is f b found first =
    let here = sound_here s a sound is in
    rw is (value_by (form_of s) a.bytes a.built_of r now old key here.built (rw (f, b) at found) (rw (f, b) at first))

pub start_sound : (s : State) → s ≡ start → IsSound s
unfolding IsSound
start_sound s is = subst IsSound (sym is) (λ a none. absurd (let bad : None ≡ Some a = none in cc))

-- a built archive is sound, and so is one that `check` validated
pub built_sound : (s : State) (bytes : List ℕ) → IsBuilt (form_of s) s.load_factor s.pairs bytes → IsSoundIn (form_of s) (record { bytes = bytes; built_of = Some s.pairs })
built_sound s bytes built = grind (arith, built_archive, built_represents)

pub checked_sound : (form : Form) (bytes : List ℕ) → IsArchive form bytes → IsSoundIn form (record { bytes = bytes; built_of = None })
checked_sound form bytes archive = record { archive = archive; built = λ pairs none. absurd (let bad : None ≡ Some pairs = none in cc) }

-- a state without an archive is sound, and so is a state with a sound one
pub none_sound : (s : State) → s.archive ≡ None → IsSound s
unfolding IsSound
none_sound s is = λ a some. absurd (let bad : None ≡ Some a = sym is ∙ some in cc)

this_sound : (s : State) (a : Archived) → s.archive ≡ Some a → IsSoundIn (form_of s) a → IsSound s
unfolding IsSound
this_sound s a is h = λ b some. subst (IsSoundIn (form_of s)) (let same : Some a ≡ Some b = sym is ∙ some in cc) h

same_sound : (s s' : State) → s'.archive ≡ s.archive → form_of s' ≡ form_of s → IsSound s → IsSound s'
unfolding IsSound
same_sound s s' a f h = λ b some. rw f (h b (sym a ∙ some))

does_sound : (s : State) (request : Request) (printed : List ℕ) (s' : State) → IsSound s → StepsTo s request printed s' → IsSound s'
does_sound s (set_kind kind) printed s' h does = none_sound s' (ap (λ (t : State). t.archive) does.1)
does_sound s (set_width bits) printed s' h does = none_sound s' (ap (λ (t : State). t.archive) does.1)
does_sound s (set_load_factor numerator denominator) printed s' h does = same_sound s s' (ap (λ (t : State). t.archive) does.1) (ap form_of does.1) h
does_sound s (put_numbers key value) printed s' h does =
    same_sound s s' (ap (λ (t : State). t.archive) does.1) (ap form_of does.1 ∙ ap (λ k. record { kind = k; bits = s.bits }) (kind_with_numbers s.pairs key value)) h
does_sound s (put_texts key value) printed s' h does =
    same_sound s s' (ap (λ (t : State). t.archive) does.1) (ap form_of does.1 ∙ ap (λ k. record { kind = k; bits = s.bits }) (kind_with_texts s.pairs key value)) h
does_sound s build_archive printed s' h (inl b) = subst IsSound (sym b.after) (this_sound _ _ refl (built_sound s b.bytes b.is_built))
does_sound s build_archive printed s' h (inr b) = none_sound s' (ap (λ (t : State). t.archive) b.after)
does_sound s (check_archive bytes) printed s' h (inl b) = subst IsSound (sym b.after) (this_sound _ _ refl (checked_sound (form_of s) bytes b.accepted))
does_sound s (check_archive bytes) printed s' h (inr b) = subst IsSound (sym b.after) h
does_sound s show_hex printed s' h does = subst IsSound (sym does.1) h
does_sound s (get_value key) printed s' h does = subst IsSound (sym does.1) h
does_sound s list_pairs printed s' h does = subst IsSound (sym does.1) h
does_sound s count_misplaced printed s' h does = subst IsSound (sym does.1) h

-- a command that succeeds keeps the archive sound
pub applied_sound : {A E : Type 0} (r : Result A E) (old new : List ℕ) (request : Request) (s s' : State) → IsSound s → OnOk r (AppendsSome old new (λ printed. StepsTo s request printed s')) → OnOk r (IsSound s')
applied_sound r old new request s s' sound h = on_ok_weaker r (λ a. does_sound s request a.printed s' sound a.accepted) h
