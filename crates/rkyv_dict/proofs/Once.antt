-- Pairs have one archive, and a validation has one outcome.
use Rattle.std.proofs.Common.{◌≡◌, ℕ, refl, arith, inl, inr, List}
use Rattle.std.proofs.lemmas.Grind.{common_steps}
use Rattle.std.specs.Int.{w32}
use Rattle.rkyv_base.specs.{AccessFails, ArchiveOf, ElementSpec, Format, IsArchiveWord, IsElement, IsValidArchive, ScalarRepresents, TextReads, scalar_format, text_format, unsigned}
use Rattle.rkyv_base.specs.Lemmas.Entry.{entry_element}
use Rattle.rkyv_base.specs.Lemmas.Numbers.{unsigned_codes}
use Rattle.rkyv_base.specs.Lemmas.Scalar.{scalar_element}
use Rattle.rkyv_base.specs.Lemmas.Text.{text_element}
use Rattle.rkyv_base.specs.declared.errors.VerifyError.{VerifyError}
use Rattle.rkyv_table.specs.{WritesOneWay, listed}
use Rattle.rkyv_collections.specs.{keyed}
use Rattle.rkyv_dict.specs.{BuildsAreOne, ChecksAreOne, IsArchiveOf, IsMapArchive, MapTypes, MapValidationFails, Pairs, PairsRepresentAt, buckets_of, built_in, hash, header_spec, number_calls, number_parts, numbers, pair_spec, pairs_format, parts_in, text_parts, texts, word_of}
use Rattle.rkyv_dict.specs.declared.form.ArchiveWidth.{ArchiveWidth}
use Rattle.rkyv_dict.specs.declared.form.ArchiveWidth.TheVariants.{Bits32, Bits64}
use Rattle.rkyv_dict.specs.declared.form.Kind.{Kind}
use Rattle.rkyv_dict.specs.declared.form.Kind.TheVariants.{Num, Text}
use Rattle.rkyv_keys.specs.{text_calls}
use Rattle.rkyv_scan.specs.{HasherCall}
use Rattle.rkyv_table.proofs.OneWay.{tables_one_way}
use Rattle.rkyv_table.proofs.ReadyOneWay.{pairs_one_way, scalars_one_way, texts_one_way, written_as_one_way}
use Rattle.rkyv_table.specs.Lemmas.TableLaws.{table_element}

-- the word of each width is an archive word
pub is_word : (bits : ArchiveWidth) → IsArchiveWord (word_of bits)
is_word Bits32 = inl refl
is_word Bits64 = inr refl

-- ---- builds

listed_one_way : {X R : Type 0} (most : ℕ) (factor : ℕ × ℕ) (f : Format (List X) R) → WritesOneWay f → WritesOneWay (listed most factor f)
listed_one_way most factor f one = grind (arith, common_steps)

archives_one_way : {V R : Type 0} (limit : ℕ) (s : ElementSpec) (represents : List ℕ → ℕ → V → Type 0) (f : Format V R) → WritesOneWay f → (v : V) (a b : List ℕ)
    → ArchiveOf limit s represents f v a → ArchiveOf limit s represents f v b → a ≡ b
archives_one_way limit s represents f one v a b x y = grind (arith, common_steps)

pub pairs_written_one_way : (k : MapTypes) {A R : Type 0} (factor : ℕ × ℕ) (most : ℕ) (format : Format A R) (calls : A → List HasherCall) → WritesOneWay format
    → WritesOneWay (pairs_format k factor most format calls)
pairs_written_one_way k factor most format calls one =
    let entries = pair_spec k in
    let pair = pairs_one_way k.spec k.spec format format one one in
    let table = tables_one_way k.word entries _ pair factor in
    let map = written_as_one_way (keyed (λ value. hash (calls value))) _ table in
    listed_one_way most factor _ map

map_archive_one : (k : MapTypes) {A R : Type 0} (factor : ℕ × ℕ) (most : ℕ) (format : Format A R) (calls : A → List HasherCall) (represents : List ℕ → ℕ → A → Type 0)
    → WritesOneWay format → (pairs : List (A × A)) (a b : List ℕ)
    → IsArchiveOf k factor most format calls represents pairs a → IsArchiveOf k factor most format calls represents pairs b → a ≡ b
unfolding IsArchiveOf
map_archive_one k factor most format calls represents one pairs a b x y =
    archives_one_way k.limit (header_spec k) (PairsRepresentAt k factor represents) (pairs_format k factor most format calls)
    (pairs_written_one_way k factor most format calls one) pairs a b x y

built_one : (kind : Kind) (bits : ArchiveWidth) (factor : ℕ × ℕ) (pairs : Pairs) (a b : List ℕ) → built_in kind bits factor pairs a → built_in kind bits factor pairs b → a ≡ b
built_one Num bits factor (numbers pairs) a b x y =
    map_archive_one (number_parts bits) factor (buckets_of bits) (scalar_format (unsigned w32)) number_calls (ScalarRepresents (unsigned w32)) (scalars_one_way (unsigned w32)) pairs a b x y
built_one Text bits factor (texts pairs) a b x y =
    map_archive_one (text_parts bits) factor (buckets_of bits) (text_format (word_of bits)) text_calls (TextReads (word_of bits)) (texts_one_way (word_of bits) (is_word bits)) pairs a b x y
built_one Num bits factor (texts pairs) a b x y = absurd x
built_one Text bits factor (numbers pairs) a b x y = absurd x

pub builds_are_one : BuildsAreOne
builds_are_one form factor pairs a b x y = built_one form.kind form.bits factor pairs a b x y

-- ---- validations

access_exclusive : (limit : ℕ) (s : ElementSpec) → IsElement s → (b : List ℕ) (e : VerifyError) → AccessFails limit s b e → IsValidArchive limit s b → ⊥
access_exclusive limit s laws b e x a = grind arith

access_one : (limit : ℕ) (s : ElementSpec) → IsElement s → (b : List ℕ) (e d : VerifyError) → AccessFails limit s b e → AccessFails limit s b d → e ≡ d
access_one limit s laws b e d x y = grind arith

part_element : (kind : Kind) (bits : ArchiveWidth) → IsElement (parts_in kind bits).spec
part_element Num bits = scalar_element (unsigned w32) (inr (inr (inl refl))) (unsigned_codes w32)
part_element Text bits = text_element (word_of bits) (is_word bits)

part_word : (kind : Kind) (bits : ArchiveWidth) → IsArchiveWord (parts_in kind bits).word
part_word Num bits = is_word bits
part_word Text bits = is_word bits

pub header_element : (k : MapTypes) → IsArchiveWord k.word → IsElement k.spec → IsElement (header_spec k)
header_element k word part = table_element k.word word (pair_spec k) (entry_element k.spec k.spec part part)

map_check_one : (k : MapTypes) → IsElement (header_spec k) → (b : List ℕ) (e : VerifyError) → MapValidationFails k b e
    → (IsMapArchive k b → ⊥) × ((d : VerifyError) → MapValidationFails k b d → e ≡ d)
unfolding IsMapArchive MapValidationFails
map_check_one k laws b e f = (access_exclusive k.limit (header_spec k) laws b e f, λ d g. access_one k.limit (header_spec k) laws b e d f g)

check_one : (kind : Kind) (bits : ArchiveWidth) (b : List ℕ) (e : VerifyError) → MapValidationFails (parts_in kind bits) b e
    → (IsMapArchive (parts_in kind bits) b → ⊥) × ((d : VerifyError) → MapValidationFails (parts_in kind bits) b d → e ≡ d)
check_one kind bits b e f =
    map_check_one (parts_in kind bits) (header_element (parts_in kind bits) (part_word kind bits) (part_element kind bits)) b e f

pub checks_are_one : ChecksAreOne
checks_are_one form b e f = check_one form.kind form.bits b e f
