-- A failed build has one error, except for allocation failures, and its pairs have no archive.
use Rattle.std.proofs.Common.{◌≡◌, ℕ, ◌-◌, refl, arith, inl, inr, List, length, false}
use Rattle.std.proofs.lemmas.Grind.{common_steps}
use Rattle.std.specs.Int.{w32}
use Rattle.rkyv_base.specs.Lemmas.Entry.{entry_element}
use Rattle.rkyv_base.specs.{Format, IsArchiveWord, IsElement, IsFormat, PairRepresents, ScalarRepresents, TextReads, ToBytesFails, WriteFailure, pair_format, scalar_format, scalar_spec, text_format, unsigned, written_as}
use Rattle.rkyv_base.specs.Lemmas.Numbers.{unsigned_codes}
use Rattle.rkyv_base.specs.Lemmas.Pairs.{pair_is_format}
use Rattle.rkyv_base.specs.Lemmas.Scalar.{scalar_element, scalar_is_format, scalar_laws}
use Rattle.rkyv_base.specs.Lemmas.Text.{text_element}
use Rattle.rkyv_base.specs.Lemmas.TextWriting.{text_is_format}
use Rattle.rkyv_base.specs.declared.errors.WriteError.{WriteError}
use Rattle.rkyv_base.specs.declared.writer.NoMemory.{NoMemory}
use Rattle.rkyv_table.specs.{HasCapacity, ListFails, TableRepresents, WritesOneWay, listed, table_format}
use Rattle.rkyv_collections.specs.{keyed, map_format}
use Rattle.rkyv_keys.specs.{text_calls}
use Rattle.rkyv_scan.specs.{HasherCall}
use Rattle.rkyv_table.proofs.ReadyOneWay.{pairs_one_way, scalars_one_way, texts_one_way}
use Rattle.rkyv_table.specs.Lemmas.TableSound.{table_is_format}
use Rattle.rkyv_dict.specs.{ArchiveFails, BuildErrorsAreOne, IsArchiveOf, MapTypes, Pairs, buckets_of, build_fails_in, built_in, write_error_text, hash, header_spec, is_allocation_failure, number_calls, number_parts, numbers, pair_spec, pairs_format, text_parts, texts, word_of}
use Rattle.rkyv_dict.specs.declared.form.ArchiveWidth.{ArchiveWidth}
use Rattle.rkyv_dict.specs.declared.form.Kind.{Kind}
use Rattle.rkyv_dict.specs.declared.form.Kind.TheVariants.{Num, Text}
use Rattle.rkyv_dict.proofs.CauseEnds.{IsErrorText, error_text_exclusive, error_text_unique, text_of_cause}
use Rattle.rkyv_dict.proofs.Ends.{Ends, IsKnown, Run, serialization}
use Rattle.rkyv_dict.proofs.FormatEnds.{EndsOneWay, pairs_end, scalars_end, texts_end}
use Rattle.rkyv_dict.proofs.Once.{is_word}
use Rattle.rkyv_dict.proofs.PairTableEnds.{tables_end}
use Rattle.rkyv_dict.proofs.RootEnds.{root_ends, root_run}

-- a build has one error, except for allocation failures, and none if it succeeds
record ErrorsAreOne (fails : WriteError NoMemory → Type 0) (builds : List ℕ → Type 0) : Type 0 where
  pub causes : (c d : WriteError NoMemory) → fails c → fails d → is_allocation_failure c ≡ false → is_allocation_failure d ≡ false → write_error_text c ≡ write_error_text d
  pub built : (b : List ℕ) (c : WriteError NoMemory) → builds b → fails c → is_allocation_failure c ≡ false → ⊥

module _ {X R : Type 0} (most : ℕ) (factor : ℕ × ℕ) (f : Format (List X) R) (rule : EndsOneWay f) (xs : List X) (p : ℕ) where
  list_error_unique : (c d : WriteFailure) → IsKnown c → IsKnown d → ListFails most factor (length xs) c → ListFails most factor (length xs) d → c ≡ d
  list_error_unique c d k l x y = grind (arith, common_steps)

  list_error_exclusive : (c : WriteFailure) → IsKnown c → ListFails most factor (length xs) c → HasCapacity (length xs) factor most → ⊥
  list_error_exclusive c k x h = grind (arith, common_steps)

  listed_ends : Ends (serialization (listed most factor f) xs p)
  listed_ends = let ends = rule.ends xs p in grind (arith, common_steps, list_error_unique, list_error_exclusive)

listed_end : {X R : Type 0} (most : ℕ) (factor : ℕ × ℕ) (f : Format (List X) R) → EndsOneWay f → EndsOneWay (listed most factor f)
listed_end most factor f rule = record { ends = listed_ends most factor f rule }

written_as_end : {X V R : Type 0} (model_of : X → V) (f : Format V R) → EndsOneWay f → EndsOneWay (written_as model_of f)
written_as_end model_of f rule = record { ends = λ x. rule.ends (model_of x) }

module _ (k : MapTypes) (word : IsArchiveWord k.word) (part : IsElement k.spec) {A R : Type 0} (factor : ℕ × ℕ) (most : ℕ) (format : Format A R) (calls : A → List HasherCall)
    (one : WritesOneWay format) (ends : EndsOneWay format) (represents : List ℕ → ℕ → A → Type 0) (law : IsFormat k.spec represents format) where
  pairs_law : IsFormat (pair_spec k) (PairRepresents k.spec k.spec represents represents) (pair_format k.spec k.spec format format)
  pairs_law = pair_is_format k.spec k.spec part part represents represents format format law law

  table_law : IsFormat (header_spec k) (TableRepresents k.word (pair_spec k) (PairRepresents k.spec k.spec represents represents) factor) (table_format k.word (pair_spec k) (pair_format k.spec k.spec format format) factor)
  table_law = table_is_format k.word word (pair_spec k) (entry_element k.spec k.spec part part) (PairRepresents k.spec k.spec represents represents) (pair_format k.spec k.spec format format) pairs_law factor

  map_end : EndsOneWay (pairs_format k factor most format calls)
  map_end =
      listed_end most factor (map_format k.word k.spec k.spec format format (λ a. hash (calls a)) factor)
      (written_as_end (keyed (λ a. hash (calls a))) (table_format k.word (pair_spec k) (pair_format k.spec k.spec format format) factor)
      (tables_end k.word (pair_spec k) (pair_format k.spec k.spec format format) (pairs_one_way k.spec k.spec format format one one)
      (pairs_end k.spec k.spec format format ends ends) (record { size_exact = pairs_law.size_exact; exclusive = pairs_law.exclusive }) factor))

  abbrev build_run : List (A × A) → Run (Unit {0})
  build_run pairs = root_run (header_spec k) (pairs_format k factor most format calls) pairs 0

  build_ends : (pairs : List (A × A)) → Ends (build_run pairs)
  build_ends pairs =
      root_ends (header_spec k) (pairs_format k factor most format calls) map_end
      (record { size_exact = λ xs. table_law.size_exact (keyed (λ a. hash (calls a)) xs); exclusive = λ xs. table_law.exclusive (keyed (λ a. hash (calls a)) xs) }) pairs 0

  error_text_of : (pairs : List (A × A)) (c : WriteError NoMemory) → is_allocation_failure c ≡ false → ToBytesFails k.limit (header_spec k) (pairs_format k factor most format calls) pairs c
      → IsErrorText k.limit (build_run pairs).next (write_error_text c)
  error_text_of pairs c m x = text_of_cause k.limit (build_run pairs).next x.0 x.1.front x.1.kept c m x.1.cause

  map_errors : (pairs : List (A × A)) → ErrorsAreOne (ArchiveFails k factor most format calls pairs) (IsArchiveOf k factor most format calls represents pairs)
  unfolding ArchiveFails IsArchiveOf
  map_errors pairs = record {
    causes = λ c d x y m n. error_text_unique k.limit (build_run pairs) (build_ends pairs) (write_error_text c) (write_error_text d) (error_text_of pairs c m x) (error_text_of pairs d n y);
    built = λ b c x y m. error_text_exclusive k.limit (build_run pairs) (build_ends pairs) (write_error_text c) b (error_text_of pairs c m y) (length b - (header_spec k).size, x.2) x.0.within;
  }

errors_in : (kind : Kind) (bits : ArchiveWidth) (factor : ℕ × ℕ) (pairs : Pairs) → ErrorsAreOne (build_fails_in kind bits factor pairs) (built_in kind bits factor pairs)
errors_in Num bits factor (numbers pairs) =
    map_errors (number_parts bits) (is_word bits) (scalar_element (unsigned w32) (inr (inr (inl refl))) (unsigned_codes w32)) factor (buckets_of bits) (scalar_format (unsigned w32)) number_calls
    (scalars_one_way (unsigned w32)) (scalars_end (unsigned w32)) (ScalarRepresents (unsigned w32)) (scalar_is_format (scalar_spec (unsigned w32)) (unsigned w32) (scalar_laws (unsigned w32) (inr (inr (inl refl))))) pairs
errors_in Text bits factor (texts pairs) =
    map_errors (text_parts bits) (is_word bits) (text_element (word_of bits) (is_word bits)) factor (buckets_of bits) (text_format (word_of bits)) text_calls
    (texts_one_way (word_of bits) (is_word bits)) (texts_end (word_of bits) (is_word bits)) (TextReads (word_of bits)) (text_is_format (word_of bits) (is_word bits)) pairs
errors_in Num bits factor (texts pairs) = record { causes = λ c d x y m n. absurd x; built = λ b c x y m. absurd x }
errors_in Text bits factor (numbers pairs) = record { causes = λ c d x y m n. absurd x; built = λ b c x y m. absurd x }

pub build_errors_are_one : BuildErrorsAreOne
build_errors_are_one = record {
  causes = λ form factor pairs. (errors_in form.kind form.bits factor pairs).causes;
  built = λ form factor pairs. (errors_in form.kind form.bits factor pairs).built;
}
