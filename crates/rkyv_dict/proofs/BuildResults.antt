-- Native pairs have an archive, or their write fails with an error that isn't an allocation failure.
use Rattle.std.proofs.Common.{◌≡◌, ℕ, ◌<◌, ◌^◌, refl, sym, ap, subst, arith, inl, inr, false, List, [], ◌∷◌, length}
use Rattle.std.specs.Prelude.{◌⊎◌}
use Rattle.std.specs.Int.{Width, w32}
use Rattle.std.specs.List.{All}
use Rattle.std.specs.Str.{IsUtf8}
use Rattle.std.proofs.lemmas.List.{length-map}
use Rattle.std.proofs.lemmas.List.Elements.{All-head, All-tail}
use mir.Val.{bits}
use Rattle.rkyv_scan.specs.{HasherCall, low_halves}
use Rattle.rkyv_scan.specs.Lemmas.Numbers.{fx_fits}
use Rattle.rkyv_base.specs.declared.errors.WriteError.{WriteError}
use Rattle.rkyv_base.specs.declared.writer.NoMemory.{NoMemory}
use Rattle.rkyv_base.specs.{Format, IsArchiveWord, IsElement, IsFormat, IsSmall, ScalarRepresents, TextReads, pair_format, scalar_format, scalar_spec, text_format, text_spec, unsigned}
use Rattle.rkyv_base.specs.Lemmas.Numbers.{unsigned_codes}
use Rattle.rkyv_base.specs.Lemmas.Pairs.{pair_is_format}
use Rattle.rkyv_base.specs.Lemmas.Scalar.{scalar_element, scalar_is_format, scalar_laws}
use Rattle.rkyv_base.specs.Lemmas.Text.{text_element}
use Rattle.rkyv_base.specs.Lemmas.TextWriting.{text_is_format}
use Rattle.rkyv_keys.specs.{HashesAlike, text_calls}
use Rattle.rkyv_table.specs.{HasCapacity, capacity}
use Rattle.rkyv_table.specs.Lemmas.Listed.{listed-format}
use Rattle.rkyv_collections.specs.{keyed, map_format}
use Rattle.rkyv_collections.specs.Lemmas.MapLaws.{map_is_format}
use Rattle.rkyv_dict.specs.{ArchiveFails, BuildsHaveResult, IsArchiveOf, MapTypes, PairsRepresentAt, buckets_of, hash, header_spec, is_allocation_failure, limit_of, number_calls, number_parts, number_spec, numbers, pair_spec, pairs_format, text_parts, texts, word_of}
use Rattle.rkyv_dict.specs.declared.form.ArchiveWidth.{ArchiveWidth}
use Rattle.rkyv_dict.specs.declared.form.ArchiveWidth.TheVariants.{Bits32, Bits64}
use Rattle.rkyv_dict.proofs.Once.{header_element, is_word}
use Rattle.rkyv_dict.proofs.RootOutcomes.{listed_serialized, root_outcome}
use Rattle.rkyv_dict.proofs.TableOutcomes.{AllPlaceable, table_resolved, table_serialized}
use Rattle.rkyv_dict.proofs.WriteOutcomes.{IsWritable, pair_writable, scalar_writable, text_writable}

module _ (k : MapTypes) (word : IsArchiveWord k.word) (part : IsElement k.spec) (small : IsSmall k.spec k.spec) {A R : Type 0} (factor : ℕ × ℕ) (most : ℕ) (fits : most < 2 ^ bits k.word)
    (format : Format A R) (calls : A → List HasherCall) (represents : List ℕ → ℕ → A → Type 0) (law : IsFormat k.spec represents format)
    (alike : HashesAlike k.spec represents (λ b q. hash (k.calls b q)) (λ a. hash (calls a))) where
  -- the hash of a native key
  abbrev own : A → ℕ
  own a = hash (calls a)

  pairs_law : IsFormat (header_spec k) (PairsRepresentAt k factor represents) (pairs_format k factor most format calls)
  pairs_law =
      listed-format most factor (header_spec k) (PairsRepresentAt k factor represents) (map_format k.word k.spec k.spec format format own factor)
      (map_is_format k.spec k.spec part part k.word represents represents (λ b q. hash (k.calls b q)) factor own alike word format format law law)

  -- the key and the value of each pair are written
  abbrev pub AreWritable : List (A × A) → Type 0
  AreWritable = All (λ pair. IsWritable k.limit format pair.0 × IsWritable k.limit format pair.1)

  placeable : (pairs : List (A × A)) → AreWritable pairs → AllPlaceable (IsWritable k.limit (pair_format k.spec k.spec format format)) (keyed own pairs)
  placeable [] all = tt
  placeable (x ∷ xs) all =
      let both = All-head (λ pair. IsWritable k.limit format pair.0 × IsWritable k.limit format pair.1) x xs all in (
        fx_fits low_halves (calls x.0),
        pair_writable k.limit k.spec k.spec format format small x both.0 both.1,
        placeable xs (All-tail (λ pair. IsWritable k.limit format pair.0 × IsWritable k.limit format pair.1) x xs all),
      )

  map_result : (pairs : List (A × A)) → AreWritable pairs → ((b : List ℕ) × IsArchiveOf k factor most format calls represents pairs b)
      ⊎ ((c : WriteError NoMemory) × ArchiveFails k factor most format calls pairs c × (is_allocation_failure c ≡ false))
  unfolding IsArchiveOf ArchiveFails
  map_result pairs all =
      let sized = (pair_is_format k.spec k.spec part part represents represents format format law law).size_exact in
      let items = pair_format k.spec k.spec format format in
      let list = keyed own pairs in
      let count : length list ≡ length pairs = length-map pairs (λ pair. (own pair.0, pair)) in
      root_outcome k.limit (header_spec k) (header_element k word part) (PairsRepresentAt k factor represents) (pairs_format k factor most format calls) pairs_law pairs
      (listed_serialized k.limit most factor (map_format k.word k.spec k.spec format format own factor) pairs
      (λ (has : HasCapacity (length pairs) factor most).
      table_serialized k.limit k.word word (pair_spec k) items sized factor list (subst (λ n. capacity n factor < 2 ^ bits k.word) (sym count) (omega (arith, has.1, fits))) (placeable pairs all)))
      (table_resolved k.limit k.word word (pair_spec k) items sized factor list)

buckets_fit : (width : ArchiveWidth) → buckets_of width < 2 ^ bits (word_of width)
buckets_fit Bits32 = omega arith
buckets_fit Bits64 = omega arith

numbers_small : IsSmall number_spec number_spec
numbers_small = omega arith

texts_small : (width : ArchiveWidth) → IsSmall (text_spec (word_of width)) (text_spec (word_of width))
texts_small Bits32 = omega arith
texts_small Bits64 = omega arith

numbers_writable : (limit : ℕ) (pairs : List (ℕ × ℕ)) → All (λ pair. (pair.0 < 2 ^ 32) × (pair.1 < 2 ^ 32)) pairs
    → All (λ pair. IsWritable limit (scalar_format (unsigned w32)) pair.0 × IsWritable limit (scalar_format (unsigned w32)) pair.1) pairs
numbers_writable limit pairs native k d below =
    let h = native k d below in
    (scalar_writable limit (unsigned w32) _ h.0 tt refl, scalar_writable limit (unsigned w32) _ h.1 tt refl)

texts_writable : (limit : ℕ) (w : Width) (pairs : List (List ℕ × List ℕ)) → All (λ pair. IsUtf8 pair.0 × IsUtf8 pair.1) pairs
    → All (λ pair. IsWritable limit (text_format w) pair.0 × IsWritable limit (text_format w) pair.1) pairs
texts_writable limit w pairs native k d below =
    let h = native k d below in
    (text_writable limit w _ h.0, text_writable limit w _ h.1)

pub builds_have_result : BuildsHaveResult
builds_have_result width factor (numbers pairs) native =
    map_result (number_parts width) (is_word width) (scalar_element (unsigned w32) (inr (inr (inl refl))) (unsigned_codes w32)) numbers_small factor (buckets_of width) (buckets_fit width)
    (scalar_format (unsigned w32)) number_calls (ScalarRepresents (unsigned w32)) (scalar_is_format (scalar_spec (unsigned w32)) (unsigned w32) (scalar_laws (unsigned w32) (inr (inr (inl refl)))))
    (λ a b q valid there. ap (λ n. hash (number_calls n)) (sym there)) pairs
    (numbers_writable (limit_of width) pairs native)
builds_have_result width factor (texts pairs) native =
    map_result (text_parts width) (is_word width) (text_element (word_of width) (is_word width)) (texts_small width) factor (buckets_of width) (buckets_fit width)
    (text_format (word_of width)) text_calls (TextReads (word_of width)) (text_is_format (word_of width) (is_word width))
    (λ a b q valid there. ap (λ t. hash (text_calls t)) (sym there)) pairs
    (texts_writable (limit_of width) (word_of width) pairs native)
