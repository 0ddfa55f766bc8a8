-- An archive of pairs depends on their bytes only.
use Rattle.std.proofs.Common.{◌≡◌, ℕ, refl, ap, sym, subst, inl, inr, List, [], ◌∷◌, map, length, Result, Ok, Err, MatchResult, arith}
use Rattle.std.specs.Borrow.{Bor}
use Rattle.std.proofs.lemmas.List.{length-map}
use Rattle.std.proofs.lemmas.Option.{slice_get-map}
use Rattle.rkyv_scan.specs.{HasherCall}
use Rattle.rkyv_base.specs.{Format, RootNext, Step, TextReads, fresh, pair_format, text_format, written_as}
use Rattle.rkyv_base.specs.declared.pairs.EntryResolver.{EntryResolver}
use Rattle.rkyv_base.specs.declared.errors.WriteError.{WriteError}
use Rattle.rkyv_base.specs.Lemmas.Writing.{fails_under}
use Rattle.rkyv_keys.specs.{text_calls}
use Rattle.rkyv_table.specs.{HasCapacity, ListFails, PairsNext, TableParts, TableResolver}
use Rattle.rkyv_table.proofs.Lists.{option_map_some}
use Rattle.rkyv_collections.specs.{keyed}
use Rattle.rkyv_collections.proofs.MappedItems.{mapped_pairs, mapped_pairs_next, mapped_table}
use Rattle.rkyv_dict.specs.{ArchiveFails, BuildFails, IsArchiveOf, IsBuilt, MapTypes, PairsRepresentAt, buckets_of, form_of_pairs, hash, header_spec, pair_spec, pairs_format, root, text_pair, text_parts, texts, word_of}
use Rattle.rkyv_dict.specs.declared.form.ArchiveWidth.{ArchiveWidth}

module _ {A B : Type 0} (model_of : A → B) where
  abbrev pub both : A × A → B × B
  both pair = (model_of pair.0, model_of pair.1)

  keyed_models : (own : B → ℕ) (pairs : List (A × A)) → mapped_pairs both (keyed (λ a. own (model_of a)) pairs) ≡ keyed own (map both pairs)
  keyed_models own [] = refl
  keyed_models own (x ∷ xs) = ap (λ (t : List (ℕ × (B × B))). (own (model_of x.0), both x) ∷ t) (keyed_models own xs)

  module _ (k : MapTypes) (represents : List ℕ → ℕ → B → Type 0) (factor : ℕ × ℕ) where
    abbrev RepresentsModel : List ℕ → ℕ → A → Type 0
    RepresentsModel b p a = represents b p (model_of a)

    represents_models : (b : List ℕ) (p : ℕ) (pairs : List (A × A)) → PairsRepresentAt k factor RepresentsModel b p pairs → PairsRepresentAt k factor represents b p (map both pairs)
    represents_models b p pairs h = grind (arith, length-map, option_map_some, slice_get-map)

    module _ {R : Type 0} (most : ℕ) (format : Format B R) (calls : B → List HasherCall) (pairs : List (A × A)) where
      abbrev Before : Format (List (A × A)) TableResolver
      Before = pairs_format k factor most (written_as model_of format) (λ a. calls (model_of a))

      abbrev After : Format (List (B × B)) TableResolver
      After = pairs_format k factor most format calls

      same_keyed : mapped_pairs both (keyed (λ a. hash (calls (model_of a))) pairs) ≡ keyed (λ b. hash (calls b)) (map both pairs)
      same_keyed = keyed_models (λ b. hash (calls b)) pairs

      abbrev items : Format (B × B) (EntryResolver R R)
      items = pair_format k.spec k.spec format format

      count_models : length pairs ≡ length (map both pairs)
      count_models = sym (length-map pairs both)

      cap_models : HasCapacity (length pairs) factor most → HasCapacity (length (map both pairs)) factor most
      cap_models h = subst (λ n. HasCapacity n factor most) count_models h

      parts_models : (p : ℕ) (part : List ℕ) (r : TableResolver) → Before.parts pairs p part r → After.parts (map both pairs) p part r
      parts_models p part r h = (
        cap_models h.0,
        subst (λ ps. TableParts k.word (pair_spec k) items factor ps p part r) same_keyed
            (mapped_table both items k.word (pair_spec k) factor (keyed (λ a. hash (calls (model_of a))) pairs) p part r h.1),
      )

      next_models : (p : ℕ) (front : List ℕ) (step : Step) → Before.next pairs p front step → After.next (map both pairs) p front step
      next_models p front step (inl h) = inl (h.0, subst (λ n. ListFails most factor n h.0) count_models h.1, h.2)
      next_models p front step (inr h) = inr (
        cap_models h.0,
        subst (λ ps. PairsNext k.word (pair_spec k) items factor ps p front step) same_keyed
            (mapped_pairs_next both items k.word (pair_spec k) factor (keyed (λ a. hash (calls (model_of a))) pairs) p front step h.1),
      )

      pub archive_models : (b : List ℕ) → IsArchiveOf k factor most (written_as model_of format) (λ a. calls (model_of a)) RepresentsModel pairs b → IsArchiveOf k factor most format calls represents (map both pairs) b
      unfolding IsArchiveOf
      archive_models b (accepted, there, (part, r, out, parts, image, at, is)) =
          (accepted, represents_models b (root k b) pairs there, (part, r, out, parts_models 0 part r parts, image, at, is))

      root_next : (p : ℕ) (front : List ℕ) (step : Step) → RootNext (header_spec k) Before pairs p front step → RootNext (header_spec k) After (map both pairs) p front step
      root_next p front step (inl h) = inl h
      root_next p front step (inr (inl h)) = inr (inl (next_models p front step h))
      root_next p front step (inr (inr (inl h))) = inr (inr (inl (h.0, parts_models p front h.0 h.1, h.2)))
      root_next p front step (inr (inr (inr h))) = inr (inr (inr (h.0, h.1, parts_models p h.0 h.1 h.2, h.3, h.4)))

      pub failure_models : {F : Type 0} (e : WriteError F) → ArchiveFails k factor most (written_as model_of format) (λ a. calls (model_of a)) pairs e → ArchiveFails k factor most format calls (map both pairs) e
      unfolding ArchiveFails
      failure_models e h = (
        h.0,
        fails_under k.limit (RootNext (header_spec k) After (map both pairs) 0) (RootNext (header_spec k) Before pairs 0) fresh h.0 e (λ front step n. root_next 0 front step n) h.1,
      )

      pub result_models : {F V : Type 0} (items_of : V → List ℕ) (result : Result V (WriteError F))
          → MatchResult result (λ v. IsArchiveOf k factor most (written_as model_of format) (λ a. calls (model_of a)) RepresentsModel pairs (items_of v)) (ArchiveFails k factor most (written_as model_of format) (λ a. calls (model_of a)) pairs)
          → MatchResult result (λ v. IsArchiveOf k factor most format calls represents (map both pairs) (items_of v)) (ArchiveFails k factor most format calls (map both pairs))
      result_models items_of (Ok v) h = archive_models (items_of v) h
      result_models items_of (Err e) h = failure_models e h

-- an archive of borrowed texts
pub texts_built : {F V : Type 0} (items_of : V → List ℕ) (bits : ArchiveWidth) (factor : ℕ × ℕ) (pairs : List (Bor (List ℕ) × Bor (List ℕ))) (result : Result V (WriteError F))
    → MatchResult result
    (λ v. IsArchiveOf (text_parts bits) factor (buckets_of bits) (written_as (λ t. t.now) (text_format (word_of bits))) (λ t. text_calls t.now) (λ b p t. TextReads (word_of bits) b p t.now) pairs (items_of v))
    (ArchiveFails (text_parts bits) factor (buckets_of bits) (written_as (λ t. t.now) (text_format (word_of bits))) (λ t. text_calls t.now) pairs)
    → MatchResult result (λ v. IsBuilt (form_of_pairs bits (texts (map text_pair pairs))) factor (texts (map text_pair pairs)) (items_of v)) (BuildFails (form_of_pairs bits (texts (map text_pair pairs))) factor (texts (map text_pair pairs)))
texts_built items_of bits factor pairs result h =
    result_models (λ t. t.now) (text_parts bits) (TextReads (word_of bits)) factor (buckets_of bits) (text_format (word_of bits)) text_calls pairs items_of result h
