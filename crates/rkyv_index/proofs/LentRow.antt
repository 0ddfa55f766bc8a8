-- Writing an index map of owned or borrowed items is writing an index map of the values.
use Rattle.std.proofs.Common.{◌≡◌, ℕ, ◌+◌, refl, ap, sym, subst, ◌∙◌, inl, inr, List, [], ◌∷◌, map, take, length, Some, Result, Ok, Err, MatchResult, arith, rules}
use Rattle.std.proofs.lemmas.Grind.{common_steps}
use Rattle.std.specs.Int.{Width}
use Rattle.std.specs.List.{take-map}
use Rattle.std.specs.Prelude.{slice_get}
use Rattle.std.proofs.lemmas.List.{length-map}
use Rattle.std.proofs.lemmas.Option.{slice_get-map}
use Rattle.std.specs.Option.{option_map}
use Rattle.rkyv_base.specs.declared.errors.WriteError.{WriteError}
use Rattle.rkyv_base.specs.declared.adapter.EntryAdapter.{EntryAdapter}
use Rattle.rkyv_base.specs.{ElementSpec, Encoding, Format, Output, SerializeFails, Serialized, Step, end_of, entry_spec, pair_format, pair_of, scalar_format, written_as}
use Rattle.rkyv_base.specs.Lemmas.Writing.{fails_under}
use Rattle.rkyv_table.specs.{HasCapacity, OwnCause, PairsNext, TableParts, TableResolver, WriteItemsFails, WroteItems, pair_values}
use Rattle.rkyv_index.specs.{Before, BeforeRow, BeforeZeros, IndexNext, IndexParts, IndexResolver, NoOther, OwnOrSerializeFails, RowImages, RowNext, RowParts, RowPartsNext, index_format, indices_from, pairs_of, row_format}
use Rattle.rkyv_table.proofs.Through.{own_counted}

module _ {X Y R : Type 0} (value_of : X → Y) (f : Format Y R) where
  abbrev F : Format X R
  F = written_as value_of f

  mapped_at : (xs : List X) (i : ℕ) (x : X) → slice_get xs i ≡ Some x → slice_get (map value_of xs) i ≡ Some (value_of x)
  mapped_at xs i x e = slice_get-map value_of xs i ∙ ap (option_map value_of) e

  mapped_parts : (xs : List X) (p : ℕ) (part : List ℕ) (rs : List R) → RowParts F xs p part rs → RowParts f (map value_of xs) p part rs
  mapped_parts [] p part rs h = h
  mapped_parts (x ∷ xs) p part rs h = (h.0, h.1, h.2, h.3, h.4, mapped_parts xs (p + length h.0) h.2 h.3 h.5, h.6, h.7)

  mapped_images : (xs : List X) (rs : List R) (p : ℕ) (out : List ℕ) → RowImages F xs rs p out → RowImages f (map value_of xs) rs p out
  mapped_images [] rs p out h = h
  mapped_images (x ∷ xs) rs p out h = (h.0, h.1, h.2, h.3, h.4, h.5, mapped_images xs h.1 (p + length h.2) h.3 h.6, h.7)

  front_parts : (xs : List X) (i p : ℕ) (part : List ℕ) (rs : List R) → RowParts F (take i xs) p part rs → RowParts f (take i (map value_of xs)) p part rs
  front_parts xs i p part rs h = subst (λ (t : List Y). RowParts f t p part rs) (sym (take-map value_of i xs)) (mapped_parts (take i xs) p part rs h)

  module _ (xs : List X) (p : ℕ) where
    parts_next : (front : List ℕ) (step : Step) → RowPartsNext F xs p front step → RowPartsNext f (map value_of xs) p front step
    parts_next front step h = (h.0, value_of h.1, h.2, h.3, h.4, mapped_at xs h.0 h.1 h.5, front_parts xs h.0 p h.2 h.3 h.6, h.7, h.8)

    module _ (rs : List R) where
      mapped_before : (i : ℕ) (x : X) (r : R) (front : List ℕ) → Before F xs rs p i x r front → Before f (map value_of xs) rs p i (value_of x) r front
      mapped_before i x r front h = record {
        value = mapped_at xs i x h.value;
        resolver = h.resolver;
        images = subst (λ (t : List Y). RowImages f t (take i rs) p front) (sym (take-map value_of i xs)) (mapped_images (take i xs) (take i rs) p front h.images);
      }

      row_next : (front : List ℕ) (step : Step) → RowNext F xs rs p front step → RowNext f (map value_of xs) rs p front step
      row_next front step h = (h.0, value_of h.1, h.2, mapped_before h.0 h.1 h.2 front h.3, h.4)

  module _ {P : Type 0} (w : Width) (ps : ElementSpec) (e : Encoding P) (s : ElementSpec) (hash : Y → ℕ) (factor : ℕ × ℕ) where
    abbrev own : X → ℕ
    own x = hash (value_of x)

    mapped_indices : (i : ℕ) (xs : List X) → indices_from own e.value i xs ≡ indices_from hash e.value i (map value_of xs)
    mapped_indices i [] = refl
    mapped_indices i (x ∷ xs) = ap (λ (l : List (ℕ × P)). (hash (value_of x), e.value i) ∷ l) (mapped_indices (i + 1) xs)

    module _ (xs : List X) (p : ℕ) where
      mapped_table : (part : List ℕ) (t : TableResolver) → TableParts w ps (scalar_format e) factor (indices_from own e.value 0 xs) p part t
          → TableParts w ps (scalar_format e) factor (indices_from hash e.value 0 (map value_of xs)) p part t
      mapped_table part t h = subst (λ (l : List (ℕ × P)). TableParts w ps (scalar_format e) factor l p part t) (mapped_indices 0 xs) h

      mapped_zeros : (front : List ℕ) (t : TableResolver) (rs : List R) → BeforeZeros w ps e s F own factor xs p front t rs → BeforeZeros w ps e s f hash factor (map value_of xs) p front t rs
      mapped_zeros front t rs h = grind (arith, common_steps, mapped_table h.table t h.serialized, mapped_parts xs (p + length h.table) h.part_bytes rs h.parts)

      mapped_front : (front : List ℕ) (t : TableResolver) (rs : List R) → BeforeRow w ps e s F own factor xs p front t rs → BeforeRow w ps e s f hash factor (map value_of xs) p front t rs
      mapped_front front t rs h = record { head = h.head; serialized = mapped_zeros h.head t rs h.serialized; is = h.is }

      mapped_whole : (part : List ℕ) (r : IndexResolver) → IndexParts w ps e s F own factor xs p part r → IndexParts w ps e s f hash factor (map value_of xs) p part r
      mapped_whole part r h = grind (arith, common_steps, mapped_front, mapped_images)

      mapped_next : (front : List ℕ) (step : Step) → IndexNext w ps e s F own factor xs p front step → IndexNext w ps e s f hash factor (map value_of xs) p front step
      mapped_next front step (inl h) = inl (subst (λ (l : List (ℕ × P)). PairsNext w ps (scalar_format e) factor l p front step) (mapped_indices 0 xs) h)
      mapped_next front step (inr (inl h)) = inr (inl (h.0, h.1, h.2, mapped_table h.0 h.1 h.3, parts_next xs (p + length h.0) h.2 step h.4, h.5))
      mapped_next front step (inr (inr (inl h))) = inr (inr (inl (h.0, h.1, mapped_zeros front h.0 h.1 h.2, h.3)))
      mapped_next front step (inr (inr (inr h))) = inr (inr (inr (h.0, h.1, h.2, h.3, mapped_front h.0 h.1 h.2 h.4, row_next xs (p + length h.0) h.2 h.3 step h.5, h.6)))

    module _ (xs : List X) (o o' : Output) (limit : ℕ) where
      pub mapped_serialized : (r : IndexResolver) → Serialized limit (row_format w ps e s F own factor) xs o o' r → Serialized limit (row_format w ps e s f hash factor) (map value_of xs) o o' r
      mapped_serialized r h = (h.0, h.1, mapped_whole xs (end_of o) h.0 r h.2, h.3)

      pub mapped_fails : {G : Type 0} (err : WriteError G) → SerializeFails limit (row_format w ps e s F own factor) xs o o' err → SerializeFails limit (row_format w ps e s f hash factor) (map value_of xs) o o' err
      mapped_fails err h = search (rules, fails_under, mapped_next)

-- the entries of borrowed pairs have the values of these pairs
pairs_lent : {BK BV A B : Type 0} (key : BK → A) (value : BV → B) (xs : List (EntryAdapter BK BV A B)) → map (pair_of key value) xs ≡ pair_values key value (pairs_of xs)
pairs_lent key value [] = refl
pairs_lent {A = A} {B = B} key value (x ∷ xs) = ap (λ (l : List (A × B)). (key x.key, value x.value) ∷ l) (pairs_lent key value xs)

module _ (G : Type 0) {BK BV A B P R Q : Type 0} (key : BK → A) (value : BV → B) (w : Width) (ps : ElementSpec) (e : Encoding P) (k v : ElementSpec) (kf : Format A R) (vf : Format B Q) (hash : A → ℕ) (factor : ℕ × ℕ)
    (yields : List (BK × BV) → Type 0) (other : ℕ → Type 0) (len max limit : ℕ) (has : HasCapacity len factor max) (entries : List (EntryAdapter BK BV A B)) (exactly : yields (pairs_of entries)) (count : length entries ≡ len) (o o' : Output) where
  abbrev Of : Format (List (A × B)) IndexResolver
  Of = index_format w ps e k v kf vf hash factor

  abbrev OfEntries : Format (List (EntryAdapter BK BV A B)) IndexResolver
  OfEntries = row_format w ps e (entry_spec k v) (written_as (pair_of key value) (pair_format k v kf vf)) (λ entry. hash (key entry.key)) factor

  pairs_count : length (pairs_of entries) ≡ len
  pairs_count = length-map {B = BK × BV} entries (λ entry. (entry.key, entry.value)) ∙ count

  pub items_result : (result : Result IndexResolver (WriteError G))
      → MatchResult result (Serialized limit OfEntries entries o o') (OwnOrSerializeFails (length entries) factor max NoOther limit OfEntries entries o o')
      → MatchResult result (WroteItems yields len factor max (written_as (pair_values key value) Of) o o' limit) (WriteItemsFails yields len factor max (written_as (pair_values key value) Of) o o' limit other)
  items_result (Ok r) h = grind (arith, common_steps, pairs_count, pairs_lent, mapped_serialized)
  items_result (Err err) (inl h) = inl (own_counted len factor max NoOther other (λ n z. absurd z) err (subst (λ n. OwnCause n factor max NoOther err) count h.0), h.1)
  items_result (Err err) (inr h) = inr (
    has,
    pairs_of entries,
    (exactly, pairs_count),
    subst (λ l. SerializeFails limit Of l o o' err) (pairs_lent key value entries) (mapped_fails (pair_of key value) (pair_format k v kf vf) w ps e (entry_spec k v) (λ pair. hash pair.0) factor entries o o' limit err h),
  )
