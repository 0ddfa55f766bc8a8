-- The result of writing exactly the values of a list, or the pairs of a std map.
use Rattle.std.proofs.Common.{◌≡◌, ℕ, sym, ap, ◌∙◌, Bool, List, length, map, Result, MatchResult, arith}
use Rattle.std.proofs.lemmas.Grind.{common_steps}
use Rattle.std.specs.Iterator.{Drains, YieldsFirstBy}
use Rattle.std.specs.List.{IsDistinct}
use Rattle.std.specs.Map.{keys_of}
use Rattle.rkyv_base.specs.{Format, Output, SerializeFails, Serialized, written_as}
use Rattle.rkyv_base.specs.declared.errors.WriteError.{WriteError}
use Rattle.rkyv_table.specs.{TableResolver, WriteItemsFails, WroteItems, YieldsOtherCount, listed}
use Rattle.rkyv_collections.specs.{of_entries}
use Rattle.rkyv_table.proofs.Listing.{all_came, no_other_came, results_listed}

-- An iterator over values, with their number. `view`: value of an item, `rest`: values that remain,
-- `whole`: the list that is written, which has as many items
module _ {I S V X F : Type 0} (view : I → V) (rest : S → List V) (whole : List V → List X) (same_length : (values : List V) → length (whole values) ≡ length values) (iter : S) (values : List V) (is : rest iter ≡ values)
    (len : ℕ) (count : len ≡ length values) (factor : ℕ × ℕ) (max limit : ℕ) (f : Format (List X) TableResolver) (o o' : Output) where
  pub writes_rest : (result : Result TableResolver (WriteError F))
      → MatchResult result (WroteItems (Drains (YieldsFirstBy view rest) iter) len factor max (written_as (λ items. whole (map view items)) f) o o' limit)
      (WriteItemsFails (Drains (YieldsFirstBy view rest) iter) len factor max (written_as (λ items. whole (map view items)) f) o o' limit (YieldsOtherCount (YieldsFirstBy view rest) len iter))
      → MatchResult result (Serialized limit (listed max factor f) (whole values) o o') (SerializeFails limit (listed max factor f) (whole values) o o')
  writes_rest result h =
      let steps = YieldsFirstBy view rest in
      results_listed (Drains steps iter) (YieldsOtherCount steps len iter) (λ items. whole (map view items)) (whole values)
      (λ items d. ap whole (all_came view rest items iter d ∙ is)) (λ n g. no_other_came view rest len iter (ap length is ∙ sym count) n g)
      len (count ∙ sym (same_length values)) factor max limit f o o' result h

-- the entries have distinct keys
pub writes_distinct : {K X R F : Type 0} (equal : K → K → Bool) (f : Format (List (K × X)) R) (es : List (K × X)) → IsDistinct equal (keys_of es) → (limit : ℕ) (o o' : Output) (result : Result R (WriteError F))
    → MatchResult result (Serialized limit f es o o') (SerializeFails limit f es o o')
    → MatchResult result (Serialized limit (of_entries equal f) es o o') (SerializeFails limit (of_entries equal f) es o o')
writes_distinct equal f es unique limit o o' result h = grind (arith, common_steps)
