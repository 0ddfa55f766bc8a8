-- A query that matches a key of a written index map finds that key or one that is the same.
use Rattle.rkyv_base.specs.declared.element.HasSpec.{Ghosts as Specs}
use Rattle.rkyv_base.specs.declared.width.Word.{Ghosts as Words}
use Rattle.std.proofs.Common.{◌≡◌, ℕ, ◌<◌, ◌≤◌, ◌^◌, ◌∙◌, arith, inl, inr, refl, Bool, true, List, None, Option, Some}
use Rattle.std.proofs.lemmas.Grind.{common_steps}
use Rattle.std.specs.List.{find, range_with_len}
use Rattle.std.proofs.lemmas.Bool.{both_ways, cases_lt}
use Rattle.rkyv_scan.specs.{Hasher, HasherCall, hash_of_calls}
use Rattle.rkyv_base.specs.{ValidAt, entry_spec}
use Rattle.rkyv_base.specs.Lemmas.Entry.{entry_element}
use Rattle.rkyv_keys.specs.{Comparison, IsQuery, hash_at}
use Rattle.rkyv_keys.specs.Lemmas.OfEntries.{valid_key}
use Rattle.rkyv_table.proofs.Lists.{first_range}
use Rattle.rkyv_index.specs.{FindsSameKey, IsWritten, fits_at, index_bytes, index_found, index_len, index_of, index_pos, key_pos}
use Rattle.rkyv_index.specs.declared.map.ArchivedIndexMap.{ArchivedIndexMap}
use Rattle.rkyv_index.proofs.FirstListed.{none_each}
use Rattle.rkyv_index.proofs.Queries.{query_under_hash}
use Rattle.rkyv_index.proofs.ValidIndexMap.{entry_viewable}
use Rattle.rkyv_index.proofs.WrittenLookups.{first_index}

-- if an index of a range is accepted, the first accepted index is at most that one
first_up_to : (P : ℕ → Bool) (n i : ℕ) → i < n → P i ≡ true → (found : Option ℕ) → find P (range_with_len 0 n) ≡ found → (j : ℕ) × (found ≡ Some j) × (j ≤ i) × (P j ≡ true)
first_up_to P n i below ok None h = absurd (both_ways (P i) (none_each P n h i below) ok)
first_up_to P n i below ok (Some j) h = grind (arith, common_steps, first_range, cases_lt, both_ways)

module _ {K V H W Q State : Type 0} {ks : Specs K} {vs : Specs V} {wt : Words W} (m : ArchivedIndexMap K V H W ks vs wt)
    (hasher : Hasher State) (same : Comparison) (key_calls : List ℕ → ℕ → List HasherCall) (calls : Q → List HasherCall) (fits : Q → List ℕ → ℕ → Bool)
    (query : IsQuery ks.spec same key_calls calls fits) (q : Q) (small : hash_of_calls hasher (calls q) < 2 ^ 64) where
  abbrev accept : ℕ → Bool
  accept = fits_at (index_of m) (fits q)

  key_valid : (i : ℕ) → i < index_len m → ValidAt ks.spec (index_bytes m) (key_pos m i)
  key_valid i below =
      let s = entry_spec ks.spec vs.spec in
      valid_key ks.laws vs.laws (index_bytes m) (key_pos m i)
      (entry_viewable wt.word wt.kind s (entry_element ks.spec vs.spec ks.laws vs.laws) (index_bytes m) (index_pos m) m.valid i below).valid

  -- two keys that the query matches are the same
  matching_same : (i j : ℕ) → i < index_len m → j < index_len m → accept i ≡ true → accept j ≡ true → same (index_bytes m) (key_pos m i) (index_bytes m) (key_pos m j) ≡ true
  matching_same i j below there ok okay = grind (arith, common_steps, key_valid)

  pub finds_same_key : (homes : List ℕ) → IsWritten (index_of m) (hash_at hasher key_calls) homes → (i : ℕ) → i < index_len m → accept i ≡ true
      → FindsSameKey (index_of m) same i (index_found wt.word (index_bytes m) (index_pos m) (hash_of_calls hasher (calls q)) accept)
  finds_same_key homes written i below ok =
      let size = (entry_spec ks.spec vs.spec).size in
      let under = query_under_hash m hasher same key_calls calls fits query q in
      let first = first_index wt.word size (hash_at hasher key_calls) (index_bytes m) (index_pos m) homes written (hash_of_calls hasher (calls q)) accept under small in
      let f = first_up_to accept (index_len m) i below ok (find accept (range_with_len 0 (index_len m))) refl in
      let there : f.0 < index_len m = omega (arith, below, f.2) in
      record {
        index = f.0;
        not_after = f.2;
        at = first ∙ f.1;
        same = matching_same f.0 i there below f.3 ok;
        alone = λ distinct. elim (cases_lt f.0 i) [
          | inl lt ↦ absurd (both_ways (same (index_bytes m) (key_pos m f.0) (index_bytes m) (key_pos m i)) (distinct f.0 i lt below) (matching_same f.0 i there below f.3 ok))
          | inr le ↦ omega (arith, f.2, le)
        ];
      }
