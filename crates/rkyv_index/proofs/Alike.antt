-- Index maps whose keys feed no `usize` and no `isize`, under hashers that differ only in these.
use Rattle.std.proofs.Common.{◌≡◌, ℕ, ◌<◌, ◌∙◌, sym, ap, Bool, List, rules}
use Rattle.std.specs.Int.{Width}
use Rattle.std.specs.List.{find}
use Rattle.rkyv_scan.specs.{HasherCall, SizeWords, fx_hash}
use Rattle.rkyv_scan.specs.Lemmas.Numbers.{fx_fits}
use Rattle.rkyv_scan.proofs.HashLaws.{fixed_alike}
use Rattle.rkyv_base.specs.{ElementSpec, IsArchiveWord, IsElement, ValidAt, Viewable, entry_spec}
use Rattle.rkyv_base.specs.Lemmas.Entry.{entry_element}
use Rattle.rkyv_keys.specs.{Comparison, IsQuery, MakesFixedCalls, fx_hash_at}
use Rattle.rkyv_keys.specs.Lemmas.OfEntries.{valid_key}
use Rattle.rkyv_table.specs.{len_at}
use Rattle.rkyv_index.specs.{IndexWrittenAt, QueriedAlike, WrittenAlike, fits_in, index_found, index_spec, indices_of, pair_at}
use Rattle.rkyv_index.specs.Lemmas.IndexLocal.{written_again}
use Rattle.rkyv_index.proofs.ValidIndexMap.{entry_viewable}
use Rattle.rkyv_index.proofs.WrittenLookups.{first_index}

module _ (w : Width) (kind : IsArchiveWord w) (k v : ElementSpec) (kl : IsElement k) (vl : IsElement v) (key_calls : List ℕ → ℕ → List HasherCall) (fixed : MakesFixedCalls k key_calls) where
  -- the key at an index is valid
  key_there : (b : List ℕ) (p : ℕ) → Viewable (index_spec w (entry_spec k v)) b p → (i : ℕ) → i < len_at w b p → ValidAt k b (pair_at w k v b p i)
  key_there b p view i below = valid_key kl vl b (pair_at w k v b p i) (entry_viewable w kind (entry_spec k v) (entry_element k v kl vl) b p view i below).valid

  pub written_alike : WrittenAlike w k v key_calls
  written_alike one other b p homes view = search (rules, written_again, fixed_alike, key_there)

  -- under either hasher, a query finds the first index whose key it fits
  pub queried_alike : {Q : Type 0} (same : Comparison) (calls : Q → List HasherCall) (fits : Q → List ℕ → ℕ → Bool) → IsQuery k same key_calls calls fits
      → QueriedAlike w k v key_calls calls fits
  queried_alike same calls fits is one other b p homes view written query =
      first one written ∙ sym (first other (written_alike one other b p homes view written))
    where
      first : (sizes : SizeWords) → IndexWrittenAt w (entry_spec k v).size (fx_hash_at sizes key_calls) b p homes
          → index_found w b p (fx_hash sizes (calls query)) (fits_in w k v b p (fits query)) ≡ find (fits_in w k v b p (fits query)) (indices_of (len_at w b p))
      first sizes there =
          first_index w (entry_spec k v).size (fx_hash_at sizes key_calls) b p homes there (fx_hash sizes (calls query)) (fits_in w k v b p (fits query))
          (λ i below accepted. ap (fx_hash sizes) (sym (is.same_calls query b (pair_at w k v b p i) (key_there b p view i below) accepted)))
          (fx_fits sizes (calls query))
