-- Queries of the keys of an index map.
use Rattle.rkyv_base.specs.declared.element.HasSpec.{Ghosts as Specs}
use Rattle.rkyv_base.specs.declared.width.Word.{Ghosts as Words}
use Rattle.std.proofs.Common.{◌≡◌, ◌∙◌, ℕ, ap, sym, Bool, List}
use Rattle.rkyv_scan.specs.{Hasher, HasherCall, hash_of_calls}
use Rattle.rkyv_base.specs.{ValidAt, bytes_of, entry_spec, pos_of}
use Rattle.rkyv_base.specs.Lemmas.Entry.{entry_element}
use Rattle.rkyv_keys.specs.{Comparison, IsQuery, hash_at}
use Rattle.rkyv_keys.specs.Lemmas.OfEntries.{valid_key}
use Rattle.rkyv_base.specs.declared.view.View.{View}
use Rattle.rkyv_index.specs.{AreUnderHash, ComparesKeysBy, fits_at, index_archive, index_bytes, index_of, index_pos, key_pos}
use Rattle.rkyv_index.specs.declared.map.ArchivedIndexMap.{ArchivedIndexMap}
use Rattle.rkyv_index.proofs.Checking.{view_at}
use Rattle.rkyv_index.proofs.ValidIndexMap.{entry_viewable}

module _ {K V H W : Type 0} {ks : Specs K} {vs : Specs V} {wt : Words W} (m : ArchivedIndexMap K V H W ks vs wt) where
  -- a query accepts only keys under its own hash
  pub query_under_hash : {Q : Type 0} {State : Type 0} (hasher : Hasher State) (same : Comparison) (key_calls : List ℕ → ℕ → List HasherCall) (calls : Q → List HasherCall) (fits : Q → List ℕ → ℕ → Bool)
      → IsQuery ks.spec same key_calls calls fits → (q : Q)
      → AreUnderHash (index_of m) (hash_of_calls hasher (calls q)) (hash_at hasher key_calls) (fits_at (index_of m) (fits q))
  query_under_hash hasher same key_calls calls fits query q i below accepted =
      let b = index_bytes m in
      let p = key_pos m i in
      let there = entry_viewable wt.word wt.kind (entry_spec ks.spec vs.spec) (entry_element ks.spec vs.spec ks.laws vs.laws) b (index_pos m) m.valid i below in
      let valid : ValidAt ks.spec b p = valid_key ks.laws vs.laws b p there.valid in
      ap (hash_of_calls hasher) (sym (query.same_calls q b p valid accepted))

  -- a comparison by a query depends only on the index of a key
  pub compares_fits : (fits : List ℕ → ℕ → Bool) (post : View K → Bool → Type 0) → ((key : View K) (r : Bool) → post key r → r ≡ fits (bytes_of key) (pos_of key))
      → ComparesKeysBy (index_of m) post (fits_at (index_of m) fits)
  compares_fits fits post returns_fits i key r is returned = returns_fits key r returned ∙ view_at key (index_archive m) (key_pos m i) is.at fits
