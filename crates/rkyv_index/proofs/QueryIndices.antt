-- A lookup by a comparison with the keys that fit is a lookup of a query.
use Rattle.rkyv_base.specs.declared.element.HasSpec.{Ghosts as Specs}
use Rattle.rkyv_base.specs.declared.width.Word.{Ghosts as Words}
use Rattle.std.proofs.Common.{◌≡◌, ℕ, ◌<◌, ◌^◌, Bool, List, Option, refl, subst, sym}
use Rattle.rkyv_scan.specs.{Hasher, HasherCall, hash_of_calls}
use Rattle.rkyv_base.specs.{bytes_of, pos_of}
use Rattle.rkyv_base.specs.declared.view.View.{View}
use Rattle.rkyv_keys.specs.{Comparison, IsQuery, hash_at, hash_of, query_of}
use Rattle.rkyv_index.specs.{FindsTheOne, GetsBy, GetsKey, fits_at, index_len, index_of, index_part}
use Rattle.rkyv_index.specs.declared.map.ArchivedIndexMap.{ArchivedIndexMap}
use Rattle.rkyv_index.proofs.Completeness.{finds_the_one}
use Rattle.rkyv_index.proofs.Queries.{compares_fits, query_under_hash}

module _ {K V H W Q State : Type 0} {ks : Specs K} {vs : Specs V} {wt : Words W} (m : ArchivedIndexMap K V H W ks vs wt)
    (hasher : Hasher State) (same : Comparison) (key_calls : List ℕ → ℕ → List HasherCall) (calls : Q → List HasherCall) (fits : Q → List ℕ → ℕ → Bool)
    (query : IsQuery ks.spec same key_calls calls fits) (q : Q) (small : hash_of_calls hasher (calls q) < 2 ^ 64)
    (post : View K → Bool → Type 0) (returns_fits : (key : View K) (r : Bool) → post key r → r ≡ fits q (bytes_of key) (pos_of key)) (result : Option ℕ) where
  pub query_index : GetsBy index_part m (record { hash = hash_of hasher calls q; key_hash = hash_at hasher key_calls }) post result → GetsKey index_part m (query_of hasher key_calls same (calls q) (fits q)) result
  query_index got =
      let accept = fits_at (index_of m) (fits q) in
      let compares = compares_fits m (fits q) post returns_fits in
      let found = got.finds accept compares in
      record {
        walked = got.walked;
        finds = found;
        first = got.first accept compares (query_under_hash m hasher same key_calls calls fits query q);
        complete = λ none. (
          result,
          subst (FindsTheOne (index_len m) accept) (sym found)
              (finds_the_one (index_of m) wt.kind ks.laws vs.laws hasher same key_calls calls fits query m.valid q small none),
          refl,
        );
      }
