-- From the index that a lookup finds to the clauses on its result.
use Rattle.rkyv_base.specs.declared.element.HasSpec.{Ghosts as Specs}
use Rattle.rkyv_base.specs.declared.width.Word.{Ghosts as Words}
use Rattle.std.proofs.Common.{◌≡◌, ℕ, None, Some, Bool, Option, subst, sym, arith}
use Rattle.std.proofs.lemmas.Grind.{common_steps}
use Rattle.std.specs.Option.{is_some}
use Rattle.std.specs.Prelude.{IfSome}
use Rattle.rkyv_base.specs.declared.view.View.{View}
use Rattle.rkyv_keys.specs.{IsFoundAt, KeyLookup, LookupHashes}
use Rattle.rkyv_index.specs.{FoundKeyHas, GetsBy, GetsKey, IsFullKeyIn, IsStored, IsStoredIndex, MatchesAt, Part, full_index, full_key_index, full_key_part, full_part, index_of, index_part, part_at}
use Rattle.rkyv_index.specs.declared.map.ArchivedIndexMap.{ArchivedIndexMap}

-- `is_found` is `true` if and only if an index is found
pub some_at : (found index : Option ℕ) (is_found : Bool) → is_found ≡ is_some found → found ≡ index → IsFoundAt is_found index
some_at found index is_found e at = grind (arith, common_steps)

module _ {K V H W : Type 0} {ks : Specs K} {vs : Specs V} {wt : Words W} where
  -- the clauses on a found index are clauses on another result at it
  module _ {X : Type 0} (part : Part (ArchivedIndexMap K V H W ks vs wt) X) {m : ArchivedIndexMap K V H W ks vs wt} {found : Option ℕ} {result : Option X} where
    pub key_as : {a : KeyLookup} → GetsKey index_part m a found → IfSome result (part.In m) → part.At m result found → GetsKey part m a result
    key_as got walked at = grind arith

    pub by_as : {hashes : LookupHashes} {post : View K → Bool → Type 0} → GetsBy index_part m hashes post found → IfSome result (part.In m) → part.At m result found → GetsBy part m hashes post result
    by_as got walked at = record {
      walked = walked;
      accepted = (got.accepted.0, subst (part.At m result) got.accepted.1 at, got.accepted.2);
      finds = λ accept compares. subst (part.At m result) (got.finds accept compares) at;
      first = λ accept compares alone homes written. subst (part.At m result) (got.first accept compares alone homes written) at;
    }

  -- the clauses on a pair with its index are clauses on the key with its index
  module _ {m : ArchivedIndexMap K V H W ks vs wt} {found : Option (ℕ × View K × View V)} {result : Option (ℕ × View K)} where
    pub key_of_full : {a : KeyLookup} → GetsKey full_part m a found → IfSome result (IsFullKeyIn m) → ((index : Option ℕ) → full_index found ≡ index → full_key_index result ≡ index) → GetsKey full_key_part m a result
    key_of_full got walked at = record {
      walked = walked;
      finds = at _ got.finds;
      first = λ homes written. at _ (got.first homes written);
      complete = λ none. let one = got.complete none in (one.0, one.1, at _ one.2);
    }

  -- a result at a found index is at an index in a full bucket
  module _ {X : Type 0} (Related : ArchivedIndexMap K V H W ks vs wt → ℕ → X → Type 0) where
    part_is_stored : (m : ArchivedIndexMap K V H W ks vs wt) (found : Option ℕ) (result : Option X) → IfSome found (IsStoredIndex m) → MatchesAt (Related m) result found → IfSome result (λ x. (i : ℕ) × IsStored m i × Related m i x)
    part_is_stored m None result walked at = subst (λ r. IfSome r (λ x. (i : ℕ) × IsStored m i × Related m i x)) (sym at) tt
    part_is_stored m (Some i) result walked at = subst (λ r. IfSome r (λ x. (j : ℕ) × IsStored m j × Related m j x)) (sym at.1) (i, walked.0, at.2)

    module _ {m : ArchivedIndexMap K V H W ks vs wt} {found : Option ℕ} {result : Option X} where
      pub key_as_part : {a : KeyLookup} → GetsKey index_part m a found → MatchesAt (Related m) result found → GetsKey (part_at Related) m a result
      key_as_part got at = key_as (part_at Related) got (part_is_stored m found result got.walked at) at

      pub by_as_part : {hashes : LookupHashes} {post : View K → Bool → Type 0} → GetsBy index_part m hashes post found → MatchesAt (Related m) result found → GetsBy (part_at Related) m hashes post result
      by_as_part got at = by_as (part_at Related) got (part_is_stored m found result got.walked at) at

  -- the clauses on a found index are clauses on `is_found`
  pub contains_as_found : {m : ArchivedIndexMap K V H W ks vs wt} {a : KeyLookup} {found : Option ℕ} {is_found : Bool} → GetsKey index_part m a found → is_found ≡ is_some found → FoundKeyHas (index_of m) a (IsFoundAt is_found)
  contains_as_found {found = found} {is_found = is_found} got is = grind (arith, some_at)
