-- From the value that a lookup finds in the index map that is read to its position in the archive.
use Rattle.rkyv_base.specs.declared.element.HasSpec.{Ghosts as Specs}
use Rattle.rkyv_base.specs.declared.width.Word.{Ghosts as Words}
use Rattle.std.proofs.Common.{◌≡◌, ℕ, ◌∙◌, Bool, None, Some, List, Option, ap, subst, sym, arith}
use Rattle.std.proofs.lemmas.Grind.{common_steps}
use Rattle.std.specs.Borrow.{Bor}
use Rattle.std.specs.Option.{option_map}
use Rattle.std.specs.Prelude.{IfSome}
use Rattle.rkyv_base.specs.{Viewable, pos_of_found}
use Rattle.rkyv_base.specs.declared.view.View.{View}
use Rattle.rkyv_keys.specs.{KeyLookup, LookupHashes}
use Rattle.rkyv_index.specs.{FoundByHas, FoundKeyHas, FoundValueByHas, FoundValueHas, GetsBy, GetsKey, Index, IsIndex, IsStored, IsValueOf, MatchesAt, index_bytes, index_over, index_pos, value_part, value_pos_of}
use Rattle.rkyv_index.specs.declared.map.ArchivedIndexMap.{ArchivedIndexMap}
use Rattle.rkyv_index.proofs.SealedIndex.{as_read, found_by_read, found_key_read}

module _ {K : Type 0} {m : Index K} where
  -- a property that follows from another of each index
  pub found_implied : {a : KeyLookup} {Fact Implied : Option ℕ → Type 0} → ((index : Option ℕ) → Fact index → Implied index) → FoundKeyHas m a Fact → FoundKeyHas m a Implied
  found_implied implies t = grind arith

  pub found_by_implied : {hashes : LookupHashes} {post : View K → Bool → Type 0} {Fact Implied : Option ℕ → Type 0} → ((index : Option ℕ) → Fact index → Implied index) → FoundByHas m hashes post Fact → FoundByHas m hashes post Implied
  found_by_implied implies t = grind arith

  module _ {P : Option ℕ → Type 0} {found : Option ℕ} (at : P found) where
    -- a property of the index that a lookup returns is one of the index that it finds
    pub found_at : {a : KeyLookup} → FoundKeyHas m a (IsIndex found) → FoundKeyHas m a P
    found_at t = found_implied (λ index is. subst P is at) t

    pub found_by_at : {hashes : LookupHashes} {post : View K → Bool → Type 0} → FoundByHas m hashes post (IsIndex found) → FoundByHas m hashes post P
    found_by_at t = grind arith

-- the bytes of a view are the bytes of the reference that it was made from
pub bytes_read : {X : Type 0} {v w : View X} {a : Bor (List ℕ)} → v ≡ w → w.archive ≡ a → v.archive.now ≡ a.now
bytes_read e at = ap (λ v. v.archive.now) e ∙ ap (λ a. a.now) at

-- the index map that is read has the bytes `b` and the position `p`
module _ {K V H W : Type 0} {ks : Specs K} {vs : Specs V} {wt : Words W} (m : ArchivedIndexMap K V H W ks vs wt) (b : List ℕ) (p : ℕ) (bytes : index_bytes m ≡ b) (pos : index_pos m ≡ p) where
  -- the position of a found value
  value_at_index : (r : Option (View V)) (index : Option ℕ) → MatchesAt (IsValueOf m) r index → pos_of_found r ≡ option_map (value_pos_of (index_over wt ks vs b p)) index
  value_at_index r None at = ap pos_of_found at
  value_at_index r (Some i) at = grind (arith, common_steps, as_read)

  pub value_found : (a : KeyLookup) (r : Option (View V)) (found : Option ℕ) → found ≡ pos_of_found r → GetsKey value_part m a r → FoundValueHas (index_over wt ks vs b p) a (λ q. found ≡ q)
  value_found a r found e got = found_implied (λ index at. e ∙ value_at_index r index at) (found_key_read m b p bytes pos value_part got)

  pub value_found_by : (hashes : LookupHashes) (post : View K → Bool → Type 0) (r : Option (View V)) (found : Option ℕ) → found ≡ pos_of_found r
      → GetsBy value_part m hashes post r → FoundValueByHas (index_over wt ks vs b p) hashes post (λ q. found ≡ q)
  value_found_by hashes post r found e got = found_by_implied (λ index at. e ∙ value_at_index r index at) (found_by_read m b p bytes pos value_part got)

  -- a found value is valid
  pub value_viewable : (r : Option (View V)) (found : Option ℕ) → found ≡ pos_of_found r → IfSome r (λ x. (i : ℕ) × IsStored m i × IsValueOf m i x) → IfSome found (λ q. Viewable vs.spec b q)
  value_viewable None found e walked = subst (λ o. IfSome o (λ q. Viewable vs.spec b q)) (sym e) tt
  value_viewable (Some x) found e walked = grind arith
