-- A found item of a table of indices, and the index in it.
use Rattle.rkyv_base.specs.declared.element.HasSpec.{Ghosts as Specs}
use Rattle.rkyv_base.specs.declared.width.Word.{Ghosts as Words}
use Rattle.std.proofs.Common.{◌≡◌, ℕ, ◌∙◌, ap, refl, subst, sym, true, Bool, List, None, Option, Some, arith}
use Rattle.std.specs.Int.{Width}
use Rattle.std.specs.Option.{option_map}
use Rattle.std.specs.Prelude.{IfSome}
use Rattle.rkyv_scan.specs.{generic_kind}
use Rattle.rkyv_base.specs.{Encoding, IsAt, IsIndexEncoding, IsScalar, bytes_of, number_at, pos_of_found}
use Rattle.rkyv_base.specs.declared.view.View.{View}
use Rattle.rkyv_table.specs.{CountsStrides, FindsItem, IsItem}
use Rattle.rkyv_table.specs.declared.table.ArchivedHashTable.{ArchivedHashTable}
use Rattle.rkyv_index.specs.{GetsBy, IsAccepted, IsKeyOf, IsStoredIndex, index_archive, index_bytes, index_found, index_of, index_part, index_pos, stored_index}
use Rattle.rkyv_index.specs.declared.map.ArchivedIndexMap.{ArchivedIndexMap}
use Rattle.rkyv_index.proofs.Lookups.{finds_first_index, finds_index, item_index, item_stored, read_there}

-- a lookup by a comparison is one by each weaker condition on its results
pub finds_as : {P W : Type 0} {ts : Specs P} {wt : Words W} (A B : View P → Bool → Type 0) → ((h : View P) (r : Bool) → A h r → B h r) → (t : ArchivedHashTable P W ts wt) (hash : ℕ) (found : Option (View P))
    → FindsItem A generic_kind t hash found → FindsItem B generic_kind t hash found
finds_as A B weaker t hash found got = grind arith

-- it reads as many strides
pub counts_as : {P W : Type 0} {ts : Specs P} {wt : Words W} (A B : View P → Bool → Type 0) → ((h : View P) (r : Bool) → A h r → B h r) → (t : ArchivedHashTable P W ts wt) (hash before after : ℕ)
    → CountsStrides A generic_kind t hash before after → CountsStrides B generic_kind t hash before after
counts_as A B weaker t hash before after counts = record {
  bounded = counts.bounded;
  counted = λ accept compares. counts.counted accept (λ h r item a. compares h r item (weaker h r a));
}

module _ {K V H W P N : Type 0} {ks : Specs K} {vs : Specs V} {ts : Specs P} {wt : Words W} (m : ArchivedIndexMap K V H W ks vs wt) (e : Encoding N) (pk : IsScalar ts.spec e) (index : IsIndexEncoding wt.word e)
    (t : ArchivedHashTable P W ts wt) (at : IsAt t.view (index_archive m) (index_pos m)) where
  abbrev w : Width
  w = wt.word

  -- the index in a found item is the number at its position
  pub stored_index_found : (found : Option (View P)) → IfSome found (IsItem t)
      → option_map (stored_index w) found ≡ option_map (number_at w (index_bytes m)) (pos_of_found found)
  stored_index_found None item = refl
  stored_index_found (Some h) item = ap Some (ap (λ (x : List ℕ). number_at w x h.pos) (read_there m e pk index t at h item))

  -- a full bucket has the index, and it is below the length
  pub index_stored : (found : Option (View P)) → IfSome found (IsItem t) → IfSome (option_map (stored_index w) found) (IsStoredIndex m)
  index_stored None item = item
  index_stored (Some h) item = (item_stored m e pk index t at h item, (item_index m e pk index t at h item).1)

  -- the comparison accepted the key at the index in a found item
  pub index_accepted : (Post : View P → Bool → Type 0) (post' : View K → Bool → Type 0) (post_at_key : (h : View P) (r : Bool) → Post h r → (key : View K) × IsKeyOf m (number_at w (bytes_of h) h.pos) key × post' key r)
      (found : Option (View P)) → IfSome found (λ h. Post h true) → IfSome (option_map (stored_index w) found) (IsAccepted (index_of m) post')
  index_accepted Post post' post_at_key None is_accepted = is_accepted
  index_accepted Post post' post_at_key (Some h) is_accepted = post_at_key h true is_accepted

  -- the clauses of a lookup in the table are clauses on the index in its result
  module _ (key_hash : List ℕ → ℕ → ℕ) (Post : View P → Bool → Type 0) (post : View K → Bool → Type 0)
      (post_at_key : (h : View P) (r : Bool) → Post h r → (key : View K) × IsKeyOf m (number_at w (bytes_of h) h.pos) key × post key r) (hash query_hash : ℕ) (under : hash ≡ query_hash)
      (found : Option (View P)) (got : FindsItem Post generic_kind t hash found) (result : Option ℕ) (read : result ≡ option_map (number_at w (index_bytes m)) (pos_of_found found)) where
    found_there : result ≡ option_map (stored_index w) found
    found_there = read ∙ sym (stored_index_found found got.walked)

    pub gets_index : GetsBy index_part m (record { hash = query_hash; key_hash = key_hash }) post result
    gets_index = record {
      walked = subst (λ r. IfSome r (IsStoredIndex m)) (sym found_there) (index_stored found got.walked);
      accepted = (result, refl, subst (λ r. IfSome r (IsAccepted (index_of m) post)) (sym found_there) (index_accepted Post post post_at_key found got.accepted));
      finds = λ accept compares. read ∙ finds_index m e pk index t at Post post post_at_key found accept compares hash got.finds ∙ ap (λ n. index_found w (index_bytes m) (index_pos m) n accept) under;
      first = λ accept compares alone homes written.
          read ∙ finds_first_index m e pk index t at Post post post_at_key found accept compares hash key_hash (λ i below accepted. alone i below accepted ∙ sym under) got.first homes written;
    }
