-- From a lookup in the index map that is read to a lookup in the map at the seal.
use Rattle.rkyv_base.specs.declared.element.HasSpec.{Ghosts as Specs}
use Rattle.rkyv_base.specs.declared.width.Word.{Ghosts as Words}
use Rattle.std.proofs.Common.{◌≡◌, ℕ, ap, Bool, List, Option}
use Rattle.std.proofs.lemmas.Option.{IfSome_then}
use Rattle.std.specs.Borrow.{Bor}
use Rattle.rkyv_base.specs.declared.view.View.{View}
use Rattle.rkyv_keys.specs.{KeyLookup, LookupHashes}
use Rattle.rkyv_table.proofs.Moved.{moved}
use Rattle.rkyv_index.specs.{ComparesKeysBy, FoundByHas, FoundKeyHas, GetsBy, GetsKey, Index, IsKeyAt, IsKeyOf, Part, index_bytes, index_of, index_over, index_pos}
use Rattle.rkyv_index.specs.declared.map.ArchivedIndexMap.{ArchivedIndexMap}

module _ {K V H W : Type 0} {ks : Specs K} {vs : Specs V} {wt : Words W} (m : ArchivedIndexMap K V H W ks vs wt) where
  abbrev over : List ℕ → ℕ → Index K
  over = index_over wt ks vs

  -- a key of the map that is read is one in its bytes
  key_in_bytes : (i : ℕ) (key : View K) → IsKeyOf m i key → IsKeyAt wt.word ks.spec vs.spec (index_bytes m) (index_pos m) i key
  key_in_bytes i key is = record { below = is.below; bytes = ap (λ (archive : Bor (List ℕ)). archive.now) is.at.0; pos = is.at.1; viewable = is.viewable }

  compares_in_bytes : (post : View K → Bool → Type 0) (accept : ℕ → Bool) → ComparesKeysBy (over (index_bytes m) (index_pos m)) post accept → ComparesKeysBy (index_of m) post accept
  compares_in_bytes post accept compares i key r is = compares i key r (key_in_bytes i key is)

  -- the index map that is read has the bytes `b` and the position `p`
  module _ (b : List ℕ) (p : ℕ) (bytes : index_bytes m ≡ b) (pos : index_pos m ≡ p) where
    pub as_read : (F : List ℕ → ℕ → Type 0) → F (index_bytes m) (index_pos m) → F b p
    as_read F x = moved F (index_bytes m) b (index_pos m) p bytes pos x

    -- a property of the index that is found in one is one for the other
    module _ {X : Type 0} (part : Part (ArchivedIndexMap K V H W ks vs wt) X) {result : Option X} where
      pub found_key_read : {a : KeyLookup} → GetsKey part m a result → FoundKeyHas (over b p) a (part.At m result)
      found_key_read {a} got = as_read (λ d q. FoundKeyHas (over d q) a (part.At m result)) (record { finds = got.finds; first = got.first; complete = got.complete })

      pub found_by_read : {hashes : LookupHashes} {post : View K → Bool → Type 0} → GetsBy part m hashes post result → FoundByHas (over b p) hashes post (part.At m result)
      found_by_read {hashes} {post} got =
          let found = got.accepted in
          as_read (λ d q. FoundByHas (over d q) hashes post (part.At m result)) (record {
            accepted = (found.0, found.1, IfSome_then found.0 found.2 (λ i a. (a.0, key_in_bytes i a.0 a.1, a.2)));
            finds = λ accept compares. got.finds accept (compares_in_bytes post accept compares);
            first = λ accept compares. got.first accept (compares_in_bytes post accept compares);
          })
