-- From a lookup in the map that is read to one in the map at the seal.
use Rattle.rkyv_base.specs.declared.element.HasSpec.{Ghosts as Specs}
use Rattle.rkyv_base.specs.declared.width.Word.{Ghosts as Words}
use Rattle.std.proofs.Common.{ap, arith, ◌≡◌, ◌∙◌, ℕ, sym, subst, Bool, List, None, Option, Some}
use Rattle.std.proofs.lemmas.Grind.{common_steps}
use Rattle.std.proofs.lemmas.Option.{IfSome_then}
use Rattle.std.specs.Borrow.{Bor}
use Rattle.std.specs.Int.{Width}
use Rattle.std.specs.Prelude.{IfSome}
use Rattle.rkyv_base.specs.{ElementSpec, IsElement, Viewable, entry_spec, pos_of, pos_of_found}
use Rattle.rkyv_base.specs.Lemmas.Entry.{entry_element, viewable_key, viewable_value}
use Rattle.rkyv_base.specs.declared.view.View.{View}
use Rattle.rkyv_table.proofs.ValidTable.{item_viewable}
use Rattle.rkyv_table.proofs.Moved.{moved}
use Rattle.rkyv_table.proofs.SealedTable.{value_kept}
use Rattle.rkyv_base.specs.declared.entry.Entry.{Entry}
use Rattle.rkyv_collections.specs.{AreUnderHashAt, ComparesKeysBy, ComparesKeysByAt, FindsBy, FindsFirstBy, FindsFirstKey, FindsFirstKeyAt, FindsKey, FindsKeyAt, FindsOneKey, FindsOneKeyAt, FoundByHasAt, FoundKeyHasAt, IsAcceptedKey, IsEntryIn, IsKeyAt, IsKeyIn, IsKeyPosAt, IsPairPos, IsValueIn, IsViewAt, MapAt, map_at, map_bytes, map_pos, map_spec}
use Rattle.rkyv_keys.specs.{KeyLookup, LookupHashes}
use Rattle.rkyv_collections.specs.declared.map.ArchivedHashMap.{ArchivedHashMap}

module _ (w : Width) (k v : ElementSpec) (kl : IsElement k) (vl : IsElement v) (b : List ℕ) (p : ℕ) (view : Viewable (map_spec w k v) b p) where
  -- an entry is valid at the position of a key
  pub entry_viewable : (q : ℕ) → IsKeyPosAt w k v b p q → Viewable (entry_spec k v) b q
  entry_viewable q at = subst (Viewable (entry_spec k v) b) (sym at.2) (item_viewable w (entry_spec k v) (entry_element k v kl vl) b p view at.0 at.1)

  -- the pair is one whose value may be written
  pub pair_pos : (q : ℕ) (at : IsKeyPosAt w k v b p q) → IsPairPos w k v b p at.0 q
  pair_pos q at =
      let entry = entry_viewable q at in
      record {
        walked = at.1;
        pos = at.2;
        key = viewable_key k v kl vl b q entry;
        value = viewable_value k v kl vl b q entry;
        kept = λ c sealed keeps. value_kept w k v kl vl b p at.0 view at.1 c sealed keeps;
      }

  -- the pair of the found key
  pub found_key_pos : (found : Option ℕ) (q : ℕ) → found ≡ Some q → IfSome found (IsKeyPosAt w k v b p) → (i : ℕ) × IsPairPos w k v b p i q
  found_key_pos found q is walked =
      let at = subst (λ (o : Option ℕ). IfSome o (IsKeyPosAt w k v b p)) is walked in
      (at.0, pair_pos q at)

  pub found_entry : (found : Option ℕ) (q : ℕ) → found ≡ Some q → IfSome found (IsKeyPosAt w k v b p) → Viewable (entry_spec k v) b q
  found_entry found q is walked = entry_viewable q (subst (λ (o : Option ℕ). IfSome o (IsKeyPosAt w k v b p)) is walked)

-- a property of a found value, by its position
found_pos_satisfies : {E : Type 0} (P : View E → Type 0) (Q : ℕ → Type 0) → ((x : View E) → P x → Q (pos_of x)) → (result : Option (View E)) (pos : Option ℕ) → IsViewAt result pos → IfSome result P → IfSome pos Q
found_pos_satisfies P Q implies found pos at h = grind (arith, common_steps)

-- the map that is read has these bytes and this position
module _ {K V H W : Type 0} {ks : Specs K} {vs : Specs V} {wt : Words W} (m : ArchivedHashMap K V H W ks vs wt) (b : List ℕ) (p : ℕ) (bytes : map_bytes m ≡ b) (same_pos : map_pos m ≡ p) where
  pub as_read : (F : List ℕ → ℕ → Type 0) → F (map_bytes m) (map_pos m) → F b p
  as_read F x = moved F (map_bytes m) b (map_pos m) p bytes same_pos x

  module _ where
    key_at : (key : View K) → IsKeyIn m key → IsKeyAt wt.word ks.spec vs.spec b p key
    key_at key is = grind (arith, common_steps)

    compares_read : (post : View K → Bool → Type 0) (accept : ℕ → Bool) → ComparesKeysByAt wt.word ks.spec vs.spec b p post accept → ComparesKeysBy m post accept
    compares_read post accept compares key r is compared = compares key r (key_at key is) compared

    -- a found entry has its key in the map, and a found value is behind a key
    pub entry_read : (result : Option (View (Entry K V))) (pos : Option ℕ) → IsViewAt result pos → IfSome result (IsEntryIn m) → IfSome pos (IsKeyPosAt wt.word ks.spec vs.spec b p)
    entry_read result pos at found = grind (arith, common_steps, found_pos_satisfies, as_read)

    -- a found value is valid in the bytes
    pub value_viewable : (result : Option (View V)) (pos : Option ℕ) → pos ≡ pos_of_found result → IfSome result (IsValueIn m) → IfSome pos (Viewable vs.spec b)
    value_viewable None pos e found = subst (λ o. IfSome o (Viewable vs.spec b)) (sym e) tt
    value_viewable (Some value) pos e found = subst (λ o. IfSome o (Viewable vs.spec b)) (sym e) (subst (λ c. Viewable vs.spec c value.pos) (ap (λ (a : Bor (List ℕ)). a.now) found.at.0 ∙ bytes) found.viewable)

    -- the property of a lookup in the map that is read, for its bytes and its position
    module _ (Fact Implied : Option ℕ → Type 0) (implies : (found : Option ℕ) → Fact found → Implied found) where
      pub key_read : (hash : ℕ) (fits : List ℕ → ℕ → Bool) → FindsKey m hash (fits (map_bytes m)) Fact → FindsKeyAt wt.word ks.spec vs.spec b p hash (fits b) Implied
      key_read hash fits found = implies _ (as_read (λ c q. FindsKeyAt wt.word ks.spec vs.spec c q hash (fits c) Fact) found)

      pub first_key_read : (key_hash : List ℕ → ℕ → ℕ) (fits : List ℕ → ℕ → Bool) → FindsFirstKey m key_hash (fits (map_bytes m)) Fact → FindsFirstKeyAt wt.word ks.spec vs.spec b p key_hash (fits b) Implied
      first_key_read key_hash fits found = λ homes written. implies _ (as_read (λ c q. FindsFirstKeyAt wt.word ks.spec vs.spec c q key_hash (fits c) Fact) found homes written)

      pub found_by_read : (hashes : LookupHashes) (post : View K → Bool → Type 0) → ((key_pos : Option ℕ) × Fact key_pos × IfSome key_pos (IsAcceptedKey m post)) → FindsBy m post hashes.hash Fact → FindsFirstBy m post hashes.hash hashes.key_hash Fact
          → FoundByHasAt (map_at wt ks vs b p) hashes post Implied
      found_by_read hashes post accepted finds first = record {
        accepted = (accepted.0, implies accepted.0 accepted.1, IfSome_then accepted.0 accepted.2 (λ q a. (a.0, key_at a.0 a.1, a.2, a.3)));
        finds = λ accept compares. key_read hashes.hash (λ c. accept) (finds accept (compares_read post accept compares));
        first = λ accept compares under.
            first_key_read hashes.key_hash (λ c. accept) (first accept (compares_read post accept compares) (moved (λ c q. AreUnderHashAt wt.word ks.spec vs.spec c q hashes.hash hashes.key_hash accept) b (map_bytes m) p (map_pos m) (sym bytes) (sym same_pos) under));
      }

      pub satisfies_read : (a : KeyLookup) → FindsKey m a.hash (a.fits (map_bytes m)) Fact → FindsFirstKey m a.key_hash (a.fits (map_bytes m)) Fact → FindsOneKey m a.key_hash a.same (a.fits (map_bytes m)) Fact → FoundKeyHasAt (map_at wt ks vs b p) a Implied
      satisfies_read a finds first complete = record {
        finds = key_read a.hash a.fits finds;
        first = first_key_read a.key_hash a.fits first;
        complete = λ none.
            let one = as_read (λ c q. FindsOneKeyAt wt.word ks.spec vs.spec c q a.key_hash a.same (a.fits c) Fact) complete none in
            (one.0, one.1, implies one.0 one.2);
      }

-- a property that follows from another of each position
pub satisfies_implied : (m : MapAt) (a : KeyLookup) (Fact Implied : Option ℕ → Type 0) → ((key_pos : Option ℕ) → Fact key_pos → Implied key_pos) → FoundKeyHasAt m a Fact → FoundKeyHasAt m a Implied
satisfies_implied m a Fact Implied implies t = record {
  finds = implies _ t.finds;
  first = λ homes written. implies _ (t.first homes written);
  complete = λ none. let one = t.complete none in (one.0, one.1, implies one.0 one.2);
}

pub satisfies_implied_by : {K : Type 0} (m : MapAt) (hashes : LookupHashes) (post : View K → Bool → Type 0) (Fact Implied : Option ℕ → Type 0) → ((key_pos : Option ℕ) → Fact key_pos → Implied key_pos)
    → FoundByHasAt m hashes post Fact → FoundByHasAt m hashes post Implied
satisfies_implied_by m hashes post Fact Implied implies t = record {
  accepted = (t.accepted.0, implies t.accepted.0 t.accepted.1, t.accepted.2);
  finds = λ accept compares. implies _ (t.finds accept compares);
  first = λ accept compares under homes written. implies _ (t.first accept compares under homes written);
}
