-- A write of one value in place keeps the map. In the list that the map represents,
-- only that value changes.
use Rattle.std.proofs.Common.{◌≡◌, ℕ, ◌<◌, ◌^◌, ◌∙◌, inl, inr, sym, ap, subst, arith, Bool, List, map, Some, slice_index}
use Rattle.std.specs.Prelude.{slice_get, slice_set}
use Rattle.std.specs.Int.{Width}
use Rattle.std.proofs.lemmas.Bool.{cases_eq}
use Rattle.rkyv_scan.specs.{generic_kind}
use Rattle.rkyv_base.specs.Lemmas.Bytes.{agree_on_part}
use Rattle.rkyv_base.specs.{ElementSpec, IsElement, ModifiesOnly, RepresentsLocally, StaysValid, Viewable, entry_spec, value_pos}
use Rattle.rkyv_base.specs.Lemmas.Entry.{entry_element, same_key, viewable_key}
use Rattle.rkyv_base.specs.Lemmas.Pairs.{pair_local}
use Rattle.rkyv_base.proofs.Sealing.{viewable_kept}
use Rattle.rkyv_keys.specs.{HashLocal, RestsOnKeys}
use Rattle.rkyv_table.specs.{IsWalked, KeepsTable, RestsOnKey, RestsOnParts, SameValue, WritesValue, home_positions, item_at, pos_found}
use Rattle.rkyv_table.proofs.SameLookups.{pos_found_same}
use Rattle.rkyv_table.proofs.ValidTable.{item_viewable}
use Rattle.rkyv_table.proofs.SealedTable.{item_stays, value_kept, written_kept}
use Rattle.rkyv_collections.specs.{IsKeyPosAt, KeepsMap, KeepsMapAt, MapRepresents, MapWrittenAt, entry_at, map_spec}
use Rattle.rkyv_collections.proofs.NewValues.{home, new_value_represents, own_pos, own_walked, written_again}

module _ (k v : ElementSpec) (kl : IsElement k) (vl : IsElement v) where
  -- an unchanged entry has an unchanged key
  key_of_entry : (b c : List ℕ) (q : ℕ) → Viewable (entry_spec k v) b q → SameValue (entry_spec k v) b c q → SameValue k b c q
  key_of_entry b c q view same =
      let e = view.valid.1 in
      let y = vl.rest_in_range b (value_pos k v q) e.1 q view.valid.0 ((kl.rest_in_range b q 0 q e.1 (omega arith) e.2).1) e.3 in
      record {
        fixed = same_key k v kl vl b c q e.0 same.fixed;
        parts = λ l h.
            let one : l ≡ e.1 = kl.rest_unique b q 0 q l e.1 h e.2 in
            agree_on_part b c 0 view.valid.0 0 l (omega arith) (omega (arith, one, y.0)) (omega arith) (same.parts view.valid.0 e);
      }

  -- an unchanged key has the same hash
  hash_same : (key_hash : List ℕ → ℕ → ℕ) → HashLocal k key_hash → (b c : List ℕ) (q : ℕ) → Viewable k b q → SameValue k b c q → key_hash c q ≡ key_hash b q
  hash_same key_hash local b c q view same =
      sym (local b c q 0 q view.valid.0 (omega arith) view.valid.1 same.fixed (same.parts view.valid.0 view.valid.1))

  module _ (w : Width) (key_hash : List ℕ → ℕ → ℕ) (local : HashLocal k key_hash) (b c : List ℕ) (p i : ℕ) (view : Viewable (map_spec w k v) b p) (walked : IsWalked w b p i)
      (writes : WritesValue k v b c (entry_at w k v b p i)) where
    abbrev S : ElementSpec
    S = entry_spec k v

    abbrev law : IsElement S
    law = entry_element k v kl vl

    kept : KeepsTable w S b c p i × SameValue k b c (item_at w S.size b p i)
    kept = value_kept w k v kl vl b p i view walked c writes.sealed writes.keeps

    entry_viewable : (j : ℕ) → IsWalked w b p j → Viewable S b (item_at w S.size b p j)
    entry_viewable j there = item_viewable w S law b p view j there

    key_same : (j : ℕ) → IsWalked w b p j → SameValue k b c (item_at w S.size b p j)
    key_same j there = elim (cases_eq j i) [
      | inl e ↦ subst (λ n. SameValue k b c (item_at w S.size b p n)) (sym e) kept.1
      | inr ne ↦ key_of_entry b c (item_at w S.size b p j) (entry_viewable j there) (kept.0.others j there ne)
    ]

    hash_there : (j : ℕ) → IsWalked w b p j → key_hash c (item_at w S.size b p j) ≡ key_hash b (item_at w S.size b p j)
    hash_there j there = hash_same key_hash local b c (item_at w S.size b p j) (viewable_key k v kl vl b (item_at w S.size b p j) (entry_viewable j there)) (key_same j there)

    pos_same : (j : ℕ) → item_at w S.size c p j ≡ item_at w S.size b p j
    pos_same = item_stays w S b c p i kept.0

    lookup_same : (hash : ℕ) (fits : List ℕ → ℕ → Bool) → hash < 2 ^ 64 → RestsOnKey k fits
        → pos_found generic_kind w S.size c p hash (fits c) ≡ pos_found generic_kind w S.size b p hash (fits b)
    lookup_same hash fits small rests =
        pos_found_same w b c p kept.0.header kept.0.controls S law view hash small (fits c) (fits b)
        (λ j full. rests b c (item_at w S.size b p j) (viewable_key k v kl vl b (item_at w S.size b p j) (entry_viewable j full)).valid (key_same j full))

    written_same : (homes : List ℕ) → MapWrittenAt w S key_hash b p homes → MapWrittenAt w S key_hash c p homes
    written_same homes written =
        written_again w S key_hash b c p pos_same hash_there homes written
        (written_kept w S b c p i kept.0 (map (key_hash b) (home_positions w S.size b p homes)) homes written)

    pub map_kept : KeepsMap w k v key_hash b c p i
    map_kept = record {
      table = kept.0;
      valid = viewable_kept (map_spec w k v) b c p writes.sealed.same_length kept.0.is_valid view;
      positions = pos_same;
      keys = key_same;
      hashes = hash_there;
      lookups = lookup_same;
      written = written_same;
    }

-- a comparison that depends only on the keys depends only on each key and its parts
pub rests_on_parts : {Q : Type 0} (k : ElementSpec) (fits : Q → List ℕ → ℕ → Bool) → RestsOnKeys k fits → (q : Q) → RestsOnParts k (fits q)
rests_on_parts k fits rests q b c p h = rests q b c p h.valid.lower h.valid.upper h.valid.rest h.valid.order h.valid.before h.valid.is_valid h.fixed h.parts

-- the same for a key at `q` and its value at `pos`
pub map_kept_at : (k v : ElementSpec) (kl : IsElement k) (vl : IsElement v) (w : Width) (key_hash : List ℕ → ℕ → ℕ) → HashLocal k key_hash → (b c : List ℕ) (p q pos : ℕ) → Viewable (map_spec w k v) b p
    → (at : IsKeyPosAt w k v b p q) → pos ≡ value_pos k v q → ModifiesOnly b pos v.size c → StaysValid v b c pos → KeepsMapAt w k v key_hash b c p pos
map_kept_at k v kl vl w key_hash local b c p q pos view at is sealed keeps =
    let there : pos ≡ value_pos k v (entry_at w k v b p at.0) = is ∙ ap (value_pos k v) at.2 in
    (at.0, at.1, there, map_kept k v kl vl w key_hash local b c p at.0 view at.1 (record { sealed = subst (λ n. ModifiesOnly b n v.size c) there sealed; keeps = subst (StaysValid v b c) there keeps }))

module _ (k v : ElementSpec) (kl : IsElement k) (vl : IsElement v) (w : Width) (key_hash : List ℕ → ℕ → ℕ) (local : HashLocal k key_hash) {A B : Type 0} (key : List ℕ → ℕ → A → Type 0) (value : List ℕ → ℕ → B → Type 0)
    (kn : RepresentsLocally k key) (vn : RepresentsLocally v value) (b c : List ℕ) (p n : ℕ) (factor : ℕ × ℕ) (pairs : List (A × B)) (pair : A × B) (new : B) (view : Viewable (map_spec w k v) b p)
    (st : MapRepresents w k v key value key_hash factor b p pairs) (at_n : slice_get pairs n ≡ Some pair) where
  abbrev at : ℕ → ℕ
  at = item_at w (entry_spec k v).size b p

  abbrev key_pos : ℕ
  key_pos = slice_index (home_positions w (entry_spec k v).size b p st.homes) n

  entry_there : (j : ℕ) → IsWalked w b p j → Viewable (entry_spec k v) b (at j)
  entry_there j there = item_viewable w (entry_spec k v) (entry_element k v kl vl) b p view j there

  -- the written pair has the new value, and each other pair is unchanged
  pub written_value_represents : WritesValue k v b c key_pos → value c (value_pos k v key_pos) new → MapRepresents w k v key value key_hash factor c p (slice_set pairs n (pair.0, new))
  written_value_represents writes represents =
      let i = home w k v key value key_hash b c p n factor pairs pair new st at_n n in
      let there = own_walked w k v key value key_hash b c p n factor pairs pair new st at_n in
      let is = own_pos w k v key value key_hash b c p n factor pairs pair new st at_n in
      let kept = map_kept k v kl vl w key_hash local b c p i view there (subst (WritesValue k v b c) is writes) in
      let viewable = viewable_key k v kl vl b (at i) (entry_there i there) in
      let same = kept.keys i there in
      new_value_represents w k v key value key_hash b c p n factor pairs pair new st at_n kept.table.header kept.positions kept.written
      (λ before. (
        kn pair.0 b c (at i) 0 (at i) viewable.valid.0 (omega arith) viewable.valid.1 same.fixed (same.parts viewable.valid.0 viewable.valid.1) before,
        subst (λ z. value c (value_pos k v z) new) is represents,
      ))
      (λ j full ne x before.
      let entry = entry_there j full in
      let kept_entry = kept.table.others j full ne in
      pair_local k v kl vl key value kn vn x b c (at j) 0 (at j) entry.valid.0 (omega arith) entry.valid.1 kept_entry.fixed (kept_entry.parts entry.valid.0 entry.valid.1) before)
