-- Writes of all values of a map in place, one after the other.
use Rattle.std.proofs.Common.{◌≡◌, ℕ, ◌+◌, ◌≤◌, inl, sym, subst, subst₂, arith, List, [], ◌∷◌, map}
use Rattle.std.specs.Borrow.{MutBor}
use Rattle.std.specs.Int.{Width}
use Rattle.rkyv_base.specs.{ElementSpec, IsElement, ModifiesOnly, StaysValid, ValidAt, Viewable, entry_spec, value_pos, whole_size}
use Rattle.rkyv_base.specs.declared.seal.Seal.{Seal}
use Rattle.rkyv_base.specs.Lemmas.Bytes.{agree_on_part}
use Rattle.rkyv_base.specs.Lemmas.Entry.{entry_element, key_and_value_inside, same_key, same_value, size_of_small, viewable_key, viewable_value}
use Rattle.rkyv_base.proofs.Sealing.{entry_kept, same_outside, sealed_wider}
use Rattle.rkyv_keys.specs.{HashLocal}
use Rattle.rkyv_table.specs.{IsWalked, KeepsItems, KeepsSeals, SameValue, SealedBy, WritesInTurn, WritesOnce, cap_at, cursor_buckets_left, cursor_bytes, item_at, item_positions, table_controls, walk}
use Rattle.rkyv_table.specs.declared.table.raw_iter_seal.RawIterSeal.{RawIterSeal}
use Rattle.rkyv_table.proofs.EachInTurn.{each_once, items_kept, same_twice}
use Rattle.rkyv_table.proofs.EachItem.{positions_left, sealed_keeps}
use Rattle.rkyv_table.proofs.SameLookups.{pos_found_same}
use Rattle.rkyv_table.proofs.ValidTable.{item_viewable}
use Rattle.rkyv_collections.specs.{KeepsKeys, MapAt, WritesEachValue, entry_at, key_positions_at, map_spec}
use Rattle.rkyv_collections.proofs.NewValues.{written_again}

-- writes at positions that are computed from others
pub turns_mapped : (f : ℕ → ℕ) (Writes : List ℕ → ℕ → List ℕ → Type 0) (qs : List ℕ) (b c : List ℕ) → WritesInTurn (λ x q y. Writes x (f q) y) qs b c → WritesInTurn Writes (map f qs) b c
turns_mapped f Writes [] b c h = h
turns_mapped f Writes (q ∷ qs) b c h = (h.0, h.1, turns_mapped f Writes qs h.0 c h.2)

module _ (k v : ElementSpec) (kl : IsElement k) (vl : IsElement v) where
  abbrev S : ElementSpec
  S = entry_spec k v

  -- an unchanged entry has an unchanged key and an unchanged value
  key_of_entry : (b c : List ℕ) (q : ℕ) → ValidAt S b q → SameValue S b c q → SameValue k b c q
  key_of_entry b c q valid same =
      let e = valid.1 in
      let x = kl.rest_in_range b q 0 q e.1 (omega arith) e.2 in
      let y = vl.rest_in_range b (value_pos k v q) e.1 q valid.0 x.1 e.3 in
      record {
        fixed = same_key k v kl vl b c q e.0 same.fixed;
        parts = λ l h.
            let one : l ≡ e.1 = kl.rest_unique b q 0 q l e.1 h e.2 in
            agree_on_part b c 0 valid.0 0 l (omega arith) (omega (arith, one, y.0)) (omega arith) (same.parts valid.0 e);
      }

  value_of_entry : (b c : List ℕ) (q : ℕ) → ValidAt S b q → SameValue S b c q → SameValue v b c (value_pos k v q)
  value_of_entry b c q valid same =
      let e = valid.1 in
      let at : ℕ = value_pos k v q in
      let x = kl.rest_in_range b q 0 q e.1 (omega arith) e.2 in
      let y = vl.rest_in_range b at e.1 q valid.0 x.1 e.3 in
      let low : (l' : ℕ) × v.is_valid b at 0 q l' × (l' ≤ valid.0) = vl.lower_lo b at e.1 0 q valid.0 (omega arith) x.1 e.3 in
      record {
        fixed = same_value k v kl vl b c q e.0 same.fixed;
        parts = λ l h.
            let one : l ≡ low.0 = vl.rest_unique b at 0 at l low.0 h (vl.widen_hi b at 0 q at low.0 (omega arith) low.1) in
            agree_on_part b c 0 valid.0 0 l (omega arith) (omega (arith, one, low.2)) (omega arith) (same.parts valid.0 e);
      }

  -- a write of only the value is one of the entry, and keeps the key
  module _ (b c : List ℕ) (q : ℕ) (view : Viewable S b q) (sealed : ModifiesOnly b (value_pos k v q) v.size c) (keeps : StaysValid v b c (value_pos k v q)) where
    pub entry_keeps : ModifiesOnly b q S.size c × StaysValid S b c q
    entry_keeps =
        let small = size_of_small (whole_size k v) view.valid.1.0 in
        let inside = key_and_value_inside k v in
        (sealed_wider b c (value_pos k v q) v.size q S.size (omega arith) (omega (arith, small, inside.1)) sealed, entry_kept k v kl vl b c q sealed keeps)

    own_key : SameValue k b c q
    own_key =
        let inside = key_and_value_inside k v in
        record {
          fixed = same_outside b (value_pos k v q) v.size c sealed q (q + k.size) (omega arith) (inl (omega (arith, inside.0)));
          parts = λ l h.
              let m : (0 ≤ l) × (l ≤ q) = kl.rest_in_range b q 0 q l (omega arith) h in
              same_outside b (value_pos k v q) v.size c sealed 0 l (omega arith) (inl (omega (arith, m.1)));
        }

  module _ {F V : Type 0} (post : F → MutBor (Seal V) → Unit {0} → MutBor (Seal V) → Type 0) (write : F) (keeps : KeepsSeals post v write) where
    -- the value behind the key at `q` is written
    abbrev pub ValueBehind : List ℕ → ℕ → List ℕ → Type 0
    ValueBehind b q c = SealedBy post write tt b (value_pos k v q) c

    own_value : (b : List ℕ) (q : ℕ) (c : List ℕ) → Viewable S b q → ValueBehind b q c → ModifiesOnly b (value_pos k v q) v.size c × StaysValid v b c (value_pos k v q)
    own_value b q c view one = sealed_keeps post v write b c (value_pos k v q) keeps (viewable_value k v kl vl b q view) one

    pub own_entry : (b : List ℕ) (q : ℕ) (c : List ℕ) → Viewable S b q → ValueBehind b q c → ModifiesOnly b q S.size c × StaysValid S b c q
    own_entry b q c view one = let o = own_value b q c view one in entry_keeps b c q view o.0 o.1

    module _ (w : Width) (p : ℕ) (b c : List ℕ) (view : Viewable (map_spec w k v) b p) (turns : WritesInTurn ValueBehind (key_positions_at w k v b p) b c) where
      abbrev at : ℕ → ℕ
      at i = entry_at w k v b p i

      abbrev law : IsElement S
      law = entry_element k v kl vl

      entry_once : (i : ℕ) → IsWalked w b p i → WritesOnce S ValueBehind b (at i) c
      entry_once = each_once w S law p ValueBehind own_entry b c view turns

      entry_viewable : (i : ℕ) → IsWalked w b p i → Viewable S b (at i)
      entry_viewable i there = item_viewable w S law b p view i there

      -- the entry is valid after its write
      valid_after : (i : ℕ) (there : IsWalked w b p i) → ValidAt S (entry_once i there).after (at i)
      valid_after i there =
          let o = entry_once i there in
          (o.viewable.valid.0, (own_entry o.before (at i) o.after o.viewable o.writes).1 0 (at i) o.viewable.valid.0 (omega arith) (omega arith) o.viewable.valid.1)

      value_once : (i : ℕ) → IsWalked w b p i → WritesOnce v (SealedBy post write tt) b (value_pos k v (at i)) c
      value_once i there =
          let o = entry_once i there in
          record {
            before = o.before;
            after = o.after;
            first = value_of_entry b o.before (at i) (entry_viewable i there).valid o.first;
            viewable = viewable_value k v kl vl o.before (at i) o.viewable;
            writes = o.writes;
            last = value_of_entry o.after c (at i) (valid_after i there) o.last;
          }

      key_stays : (i : ℕ) → IsWalked w b p i → SameValue k b c (at i)
      key_stays i there =
          let o = entry_once i there in
          let n = own_value o.before (at i) o.after o.viewable o.writes in
          same_twice k kl b o.before c (at i) (key_of_entry b o.before (at i) (entry_viewable i there).valid o.first)
          (same_twice k kl o.before o.after c (at i) (own_key o.before o.after (at i) o.viewable n.0 n.1) (key_of_entry o.after c (at i) (valid_after i there) o.last))

      table : KeepsItems w S b c p
      table = items_kept w S law p ValueBehind own_entry b c view turns

      abbrev m : MapAt
      m = record { word = w; key = k; value = v; bytes = b; pos = p }

      pub values_once : WritesEachValue m (SealedBy post write tt) c
      values_once = value_once

      module _ (key_hash : List ℕ → ℕ → ℕ) (local : HashLocal k key_hash) where
        hash_stays : (i : ℕ) → IsWalked w b p i → key_hash c (at i) ≡ key_hash b (at i)
        hash_stays i there =
            let view_key = viewable_key k v kl vl b (at i) (entry_viewable i there) in
            let same = key_stays i there in
            sym (local b c (at i) 0 (at i) view_key.valid.0 (omega arith) view_key.valid.1 same.fixed (same.parts view_key.valid.0 view_key.valid.1))

        pub keys_kept : KeepsKeys m key_hash c
        keys_kept = record {
          table = table;
          keys = key_stays;
          hashes = hash_stays;
          lookups = λ hash fits small rests.
              pos_found_same w b c p table.header table.controls S law view hash small (fits c) (fits b)
              (λ j full. rests b c (at j) (viewable_key k v kl vl b (at j) (entry_viewable j full)).valid (key_stays j full));
          written = λ homes written.
              written_again w S key_hash b c p table.lookups.pos hash_stays homes written
              (table.lookups.written (map (key_hash b) (map (item_at w S.size b p) homes)) homes written);
        }

-- all turns are taken at the end of a cursor that began with all items
pub all_turned : {T : Type 0} (Writes : List ℕ → ℕ → List ℕ → Type 0) (w : Width) (s : ElementSpec) (p : ℕ) (first rest : RawIterSeal T) (b c : List ℕ) → cursor_bytes first ≡ b
    → cursor_buckets_left w p first ≡ walk (table_controls w b p) (cap_at w b p) → cursor_buckets_left w p rest ≡ [] → c ≡ cursor_bytes rest
    → ((z : List ℕ) → WritesInTurn Writes (positions_left w s p rest) (cursor_bytes rest) z → WritesInTurn Writes (positions_left w s p first) (cursor_bytes first) z)
    → WritesInTurn Writes (item_positions w s.size b p) b c
all_turned Writes w s p first rest b c begins all none ends turns =
    let done : WritesInTurn Writes (positions_left w s p rest) (cursor_bytes rest) c = subst (λ (bs : List ℕ). WritesInTurn Writes (map (item_at w s.size (cursor_bytes rest) p) bs) (cursor_bytes rest) c) (sym none) ends in
    let P = λ (d : List ℕ) (bs : List ℕ). WritesInTurn Writes (map (item_at w s.size d p) bs) d c in
    subst₂ P begins all (turns c done)
