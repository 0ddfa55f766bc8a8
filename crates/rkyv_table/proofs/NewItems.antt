-- After a write of one item, a table is one that was written from the list with the new item.
use Rattle.std.proofs.Common.{◌≡◌, ◌≢◌, ℕ, zero, suc, ◌<◌, ◌∙◌, refl, sym, ap, subst, arith, List, [], ◌∷◌, length, Some, slice_index, rules}
use Rattle.std.specs.Prelude.{slice_get, slice_set}
use Rattle.std.specs.Int.{Width}
use Rattle.std.proofs.lemmas.List.{length-map}
use Rattle.std.proofs.lemmas.Option.{none-some, same_Some, slice_get_within}
use Rattle.rkyv_base.specs.{ElementSpec, IsElement, ModifiesOnly, RepresentsLocally, StaysValid, Viewable}
use Rattle.rkyv_table.specs.{IsWalked, IsWrittenOf, KeepsTable, hashes_of, home_positions, item_at, items_of, table_spec}
use Rattle.rkyv_table.proofs.Lists.{set_each}
use Rattle.rkyv_table.proofs.ValidTable.{item_viewable}
use Rattle.rkyv_table.proofs.SealedTable.{item_stays, table_kept, written_kept}
use Rattle.rkyv_table.specs.Lemmas.Homes.{home_count, home_pos}
use Rattle.rkyv_table.proofs.WrittenTables.{home_walked, homes_differ}

-- the hashes are the hashes of the list before, and the items are its items with the new one
pub same_hashes : {X : Type 0} (pairs : List (ℕ × X)) (n hash : ℕ) (old new : X) → slice_get pairs n ≡ Some (hash, old) → hashes_of (slice_set pairs n (hash, new)) ≡ hashes_of pairs
same_hashes [] n hash old new e = absurd (none-some (hash, old) e)
same_hashes (x ∷ xs) zero hash old new e = ap (λ h. h ∷ hashes_of xs) (sym (ap (λ y. y.0) (same_Some x (hash, old) e)))
same_hashes (x ∷ xs) (suc n) hash old new e = ap (λ hs. x.0 ∷ hs) (same_hashes xs n hash old new e)

pub new_items : {X : Type 0} (pairs : List (ℕ × X)) (n hash : ℕ) (new : X) → items_of (slice_set pairs n (hash, new)) ≡ slice_set (items_of pairs) n new
new_items [] n hash new = refl
new_items (x ∷ xs) zero hash new = refl
new_items (x ∷ xs) (suc n) hash new = ap (λ ys. x.1 ∷ ys) (new_items xs n hash new)

module _ {X : Type 0} (w : Width) (s : ElementSpec) (law : IsElement s) (represents : List ℕ → ℕ → X → Type 0) (local : RepresentsLocally s represents) (b c : List ℕ) (p n hash : ℕ) (pairs : List (ℕ × X)) (old new : X)
    (view : Viewable (table_spec w s) b p) (of : IsWrittenOf w s.size represents b p pairs) (at_n : slice_get pairs n ≡ Some (hash, old)) where
  abbrev pub home : ℕ → ℕ
  home j = slice_index of.homes j

  counted : length of.homes ≡ length pairs
  counted = home_count w b p (hashes_of pairs) of.homes of.written ∙ length-map pairs (λ x. x.0)

  inside : n < length pairs
  inside = slice_get_within pairs n (hash, old) at_n

  walked : (j : ℕ) → j < length pairs → IsWalked w b p (home j)
  walked j h = home_walked w b p (hashes_of pairs) of.homes of.written j (omega (arith, counted, h))

  -- no two items have one home bucket
  apart : (j : ℕ) → j < length pairs → j ≢ n → home j ≢ home n
  apart j h = homes_differ w b p (hashes_of pairs) of.homes of.written j n (omega (arith, counted, h)) (omega (arith, counted, inside))

  module _ (kept : KeepsTable w s b c p (home n)) (one : represents c (item_at w s.size b p (home n)) new) where
    same_pos : (j : ℕ) → j < length pairs → slice_index (home_positions w s.size c p of.homes) j ≡ item_at w s.size b p (home j)
    same_pos j h = home_pos w s.size c p of.homes j (omega (arith, counted, h)) ∙ item_stays w s b c p (home n) kept (home j)

    before : (j : ℕ) → j < length pairs → slice_index (home_positions w s.size b p of.homes) j ≡ item_at w s.size b p (home j)
    before j h = home_pos w s.size b p of.homes j (omega (arith, counted, h))

    -- an item in another bucket is unchanged
    other : (j : ℕ) (x : X) → slice_get (items_of pairs) j ≡ Some x → j ≢ n → represents c (slice_index (home_positions w s.size c p of.homes) j) x
    other j x at_j ne =
        let count : length (items_of pairs) ≡ length pairs = length-map pairs (λ y. y.1) in
        let h : j < length pairs = omega (arith, slice_get_within (items_of pairs) j x at_j, count) in
        let q : ℕ = item_at w s.size b p (home j) in
        let valid = (item_viewable w s law b p view (home j) (walked j h)).valid in
        let same = kept.others (home j) (walked j h) (apart j h ne) in
        let was : represents b q x = subst (λ r. represents b r x) (before j h) (of.at j x at_j) in
        subst (λ r. represents c r x) (sym (same_pos j h)) (local x b c q 0 q valid.0 (omega arith) valid.1 same.fixed (same.parts valid.0 valid.1) was)

    own : represents c (slice_index (home_positions w s.size c p of.homes) n) new
    own = subst (λ r. represents c r new) (sym (same_pos n inside)) one

    pub written_of : IsWrittenOf w s.size represents c p (slice_set pairs n (hash, new))
    written_of =
        let count : length (items_of pairs) ≡ length pairs = length-map pairs (λ y. y.1) in
        record {
          homes = of.homes;
          written = rw (same_hashes pairs n hash old new at_n) (written_kept w s b c p (home n) kept (hashes_of pairs) of.homes of.written);
          at = λ j x e. set_each (λ i y. represents c (slice_index (home_positions w s.size c p of.homes) i) y) (items_of pairs) n new (omega (arith, inside, count)) own other j x
              (ap (λ ys. slice_get ys j) (sym (new_items pairs n hash new)) ∙ e);
        }

-- a write of one item in place keeps the list but for this item
pub items_written : {X : Type 0} (w : Width) (s : ElementSpec) (law : IsElement s) (represents : List ℕ → ℕ → X → Type 0) (local : RepresentsLocally s represents) (b c : List ℕ) (p n hash : ℕ) (pairs : List (ℕ × X)) (old new : X)
    (view : Viewable (table_spec w s) b p) (of : IsWrittenOf w s.size represents b p pairs) (at_n : slice_get pairs n ≡ Some (hash, old))
    → ModifiesOnly b (item_at w s.size b p (slice_index of.homes n)) s.size c → StaysValid s b c (item_at w s.size b p (slice_index of.homes n))
    → represents c (item_at w s.size b p (slice_index of.homes n)) new → IsWrittenOf w s.size represents c p (slice_set pairs n (hash, new))
items_written w s law represents local b c p n hash pairs old new view of at_n sealed keeps one = search (rules, walked, slice_get_within, written_of, table_kept)
