-- The write of a table of pairs ends in one way.
use Rattle.std.proofs.Common.{◌≡◌, ℕ, ◌<◌, ◌∙◌, refl, sym, ap, subst, arith, inl, inr, List, length, Option, None, true, eqb, get_or}
use Rattle.std.proofs.lemmas.Grind.{common_steps}
use Rattle.std.specs.Prelude.{slice_get}
use Rattle.std.specs.Int.{Width}
use Rattle.std.specs.List.{list_any, position_or_len}
use Rattle.std.proofs.lemmas.Bool.{cases_Bool, eqb-true}
use Rattle.std.proofs.lemmas.List.{ext_get_or}
use Rattle.std.proofs.lemmas.List.Sums.{passes_at_first}
use Rattle.std.proofs.lemmas.Option.{unwrap_or-slice_get}
use Rattle.std.specs.Option.{unwrap_or}
use Rattle.rkyv_base.specs.{ElementSpec, Format, Step, failure}
use Rattle.rkyv_table.proofs.HomeList.{homes_one_list, written_one_list}
use Rattle.rkyv_table.proofs.OneWay.{tables_one_way}
use Rattle.rkyv_table.proofs.Written.{first_within}
use Rattle.rkyv_table.specs.{AreInSlots, ArePlaced, InBuckets, TableBytes, TableNext, TableParts, TableResolver, WritesOneWay, capacity, hashes_of, is_free, items_of, table_format}
use Rattle.rkyv_table.specs.Lemmas.SlotWalk.{item_below}
use Rattle.rkyv_dict.proofs.Ends.{Ends, serialization}
use Rattle.rkyv_dict.proofs.FormatEnds.{EndsOneWay, IsSized}
use Rattle.rkyv_dict.proofs.TableEnds.{table_ends, table_run}

-- two lists of slots with the same items in the same homes
module _ {X : Type 0} (cap : ℕ) (xs : List ℕ) (items : List X) (ss ts : List (Option X)) (s : AreInSlots cap xs items ss) (t : AreInSlots cap xs items ts) where
  slot_one : (b : ℕ) → b < cap → slice_get ss b ≡ slice_get ts b
  slot_one b h =
      let n = s.items_count in
      let i = position_or_len (eqb b) xs in
      elim (cases_Bool (list_any (eqb b) xs)) [
        | inr none ↦ let f : is_free xs b ≡ true = rw none refl in s.others b h f ∙ sym (t.others b h f)
        | inl some ↦
            let l : i < length xs = first_within (eqb b) xs some in
            let e = eqb-true b (get_or xs i 0) (passes_at_first (eqb b) xs 0 l) in
            let x = item_below items i (omega arith) in
            ap (slice_get ss) e ∙ s.at i x.0 x.1 ∙ sym (t.at i x.0 x.1) ∙ ap (slice_get ts) (sym e)
      ]

  slots_one : ss ≡ ts
  slots_one =
      let n = s.count in
      let m = t.count in
      ext_get_or None ss ts (omega arith) (λ b h.
      sym (unwrap_or-slice_get ss b None) ∙ ap (λ (o : Option (Option X)). unwrap_or o None) (slot_one b (omega arith)) ∙ unwrap_or-slice_get ts b None)

-- the slots and controls depend only on the pairs
module _ {X : Type 0} (cap : ℕ) (pairs : List (ℕ × X)) (ss ts : List (Option X)) (c d : List ℕ) (full : 0 < length pairs) (x : ArePlaced cap pairs ss c) (y : ArePlaced cap pairs ts d) where
  some_bucket : 0 < cap
  some_bucket = grind (arith, common_steps)

  placed_one : (ss ≡ ts) × (c ≡ d)
  placed_one =
      let hashes = hashes_of pairs in
      let same : x.homes ≡ y.homes = homes_one_list cap hashes x.homes x.written.placed ∙ sym (homes_one_list cap hashes y.homes y.written.placed) in
      let there = subst (λ (l : List ℕ). AreInSlots cap l (items_of pairs) ts) (sym same) y.slotted in (
        slots_one cap x.homes (items_of pairs) ss ts x.slotted there,
        written_one_list cap hashes x.homes c some_bucket x.written ∙ sym (written_one_list cap hashes y.homes d some_bucket y.written),
      )

module _ {X R : Type 0} (w : Width) (s : ElementSpec) (f : Format X R) (one : WritesOneWay f) (ends : EndsOneWay f) (sized : IsSized s.size f) (factor : ℕ × ℕ) (pairs : List (ℕ × X)) (p : ℕ) where
  placed_ends : (slots : List (Option X)) (controls : List ℕ) → Ends (table_run s f slots controls p)
  placed_ends slots controls = table_ends s f ends sized slots controls p

  module _ (ss ts : List (Option X)) (c d : List ℕ) (x : InBuckets factor pairs ss c) (y : InBuckets factor pairs ts d) where
    next_here : (front : List ℕ) (step : Step) → TableNext s f ts d p front step → TableNext s f ss c p front step
    next_here front step h =
        let same = placed_one (capacity (length pairs) factor) pairs ss ts c d x.0 x.1 y.1 in
        rw (same.0, same.1) h

    writes_here : (z : ℕ) (part : List ℕ) → TableBytes s f ts d p z part → TableBytes s f ss c p z part
    writes_here z part h =
        let same = placed_one (capacity (length pairs) factor) pairs ss ts c d x.0 x.1 y.1 in
        rw (same.0, same.1) h

  table_writes : (slots : List (Option X)) (controls part : List ℕ) (r : TableResolver) → InBuckets factor pairs slots controls → TableParts w s f factor pairs p part r
      → (z : ℕ) × TableBytes s f slots controls p z part
  table_writes slots controls part r x t = elim t.written [
    | inl none ↦ absurd (omega (arith, ap length none.0, x.0))
    | inr some ↦ (r.pos, writes_here slots some.0 controls some.1 x some.2 r.pos part some.3)
  ]

  pub pairs_ends : Ends (serialization (table_format w s f factor) pairs p)
  pairs_ends =
      let tables = tables_one_way w s f one factor in
      record {
        same_length = λ a b r q x y. ap length (tables.parts pairs p a b r q x y).0;
        same_result = λ a b r q x y. (tables.parts pairs p a b r q x y).1;
        unique = λ front front' c c' k k' x y.
            (placed_ends x.0 x.1).unique front front' c c' k k' x.3 (next_here x.0 y.0 x.1 y.1 x.2 y.2 front' (failure c') y.3);
        before = λ front front' bytes c k x y. (placed_ends x.0 x.1).before front front' bytes c k x.3 (next_here x.0 y.0 x.1 y.1 x.2 y.2 front' (failure c) y.3);
        inside = λ front bytes part r x y. (placed_ends x.0 x.1).inside front bytes part tt x.3 (table_writes x.0 x.1 part r x.2 y);
        exclusive = λ front part r c k x y. (placed_ends x.0 x.1).exclusive front part tt c k x.3 (table_writes x.0 x.1 part r x.2 y);
      }

pub tables_end : {X R : Type 0} (w : Width) (s : ElementSpec) (f : Format X R) → WritesOneWay f → EndsOneWay f → IsSized s.size f → (factor : ℕ × ℕ) → EndsOneWay (table_format w s f factor)
tables_end w s f one ends sized factor = record { ends = pairs_ends w s f one ends sized factor }
