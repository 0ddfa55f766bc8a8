-- If items are written in only one way, so are tables of them.
use Rattle.std.proofs.Common.{◌≡◌, ℕ, ◌+◌, ◌-◌, ◌<◌, ◌∙◌, inl, inr, sym, ap, subst, arith, List, [], ◌∷◌, ◌++◌, length, slice_index, Option, Some, None, get_or, eqb}
use Rattle.std.proofs.lemmas.Grind.{common_steps}
use Rattle.std.specs.Int.{Width}
use Rattle.std.specs.List.{list_any}
use Rattle.std.proofs.lemmas.Bool.{cases_Bool, not-false}
use Rattle.std.proofs.lemmas.List.{ext_get_or, get_or_default}
use Rattle.std.proofs.lemmas.Option.{get_or_from_slice_get, slice_get_cases}
use Rattle.rkyv_base.specs.{ElementSpec, Format, zeros}
use Rattle.rkyv_table.specs.{AreInSlots, ArePlaced, IsHeader, SlotImages, SlotParts, TableBytes, TableResolver, TableWritten, WritesOneWay, capacity, hashes_of, header_bytes, is_free, items_of, resolved_capacity, table_format}
use Rattle.rkyv_table.specs.Lemmas.TableSound.{capacity_above}
use Rattle.rkyv_table.proofs.HomeList.{homes_one_list, written_one_list}
use Rattle.rkyv_table.proofs.Lists.{member_contains}

module _ {X R : Type 0} (f : Format X R) (one : WritesOneWay f) where
  -- the parts of the items, and their resolvers
  parts_one_way : (ss : List (Option X)) (p : ℕ) (part part' : List ℕ) (rs rs' : List R) → SlotParts f ss p part rs → SlotParts f ss p part' rs' → (part ≡ part') × (rs ≡ rs')
  parts_one_way [] p part part' rs rs' h h' = (h.0 ∙ sym h'.0, h.1 ∙ sym h'.1)
  parts_one_way (None ∷ ss) p part part' rs rs' h h' = parts_one_way ss p part part' rs rs' h h'
  parts_one_way (Some x ∷ ss) p part part' rs rs' h h' =
      let first = one.parts x p h.0 h'.0 h.1 h'.1 h.4 h'.4 in
      let there : SlotParts f ss (p + length h.0) h'.2 h'.3 = subst (λ (a : List ℕ). SlotParts f ss (p + length a) h'.2 h'.3) (sym first.0) h'.5 in
      grind (arith, common_steps, parts_one_way ss (p + length h.0) h.2 h'.2 h.3 h'.3 h.5 there)

  -- the buckets
  images_one_way : (size : ℕ) (ss : List (Option X)) (p z : ℕ) (part out out' : List ℕ) (rs : List R) → SlotParts f ss p part rs
      → SlotImages size f ss rs z out → SlotImages size f ss rs z out' → out ≡ out'
  images_one_way size [] p z part out out' rs made h h' = h.1 ∙ sym h'.1
  images_one_way size (None ∷ ss) p z part out out' rs made h h' =
      h.2 ∙ ap (λ (rest : List ℕ). rest ++ zeros size) (images_one_way size ss p (z - size) part h.0 h'.0 rs made h.1 h'.1) ∙ sym h'.2
  images_one_way size (Some x ∷ ss) p z part out out' rs made h h' =
      let r : made.1 ≡ h.0 = (let e : made.1 ∷ made.3 ≡ h.0 ∷ h.1 = sym made.7 ∙ h.4 in cc) in
      let q : made.3 ≡ h.1 = (let e : made.1 ∷ made.3 ≡ h.0 ∷ h.1 = sym made.7 ∙ h.4 in cc) in
      let r' : made.1 ≡ h'.0 = (let e : made.1 ∷ made.3 ≡ h'.0 ∷ h'.1 = sym made.7 ∙ h'.4 in cc) in
      let q' : made.3 ≡ h'.1 = (let e : made.1 ∷ made.3 ≡ h'.0 ∷ h'.1 = sym made.7 ∙ h'.4 in cc) in
      let item = one.image x p (z - size) made.0 h.3 h'.3 made.1 made.4
      (subst (λ k. f.image x k (z - size) h.3) (sym r) h.5) (subst (λ k. f.image x k (z - size) h'.3) (sym r') h'.5) in
      let others = images_one_way size ss (p + length made.0) (z - size) made.2 h.2 h'.2 made.3 made.5
      (subst (λ (k : List R). SlotImages size f ss k (z - size) h.2) (sym q) h.6) (subst (λ (k : List R). SlotImages size f ss k (z - size) h'.2) (sym q') h'.6) in
      h.7 ∙ ap (λ (b : List ℕ). h.2 ++ b) item ∙ ap (λ (a : List ℕ). a ++ h'.3) others ∙ sym h'.7

  module _ (s : ElementSpec) (slots : List (Option X)) (controls : List ℕ) (p : ℕ) where
    -- the bytes of a table whose items are placed, and the position of its first control byte
    bytes_one_way : (z z' : ℕ) (bytes bytes' : List ℕ) → TableBytes s f slots controls p z bytes → TableBytes s f slots controls p z' bytes' → (z ≡ z') × (bytes ≡ bytes')
    bytes_one_way z z' bytes bytes' t t' = grind (arith, common_steps, parts_one_way, images_one_way)

-- one list of slots has each item in its home bucket, and no other
module _ {X : Type 0} (cap : ℕ) (homes : List ℕ) (items : List X) where
  slot_one_way : (slots slots' : List (Option X)) → AreInSlots cap homes items slots → AreInSlots cap homes items slots' → (b : ℕ) → b < cap → get_or slots b None ≡ get_or slots' b None
  slot_one_way slots slots' s s' b below = elim (cases_Bool (is_free homes b)) [
    | inl free ↦ get_or_from_slice_get slots b None None (s.others b below free) ∙ sym (get_or_from_slice_get slots' b None None (s'.others b below free))
    | inr taken ↦
        let c = member_contains b homes (not-false (list_any (eqb b) homes) taken) in
        let at : slice_index homes c.0 ≡ b = get_or_default homes c.0 0 b c.1 ∙ c.2 in
        elim (slice_get_cases items c.0).1 [
          | inl e ↦ grind (arith, get_or_from_slice_get)
          | inr past ↦ absurd (omega (arith, past.0, c.1, s.items_count))
        ]
  ]

  slots_one_way : (slots slots' : List (Option X)) → AreInSlots cap homes items slots → AreInSlots cap homes items slots' → slots ≡ slots'
  slots_one_way slots slots' s s' =
      ext_get_or None slots slots' (s.count ∙ sym s'.count) (λ b below. slot_one_way slots slots' s s' b (subst (λ n. b < n) s.count below))

placed_one_way : {X : Type 0} (cap : ℕ) (pairs : List (ℕ × X)) (slots slots' : List (Option X)) (controls controls' : List ℕ) → 0 < cap
    → ArePlaced cap pairs slots controls → ArePlaced cap pairs slots' controls' → (slots ≡ slots') × (controls ≡ controls')
placed_one_way cap pairs slots slots' controls controls' some t t' =
    let hashes = hashes_of pairs in
    let homes : t'.homes ≡ t.homes = homes_one_list cap hashes t'.homes t'.written.placed ∙ sym (homes_one_list cap hashes t.homes t.written.placed) in (
      slots_one_way cap t.homes (items_of pairs) slots slots' t.slotted (subst (λ (hs : List ℕ). AreInSlots cap hs (items_of pairs) slots') homes t'.slotted),
      written_one_list cap hashes t.homes controls some t.written ∙ sym (written_one_list cap hashes t'.homes controls' some t'.written),
    )

module _ (w : Width) (len cap z p : ℕ) (out out' : List ℕ) (h : IsHeader w len cap z p out) (h' : IsHeader w len cap z p out') where
  distance_one_way : h.distance ≡ h'.distance
  distance_one_way = grind (arith, common_steps)

  header_one_way : out ≡ out'
  header_one_way = h.is ∙ ap (λ d. header_bytes w d len cap) distance_one_way ∙ sym h'.is

resolver_is : (r r' : TableResolver) → r.pos ≡ r'.pos → r.len ≡ r'.len → r.load_factor ≡ r'.load_factor → r ≡ r'
resolver_is r r' pos len factor = grind (arith, common_steps)

module _ {X R : Type 0} (w : Width) (s : ElementSpec) (f : Format X R) (one : WritesOneWay f) (factor : ℕ × ℕ) where
  module _ (pairs : List (ℕ × X)) (p : ℕ) where
    written_one_way : (z z' : ℕ) (part part' : List ℕ) → TableWritten w s f factor pairs p z part → TableWritten w s f factor pairs p z' part' → (part ≡ part') × (z ≡ z')
    written_one_way z z' part part' (inl h) (inl h') = (h.1 ∙ sym h'.1, h.2 ∙ sym h'.2)
    written_one_way z z' part part' (inl h) (inr h') = absurd (omega (arith, ap length h.0, h'.2.0))
    written_one_way z z' part part' (inr h) (inl h') = absurd (omega (arith, ap length h'.0, h.2.0))
    written_one_way z z' part part' (inr h) (inr h') =
        let room = capacity_above (length pairs) factor h.2.0 in
        let same = placed_one_way (capacity (length pairs) factor) pairs h.0 h'.0 h.1 h'.1 (omega (arith, room)) h.2.1 h'.2.1 in
        let there : TableBytes s f h.0 h.1 p z' part' =
        subst (λ (cs : List ℕ). TableBytes s f h.0 cs p z' part') (sym same.1) (subst (λ (ss : List (Option X)). TableBytes s f ss h'.1 p z' part') (sym same.0) h'.3) in
        let bytes = bytes_one_way f one s h.0 h.1 p z z' part part' h.3 there in
        (bytes.1, bytes.0)

  pub tables_one_way : WritesOneWay (table_format w s f factor)
  tables_one_way = record {
    parts = λ pairs p part part' r r' t t'.
        let written = written_one_way pairs p r.pos r'.pos part part' t.written t'.written in
        (written.0, resolver_is r r' written.1 (t.len ∙ sym t'.len) (t.factor ∙ sym t'.factor));
    image = λ pairs begin p part out out' r t h h'. header_one_way w r.len (resolved_capacity r) r.pos p out out' h h';
  }
