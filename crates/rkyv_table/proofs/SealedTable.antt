-- A write of one item in place keeps the table.
use Rattle.std.proofs.lemmas.Grind.{common_steps}
use Rattle.std.specs.Prelude.{◌≡◌, ◌≢◌, ℕ, suc, ◌+◌, ◌-◌, ◌*◌, ◌<◌, ◌≤◌, List, [], ◌∷◌, slice_index, slice_range}
use Rattle.std.specs.Int.{Width, byte_len}
use Rattle.std.proofs.Common.{arith, subst, sym, ◌∙◌, ap, inl, inr}
use Rattle.std.proofs.lemmas.Bool.{cases_eq, cases_lt}
use Rattle.std.proofs.lemmas.Int.{ints}
use Rattle.std.proofs.Math.Nat.{mul-le-mul_right}
use Rattle.rkyv_base.specs.{AgreeOn, ElementSpec, IsElement, ModifiesOnly, Outside, StaysValid, Viewable, entry_spec, value_pos, whole_size}
use Rattle.rkyv_base.specs.Lemmas.Entry.{entry_element, key_and_value_inside, size_of_small}
use Rattle.rkyv_base.proofs.Sealing.{entry_kept, same_outside, sealed_wider, valid_outside}
use Rattle.rkyv_table.proofs.SameTable.{written_there}
use Rattle.rkyv_table.proofs.ValidTable.{item_viewable, part_of}
use Rattle.rkyv_table.specs.{AreValidAt, AreValidControls, IsPart, IsWalked, KeepsTable, SameValue, TableAt, ValidPart, WrittenAt, bucket_at, cap_at, control_count, controls_at, controls_pos, decode_begin, item_at, len_at, table_spec, walk}
use Rattle.rkyv_scan.specs.{AllBelow, is_full}
use Rattle.rkyv_scan.proofs.Indices.{range_below}
use Rattle.rkyv_table.specs.Lemmas.ItemPositions.{bucket_is_valid_within, decoded_controls, decoded_item, decoded_pos}
use Rattle.rkyv_table.specs.Lemmas.SameHeader.{begin_same, cap_same, item_same, len_same, pos_same}
use Rattle.rkyv_table.specs.Lemmas.TableLaws.{bucket_inside, of_numbers}

-- two buckets share no byte
pub buckets_apart : (size begin cap i j : ℕ) → i < cap → j < cap → j ≢ i → Outside (bucket_at size begin cap i) size (bucket_at size begin cap j) (bucket_at size begin cap j + size)
buckets_apart size begin cap i j li lj ne = elim (cases_lt i j) [
  | inl l ↦ let m : (suc (cap - (j + 1))) * size ≤ (cap - (i + 1)) * size = mul-le-mul_right size (omega arith) in inl (omega (arith, m))
  | inr g ↦
      let less : j < i = omega (arith, ne) in
      let m : (suc (cap - (i + 1))) * size ≤ (cap - (j + 1)) * size = mul-le-mul_right size (omega arith) in
      inr (omega (arith, m))
]

-- Several valid values in order are valid after a write of one of them that keeps it valid.
-- That one shares no byte with the others, and its own bytes are behind all parts.
pub all_kept : (s : ElementSpec) → IsElement s → (at : ℕ → ℕ) (b c : List ℕ) (n hi i : ℕ) → ModifiesOnly b (at i) s.size c → StaysValid s b c (at i) → hi ≤ at i
    → ((j : ℕ) → j < n → j ≢ i → Outside (at i) s.size (at j) (at j + s.size)) → (is : List ℕ) (lo l : ℕ) → lo ≤ hi → AllBelow n is → AreValidAt s at b hi is lo l → AreValidAt s at c hi is lo l
all_kept s law at b c n hi i sealed keeps above apart [] lo l o below h = h
all_kept s law at b c n hi i sealed keeps above apart (j ∷ is) lo l o below h =
    let k : (lo ≤ h.0) × (h.0 ≤ hi) = law.rest_in_range b (at j) lo hi h.0 o h.1 in
    let here : s.is_valid c (at j) lo hi h.0 = grind (arith, common_steps, cases_eq, valid_outside) in
    (h.0, here, all_kept s law at b c n hi i sealed keeps above apart is h.0 l k.1 below.1 h.2)

-- a valid value whose parts are below `hi` leaves a lower end of at most `hi` in any range
pub parts_below : (s : ElementSpec) → IsElement s → (b : List ℕ) (q lo hi rest l : ℕ) → lo ≤ hi → hi ≤ q → s.is_valid b q lo hi rest → s.is_valid b q 0 q l → l ≤ hi
parts_below s law b q lo hi rest l o above valid h =
    let d : (l' : ℕ) × s.is_valid b q 0 hi l' × (l' ≤ rest) = law.lower_lo b q lo 0 hi rest (omega arith) o valid in
    let k = law.rest_in_range b q lo hi rest o valid in
    let same : l ≡ d.0 = law.rest_unique b q 0 q l d.0 h (law.widen_hi b q 0 hi q d.0 above d.1) in
    omega (arith, same, d.2, k.1)

module _ (s : ElementSpec) (law : IsElement s) (b c : List ℕ) (begin cap i : ℕ) (walked : i < cap)
    (sealed : ModifiesOnly b (bucket_at s.size begin cap i) s.size c) (keeps : StaysValid s b c (bucket_at s.size begin cap i)) where
  abbrev at : ℕ → ℕ
  at = bucket_at s.size begin cap

  pub controls_kept : controls_at s.size b begin cap ≡ controls_at s.size c begin cap
  controls_kept = grind (arith, common_steps, bucket_inside s.size begin cap i walked, same_outside)

  pub part_kept : (len lo : ℕ) → lo ≤ begin → IsPart s b cap len lo begin → IsPart s c cap len lo begin
  unfolding walk
  part_kept len lo o is =
      let items = all_kept s law at b c cap begin i sealed keeps (omega arith) (λ j less ne. buckets_apart s.size begin cap i j walked less ne) (walk (controls_at s.size b begin cap) cap) lo is.last o (range_below (λ k. is_full (slice_index (controls_at s.size b begin cap) k)) cap) is.items in
      record {
        controls = subst (AreValidControls cap len) controls_kept is.controls;
        last = is.last;
        items = subst (λ (x : List ℕ). AreValidAt s at c begin (walk x cap) lo is.last) controls_kept items;
      }

-- the item in a full bucket has its parts before the buckets
parts_before : (w : Width) (s : ElementSpec) (law : IsElement s) (b : List ℕ) (p e : ℕ) (t : ValidPart w s b p 0 p e) (j l : ℕ) → IsWalked w b p j
    → s.is_valid b (bucket_at s.size t.begin (cap_at w b p) j) 0 (bucket_at s.size t.begin (cap_at w b p) j) l → l ≤ t.begin
parts_before w s law b p e t j l walked h =
    let cap = cap_at w b p in
    let q = bucket_at s.size t.begin cap j in
    let full : slice_index (controls_at s.size b t.begin cap) j < 128 = subst (λ (xs : List ℕ). slice_index xs j < 128) (decoded_controls w s.size b p t.begin t.part.begins) walked.1 in
    let one = bucket_is_valid_within s law b t.begin cap 0 t.is.last j (omega arith) t.is.items walked.0 full in
    parts_below s law b q one.lower t.begin one.rest l one.below (omega arith) one.is_valid h

module _ (w : Width) (s : ElementSpec) (law : IsElement s) (b : List ℕ) (p i : ℕ) (view : Viewable (table_spec w s) b p) (walked : IsWalked w b p i)
    (c : List ℕ) (sealed : ModifiesOnly b (item_at w s.size b p i) s.size c) (keeps : StaysValid s b c (item_at w s.size b p i)) where
  whole : ValidPart w s b p 0 p view.valid.0
  whole = part_of w s law b p view (omega (arith, walked.0))

  at_is : (j : ℕ) → j < cap_at w b p → item_at w s.size b p j ≡ bucket_at s.size whole.begin (cap_at w b p) j
  at_is j h = decoded_item w s.size b p whole.begin whole.part.begins j h

  sealed_at : ModifiesOnly b (bucket_at s.size whole.begin (cap_at w b p) i) s.size c
  sealed_at = subst (λ q. ModifiesOnly b q s.size c) (at_is i walked.0) sealed

  keeps_at : StaysValid s b c (bucket_at s.size whole.begin (cap_at w b p) i)
  keeps_at = subst (StaysValid s b c) (at_is i walked.0) keeps

  header_same : AgreeOn b c p (p + 3 * byte_len w)
  header_same = grind (arith, common_steps, bucket_inside s.size whole.begin (cap_at w b p) i walked.0, whole, same_outside, sealed_at)

  at_kept : (lo hi l : ℕ) → TableAt s b (decode_begin w s.size b p) (cap_at w b p) (len_at w b p) lo hi l → TableAt s c (decode_begin w s.size b p) (cap_at w b p) (len_at w b p) lo hi l
  at_kept lo hi l (inl h) = inl h
  at_kept lo hi l (inr (n, part, is, e)) =
      let same : whole.begin ≡ n = let x = whole.part.begins in let y = part.begins in omega (arith, ints, x, y) in
      inr (
        n,
        part,
        part_kept s law b c n (cap_at w b p) i walked.0 (subst (λ m. ModifiesOnly b (bucket_at s.size m (cap_at w b p) i) s.size c) same sealed_at)
            (subst (λ m. StaysValid s b c (bucket_at s.size m (cap_at w b p) i)) same keeps_at) (len_at w b p) lo part.above is,
        e,
      )

  other_same : (j : ℕ) → IsWalked w b p j → j ≢ i → SameValue s b c (item_at w s.size b p j)
  other_same j there ne =
      let q = bucket_at s.size whole.begin (cap_at w b p) i in
      let r = bucket_at s.size whole.begin (cap_at w b p) j in
      subst (SameValue s b c) (sym (at_is j there.0))
      record {
        fixed = same_outside b q s.size c sealed_at r (r + s.size) (omega arith) (buckets_apart s.size whole.begin (cap_at w b p) i j walked.0 there.0 ne);
        parts = λ l h.
            let low : l ≤ whole.begin = parts_before w s law b p view.valid.0 whole j l there h in
            same_outside b q s.size c sealed_at 0 l (omega arith) (inl (omega (arith, low)));
      }

  pub table_kept : KeepsTable w s b c p i
  table_kept =
      let same = header_same in
      let caps = sym (cap_same w b c p same) in
      record {
        is_valid = λ lo hi l o o' h. of_numbers s c (begin_same w b c p same s.size) (cap_same w b c p same) (len_same w b c p same) (at_kept lo hi l h);
        header = same;
        controls =
            ap (λ z. slice_range c z (z + control_count (cap_at w c p))) (sym (pos_same w b c p same))
            ∙ ap (λ k. slice_range c (controls_pos w b p) (controls_pos w b p + control_count k)) caps
            ∙ ap (λ z. slice_range c z (z + control_count (cap_at w b p))) (decoded_pos w s.size b p whole.begin whole.part.begins)
            ∙ sym (controls_kept s law b c whole.begin (cap_at w b p) i walked.0 sealed_at keeps_at)
            ∙ sym (decoded_controls w s.size b p whole.begin whole.part.begins);
        others = other_same;
      }

-- a lookup in a kept table has the same result as before
module _ (w : Width) (s : ElementSpec) (b c : List ℕ) (p i : ℕ) (kept : KeepsTable w s b c p i) where
  pub item_stays : (j : ℕ) → item_at w s.size c p j ≡ item_at w s.size b p j
  item_stays j = sym (item_same w b c p kept.header s.size j)

  pub written_kept : (hashes homes : List ℕ) → WrittenAt w b p hashes homes → WrittenAt w c p hashes homes
  written_kept hashes homes x = written_there w b c p kept.header (λ some. sym kept.controls) hashes homes x

-- a write of only the value of an entry keeps the table and the key
module _ (w : Width) (k v : ElementSpec) (kl : IsElement k) (vl : IsElement v) (b : List ℕ) (p i : ℕ) (view : Viewable (table_spec w (entry_spec k v)) b p) (walked : IsWalked w b p i)
    (c : List ℕ) (sealed : ModifiesOnly b (value_pos k v (item_at w (entry_spec k v).size b p i)) v.size c) (keeps : StaysValid v b c (value_pos k v (item_at w (entry_spec k v).size b p i))) where
  pub value_kept : KeepsTable w (entry_spec k v) b c p i × SameValue k b c (item_at w (entry_spec k v).size b p i)
  value_kept =
      let s = entry_spec k v in
      let law = entry_element k v kl vl in
      let q = item_at w s.size b p i in
      let there = item_viewable w s law b p view i walked in
      let small = size_of_small (whole_size k v) there.valid.1.0 in
      let inside = key_and_value_inside k v in (
        table_kept w s law b p i view walked c
            (sealed_wider b c (value_pos k v q) v.size q s.size (omega arith) (omega (arith, small, inside.1)) sealed)
            (entry_kept k v kl vl b c q sealed keeps),
        record {
          fixed = same_outside b (value_pos k v q) v.size c sealed q (q + k.size) (omega arith) (inl (omega (arith, inside.0)));
          parts = λ l h.
              let m : (0 ≤ l) × (l ≤ q) = kl.rest_in_range b q 0 q l (omega arith) h in
              same_outside b (value_pos k v q) v.size c sealed 0 l (omega arith) (inl (omega (arith, m.1)));
        },
      )
