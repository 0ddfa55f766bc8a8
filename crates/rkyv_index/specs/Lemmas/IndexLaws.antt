-- An index map is an element.
use Rattle.std.proofs.Common.{rules}
use Rattle.std.specs.Prelude.{◌≡◌, ℕ, zero, suc, ◌+◌, ◌*◌, ◌%◌, ◌<◌, ◌≤◌, ℤ, List, []}
use Rattle.std.specs.Prelude.{◌∷◌, Some, length, map, slice_get}
use Rattle.std.specs.Int.{Width, byte_len, from_le_bytes}
use Rattle.std.specs.List.{All, range_with_len}
use Rattle.std.proofs.Common.{filter, get_or, refl, arith, subst, sym, true, ◌∙◌, ap, inl, inr}
use Rattle.std.proofs.lemmas.Grind.{common_steps}
use Rattle.std.proofs.Props.{props}
use Rattle.std.specs.Coded.{×_prop}
use Rattle.std.proofs.lemmas.Option.{slice_get_within}
use Rattle.std.proofs.lemmas.List.Elements.{All-cons, All-head, All-map, All-nil, All-tail}
use Rattle.rkyv_scan.specs.{AllBelow}
use Rattle.rkyv_base.specs.declared.errors.VerifyError.{VerifyError}
use Rattle.rkyv_base.specs.{AgreeOn, ElementSpec, IsAlign, IsArchiveWord, IsElement, PartIn}
use Rattle.rkyv_base.specs.{number_at}
use Rattle.rkyv_base.specs.Lemmas.Bytes.{agree_on_part}
use Rattle.rkyv_base.specs.Lemmas.Props.{only_one, prop_by}
use Rattle.rkyv_base.specs.Lemmas.Parts.{part_exclusive, part_one, part_one_failure, part_prop}
use Rattle.rkyv_base.specs.Lemmas.Parts.{part_wider}
use Rattle.rkyv_base.specs.Lemmas.Text.{by_archive_word}
use Rattle.rkyv_table.specs.{AreValidAt, IsValidTable, IsValidWithin, IsWalked, cap_at}
use Rattle.rkyv_table.specs.{item_at, item_positions, len_at, table_controls, table_spec, walk}
use Rattle.rkyv_table.specs.Lemmas.ItemPositions as items
use Rattle.rkyv_table.specs.Lemmas.ItemPositions.{item_is_valid, valid_part}
use Rattle.rkyv_table.specs.Lemmas.ValidItemLaws.{all_exclusive, all_local, all_lower}
use Rattle.rkyv_table.specs.Lemmas.ValidItemLaws.{all_one, all_one_failure, all_prop}
use Rattle.rkyv_table.specs.Lemmas.SameHeader.{item_same, len_same}
use Rattle.rkyv_table.specs.Lemmas.TableLaws.{table_element}
use Rattle.rkyv_table.proofs.RawWalks.{walked_all}
use Rattle.rkyv_table.proofs.SameTable.{same_walk}
use Rattle.rkyv_index.specs.Map.IndexLayout.{AreValidEntries, EntriesFail, EntriesIn, FirstNotBelow}
use Rattle.rkyv_index.specs.Map.IndexLayout.{IndexFails, IndicesBelow, IsValidIndex, decode_entries}
use Rattle.rkyv_index.specs.Map.IndexLayout.{entry_at, index_spec, indices_of}
use Rattle.rkyv_index.specs.Map.IndexLayout.{stored_index_spec}

-- an index in a bucket is an element
pub stored_index_element : (w : Width) → IsArchiveWord w → IsElement (stored_index_spec w)
stored_index_element w kind = record {
  align_is = by_archive_word (λ v. IsAlign (byte_len v)) (inr (inr (inl refl)))
      (inr (inr (inr refl))) w kind;
  size_whole = by_archive_word (λ v. byte_len v % byte_len v ≡ 0) refl refl w kind;
  size_small = by_archive_word (λ v. byte_len v ≤ 1073741824) (omega arith) (omega arith) w kind;
  proper = λ b p lo hi l. hlevel props;
  rest_in_range = λ b p lo hi l o h. (omega (arith, h), omega (arith, h));
  rest_unique = λ b p lo hi l l' h h'. h ∙ sym h';
  exclusive = λ b p lo hi l e h f. f;
  one_failure = λ b p lo hi e e' f g. absurd f;
  widen_hi = λ b p lo hi hi' l o h. h;
  lower_lo = λ b p lo lo' hi l o o' h. (lo', refl, omega (arith, h));
  local = λ b c p lo hi l o fixed part h. h;
}

-- the `n` numbers from `a` on are below `m`, if `a + n` is at most `m`
all_below : (a n m : ℕ) → a + n ≤ m → AllBelow m (range_with_len a n)
all_below a zero m h = tt
all_below a (suc n) m h = (omega arith, all_below (a + 1) n m (omega arith))

pub indices_below : (n : ℕ) → AllBelow n (indices_of n)
indices_below n = all_below 0 n n (omega arith)

-- an entry is between the begin and the end of the entries
pub entry_inside : (size begin n i : ℕ) → i < n → (begin ≤ entry_at size begin i)
    × (entry_at size begin i + size ≤ begin + n * size)
entry_inside size begin n i h = grind (arith, common_steps)

-- the index of an item of a list is below its length
pub listed_below : {X : Type 0} (xs : List X) (n i : ℕ) (x : X) → n ≡ length xs
    → slice_get xs i ≡ Some x → i < n
listed_below xs n i x count there = grind (arith, common_steps, slice_get_within)

-- a filter that keeps each number keeps the list
pub filter_every : (xs : List ℕ) → filter (λ x. true) xs ≡ xs
filter_every [] = refl
filter_every (x ∷ xs) = ap (λ (ys : List ℕ). x ∷ ys) (filter_every xs)

-- each of several valid values in order is valid in a range of its own
pub each_is_valid : (s : ElementSpec) → IsElement s → (at : ℕ → ℕ) (b : List ℕ) (hi a n lo l i : ℕ)
    → lo ≤ hi
    → AreValidAt s at b hi (range_with_len a n) lo l → a ≤ i → i < a + n
    → IsValidWithin s b (at i) lo hi l
each_is_valid s law at b hi a n lo l i o h from to =
    let every = sym (filter_every (range_with_len a n)) in
    items.each_is_valid s law at (λ x. true) b hi a n lo l i o
    (subst (λ (xs : List ℕ). AreValidAt s at b hi xs lo l) every h) from to refl

-- if all indices are below `n`, no position is the first whose index isn't
not_below_exclusive : (w : Width) (b : List ℕ) (n : ℕ) (qs : List ℕ) (e : VerifyError)
    → IndicesBelow w b n qs → FirstNotBelow w b n qs e → ⊥
not_below_exclusive w b n [] e h f = f
not_below_exclusive w b n (q ∷ qs) e h (inl f) = let k = All-head (λ x. number_at w b x < n) q qs h
    in omega (arith, f.0, k)
not_below_exclusive w b n (q ∷ qs) e h (inr f) = not_below_exclusive w b n qs e
    (All-tail (λ x. number_at w b x < n) q qs h) f.1

-- the first index that isn't below `n` has only one error
not_below_one : (w : Width) (b : List ℕ) (n : ℕ) (qs : List ℕ) (e e' : VerifyError)
    → FirstNotBelow w b n qs e → FirstNotBelow w b n qs e' → e ≡ e'
not_below_one w b n [] e e' f g = absurd f
not_below_one w b n (q ∷ qs) e e' (inl f) (inl g) = f.1 ∙ sym g.1
not_below_one w b n (q ∷ qs) e e' (inl f) (inr g) = absurd (omega (arith, f.0, g.0))
not_below_one w b n (q ∷ qs) e e' (inr f) (inl g) = absurd (omega (arith, f.0, g.0))
not_below_one w b n (q ∷ qs) e e' (inr f) (inr g) = not_below_one w b n qs e e' f.1 g.1

-- entries that are in a part
module _ (s : ElementSpec) (law : IsElement s) where
  entries_between : (b : List ℕ) (decoded : ℤ) (len lo hi l : ℕ) → EntriesIn s b decoded len lo hi l
      → (lo ≤ l) × (l ≤ hi)
  entries_between b decoded len lo hi l h = grind (arith, common_steps)

  entries_exclusive : (b : List ℕ) (decoded : ℤ) (len lo hi l : ℕ) (e : VerifyError)
      → EntriesIn s b decoded len lo hi l → EntriesFail s b decoded len lo hi e → ⊥
  entries_exclusive b decoded len lo hi l e h f =
      grind (arith, common_steps, part_exclusive, part_one, all_exclusive)

  entries_one_failure : (b : List ℕ) (decoded : ℤ) (len lo hi : ℕ) (e e' : VerifyError)
      → EntriesFail s b decoded len lo hi e → EntriesFail s b decoded len lo hi e' → e ≡ e'
  entries_one_failure b decoded len lo hi e e' h f =
      grind (arith, common_steps, part_one_failure, part_exclusive, part_one, all_one_failure)

  entries_higher : (b : List ℕ) (decoded : ℤ) (len lo hi hi' l : ℕ) → hi ≤ hi'
      → EntriesIn s b decoded len lo hi l → EntriesIn s b decoded len lo hi' l
  entries_higher b decoded len lo hi hi' l o h = grind (arith, common_steps)

  entries_lower : (b : List ℕ) (decoded : ℤ) (len lo lo' hi l : ℕ) → lo' ≤ lo
      → EntriesIn s b decoded len lo hi l → EntriesIn s b decoded len lo' hi l
  entries_lower b decoded len lo lo' hi l o h =
      let d =
      all_lower s law (entry_at s.size h.begin) b h.begin (indices_of len) lo lo' h.last o
      h.part.above h.valid in
      grind (arith, common_steps, part_wider)

  entries_local : (b c : List ℕ) (decoded : ℤ) (len lo hi l : ℕ) → AgreeOn b c lo l
      → EntriesIn s b decoded len lo hi l → EntriesIn s c decoded len lo hi l
  entries_local b c decoded len lo hi l same h =
      let e = h.ends in
      let above = h.part.above in
      record {
        begin = h.begin;
        part = h.part;
        last = h.last;
        valid = all_local s law (entry_at s.size h.begin) b c lo l len h.begin (indices_of len) lo
            h.last same (omega arith) above (omega arith) (indices_below len)
            (λ i below. grind (arith, common_steps, entry_inside)) h.valid;
        ends = h.ends;
      }

-- from `Q` of all images under `f` to `Q (f x)` of all numbers `x`
pub All-unmap : (Q : ℕ → Type 0) (f : ℕ → ℕ) (xs : List ℕ) → All Q (map f xs)
    → All (λ x. Q (f x)) xs
All-unmap Q f [] h = All-nil (λ x. Q (f x))
All-unmap Q f (x ∷ xs) h = All-cons (λ x. Q (f x)) x xs (All-head Q (f x) (map f xs) h)
    (All-unmap Q f xs (All-tail Q (f x) (map f xs) h))

module _ (w : Width) (kind : IsArchiveWord w) where
  abbrev P : ElementSpec
  P = stored_index_spec w

  abbrev P_law : IsElement P
  P_law = stored_index_element w kind

  -- the indices are the same if the bytes of the header and of the table are
  module _ (b c : List ℕ) (p lo hi m : ℕ) (o : lo ≤ hi) (fixed : AgreeOn b c p (p + 3 * byte_len w))
      (part : AgreeOn b c lo m) (h : IsValidTable w P b p lo hi m) where
    item_within : (i : ℕ) → IsWalked w b p i → (lo ≤ item_at w (byte_len w) b p i)
        × (item_at w (byte_len w) b p i + byte_len w ≤ m)
    item_within i walked =
        let t = valid_part w P P_law b p lo hi m h (omega (arith, walked.0)) in
        grind (arith, common_steps, item_is_valid w P P_law b p lo hi m h i walked t)

    pub index_same_at : (i : ℕ) → IsWalked w b p i → number_at w b (item_at w (byte_len w) b p i)
        ≡ number_at w c (item_at w (byte_len w) c p i)
    index_same_at i walked =
        let u = item_within i walked in
        let q = item_at w (byte_len w) b p i in
        ap (from_le_bytes w) (agree_on_part b c lo m q (q + byte_len w) u.0 u.1 (omega arith) part)
        ∙ ap (number_at w c) (item_same w b c p fixed (byte_len w) i)

    indices_local : (n : ℕ) → IndicesBelow w b n (item_positions w (byte_len w) b p)
        → IndicesBelow w c n (item_positions w (byte_len w) c p)
    indices_local n below =
        let at = item_at w (byte_len w) in
        let ws = walk (table_controls w b p) (cap_at w b p) in
        subst (λ (xs : List ℕ). IndicesBelow w c n (map (at c p) xs))
        (same_walk w P P_law b c p lo hi m o h fixed part)
        (All-map (λ q. number_at w c q < n) (at c p) ws
        (λ k d lt.
        subst (λ x. x < n) (index_same_at (get_or ws k d) (walked_all w P P_law b p k d lt))
        (All-unmap (λ q. number_at w b q < n) (at b p) ws below k d lt)))

-- the entries begin at the same position if the bytes of the header are the same
pub decoded_same : (w : Width) (b c : List ℕ) (p : ℕ) → AgreeOn b c p (p + 4 * byte_len w)
    → decode_entries w b p ≡ decode_entries w c p
decoded_same w b c p fixed = search (rules, agree_on_part)

-- the header of the table is the same if the bytes of the index map's header are
pub head_same : (w : Width) (b c : List ℕ) (p : ℕ) → AgreeOn b c p (p + 4 * byte_len w)
    → AgreeOn b c p (p + 3 * byte_len w)
head_same w b c p fixed = grind (arith, common_steps, agree_on_part)

module _ (w : Width) (kind : IsArchiveWord w) (s : ElementSpec) (law : IsElement s) where
  abbrev T_law : IsElement (table_spec w (stored_index_spec w))
  T_law = table_element w kind (stored_index_spec w) (stored_index_element w kind)

  index_exclusive : (b : List ℕ) (p lo hi l : ℕ) (e : VerifyError) → IsValidIndex w s b p lo hi l
      → IndexFails w s b p lo hi e → ⊥
  index_exclusive b p lo hi l e h (inl f) = T_law.exclusive b p lo hi h.middle e h.table f
  index_exclusive b p lo hi l e h (inr (m, t, inl f)) = not_below_exclusive w b (len_at w b p)
      (item_positions w (byte_len w) b p) e h.below f
  index_exclusive b p lo hi l e h (inr (m, t, inr (below, f))) =
      let same : m ≡ h.middle = T_law.rest_unique b p lo hi m h.middle t h.table in
      entries_exclusive s law b (decode_entries w b p) (len_at w b p) h.middle hi l e h.entries
      (subst (λ x. EntriesFail s b (decode_entries w b p) (len_at w b p) x hi e) same f)

  index_one_failure : (b : List ℕ) (p lo hi : ℕ) (e e' : VerifyError) → IndexFails w s b p lo hi e
      → IndexFails w s b p lo hi e' → e ≡ e'
  index_one_failure b p lo hi e e' (inl f) (inl g) = T_law.one_failure b p lo hi e e' f g
  index_one_failure b p lo hi e e' (inl f) (inr (m, t, g)) =
      absurd (T_law.exclusive b p lo hi m e t f)
  index_one_failure b p lo hi e e' (inr (m, t, f)) (inl g) =
      absurd (T_law.exclusive b p lo hi m e' t g)
  index_one_failure b p lo hi e e' (inr (m, t, inl f)) (inr (m', t', inl g)) =
      not_below_one w b (len_at w b p) (item_positions w (byte_len w) b p) e e' f g
  index_one_failure b p lo hi e e' (inr (m, t, inl f)) (inr (m', t', inr g)) =
      absurd (not_below_exclusive w b (len_at w b p) (item_positions w (byte_len w) b p) e g.0 f)
  index_one_failure b p lo hi e e' (inr (m, t, inr f)) (inr (m', t', inl g)) =
      absurd (not_below_exclusive w b (len_at w b p) (item_positions w (byte_len w) b p) e' f.0 g)
  index_one_failure b p lo hi e e' (inr (m, t, inr f)) (inr (m', t', inr g)) =
      let same : m' ≡ m = T_law.rest_unique b p lo hi m' m t' t in
      entries_one_failure s law b (decode_entries w b p) (len_at w b p) m hi e e' f.1
      (subst (λ x. EntriesFail s b (decode_entries w b p) (len_at w b p) x hi e') same g.1)

  index_one : (b : List ℕ) (p lo hi l l' : ℕ) → IsValidIndex w s b p lo hi l
      → IsValidIndex w s b p lo hi l' → l ≡ l'
  index_one b p lo hi l l' h h' = grind (arith, common_steps)

  -- that the entries are valid, and that the map is, are propositions
  entries_prop : (b : List ℕ) (decoded : ℤ) (len lo hi l : ℕ)
      → IsProp (EntriesIn s b decoded len lo hi l)
  entries_prop b decoded len lo hi l =
      let P : ℕ → Type 0 = λ begin. PartIn decoded (len * s.size) s.align lo hi begin
      × (((last : ℕ) × AreValidEntries s b begin len lo last) × (l ≡ begin + len * s.size)) in
      prop_by {B = (begin : ℕ) × P begin} (λ h. (h.begin, (h.part, ((h.last, h.valid), h.ends))))
      (λ h. grind (arith, common_steps))
      (λ _. refl) (only_one
      (λ begin. ×_prop (part_prop decoded (len * s.size) s.align lo hi begin)
      (×_prop (only_one (all_prop s law (entry_at s.size begin) b begin (indices_of len) lo)
      (all_one s law (entry_at s.size begin) b begin (indices_of len) lo)) (hlevel props)))
      (λ n n' h k. part_one decoded (len * s.size) s.align lo hi n n' h.0 k.0))

  index_prop : (b : List ℕ) (p lo hi l : ℕ) → IsProp (IsValidIndex w s b p lo hi l)
  index_prop b p lo hi l =
      let P : ℕ → Type 0 = λ m. IsValidTable w (stored_index_spec w) b p lo hi m
      × (IndicesBelow w b (len_at w b p) (item_positions w (byte_len w) b p)
      × EntriesIn s b (decode_entries w b p) (len_at w b p) m hi l) in
      prop_by {B = (m : ℕ) × P m} (λ h. (h.middle, (h.table, (h.below, h.entries))))
      (λ h. record { middle = h.0; table = h.1.0; below = h.1.1.0; entries = h.1.1.1 }) (λ _. refl)
      (only_one (λ m. ×_prop (T_law.proper b p lo hi m) (×_prop (hlevel props)
      (entries_prop b (decode_entries w b p) (len_at w b p) m hi l)))
      (λ m m' h k. T_law.rest_unique b p lo hi m m' h.0 k.0))

  index_between : (b : List ℕ) (p lo hi l : ℕ) → lo ≤ hi → IsValidIndex w s b p lo hi l → (lo ≤ l)
      × (l ≤ hi)
  index_between b p lo hi l o h = grind (arith, common_steps)

  index_lower : (b : List ℕ) (p lo lo' hi l : ℕ) → lo' ≤ lo → lo ≤ hi → IsValidIndex w s b p lo hi l
      → (l' : ℕ) × IsValidIndex w s b p lo' hi l' × (l' ≤ l)
  index_lower b p lo lo' hi l o o' h =
      let t = T_law.lower_lo b p lo lo' hi h.middle o o' h.table in (
        l,
        grind (arith, entries_lower),
        omega arith,
      )

  -- an index map is valid again if the header and the table are the same and the entries
  -- are valid again
  pub index_again : (b c : List ℕ) (p lo hi l : ℕ) → lo ≤ hi → AgreeOn b c p (p + 4 * byte_len w)
      → (h : IsValidIndex w s b p lo hi l) → AgreeOn b c lo h.middle
      → EntriesIn s c (decode_entries w b p) (len_at w b p) h.middle hi l
      → IsValidIndex w s c p lo hi l
  index_again b c p lo hi l o fixed h front entries =
      let head = head_same w b c p fixed in
      let len : len_at w b p ≡ len_at w c p = len_same w b c p head in
      record {
        middle = h.middle;
        table = T_law.local b c p lo hi h.middle o head front h.table;
        below = subst (λ n. IndicesBelow w c n (item_positions w (byte_len w) c p)) len
            (indices_local w kind b c p lo hi h.middle o head front h.table (len_at w b p) h.below);
        entries = grind (arith, common_steps, decoded_same);
      }

  index_local : (b c : List ℕ) (p lo hi l : ℕ) → lo ≤ hi → AgreeOn b c p (p + 4 * byte_len w)
      → AgreeOn b c lo l → IsValidIndex w s b p lo hi l → IsValidIndex w s c p lo hi l
  index_local b c p lo hi l o fixed part h =
      let t = T_law.rest_in_range b p lo hi h.middle o h.table in
      let r = entries_between s law b (decode_entries w b p)
      (len_at w b p) h.middle hi l h.entries in
      let front : AgreeOn b c lo h.middle =
      agree_on_part b c lo l lo h.middle (omega arith) r.0 t.0 part in
      search (rules, agree_on_part, index_again, entries_local)

  -- an index map is an element
  pub index_element : IsElement (index_spec w s)
  index_element = record {
    align_is = by_archive_word (λ v. IsAlign (byte_len v)) (inr (inr (inl refl)))
        (inr (inr (inr refl))) w kind;
    size_whole = by_archive_word (λ v. (4 * byte_len v) % byte_len v ≡ 0) refl refl w kind;
    size_small =
        by_archive_word (λ v. 4 * byte_len v ≤ 1073741824) (omega arith) (omega arith) w kind;
    proper = index_prop;
    rest_in_range = index_between;
    rest_unique = index_one;
    exclusive = index_exclusive;
    one_failure = index_one_failure;
    widen_hi = grind (arith, entries_higher);
    lower_lo = index_lower;
    local = index_local;
  }
