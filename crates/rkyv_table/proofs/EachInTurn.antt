-- After the items of a table were written one after the other, the table is kept, and each item was written once.
use Rattle.std.proofs.Common.{◌≡◌, ℕ, zero, suc, ◌+◌, ◌-◌, ◌*◌, ◌<◌, ◌≤◌, ◌∙◌, inl, inr, refl, sym, ap, subst, arith, List, ◌∷◌, length, map, slice_index}
use Rattle.std.specs.Int.{Width, byte_len}
use Rattle.std.proofs.lemmas.Bool.{cases_eq, cases_lt}
use Rattle.rkyv_base.specs.{AgreeOn, ElementSpec, IsElement, ModifiesOnly, StaysValid, Viewable}
use Rattle.rkyv_base.proofs.Sealing.{viewable_kept}
use Rattle.rkyv_table.specs.{IsWalked, KeepsItems, KeepsTable, SameValue, WritesEachOnce, WritesInTurn, WritesOnce, cap_at, full_from, item_at, item_positions, table_controls, table_spec}
use Rattle.rkyv_table.specs.Lemmas.SameHeader.{cap_same, item_same, pos_same}
use Rattle.rkyv_table.proofs.SameLookups.{lookup_kept}
use Rattle.rkyv_table.proofs.SameTable.{written_there}
use Rattle.rkyv_table.proofs.SealedItems.{full_skipped, full_taken}
use Rattle.rkyv_table.proofs.SealedTable.{item_stays, table_kept}
use Rattle.rkyv_table.proofs.ValidTable.{item_viewable}
use Rattle.rkyv_table.proofs.Walks.{full_end, whole_walk}

-- an unchanged value is unchanged by two steps that leave it unchanged
pub same_twice : (s : ElementSpec) → IsElement s → (b c d : List ℕ) (q : ℕ) → SameValue s b c q → SameValue s c d q → SameValue s b d q
same_twice s law b c d q x y = record {
  fixed = x.fixed ∙ y.fixed;
  parts = λ l h. x.parts l h ∙ y.parts l (law.local b c q 0 q l (omega arith) x.fixed (x.parts l h) h);
}

pub same_itself : (s : ElementSpec) (b : List ℕ) (q : ℕ) → SameValue s b b q
same_itself s b q = record { fixed = refl; parts = λ l h. refl }

module _ (w : Width) (s : ElementSpec) (law : IsElement s) (p : ℕ) (Writes : List ℕ → ℕ → List ℕ → Type 0)
    (keeps : (b : List ℕ) (q : ℕ) (c : List ℕ) → Viewable s b q → Writes b q c → ModifiesOnly b q s.size c × StaysValid s b c q) where
  -- the numbers of the table are the same
  record SameNumbers (b c : List ℕ) : Type 0 where
    same_length : length c ≡ length b
    is_valid : StaysValid (table_spec w s) b c p
    header : AgreeOn b c p (p + 3 * byte_len w)
    controls : table_controls w c p ≡ table_controls w b p

  abbrev at : List ℕ → ℕ → ℕ
  at b i = item_at w s.size b p i

  abbrev rest : List ℕ → ℕ → List ℕ
  rest b a = full_from (table_controls w b p) (cap_at w b p) a

  -- the items from the bucket `a` on are written in turn
  record InTurn (a : ℕ) (b c : List ℕ) : Type 0 where
    numbers : SameNumbers b c
    before : (j : ℕ) → IsWalked w b p j → j < a → SameValue s b c (at b j)
    each : (j : ℕ) → IsWalked w b p j → a ≤ j → WritesOnce s Writes b (at b j) c

  -- no item is left
  in_turn_end : (a : ℕ) (b : List ℕ) → cap_at w b p ≤ a → InTurn a b b
  in_turn_end a b h = record {
    numbers = record { same_length = refl; is_valid = λ lo hi l o o' v. v; header = refl; controls = refl };
    before = λ j there less. same_itself s b (at b j);
    each = λ j there above. absurd (omega (arith, there.0));
  }

  -- the item in the bucket `a` is written, and then the others
  module _ (a : ℕ) (b d c : List ℕ) (view : Viewable (table_spec w s) b p) (there : IsWalked w b p a) (one : Writes b (at b a) d) where
    own : ModifiesOnly b (at b a) s.size d × StaysValid s b d (at b a)
    own = keeps b (at b a) d (item_viewable w s law b p view a there) one

    kept : KeepsTable w s b d p a
    kept = table_kept w s law b p a view there d own.0 own.1

    view_then : Viewable (table_spec w s) d p
    view_then = viewable_kept (table_spec w s) b d p own.0.same_length kept.is_valid view

    at_then : (j : ℕ) → at d j ≡ at b j
    at_then = item_stays w s b d p a kept

    cap_then : cap_at w d p ≡ cap_at w b p
    cap_then = sym (cap_same w b d p kept.header)

    walked_then : (j : ℕ) → IsWalked w b p j → IsWalked w d p j
    walked_then j full = (subst (λ n. j < n) (sym cap_then) full.0, subst (λ (xs : List ℕ). slice_index xs j < 128) (sym kept.controls) full.1)

    rest_then : (k : ℕ) → map (at b) (rest b k) ≡ map (at d) (rest d k)
    rest_then k =
        ap (λ n. map (λ i. n - (i + 1) * s.size) (rest b k)) (pos_same w b d p kept.header)
        ∙ ap (λ xs. map (at d) (full_from xs (cap_at w b p) k)) (sym kept.controls)
        ∙ ap (λ n. map (at d) (full_from (table_controls w d p) n k)) (sym cap_then)

    in_turn_next : InTurn (a + 1) d c → InTurn a b c
    in_turn_next ih = record {
      numbers = record {
        same_length = ih.numbers.same_length ∙ own.0.same_length;
        is_valid = λ lo hi l o o' v. ih.numbers.is_valid lo hi l o o' (kept.is_valid lo hi l o o' v);
        header = kept.header ∙ ih.numbers.header;
        controls = ih.numbers.controls ∙ kept.controls;
      };
      before = λ j full less.
          same_twice s law b d c (at b j) (kept.others j full (λ e. absurd (omega (arith, less, e))))
          (subst (SameValue s d c) (at_then j) (ih.before j (walked_then j full) (omega (arith, less))));
      each = λ j full above. elim (cases_eq j a) [
        | inl e ↦
            subst (λ n. WritesOnce s Writes b (at b n) c) (sym e)
            (record {
              before = b;
              after = d;
              first = same_itself s b (at b a);
              viewable = item_viewable w s law b p view a there;
              writes = one;
              last = subst (SameValue s d c) (at_then a) (ih.before a (walked_then a there) (omega arith));
            })
        | inr ne ↦
            let later : WritesOnce s Writes d (at b j) c = subst (λ q. WritesOnce s Writes d q c) (at_then j) (ih.each j (walked_then j full) (omega (arith, above, ne))) in
            record {
              before = later.before;
              after = later.after;
              first = same_twice s law b d later.before (at b j) (kept.others j full ne) later.first;
              viewable = later.viewable;
              writes = later.writes;
              last = later.last;
            }
      ];
    }

  -- the bucket `a` is empty
  in_turn_skip : (a : ℕ) (b c : List ℕ) → 128 ≤ slice_index (table_controls w b p) a → InTurn (a + 1) b c → InTurn a b c
  in_turn_skip a b c empty ih = record {
    numbers = ih.numbers;
    before = λ j full less. ih.before j full (omega (arith, less));
    each = λ j full above. elim (cases_eq j a) [
      | inl e ↦ let here : slice_index (table_controls w b p) a < 128 = subst (λ n. slice_index (table_controls w b p) n < 128) e full.1 in absurd (omega (arith, here, empty))
      | inr ne ↦ ih.each j full (omega (arith, above, ne))
    ];
  }

  in_turn : (n a : ℕ) (b c : List ℕ) → cap_at w b p ≤ a + n → Viewable (table_spec w s) b p → WritesInTurn Writes (map (at b) (rest b a)) b c → InTurn a b c
  in_turn zero a b c ends view turns =
      let none : c ≡ b = subst (λ xs. WritesInTurn Writes (map (at b) xs) b c) (full_end (table_controls w b p) (cap_at w b p) a (omega arith)) turns in
      subst (InTurn a b) (sym none) (in_turn_end a b (omega arith))
  in_turn (suc n) a b c ends view turns = elim (cases_lt a (cap_at w b p)) [
    | inl less ↦ elim (cases_lt (slice_index (table_controls w b p) a) 128) [
      | inl full ↦
          let taken : WritesInTurn Writes (map (at b) (a ∷ rest b (a + 1))) b c = subst (λ xs. WritesInTurn Writes (map (at b) xs) b c) (full_taken (table_controls w b p) (cap_at w b p) a less full) turns in
          let there : IsWalked w b p a = (less, full) in
          let cap : cap_at w taken.0 p ≡ cap_at w b p = cap_then a b taken.0 c view there taken.1 in
          let then : WritesInTurn Writes (map (at taken.0) (rest taken.0 (a + 1))) taken.0 c = subst (λ qs. WritesInTurn Writes qs taken.0 c) (rest_then a b taken.0 c view there taken.1 (a + 1)) taken.2 in
          in_turn_next a b taken.0 c view there taken.1 (in_turn n (a + 1) taken.0 c (omega (arith, cap, ends)) (view_then a b taken.0 c view there taken.1) then)
      | inr empty ↦
          let skipped : WritesInTurn Writes (map (at b) (rest b (a + 1))) b c = subst (λ xs. WritesInTurn Writes (map (at b) xs) b c) (full_skipped (table_controls w b p) (cap_at w b p) a less (omega (arith, empty))) turns in
          in_turn_skip a b c (omega (arith, empty)) (in_turn n (a + 1) b c (omega (arith, ends)) view skipped)
    ]
    | inr ended ↦
        let none : c ≡ b = subst (λ xs. WritesInTurn Writes (map (at b) xs) b c) (full_end (table_controls w b p) (cap_at w b p) a (omega (arith, ended))) turns in
        subst (InTurn a b) (sym none) (in_turn_end a b (omega (arith, ended)))
  ]

  module _ (b c : List ℕ) (view : Viewable (table_spec w s) b p) (turns : WritesInTurn Writes (item_positions w s.size b p) b c) where
    all : InTurn 0 b c
    all = in_turn (cap_at w b p) 0 b c (omega arith) view (subst (λ xs. WritesInTurn Writes (map (at b) xs) b c) (sym (whole_walk (table_controls w b p) (cap_at w b p))) turns)

    pub each_once : WritesEachOnce w s Writes b p c
    each_once j full = all.each j full (omega arith)

    pub items_kept : KeepsItems w s b c p
    items_kept =
        let n = all.numbers in
        record {
          viewable = viewable_kept (table_spec w s) b c p n.same_length n.is_valid view;
          is_valid = n.is_valid;
          header = n.header;
          controls = n.controls;
          lookups = record {
            found = lookup_kept w b c p n.header n.controls s.size;
            pos = λ i. sym (item_same w b c p n.header s.size i);
            written = written_there w b c p n.header (λ some. sym n.controls);
          };
        }
