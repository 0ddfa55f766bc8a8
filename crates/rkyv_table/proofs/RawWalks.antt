-- The walk over the items of a valid table.
use Rattle.std.proofs.Common.{◌≡◌, ℕ, ◌<◌, ◌∙◌, inl, inr, sym, ap, arith, List, [], length, map}
use Rattle.std.specs.Int.{Width}
use Rattle.std.specs.List.{All, Contains}
use Rattle.std.proofs.lemmas.Bool.{cases_eq}
use Rattle.std.proofs.lemmas.List.{length-map}
use Rattle.std.proofs.lemmas.List.Elements.{All-contains_itself, All-map, All-weaker}
use Rattle.rkyv_base.specs.{ElementSpec, IsElement, Viewable}
use Rattle.rkyv_table.specs.{IsAhead, IsWalked, cap_at, controls_pos, item_at, item_positions, len_at, pos_before, table_controls, table_spec, walk}
use Rattle.rkyv_table.proofs.ValidTable.{controls_accepted, item_before, item_viewable, no_items}
use Rattle.rkyv_table.proofs.Walks.{walk_none, walked_full}

module _ (w : Width) (s : ElementSpec) (law : IsElement s) (b : List ℕ) (p : ℕ) where
  none_walked : cap_at w b p ≡ 0 → walk (table_controls w b p) (cap_at w b p) ≡ []
  none_walked none = ap (walk (table_controls w b p)) none ∙ walk_none (table_controls w b p)

  -- a table has as many items as full buckets
  pub walk_count : Viewable (table_spec w s) b p → length (walk (table_controls w b p) (cap_at w b p)) ≡ len_at w b p
  walk_count v = elim (cases_eq (cap_at w b p) 0) [
    | inl none ↦ ap length (none_walked none) ∙ sym (no_items w s law b p v none)
    | inr some ↦ (controls_accepted w s law b p v (omega arith)).full
  ]

  pub positions_count : Viewable (table_spec w s) b p → length (item_positions w s.size b p) ≡ len_at w b p
  positions_count v = length-map (walk (table_controls w b p) (cap_at w b p)) (item_at w s.size b p) ∙ walk_count v

  -- each bucket of the walk has an item
  pub walked_all : All (IsWalked w b p) (walk (table_controls w b p) (cap_at w b p))
  walked_all =
      All-weaker (Contains (walk (table_controls w b p) (cap_at w b p))) (IsWalked w b p) (λ i h. walked_full (cap_at w b p) (table_controls w b p) i h)
      (walk (table_controls w b p) (cap_at w b p)) (All-contains_itself (walk (table_controls w b p) (cap_at w b p)))

  pub positions_viewable : Viewable (table_spec w s) b p → All (Viewable s b) (item_positions w s.size b p)
  positions_viewable v =
      All-map (Viewable s b) (item_at w s.size b p) (walk (table_controls w b p) (cap_at w b p))
      (All-weaker (IsWalked w b p) (λ i. Viewable s b (item_at w s.size b p i)) (λ i h. item_viewable w s law b p v i h) (walk (table_controls w b p) (cap_at w b p)) walked_all)

  -- each bucket of the walk is before the position that was read of the header, and its group
  -- is inside the control bytes
  pub read_ahead : Viewable (table_spec w s) b p → (pos : ℕ) → (0 < cap_at w b p → pos ≡ controls_pos w b p) → (controls : List ℕ) → (0 < cap_at w b p → controls ≡ table_controls w b p)
      → All (IsAhead pos s.size controls) (walk (table_controls w b p) (cap_at w b p))
  read_ahead v pos is controls shown = grind (arith, controls_accepted, item_before, walked_all)

  pub read_positions : (pos : ℕ) → (0 < cap_at w b p → pos ≡ controls_pos w b p)
      → map (pos_before pos s.size) (walk (table_controls w b p) (cap_at w b p)) ≡ item_positions w s.size b p
  read_positions pos is = grind (arith, cases_eq, none_walked)
