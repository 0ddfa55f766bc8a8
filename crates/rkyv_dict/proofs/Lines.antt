-- The lines of the pairs of a map, in turn.
use Rattle.std.proofs.Common.{◌≡◌, ℕ, ◌+◌, append_assoc, List, ◌++◌, arith}
use Rattle.std.specs.Borrow.{Bor}
use Rattle.std.specs.List.{flat_map}
use Rattle.std.specs.Prelude.{codes}
use Rattle.rkyv_base.specs.{ElementSpec, value_offset}
use Rattle.rkyv_base.specs.declared.view.View.{View}
use Rattle.rkyv_keys.specs.{at_view}
use Rattle.rkyv_table.specs.{ItemsLeft, ViewsAt, YieldsFirstPos}
use Rattle.rkyv_dict.specs.{line, line_at}

module _ {K V : Type 0} (s : ElementSpec) (text : List ℕ → ℕ → List ℕ) (archive : Bor (List ℕ)) (before after : ItemsLeft) (key : View K) (value : View V) (same : before.archive ≡ archive)
    (yields : YieldsFirstPos before key.pos after) (k : ViewsAt s before key.pos key) (v : ViewsAt s before (key.pos + value_offset s s) value) where
  -- the line of the current pair
  pair_line : line (at_view text key ++ codes " " ++ at_view text value) ≡ line_at s text archive.now key.pos
  unfolding line_at
  pair_line = grind arith

  pub lines_after : (all old new : List ℕ) → all ≡ old ++ flat_map (line_at s text archive.now) before.positions → new ≡ old ++ line (at_view text key ++ codes " " ++ at_view text value)
      → all ≡ new ++ flat_map (line_at s text archive.now) after.positions
  lines_after all old new e n = grind (arith, append_assoc, pair_line)
