-- The steps of a walk over the pairs of a map or an index map, by the positions
-- of the remaining keys.
use Rattle.std.specs.Prelude.{◌≡◌, ℕ, ◌+◌, [], ◌∷◌, Option, MatchOption}
use Rattle.rkyv_base.specs.{ElementSpec, IsAt, IsValidView, pos_of, value_offset}
use Rattle.rkyv_base.specs.declared.view.View.{View}
use Rattle.rkyv_table.specs.Table.RawItems.{ItemsLeft}

-- `pos` was the first remaining position, and the archive is unchanged
pub record YieldsFirstPos (before : ItemsLeft) (pos : ℕ) (after : ItemsLeft) : Type 0 where
  pub first : before.positions ≡ pos ∷ after.positions
  pub archive : after.archive ≡ before.archive

-- no position remained
pub record IsAtEnd (before after : ItemsLeft) : Type 0 where
  pub none : before.positions ≡ []
  pub still : after ≡ before

-- `view`: view of a valid value at position `pos` of the archive
pub record ViewsAt {T : Type 0} (s : ElementSpec) (before : ItemsLeft) (pos : ℕ) (view : View T) :
    Type 0 where
  pub at : IsAt view before.archive pos
  pub viewable : IsValidView s view

-- the step returns the first remaining key and its value
abbrev pub YieldsPair : {K V : Type 0} → ElementSpec → ElementSpec → ItemsLeft
    → Option (View K × View V)
    → ItemsLeft → Type 0
YieldsPair {K} {V} k v before result after = MatchOption result (IsAtEnd before after)
    (λ (pair : View K × View V). YieldsFirstPos before (pos_of pair.0) after
    × ViewsAt k before (pos_of pair.0) pair.0
    × ViewsAt v before (pos_of pair.0 + value_offset k v) pair.1)

-- the step returns the first remaining key
abbrev pub YieldsKey : {K : Type 0} → ElementSpec → ItemsLeft → Option (View K) → ItemsLeft → Type 0
YieldsKey {K} k before result after = MatchOption result (IsAtEnd before after)
    (λ (key : View K). YieldsFirstPos before (pos_of key) after × ViewsAt k before (pos_of key) key)

-- the step returns the value of the first remaining key
abbrev pub YieldsValue : {V : Type 0} → ElementSpec → ElementSpec → ItemsLeft → Option (View V)
    → ItemsLeft → Type 0
YieldsValue {V} k v before result after = MatchOption result (IsAtEnd before after)
    (λ (value : View V). (pos : ℕ) × YieldsFirstPos before pos after
    × ViewsAt v before (pos + value_offset k v) value)
