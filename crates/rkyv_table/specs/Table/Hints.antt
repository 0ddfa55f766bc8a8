-- The size hint of a walk.
use Rattle.std.specs.Prelude.{◌≡◌, ℕ, IfSome, Option, Some}
use Rattle.std.specs.Iterator.{UpTo, at_most}
use Rattle.std.specs.Iterator.SizeHint.{IsWithinCount}

-- both bounds of the hint are `left`
abbrev pub HintsExactly : ℕ × Option ℕ → ℕ → Type 0
HintsExactly hint left = IsWithinCount hint.0 (at_most left) × IfSome hint.1 (UpTo (at_most left))
    × (hint.0 ≡ left) × (hint.1 ≡ Some left)
