-- The first accepted item, as the result of a lookup in a written table.
use Rattle.std.specs.Prelude.{◌≡◌, ℕ, ◌^◌, ◌<◌, Bool, true, List, slice_get, slice_index, Option}
use Rattle.std.specs.Prelude.{MatchOption, None, Some}
use Rattle.std.specs.Int.{Width}
use Rattle.std.specs.List.{All, find, position}
use Rattle.std.specs.Option.{option_map}
use Rattle.rkyv_base.specs.{ElementSpec}
use Rattle.rkyv_scan.specs.{IsKind, Kind}
use Rattle.rkyv_table.specs.Table.Positions.{home_positions, pos_found}
use Rattle.rkyv_table.specs.Table.WrittenTables.{IsWrittenOf}
use Rattle.rkyv_table.specs.Table.PlacedItems.{items_of}

-- the first accepted item
abbrev pub first_of : {X : Type 0} → (X → Bool) → List X → Option X
first_of accept items = find accept items

-- each accepted item is under `hash`
abbrev pub AreUnder : {X : Type 0} → ℕ → (X → Bool) → List (ℕ × X) → Type 0
AreUnder hash accept pairs = All (λ pair. accept pair.1 ≡ true → pair.0 ≡ hash) pairs

-- `accept_at` returns at the position of each item what `accept` returns for the item
abbrev pub AgreesAt : {X : Type 0} → List ℕ → List X → (X → Bool) → (ℕ → Bool) → Type 0
AgreesAt {X} positions items accept accept_at =
    (i : ℕ) (x : X) → slice_get items i ≡ Some x → accept_at (slice_index positions i) ≡ accept x

-- `result`: position of the first accepted item, or `None` if and only if no item is accepted
abbrev pub IsFirstOf : {X : Type 0} → (List ℕ → ℕ → X → Type 0) → List ℕ → (X → Bool) → List X
    → Option ℕ → Type 0
IsFirstOf {X} represents c accept items result =
    MatchOption result (first_of accept items ≡ None)
    (λ q. (x : X) × (first_of accept items ≡ Some x) × represents c q x)

-- the position of the first accepted item, or `None` if no item is accepted.
-- `positions`: positions of the items, in the same order
abbrev pub first_pos : {X : Type 0} → List ℕ → (X → Bool) → List X → Option ℕ
first_pos positions accept items = option_map (slice_index positions) (position accept items)

-- a lookup in a table that was written from the pairs finds the first accepted item, at the
-- position of its home bucket, if each accepted item is under `hash`
abbrev pub LookupFindsFirst : {X : Type 0} → Width → ElementSpec → (List ℕ → ℕ → X → Type 0)
    → Type 0
LookupFindsFirst {X} w s represents =
    (kind : Kind) (c : List ℕ) (p hash : ℕ) (pairs : List (ℕ × X)) (accept : X → Bool)
    (accept_at : ℕ → Bool) → IsKind kind → hash < 2 ^ 64
    → (of : IsWrittenOf w s.size represents c p pairs) → AreUnder hash accept pairs
    → AgreesAt (home_positions w s.size c p of.homes) (items_of pairs) accept accept_at
    → IsFirstOf represents c accept (items_of pairs) (pos_found kind w s.size c p hash accept_at)
    × (pos_found kind w s.size c p hash accept_at
    ≡ first_pos (home_positions w s.size c p of.homes) accept (items_of pairs))
