-- Pairs under the hashes of their keys, as the input of a table.
use Rattle.std.specs.Prelude.{◌≡◌, ℕ, MatchOption, Option, Some, None}
use Rattle.rkyv_base.specs.declared.adapter.EntryAdapter.{EntryAdapter}

-- a step of an iterator of pairs, with the hash of the key of the pair
abbrev pub HashedStep : {S BK BV A B : Type 0} → (S → Option (BK × BV) → S → Type 0) → (BK → ℕ) → S
    → Option (ℕ × EntryAdapter BK BV A B) → S → Type 0
HashedStep steps hash s r t = MatchOption r (steps s None t) (λ x. (x.0 ≡ hash x.1.key)
    × steps s (Some (x.1.key, x.1.value)) t)
