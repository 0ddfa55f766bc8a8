-- The numbers of a table. `cap` is the number of its buckets.
use Rattle.std.specs.Prelude.{ℕ, ◌+◌, ◌*◌, ◌/◌, ◌%◌, ◌^◌, ◌<◌, ◌≤◌, ◌==◌, max, cond, leb}
use Rattle.std.specs.List.{position_or_len, range_with_len}

-- the tag of a hash: its seven highest bits of 64
abbrev pub tag : ℕ → ℕ
tag hash = hash / 2 ^ 57

-- a load factor: a fraction above 0 and at most 1
abbrev pub IsLoadFactor : ℕ × ℕ → Type 0
IsLoadFactor factor = (0 < factor.0) × (factor.0 ≤ factor.1)

-- the number of buckets of a table of `len` items under a load factor: 0 for no items, and else
-- at least `len + 1`, so that one stays empty
abbrev pub capacity : ℕ → ℕ × ℕ → ℕ
capacity len factor = cond (len == 0) 0 (max (len * factor.1 / factor.0) (len + 1))

-- the bucket at which the probe sequence of a hash begins
abbrev pub start : ℕ → ℕ → ℕ
start hash cap = hash % cap

-- the number of indices at which a stride may begin: `cap` rounded up to a multiple of 16
abbrev pub probe_capacity : ℕ → ℕ
probe_capacity cap = (cap + 15) / 16 * 16

-- the number of control bytes
abbrev pub control_count : ℕ → ℕ
control_count cap = probe_capacity cap + 15

-- the modulus of the probe sequence: the least power of two that is at least the number
-- of control bytes
unfoldable pub modulus : ℕ → ℕ
modulus cap = 2 ^ position_or_len (λ k. leb (control_count cap) (2 ^ k))
    (range_with_len 0 (control_count cap))
