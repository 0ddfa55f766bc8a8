-- The probe sequence of a hash, and the probed buckets.
use Rattle.std.specs.Prelude.{◌≡◌, ℕ, ◌+◌, ◌*◌, ◌-◌, ◌/◌, ◌%◌, ◌<◌, ◌≤◌, ◌^◌, List, map, filter}
use Rattle.std.specs.Prelude.{ltb}
use Rattle.std.specs.List.{flat_map, range_with_len}
use Rattle.rkyv_table.specs.Controls.Numbers.{control_count, modulus, probe_capacity, start}

-- the index with the number `k` in the probe sequence that begins at `s`, modulo `m`
abbrev pub probe_index : ℕ → ℕ → ℕ → ℕ
probe_index s m k = (s + 16 * (k * (k + 1) / 2)) % m

-- the indices at which the strides of a hash begin: the indices of the probe sequence
-- below the probe capacity, in order
unfoldable pub strides : ℕ → ℕ → List ℕ
strides hash cap = filter (λ p. ltb p (probe_capacity cap))
    (map (probe_index (start hash cap) (modulus cap)) (range_with_len 0 (modulus cap / 16)))

-- the strides from the number `k` on, in the probe sequence that begins at `s`
unfoldable pub strides_from : ℕ → ℕ → ℕ → List ℕ
strides_from cap s k = filter (λ p. ltb p (probe_capacity cap))
    (map (probe_index s (modulus cap)) (range_with_len k (modulus cap / 16 - k)))

-- the buckets of the sixteen indices from `p` on, in order
unfoldable pub buckets_at : ℕ → ℕ → List ℕ
buckets_at cap p = map (λ q. q % cap) (filter (λ q. ltb q (2 * cap)) (range_with_len p 16))

-- the buckets that the strides of a hash probe, in order
abbrev pub probed : ℕ → ℕ → List ℕ
probed hash cap = flat_map (buckets_at cap) (strides hash cap)

-- the invariant of a `Probe`. `pos`: last considered index, or the start, `step`: 16 times
-- the number of considered indices
pub record IsProbe (cap start pos step : ℕ) : Type 0 where
  pub begun : start < cap
  pub fits : control_count cap ≤ 2 ^ 63
  pub whole : step % 16 ≡ 0
  pub at : pos ≡ probe_index start (modulus cap) (step / 16 - 1)
