-- A walk over written control bytes visits the home buckets.
use Rattle.std.proofs.Common.{ℕ, ◌<◌, arith, List, [], length, slice_index}
use Rattle.std.proofs.lemmas.Grind.{common_steps}
use Rattle.std.specs.List.{AllPairs, Contains, IsDistinct, range_with_len}
use Rattle.std.proofs.lemmas.Bool.{cases_Bool, not-false}
use Rattle.std.proofs.lemmas.List.{get_or_default}
use Rattle.std.proofs.lemmas.List.FromFn.{get_or-range_with_len, length-range_with_len}
use Rattle.std.proofs.lemmas.List.Kept.{AllPairs-filter}
use Rattle.rkyv_scan.specs.{is_full}
use Rattle.rkyv_table.specs.{AreHashes, AreWrittenControls, VisitsHomes, is_free, walk}
use Rattle.rkyv_table.proofs.Lists.{member_contains}
use Rattle.rkyv_table.proofs.Walks.{full_walked, walk_none, walked_full}
use Rattle.rkyv_table.proofs.WrittenAccepted.{accepted_written, distinct_homes}
use Rattle.rkyv_table.proofs.WrittenStep.{home_below}

range_ascends : (n : ℕ) → AllPairs (λ a b. a < b) (range_with_len 0 n)
range_ascends n i j d ij h = grind (arith, common_steps, length-range_with_len, get_or-range_with_len)

walk_ascends : (controls : List ℕ) (cap : ℕ) → AllPairs (λ a b. a < b) (walk controls cap)
unfolding walk
walk_ascends controls cap = AllPairs-filter (λ a b. a < b) (λ b. is_full (slice_index controls b)) (range_with_len 0 cap) (range_ascends cap)

module _ (cap : ℕ) (hashes homes controls : List ℕ) (room : length hashes < cap) (fit : AreHashes hashes) (w : AreWrittenControls cap hashes homes controls) where
  walked_home : (bucket : ℕ) → Contains (walk controls cap) bucket → Contains homes bucket
  walked_home bucket c = grind (arith, common_steps, walked_full cap controls bucket c, cases_Bool (is_free homes bucket), member_contains, not-false)

  home_walked : (bucket : ℕ) → Contains homes bucket → Contains (walk controls cap) bucket
  home_walked bucket c =
      let count = w.placed.count in
      let l : c.0 < length hashes = omega (arith, c.1) in
      grind (arith, common_steps, get_or_default homes c.0 0 bucket c.1, home_below cap hashes homes controls c.0 (omega arith) w l, full_walked)

  pub walked_homes : VisitsHomes cap homes controls
  walked_homes = grind (arith, common_steps, walk_ascends controls cap, distinct_homes cap hashes homes w.placed, walked_home, home_walked, accepted_written)

-- without buckets, none is visited
pub none_visits : (controls : List ℕ) → VisitsHomes 0 [] controls
unfolding IsDistinct
none_visits controls = grind (arith, common_steps, walk_none)
