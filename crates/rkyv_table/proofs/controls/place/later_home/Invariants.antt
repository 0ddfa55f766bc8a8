use Rattle.std.proofs.Common.{◌≡◌, ◌⊎◌, ℕ, length, eqb, true, false}
use Rattle.std.specs.List.{find, flat_map, list_any}
use Rattle.rkyv_table.specs.{buckets_at, is_empty_at, probed, start, strides}
use Rattle.rkyv_table.proofs.controls.place.later_home.Given as goal

abbrev pub invariant-loop-pos : goal.invariant-loop-pos
invariant-loop-pos g l = record {
  same : find (is_empty_at l.controls) (probed l.hash l.cap) ≡ find (is_empty_at l.controls) (flat_map (buckets_at l.cap) (l.pos-iterator));
  members : (p : ℕ) → list_any (eqb p) (l.pos-iterator) ≡ true → list_any (eqb p) (strides l.hash l.cap) ≡ true;
  started : (l.pos-iterator ≡ strides l.hash l.cap) ⊎ (list_any (is_empty_at l.controls) (buckets_at l.cap (start l.hash l.cap)) ≡ false);
}

abbrev pub decreases-loop-pos : goal.decreases-loop-pos
decreases-loop-pos g l = length (l.pos-iterator)
