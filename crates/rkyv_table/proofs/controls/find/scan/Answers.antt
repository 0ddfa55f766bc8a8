use Rattle.std.proofs.lemmas.Grind.{common_steps}
use Rattle.std.proofs.Common.{arith, ◌≡◌, ◌+◌, ◌*◌, ◌≤◌, ℕ, sym, ap, ◌∙◌, take, drop, List, leb, get_or, None}
use Rattle.std.specs.List.{list_any, range_with_len}
use Rattle.rkyv_scan.specs.{Kind}
use Rattle.rkyv_table.proofs.Groups.{all_candidates, all_empty, candidates_in, empty_in, found_more, found_whole, group_fits, group_of, groups_end, indices_are, mark_is_any, more_empty, no_candidates, no_empty, or_no, width_divides}
use Rattle.rkyv_table.proofs.Search.{width_some}
use Rattle.rkyv_table.proofs.WholeStride.{whole_found, whole_marked_full, whole_none}
use Rattle.std.proofs.lemmas.Bool.{or_right}
use Rattle.rkyv_table.specs.{IsFullInStride, IsMarked}
use Rattle.rkyv_table.proofs.Marks.{index_full, marked_bucket_full}
use Rattle.rkyv_table.proofs.controls.find.scan.Goals as goal
use Rattle.rkyv_table.proofs.controls.find.scan.Goals.{After-match_byte, After-match_byte-in-loop-i, else-any_bit_set-2, then-any_bit_set-2}

-- one group
module _ (g : _) (c : After-match_byte-in-loop-i g) where
  width_is : c.WIDTH-in-loop-i.result ≡ g.G.GroupKind.kind.width
  width_is = c.WIDTH-in-loop-i.ensures ∙ g.met.G.GroupKind.width

  fits : c.loop-i.i * g.G.GroupKind.kind.width + g.G.GroupKind.kind.width ≤ 16
  fits = group_fits c.loop-i.i g.G.GroupKind.kind.width (rw (c.WIDTH-i-end.ensures, g.met.G.GroupKind.width) at c.loop-i-test.true)

  shown : (b : ℕ) → IsMarked (c.args.pos + c.loop-i.i * c.WIDTH-in-loop-i.result) c.args.cap (g.G.Mask.Marks.indices c.match_byte-in-loop-i.result) b → IsFullInStride c.args.stride.now c.args.pos c.args.cap b
  shown = marked_bucket_full g.G.GroupKind.kind g.met.G.GroupKind.lawful c.args.tag c.args.pos c.args.cap (c.loop-i.i * c.WIDTH-in-loop-i.result) c.args.stride.now (g.G.GroupKind.controls c.read-group.result) (g.G.Mask.Marks.indices c.match_byte-in-loop-i.result) c.requires.tag (rw width_is fits) c.read-group.ensures c.match_byte-in-loop-i.ensures

pub loop-i-init : goal.loop-i-init
loop-i-init g c =
    let kind : Kind = g.G.GroupKind.kind in
    let z : 0 * g.G.GroupKind.kind.width ≡ 0 = omega arith in
    grind (arith, common_steps, empty_in, no_empty, candidates_in, no_candidates)

pub returns-in-Some-first_accepted-clause-outcome : goal.returns-in-Some-first_accepted-clause-outcome
returns-in-Some-first_accepted-clause-outcome g c = λ controls e accept compares.
    let kind : Kind = g.G.GroupKind.kind in
    let law = g.met.G.GroupKind.lawful in
    let i = c.loop-i.i in
    let after = (goal.at.returns-in-Some-first_accepted-clause-outcome g c).After-match_byte-in-loop-i in
    let f = c.in-Some-first_accepted.ensures.first accept (λ b r marked returned. compares b r (shown g after b marked) returned) in
    let f' = rw (c.match_byte-in-loop-i.ensures, indices_are, c.WIDTH-in-loop-i.ensures, g.met.G.GroupKind.width) at f in
    let s = c.read-group.ensures in
    let s' = rw (c.WIDTH-in-loop-i.ensures, g.met.G.GroupKind.width) at s in
    let s'' = s' ∙ group_of controls c.args.stride.now c.args.pos (i * g.G.GroupKind.kind.width) g.G.GroupKind.kind.width (fits g after) e in
    let m = found_more kind controls (g.G.GroupKind.controls c.read-group.result) c.args.cap c.args.tag c.args.pos i accept _ (width_some kind law) s'' (c.loop-i.invariant.none controls e accept compares) f' in
    let le : (i + 1) * g.G.GroupKind.kind.width ≤ 16 = omega (arith, fits g after) in
    found_whole kind controls c.args.cap c.args.tag c.args.pos ((i + 1) * g.G.GroupKind.kind.width) c.in-Some-first_accepted.bucket accept le m

pub loop-i-preserved : goal.loop-i-preserved
loop-i-preserved g c =
    let kind : Kind = g.G.GroupKind.kind in
    let law = g.met.G.GroupKind.lawful in
    let i = c.loop-i.i in
    let after = (goal.at.loop-i-preserved g c).After-match_byte-in-loop-i in
    let s = c.read-group.ensures in
    let s' = rw (c.WIDTH-in-loop-i.ensures, g.met.G.GroupKind.width) at s in
    let shows = g.G.GroupKind.controls c.read-group.result in
    let at = λ (controls : List ℕ) (e : c.args.stride.now ≡ take 16 (drop c.args.pos controls)). s' ∙ group_of controls c.args.stride.now c.args.pos (i * g.G.GroupKind.kind.width) g.G.GroupKind.kind.width (fits g after) e in
    record {
      shown = λ controls e.
          let m = more_empty controls shows c.args.pos i g.G.GroupKind.kind.width (at controls e) in
          let a = rw (c.match_empty-in-loop-i.ensures, indices_are) at c.any_bit_set-in-loop-i.ensures in
          let a'' = mark_is_any c.any_bit_set-in-loop-i.result (λ j. leb 128 (get_or shows j 0)) (range_with_len 0 g.G.GroupKind.kind.width) a in
          let b = c.loop-i.invariant.shown controls e in
          let la = list_any (λ j. leb 128 (get_or shows j 0)) (range_with_len 0 g.G.GroupKind.kind.width) in
          let before = empty_in controls c.args.pos (i * g.G.GroupKind.kind.width) in
          (elim c.if-any_bit_set-2.branch [
            | then-any_bit_set-2 w ↦ w.empty-is ∙ sym (m ∙ or_right before la (sym a'' ∙ w.if-any_bit_set-2.true))
            | else-any_bit_set-2 w ↦ w.empty-is ∙ b ∙ sym (m ∙ or_no before la (sym a'' ∙ w.if-any_bit_set-2.false))
          ]);
      none = λ controls e accept compares.
          let f = c.in_default-first_accepted.ensures.first accept (λ b r marked returned. compares b r (shown g after b marked) returned) in
          let f' = rw (c.match_byte-in-loop-i.ensures, indices_are, c.WIDTH-in-loop-i.ensures, g.met.G.GroupKind.width) at f in
          found_more kind controls shows c.args.cap c.args.tag c.args.pos i accept None (width_some kind law) (at controls e) (c.loop-i.invariant.none controls e accept compares) f';
    }

pub returns-then-empty-clause-outcome : goal.returns-then-empty-clause-outcome
returns-then-empty-clause-outcome g c = λ controls e accept compares.
    let n : c.loop-i.i * g.G.GroupKind.kind.width ≡ 16 = groups_end c.loop-i.i g.G.GroupKind.kind.width (width_divides g.G.GroupKind.kind g.met.G.GroupKind.lawful) (rw (c.WIDTH-i-end.ensures, g.met.G.GroupKind.width) at c.loop-i.auto.i-end) (rw (c.WIDTH-i-end.ensures, g.met.G.GroupKind.width) at c.loop-i-test.false) in
    ((rw (n, all_candidates) at (c.loop-i.invariant.none controls e accept compares)), sym (rw (n, all_empty) at (c.loop-i.invariant.shown controls e)) ∙ c.if-empty.true)

pub returns-else-empty-clause-outcome : goal.returns-else-empty-clause-outcome
returns-else-empty-clause-outcome g c = λ controls e accept compares.
    let n : c.loop-i.i * g.G.GroupKind.kind.width ≡ 16 = groups_end c.loop-i.i g.G.GroupKind.kind.width (width_divides g.G.GroupKind.kind g.met.G.GroupKind.lawful) (rw (c.WIDTH-i-end.ensures, g.met.G.GroupKind.width) at c.loop-i.auto.i-end) (rw (c.WIDTH-i-end.ensures, g.met.G.GroupKind.width) at c.loop-i-test.false) in
    ((rw (n, all_candidates) at (c.loop-i.invariant.none controls e accept compares)), sym (rw (n, all_empty) at (c.loop-i.invariant.shown controls e)) ∙ c.if-empty.false)

pub first_accepted-requires-in-loop-i-clause-below : goal.first_accepted-requires-in-loop-i-clause-below
first_accepted-requires-in-loop-i-clause-below g c = λ k h.
    let kind : Kind = g.G.GroupKind.kind in
    let law = g.met.G.GroupKind.lawful in
    let i = c.loop-i.i in
    let after = (goal.at.first_accepted-requires-in-loop-i-clause-below g c).After-match_byte-in-loop-i in
    let e : i * c.WIDTH-in-loop-i.result ≡ i * g.G.GroupKind.kind.width = ap (λ x. i * x) (width_is g after) in
    let f = index_full kind law c.args.tag c.args.stride.now (g.G.GroupKind.controls c.read-group.result) (g.G.Mask.Marks.indices c.match_byte-in-loop-i.result) (i * c.WIDTH-in-loop-i.result) k c.requires.tag c.read-group.ensures c.match_byte-in-loop-i.ensures h in
    let j = get_or (g.G.Mask.Marks.indices c.match_byte-in-loop-i.result) k 0 in
    omega (arith, c.requires.below (i * c.WIDTH-in-loop-i.result + j) (omega (arith, f.0, fits g after)) f.1)

pub first_accepted-requires-in-loop-i-clause-callable : goal.first_accepted-requires-in-loop-i-clause-callable
first_accepted-requires-in-loop-i-clause-callable g c = λ b marked. c.requires.callable b (shown g (goal.at.first_accepted-requires-in-loop-i-clause-callable g c).After-match_byte-in-loop-i b marked)

pub returns-in-Some-first_accepted-clause-full : goal.returns-in-Some-first_accepted-clause-full
returns-in-Some-first_accepted-clause-full g c = shown g (goal.at.returns-in-Some-first_accepted-clause-full g c).After-match_byte-in-loop-i c.in-Some-first_accepted.bucket c.in-Some-first_accepted.ensures.among

-- a marked bucket is shown
module _ (g : _) (c : After-match_byte g) where
  one : g.G.GroupKind.kind.width ≡ 16
  one = sym g.met.G.GroupKind.width ∙ sym c.WIDTH.ensures ∙ c.if-WIDTH-eq16.true

  whole_is_shown : (b : ℕ) → IsMarked c.args.pos c.args.cap (g.G.Mask.Marks.indices c.match_byte.result) b → IsFullInStride c.args.stride.now c.args.pos c.args.cap b
  whole_is_shown = whole_marked_full g.G.GroupKind.kind g.met.G.GroupKind.lawful c.args.tag c.args.pos c.args.cap c.args.stride.now (g.G.GroupKind.controls c.read-whole.result) (g.G.Mask.Marks.indices c.match_byte.result) c.requires.tag one c.read-whole.ensures c.match_byte.ensures

pub first_accepted-requires-clause-below : goal.first_accepted-requires-clause-below
first_accepted-requires-clause-below g c = λ k h.
    let f = index_full g.G.GroupKind.kind g.met.G.GroupKind.lawful c.args.tag c.args.stride.now (g.G.GroupKind.controls c.read-whole.result) (g.G.Mask.Marks.indices c.match_byte.result) 0 k c.requires.tag c.read-whole.ensures c.match_byte.ensures h in
    let j = get_or (g.G.Mask.Marks.indices c.match_byte.result) k 0 in
    let width = one g (goal.at.first_accepted-requires-clause-below g c).After-match_byte in
    omega (arith, c.requires.below (0 + j) (omega (arith, f.0)) f.1)

pub first_accepted-requires-clause-callable : goal.first_accepted-requires-clause-callable
first_accepted-requires-clause-callable g c = λ b marked. c.requires.callable b (whole_is_shown g (goal.at.first_accepted-requires-clause-callable g c).After-match_byte b marked)

pub returns-in-Some-clause-full : goal.returns-in-Some-clause-full
returns-in-Some-clause-full g c = whole_is_shown g (goal.at.returns-in-Some-clause-full g c).After-match_byte c.in-Some.bucket c.in-Some.ensures.among

pub returns-in-Some-clause-outcome : goal.returns-in-Some-clause-outcome
returns-in-Some-clause-outcome g c = λ controls e accept compares.
    whole_found g.G.GroupKind.kind g.met.G.GroupKind.lawful controls (g.G.GroupKind.controls c.read-whole.result) c.args.stride.now c.args.cap c.args.tag c.args.pos accept _ (g.G.Mask.Marks.indices c.match_byte.result) (one g (goal.at.returns-in-Some-clause-outcome g c).After-match_byte) c.read-whole.ensures e c.match_byte.ensures
    (c.in-Some.ensures.first accept (λ b r marked returned. compares b r (whole_is_shown g (goal.at.returns-in-Some-clause-outcome g c).After-match_byte b marked) returned))

pub returns-then-any_bit_set-clause-outcome : goal.returns-then-any_bit_set-clause-outcome
returns-then-any_bit_set-clause-outcome g c = λ controls e accept compares.
    let s = whole_none g.G.GroupKind.kind g.met.G.GroupKind.lawful controls (g.G.GroupKind.controls c.read-whole.result) c.args.stride.now c.args.cap c.args.tag c.args.pos accept c.any_bit_set.result (g.G.Mask.Marks.indices c.match_byte.result) (g.G.Mask.Marks.indices c.match_empty.result) (one g (goal.at.returns-then-any_bit_set-clause-outcome g c).After-match_byte) c.read-whole.ensures e
    c.match_byte.ensures (c.in_default.ensures.first accept (λ b r marked returned. compares b r (whole_is_shown g (goal.at.returns-then-any_bit_set-clause-outcome g c).After-match_byte b marked) returned)) c.match_empty.ensures c.any_bit_set.ensures in
    (s.0, s.1 ∙ c.if-any_bit_set.true)

pub returns-then-WIDTH-eq16-clause-outcome : goal.returns-then-WIDTH-eq16-clause-outcome
returns-then-WIDTH-eq16-clause-outcome g c = λ controls e accept compares.
    let s = whole_none g.G.GroupKind.kind g.met.G.GroupKind.lawful controls (g.G.GroupKind.controls c.read-whole.result) c.args.stride.now c.args.cap c.args.tag c.args.pos accept c.any_bit_set.result (g.G.Mask.Marks.indices c.match_byte.result) (g.G.Mask.Marks.indices c.match_empty.result) (one g (goal.at.returns-then-WIDTH-eq16-clause-outcome g c).After-match_byte) c.read-whole.ensures e
    c.match_byte.ensures (c.in_default.ensures.first accept (λ b r marked returned. compares b r (whole_is_shown g (goal.at.returns-then-WIDTH-eq16-clause-outcome g c).After-match_byte b marked) returned)) c.match_empty.ensures c.any_bit_set.ensures in
    (s.0, s.1 ∙ c.if-any_bit_set.false)
