use Rattle.std.proofs.Common.{arith, eqb, true, subst, ◌∷◌, ◌≡◌, ℕ, ◌-◌, ◌/◌, ◌<◌, sym, ap, ◌∙◌, Bool, Option, length, drop, length-take, length-drop}
use Rattle.std.proofs.lemmas.Grind.{common_steps}
use Rattle.std.specs.List.{list_any}
use Rattle.rkyv_table.specs.{AreValidControls, ComparesByBucket, IsFullBucket, IsFullInStride, ReadsWithin, count_after, found, probe_capacity, probe_length, strides, tag}
use Rattle.rkyv_table.proofs.Counts.{counted_on}
use Rattle.rkyv_table.proofs.Coverage.{count_strides, stride_below}
use Rattle.rkyv_table.proofs.FirstFree.{member_front, member_rest}
use Rattle.rkyv_table.proofs.Search.{ahead, ahead_is, found_along}
use Rattle.rkyv_table.proofs.Lookup.{end_index, end_is, ends_by_empty, ends_by_item, ends_somewhere, found_is, goes_on, shown_full, stride_full}
use Rattle.rkyv_table.proofs.controls.find.find_from.Goals as goal
use Rattle.rkyv_table.proofs.controls.find.find_from.Goals.{After-cmp-1}

-- a stride that was read
module _ (g : _) (c : After-cmp-1 g) where
  accepted : AreValidControls c.args.cap c.args.len c.args.controls.now
  accepted = c.requires.accepted (omega (arith, c.if-len-eq0.false))

  below : c.in-Some.pos < probe_capacity c.args.cap
  below = let room = accepted.room in stride_below c.args.hash c.args.cap c.in-Some.pos (omega arith) (c.loop-next.invariant.members c.in-Some.pos (member_front c.in-Some.pos c.loop-next.rest (ahead c.loop-next.next c.loop-next.rest) (ap (λ n. ahead n c.loop-next.rest) c.in-Some.is)))

  full : (b : ℕ) → IsFullInStride c.stride.result.now c.in-Some.pos c.args.cap b → IsFullBucket c.args.cap c.args.controls.now b
  full = shown_full c.args.cap c.args.len c.args.controls.now c.stride.result.now c.in-Some.pos accepted below c.stride.ensures.value

  module _ (accept : ℕ → Bool) (compares : ComparesByBucket (goal.F-post g c.args.cmp) (IsFullBucket c.args.cap c.args.controls.now) accept) where
    compares_here : ComparesByBucket (goal.F-post g c.args.cmp) (IsFullInStride c.stride.result.now c.in-Some.pos c.args.cap) accept
    compares_here b r shown returned = compares b r (full b shown) returned

    found_as : (r : Option ℕ) → found_along g.G.GroupKind.kind c.args.controls.now c.args.cap (tag c.args.hash) accept (ahead c.loop-next.next c.loop-next.rest) ≡ r → r ≡ found g.G.GroupKind.kind c.args.controls.now c.args.cap c.args.len c.args.hash accept
    found_as r e = sym (found_is g.G.GroupKind.kind c.args.controls.now c.args.cap c.args.len c.args.hash accept c.if-len-eq0.false ∙ c.loop-next.invariant.same accept compares ∙ e)

    counted : end_index g.G.GroupKind.kind c.args.controls.now c.args.cap (tag c.args.hash) accept (ahead c.loop-next.next c.loop-next.rest) ≡ 0
        → c.stride.new.self ≡ count_after c.args.strides.now (probe_length g.G.GroupKind.kind c.args.controls.now c.args.cap c.args.len c.args.hash accept)
    counted z =
        let k = c.loop-next.invariant.counted accept compares in
        let e = end_is g.G.GroupKind.kind c.args.controls.now c.args.cap c.args.len c.args.hash accept c.if-len-eq0.false in
        let n = length (strides c.args.hash c.args.cap) - length (ahead c.loop-next.next c.loop-next.rest) in
        c.stride.ensures.counted ∙ ap (λ before. count_after before 1) c.loop-next.invariant.read ∙ counted_on c.args.strides.now n 1 ∙ ap (count_after c.args.strides.now) (omega (arith, k, e, z))

pub stride-requires : goal.stride-requires
stride-requires g c =
    let a : AreValidControls c.args.cap c.args.len c.args.controls.now = c.requires.accepted (omega (arith, c.if-len-eq0.false)) in
    let room = a.room in
    let lp = stride_below c.args.hash c.args.cap c.in-Some.pos (omega arith) (c.loop-next.invariant.members c.in-Some.pos (member_front c.in-Some.pos c.loop-next.rest (ahead c.loop-next.next c.loop-next.rest) (ap (λ n. ahead n c.loop-next.rest) c.in-Some.is))) in
    let count = a.wrapped.count in
    omega arith

pub scan-requires-clause-whole : goal.scan-requires-clause-whole
scan-requires-clause-whole g c =
    let at = (goal.at.scan-requires-clause-whole g c).After-cmp-1 in
    let count = (accepted g at).wrapped.count in
    let room = (accepted g at).room in
    ap length c.stride.ensures.value ∙ length-take 16 (drop c.in-Some.pos c.args.controls.now) ∙ omega (arith, length-drop c.in-Some.pos c.args.controls.now, below g at)

pub scan-requires-clause-fits : goal.scan-requires-clause-fits
scan-requires-clause-fits g c =
    let at = (goal.at.scan-requires-clause-fits g c).After-cmp-1 in
    let count = (accepted g at).wrapped.count in
    let room = (accepted g at).room in
    omega (arith, below g at)

pub scan-requires-clause-below : goal.scan-requires-clause-below
scan-requires-clause-below g c = λ q lq f.
    let at = (goal.at.scan-requires-clause-below g c).After-cmp-1 in
    (stride_full c.args.cap c.args.len c.args.controls.now c.stride.result.now c.in-Some.pos q (accepted g at) (below g at) lq c.stride.ensures.value f).0

pub scan-requires-clause-callable : goal.scan-requires-clause-callable
scan-requires-clause-callable g c = λ b shown.
    c.requires.callable b (full g (goal.at.scan-requires-clause-callable g c).After-cmp-1 b shown)

-- one stride more was read, and there are no more than the bound
module _ (g : _) (c : After-cmp-1 g) where
  within : ReadsWithin c.args.len (probe_capacity c.args.cap / 16) c.args.strides.now c.stride.new.self
  within =
      let room = (accepted g c).room in
      let all = count_strides c.args.hash c.args.cap (omega arith) in
      let more = ap length (ap (λ n. ahead n c.loop-next.rest) c.in-Some.is) in
      let fewer = c.loop-next.invariant.fewer in
      let n = length (strides c.args.hash c.args.cap) - length (ahead c.loop-next.next c.loop-next.rest) in
      let e = c.stride.ensures.counted ∙ ap (λ before. count_after before 1) c.loop-next.invariant.read ∙ counted_on c.args.strides.now n 1 in
      grind (arith, common_steps, e, all, more, fewer)

-- the search ends at the stride, by an item or by an empty control byte
pub returns-in-Accepted : goal.returns-in-Accepted
returns-in-Accepted g c =
    let at = (goal.at.returns-in-Accepted g c).After-cmp-1 in
    let ends = λ (accept : ℕ → Bool) (compares : ComparesByBucket (goal.F-post g c.args.cmp) (IsFullBucket c.args.cap c.args.controls.now) accept).
    (let s = rw c.tag-tag.ensures at (c.in-Accepted.ensures.outcome c.args.controls.now c.stride.ensures.value accept (compares_here g at accept compares)) in
    ends_by_item g.G.GroupKind.kind c.args.controls.now c.args.cap (tag c.args.hash) accept c.in-Some.pos c.in-Accepted.bucket c.loop-next.rest (ahead c.loop-next.next c.loop-next.rest) (ap (λ n. ahead n c.loop-next.rest) c.in-Some.is) s) in
    record {
      walked = full g at c.in-Accepted.bucket c.in-Accepted.ensures.full;
      accepted = c.in-Accepted.ensures.accepted;
      bounded = within g at;
      finds = λ accept compares. found_as g at accept compares _ (ends accept compares).0;
      counted = λ accept compares. counted g at accept compares (ends accept compares).1;
    }

pub returns-in-HasEmpty : goal.returns-in-HasEmpty
returns-in-HasEmpty g c =
    let at = (goal.at.returns-in-HasEmpty g c).After-cmp-1 in
    let ends = λ (accept : ℕ → Bool) (compares : ComparesByBucket (goal.F-post g c.args.cmp) (IsFullBucket c.args.cap c.args.controls.now) accept).
    (let s = rw c.tag-tag.ensures at (c.in-HasEmpty.ensures.outcome c.args.controls.now c.stride.ensures.value accept (compares_here g at accept compares)) in
    ends_by_empty g.G.GroupKind.kind c.args.controls.now c.args.cap (tag c.args.hash) accept c.in-Some.pos c.loop-next.rest (ahead c.loop-next.next c.loop-next.rest) (ap (λ n. ahead n c.loop-next.rest) c.in-Some.is) s.0 s.1) in
    record {
      walked = tt;
      accepted = tt;
      bounded = within g at;
      finds = λ accept compares. found_as g at accept compares _ (ends accept compares).0;
      counted = λ accept compares. counted g at accept compares (ends accept compares).1;
    }

pub loop-next-init : goal.loop-next-init
loop-next-init g c =
    let ps = ahead c.next-next.result c.next-next.new.self in
    let all = strides c.args.hash c.args.cap in
    let a = c.requires.accepted (omega (arith, c.if-len-eq0.false)) in
    let room = a.room in
    let e : ps ≡ all = sym (ahead_is c.next-next.result c.starting_at-rest.result c.next-next.new.self c.next-next.ensures.steps)
    ∙ c.starting_at-rest.ensures c.args.hash (c.requires.start (omega arith)) in
    record {
      fewer = omega (arith, ap length e);
      read = (let l = ap length e in grind (arith, common_steps));
      members = λ p m. subst (λ qs. list_any (eqb p) qs ≡ true) e m;
      same = λ accept compares. ap (found_along g.G.GroupKind.kind c.args.controls.now c.args.cap (tag c.args.hash) accept) (sym e);
      counted = λ accept compares. (let l = ap length e in let k = ap (end_index g.G.GroupKind.kind c.args.controls.now c.args.cap (tag c.args.hash) accept) e in omega arith);
    }

pub loop-next-preserved : goal.loop-next-preserved
loop-next-preserved g c =
    let at = (goal.at.loop-next-preserved g c).After-cmp-1 in
    let ps = ahead c.next-next-in-Some.result c.next-next-in-Some.new.self in
    let qs = ahead c.loop-next.next c.loop-next.rest in
    let more = ap (λ n. ahead n c.loop-next.rest) c.in-Some.is ∙ ap (λ rest. c.in-Some.pos ∷ rest) (ahead_is c.next-next-in-Some.result c.loop-next.rest c.next-next-in-Some.new.self c.next-next-in-Some.ensures.steps) in
    let d = c.stride.ensures.counted in
    let on = λ (accept : ℕ → Bool) (compares : ComparesByBucket (goal.F-post g c.args.cmp) (IsFullBucket c.args.cap c.args.controls.now) accept).
    (let s = rw c.tag-tag.ensures at (c.in-Continue.ensures.outcome c.args.controls.now c.stride.ensures.value accept (compares_here g at accept compares)) in
    goes_on g.G.GroupKind.kind c.args.controls.now c.args.cap (tag c.args.hash) accept c.in-Some.pos ps qs more s.0 s.1) in
    record {
      members = λ p m. c.loop-next.invariant.members p (member_rest c.in-Some.pos p ps qs more m);
      fewer = (let f = c.loop-next.invariant.fewer in let l = ap length more in omega arith);
      read = (let l = ap length more in
          let n = length (strides c.args.hash c.args.cap) - length qs in
          let f = c.loop-next.invariant.fewer in
          d ∙ ap (λ before. count_after before 1) c.loop-next.invariant.read ∙ counted_on c.args.strides.now n 1 ∙ ap (count_after c.args.strides.now) (omega (arith, l, f)));
      same = λ accept compares. c.loop-next.invariant.same accept compares ∙ (on accept compares).0;
      counted = λ accept compares. (let k = c.loop-next.invariant.counted accept compares in let o = (on accept compares).1 in let l = ap length more in let f = c.loop-next.invariant.fewer in omega arith);
    }

-- the probe sequence doesn't end before the search does
pub returns : goal.returns
returns g c = grind (arith, common_steps, accepted, count_strides, found_is, counted, ends_somewhere)
