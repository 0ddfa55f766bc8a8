use Rattle.std.proofs.Common.{◌≡◌, ◌∙◌, ℕ, ◌+◌, ◌/◌, ◌-◌, ◌^◌, ◌∷◌, ◌<◌, ◌≤◌, ap, sym, arith, bit_and}
use Rattle.std.proofs.lemmas.Grind.{common_steps}
use Rattle.rkyv_table.specs.{IsProbe, modulus, probe_capacity, strides_from}
use Rattle.rkyv_table.proofs.ProbeSteps.{ends, first_taken, modulus_small, pos_below, sixteenths, skips, stepped, takes}
use Rattle.rkyv_table.proofs.controls.probe.ProbeIterator.next.Goals as goal
use Rattle.rkyv_table.proofs.controls.probe.ProbeIterator.next.Goals.{In-loop-self}

pub returns-then-self-eq0-clause-steps : goal.returns-then-self-eq0-clause-steps
returns-then-self-eq0-clause-steps c = grind (arith, common_steps, first_taken)

pub returns-then-self-eq0-clause-goes : goal.returns-then-self-eq0-clause-goes
returns-then-self-eq0-clause-goes c = grind (arith, common_steps, first_taken)

-- one turn
module _ (c : In-loop-self) where
  modulus_is : c.modulus-modulus.result ≡ modulus c.loop-self.self-inside.cap
  modulus_is = c.modulus-modulus.ensures ∙ ap modulus (sym c.loop-self.invariant.cap)

  limit_is : c.probe_capacity-limit.result ≡ probe_capacity c.loop-self.self-inside.cap
  limit_is = c.probe_capacity-limit.ensures ∙ ap probe_capacity (sym c.loop-self.invariant.cap)

  abbrev pos : ℕ
  pos = bit_and (c.loop-self.self-inside.pos + c.loop-self.self-inside.step) (c.modulus-modulus.result - 1)

  within : c.loop-self.self-inside.step < modulus c.loop-self.self-inside.cap
  within = rw (← modulus_is) c.loop-self-test.true

  next : IsProbe c.loop-self.self-inside.cap c.loop-self.self-inside.start pos (c.loop-self.self-inside.step + 16)
  next = rw modulus_is (stepped c.loop-self.self-inside.cap c.loop-self.self-inside.start c.loop-self.self-inside.pos c.loop-self.self-inside.step c.loop-self.invariant.begun c.loop-self.invariant.is)

  small : (c.loop-self.self-inside.pos < 2 ^ 63) × (c.loop-self.self-inside.step + 16 ≤ 2 ^ 63)
  small =
      let is = c.loop-self.invariant.is in
      let begun = is.begun in
      let m = modulus_small c.loop-self.self-inside.cap (omega (arith, modulus_is)) in
      (omega (arith, m, pos_below _ _ _ _ is), omega (arith, m, (sixteenths _ _ (omega arith) is.whole within).1))

  step : pos < c.probe_capacity-limit.result → c.args.self.now ≡ pos ∷ strides_from c.loop-self.self-inside.cap c.loop-self.self-inside.start ((c.loop-self.self-inside.step + 16) / 16)
  step below = grind (arith, common_steps, modulus_is, takes, limit_is)

  skip : c.probe_capacity-limit.result ≤ pos → strides_from c.loop-self.self-inside.cap c.loop-self.self-inside.start (c.loop-self.self-inside.step / 16) ≡ strides_from c.loop-self.self-inside.cap c.loop-self.self-inside.start ((c.loop-self.self-inside.step + 16) / 16)
  skip above = grind (arith, common_steps, modulus_is, skips, limit_is)

pub overflow_add-self : goal.overflow_add-self
overflow_add-self c =
    let s = small (goal.at.overflow_add-self c).In-loop-self in
    omega (arith, s.0, s.1)

pub overflow_add-self-in-loop-self : goal.overflow_add-self-in-loop-self
overflow_add-self-in-loop-self c =
    let s = small (goal.at.overflow_add-self-in-loop-self c).In-loop-self in
    omega (arith, s.1)

pub invariant_of-self-then-self-limit : goal.invariant_of-self-then-self-limit
invariant_of-self-then-self-limit c = next (goal.at.invariant_of-self-then-self-limit c).In-loop-self

pub returns-then-self-limit-clause-steps : goal.returns-then-self-limit-clause-steps
returns-then-self-limit-clause-steps c = step (goal.at.returns-then-self-limit-clause-steps c).In-loop-self c.if-self-limit.true

pub returns-then-self-limit-clause-goes : goal.returns-then-self-limit-clause-goes
returns-then-self-limit-clause-goes c = grind (arith, common_steps, step)

pub returns-clause-steps : goal.returns-clause-steps
returns-clause-steps c = grind (arith, common_steps, ends)

pub loop-self-preserved : goal.loop-self-preserved
loop-self-preserved c =
    let at = (goal.at.loop-self-preserved c).In-loop-self in
    record {
      is = next at;
      begun = omega arith;
      cap = c.loop-self.invariant.cap;
      same = c.loop-self.invariant.same ∙ skip at (omega (arith, c.if-self-limit.false));
    }
