use Rattle.std.proofs.Common.{None, Some, refl, subst, sym}
use Rattle.ffi_calls.specs.{FindsValue}
use Rattle.ffi_calls.specs.declared.any_value.IndexedValue.{IndexedValue}
use Rattle.ffi_calls.proofs.AtViews.{there}
use Rattle.ffi_calls.proofs.First.{first_found, none_found}
use Rattle.ffi_calls.proofs.map_lookup.find_in.Goals as goal

pub returns-in-Some-clause-finds : goal.returns-in-Some-clause-finds
returns-in-Some-clause-finds g c =
    let b = c.args.archive.now in
    let reads = g.V.ToAny.any in
    let found : IndexedValue = record { index = 0; value = c.to_any.result } in
    let read = there (λ d q. reads d q c.to_any.result) _ _ _ _ b c.new.ensures.0 refl c.new.ensures.1 c.to_any.ensures in
    subst (λ target. FindsValue (reads b) target (Some found)) c.in-Some.ensures.found (refl, (c.in-Some.pos, refl, read))

pub returns-in-None-clause-finds : goal.returns-in-None-clause-finds
returns-in-None-clause-finds g c = sym c.in-None.ensures.found

pub returns-in-Some-clause-first : goal.returns-in-Some-clause-first
returns-in-Some-clause-first g c = λ factor pairs represents.
    let b = c.args.archive.now in
    let pos = c.in-Some.pos in
    let read = there (λ d q. g.V.ToAny.any d q c.to_any.result) _ _ _ _ b c.new.ensures.0 refl c.new.ensures.1 c.to_any.ensures in
    (refl, first_found (g.V.Represents.represents b) (Some pos) g.V.StoredValue.is_of pos c.to_any.result _ refl (λ x at. g.met.V.StoredValue.agrees b pos c.to_any.result x read at) (c.in-Some.ensures.listed factor pairs represents))

pub returns-in-None-clause-first : goal.returns-in-None-clause-first
returns-in-None-clause-first g c = λ factor pairs represents.
    none_found (g.V.Represents.represents c.args.archive.now) None _ refl (c.in-None.ensures.listed factor pairs represents)
