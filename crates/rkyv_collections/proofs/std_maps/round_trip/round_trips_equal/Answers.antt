use Rattle.std.proofs.Common.{ℕ, ◌-◌, subst, sym, length, List, rules}
use Rattle.rkyv_base.proofs.AtViews.{back_at}
use Rattle.rkyv_collections.proofs.WrittenRoots.{root_keeps}
use Rattle.rkyv_collections.proofs.std_maps.round_trip.round_trips_equal.Goals as goal

pub returns-then-not-eq_native : goal.returns-then-not-eq_native
returns-then-not-eq_native g c =
    let value = c.args.value.now in
    let b : List ℕ = c.in_ok-bytes.bytes.items in
    let size = g.M.Archived.HasSpec.spec.size in
    let equals = g.M.Archived.MatchesNative.equals in
    let at = root_keeps g.W.Width.LIMIT g.M.Archived.HasSpec.spec g.M.Archived.HasSpec.laws equals g.M.Archive.format g.met.M.EqualsWritten.equal value b (length b - size) c.in_ok-bytes.ensures.2 in
    let here = subst (λ (xs : List ℕ). equals xs (length xs - size) value) (sym c.as_slice.ensures.value) at in
    let true_there = c.eq_native.ensures.1 (back_at c.in-Ok.root c.as_slice.result _ c.in-Ok.ensures.root.1 (λ d p. equals d p value) here) in
    cc (true_there, c.if-not-eq_native.true)

pub returns-clause-same : goal.returns-clause-same
returns-clause-same g c = search (rules, back_at)
