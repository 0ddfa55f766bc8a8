use Rattle.std.proofs.Common.{◌≡◌, ℕ, ◌+◌, ◌-◌, ◌*◌, ◌<◌, ◌∙◌, arith, sym, ap, subst, slice_index, slice_range, List, ◌∷◌}
use Rattle.rkyv_table.specs.{full_from}
use Rattle.rkyv_table.proofs.SealedItems.{bucket_before, first_item, full_same, part_there}
use Rattle.rkyv_table.proofs.table.raw_iter_seal.RawIterSeal.first.Goals as goal

pub returns-in_err-bucket-clause-first : goal.returns-in_err-bucket-clause-first
returns-in_err-bucket-clause-first g c = λ w p is.
    let r = c.args.self.now in
    let some : 0 < r.left = omega (arith, c.if-self-eq0.false) in
    rw c.from_residual-in_err-bucket.ensures
    (sym (full_same w g.T.HasSpec.spec g.T.HasSpec.laws p r is some r.next)
    ∙ ap (λ xs. full_from xs r.cap r.next) (sym c.in_ok-controls.ensures.1) ∙ c.in_err-bucket.ensures)

pub returns-in_err-controls-clause-first : goal.returns-in_err-controls-clause-first
returns-in_err-controls-clause-first g c = grind (arith, part_there)

pub returns-clause-first : goal.returns-clause-first
returns-clause-first g c = λ w p is.
    let r = c.args.self.now in
    let i = c.in_ok-bucket.bucket in
    let some : 0 < r.left = omega (arith, c.if-self-eq0.false) in
    let f = c.in_ok-bucket.ensures in
    let same = full_same w g.T.HasSpec.spec g.T.HasSpec.laws p r is some in
    let full : slice_index (slice_range r.archive.now r.buckets_end (r.buckets_end + r.cap)) i < 128 = subst (λ (xs : List ℕ). slice_index xs i < 128) c.in_ok-controls.ensures.1 f.1 in
    let taken : full_from (slice_range r.archive.now r.buckets_end (r.buckets_end + r.cap)) r.cap r.next ≡ i ∷ full_from (slice_range r.archive.now r.buckets_end (r.buckets_end + r.cap)) r.cap (i + 1) =
    subst (λ (xs : List ℕ). full_from xs r.cap r.next ≡ i ∷ full_from xs r.cap (i + 1)) c.in_ok-controls.ensures.1 f.2 in
    let at : c.in_ok-at.at ≡ r.buckets_end - (i + 1) * g.T.HasSpec.spec.size = rw (sym c.size.ensures) c.in_ok-at.ensures.1 in (
      sym (same r.next) ∙ taken ∙ ap (λ xs. i ∷ xs) (same (i + 1)),
      first_item w g.T.HasSpec.spec g.T.HasSpec.laws p r is some i c.in_ok-at.at f.0 full at,
    )

pub returns-in_err-at-clause-first : goal.returns-in_err-at-clause-first
returns-in_err-at-clause-first g c = grind (arith, bucket_before)
