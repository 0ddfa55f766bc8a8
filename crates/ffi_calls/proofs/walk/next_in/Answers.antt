use Rattle.std.proofs.Common.{◌∙◌, ℕ, ap, refl}
use Rattle.rkyv_base.specs.{value_pos}
use Rattle.ffi_calls.proofs.AtViews.{there}
use Rattle.ffi_calls.proofs.walk.next_in.Goals as goal

pub returns-in_err-bucket : goal.returns-in_err-bucket
returns-in_err-bucket g c = rw c.from_residual.ensures c.in_err-bucket.ensures.next

pub returns : goal.returns
returns g c =
    let found = c.in_ok-bucket.bucket in
    let next = c.in_ok-bucket.ensures.next in
    let b = c.args.archive.now in
    let value_at : ℕ → ℕ = value_pos g.K.HasSpec.spec g.V.HasSpec.spec in
    let key = there (λ d q. g.K.ToAny.any d q c.to_any.result) _ _ _ _ b c.key.ensures.at.0 (ap (λ a. a.now) c.new-entry.ensures.0) (c.key.ensures.at.1 ∙ c.new-entry.ensures.1 ∙ next.1) c.to_any.ensures in
    let value = there (λ d q. g.V.ToAny.any d q c.to_any-2.result) _ _ _ _ b c.value.ensures.at.0 (ap (λ a. a.now) c.new-entry.ensures.0) (c.value.ensures.at.1 ∙ ap value_at (c.new-entry.ensures.1 ∙ next.1)) c.to_any-2.ensures in
    (found.bucket, next.0, (refl, key, value))
