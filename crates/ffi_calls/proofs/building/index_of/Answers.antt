use Rattle.std.proofs.Common.{inl, inr, refl}
use Rattle.std.proofs.lemmas.Result.{err_from_is_err_and}
use Rattle.ffi_calls.specs.{IndexFails, IsIndexOf}
use Rattle.ffi_calls.proofs.Results.{status_of}
use Rattle.ffi_calls.proofs.building.index_of.Goals as goal

pub returns-in_err-pairs : goal.returns-in_err-pairs
unfolding IndexFails
returns-in_err-pairs g c =
    let p = err_from_is_err_and c.from_residual.result c.from_residual.ensures.1 in
    rw (p.1, p.2) (inl c.in_err-pairs.ensures)

pub returns : goal.returns
unfolding IndexFails IsIndexOf
returns g c =
    let pairs = c.in_ok-pairs in
    status_of c.to_bytes_in.result c.or_status.result _ c.or_status.ensures c.to_bytes_in.ensures (λ v is. (pairs.pairs.items, pairs.ensures, is)) (λ e fails. inr (pairs.pairs.items, e, pairs.ensures, fails, refl))
