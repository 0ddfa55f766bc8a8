use Rattle.std.proofs.Common.{IfOk, List, length, subst, ℕ}
use Rattle.std.specs.Borrow.{Bor}
use Rattle.rkyv_inspect.specs.{Covers}
use Rattle.rkyv_inspect.proofs.index_regions.index_regions.Goals as goal

pub returns : goal.returns
returns g c =
    subst (λ (a : Bor (List ℕ)). IfOk c.with_gaps.result (λ regions. Covers 0 regions.items (length a.now))) c.bytes-bytes.ensures c.with_gaps.ensures
