use Rattle.std.proofs.Common.{Some, ap, arith}
use Rattle.rkyv_index.proofs.Rows.{row_left}
use Rattle.rkyv_index.proofs.map.read.iter.IterIterator.size_hint.Goals as goal

pub returns : goal.returns
returns g c = let i = c.self.inside in let n = row_left i.archive i.size i.at i.left c.args.self.now c.self.view_is in (λ f. omega arith, (tt, omega arith), n, ap Some n)
