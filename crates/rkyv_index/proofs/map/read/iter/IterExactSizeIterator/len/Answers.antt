use Rattle.rkyv_index.proofs.Rows.{row_left}
use Rattle.rkyv_index.proofs.map.read.iter.IterExactSizeIterator.len.Goals as goal

pub returns : goal.returns
returns g c = let i = c.self.inside in record { value = row_left i.archive i.size i.at i.left c.args.self.now c.self.view_is }
