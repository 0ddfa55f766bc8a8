use Rattle.std.proofs.Common.{◌∙◌, ap, arith, length}
use Rattle.rkyv_table.proofs.table.raw_iter_seal.RawIterSeal.next_pos.Goals as goal

pub returns-clause-takes : goal.returns-clause-takes
returns-clause-takes g c = λ w p is.
    let f = c.in_ok-first.ensures.first w p is in
    let n = is.left ∙ ap length f.0 in
    record {
      bucket = c.in_ok-first.first.bucket;
      first = f.0;
      item = f.1;
      iter = record { table = is.table; cap = is.cap; buckets_end = is.buckets_end; left = omega (arith, n) };
    }
