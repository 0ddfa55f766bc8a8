use Rattle.std.proofs.Common.{◌∙◌}
use Rattle.rkyv_table.specs.{cursor_buckets_left}
use Rattle.rkyv_collections.proofs.map.in_place.iter_seal.ValuesMut.next_seal.Goals as goal

pub returns-clause-first : goal.returns-clause-first
returns-clause-first g c = λ w p is.
    let t = c.in_ok-pos.ensures.takes w p is in (
      t.2.bucket,
      cursor_buckets_left w p c.next_pos.new.self.pairs.entries,
      t.2.first,
      record {
        key = t.0;
        at = t.2.pair;
        bytes = c.over.ensures.bytes ∙ c.bytes_mut-bytes.ensures ∙ c.in_ok-pos.ensures.archive.bytes;
        pos = c.over.ensures.pos ∙ t.1;
      },
    )
