use Rattle.std.proofs.Common.{◌≡◌}
use Rattle.std.specs.Int.{byte_len}
use Rattle.rkyv_base.specs.declared.errors.VerifyError.{VerifyError}
use Rattle.rkyv_table.specs.{AllValid, item_positions, len_at}
use Rattle.rkyv_index.specs.{FirstNotBelow, IndicesBelow}
use Rattle.rkyv_index.proofs.map.check.check_indices.Given as goal

-- the remaining indices are inside the archive. The result for them is that for all
abbrev pub invariant-loop-at : goal.invariant-loop-at
invariant-loop-at g l =
    let w = g.W.Word.word in
    let all = item_positions w (byte_len w) l.bytes l.pos in
    record {
      all_valid : AllValid g.W.Index.HasSpec.spec l.at-iterator;
      archive : l.at-iterator.archive.now ≡ l.bytes;
      len : l.len ≡ len_at w l.bytes l.pos;
      below : IndicesBelow w l.bytes l.len l.at-iterator.positions → IndicesBelow w l.bytes l.len all;
      failed : (e : VerifyError) → FirstNotBelow w l.bytes l.len l.at-iterator.positions e → FirstNotBelow w l.bytes l.len all e;
    }
