use Rattle.rkyv_table.proofs.SameLookups.{lookup_kept}
use Rattle.rkyv_table.proofs.SealedTable.{item_stays, written_kept}
use Rattle.rkyv_table.proofs.table.laws.in_place.writes_keep_lookups.Goals as goal

pub returns : goal.returns
returns g c = λ b d p i kept. record {
  found = lookup_kept g.W.Word.word b d p kept.header kept.controls g.T.HasSpec.spec.size;
  pos = item_stays g.W.Word.word g.T.HasSpec.spec b d p i kept;
  written = written_kept g.W.Word.word g.T.HasSpec.spec b d p i kept;
}
