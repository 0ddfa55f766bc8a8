use Rattle.std.proofs.Common.{FitsSigned, inl, pos, refl, rules}
use Rattle.rkyv_base.specs.Lemmas.Text.{by_archive_word}
use Rattle.rkyv_table.proofs.table.ArchivedHashTable.resolve_from_len.Goals as goal

pub returns-then-len-eq0 : goal.returns-then-len-eq0
returns-then-len-eq0 g c = record {
  distance = pos 1;
  fits = by_archive_word (λ w. FitsSigned w (pos 1)) (search rules) (search rules) g.W.Word.word g.met.W.Width.layout.kind;
  distance_value = inl (c.if-len-eq0.true, refl);
  is = rw c.if-len-eq0.true c.write_header.ensures;
}
