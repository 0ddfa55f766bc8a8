use Rattle.rkyv_base.specs.Lemmas.Words.{counts_read_back, distances_read_back}
use Rattle.rkyv_base.proofs.laws.words_read_back.Goals as goal

pub returns-clause-counts : goal.returns-clause-counts
returns-clause-counts g c = counts_read_back g.W.Word.word g.met.W.Width.layout.kind

pub returns-clause-distances : goal.returns-clause-distances
returns-clause-distances g c = distances_read_back g.W.Word.word g.met.W.Width.layout.kind
