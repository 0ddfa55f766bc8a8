use Rattle.std.proofs.lemmas.List.Sums.{fold-append}
use Rattle.rkyv_scan.specs.{rest_words}
use Rattle.rkyv_scan.proofs.hash.hash_rest.Goals as goal

pub returns : goal.returns
unfolding rest_words
returns c = rw (fold-append, fold-append) cc
