use Rattle.rkyv_scan.proofs.HashLaws.{calls_words}
use Rattle.rkyv_scan.proofs.laws.calls_hash_their_words.Goals as goal

pub returns : goal.returns
returns c = calls_words
