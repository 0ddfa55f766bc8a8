use Rattle.rkyv_base.specs.{archive_in, pos_in}
use Rattle.rkyv_table.proofs.PairSeals.{pair_lent}
use Rattle.rkyv_collections.specs.{IsPairPos}
use Rattle.rkyv_collections.proofs.SealedMap.{found_entry, found_key_pos}
use Rattle.rkyv_collections.proofs.map.ArchivedHashMap.lend_pair.Goals as goal

pub split_value-requires : goal.split_value-requires
split_value-requires g c =
    found_entry g.W.Word.word g.K.HasSpec.spec g.V.HasSpec.spec g.K.HasSpec.laws g.V.HasSpec.laws (archive_in c.args.this) (pos_in c.args.this) c.requires.map c.args.found c.in_ok-found.field-0 c.in_ok-found.was c.requires.found

pub returns-clause-walked : goal.returns-clause-walked
returns-clause-walked g c =
    let pair = found_key_pos g.W.Word.word g.K.HasSpec.spec g.V.HasSpec.spec g.K.HasSpec.laws g.V.HasSpec.laws (archive_in c.args.this) (pos_in c.args.this) c.requires.map c.args.found c.in_ok-found.field-0 c.in_ok-found.was c.requires.found in
    let e = c.split_value.ensures in
    (pair.0, pair_lent g.K.HasSpec.spec g.V.HasSpec.spec (archive_in c.args.this) (IsPairPos g.W.Word.word g.K.HasSpec.spec g.V.HasSpec.spec (archive_in c.args.this) (pos_in c.args.this) pair.0) c.in_ok-found.field-0 c.split_value.result pair.1 e.key_pos e.viewable e.key e.value e.value_pos)
