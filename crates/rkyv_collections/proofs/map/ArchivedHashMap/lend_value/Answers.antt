use Rattle.rkyv_base.specs.{archive_in, pos_in}
use Rattle.rkyv_collections.proofs.SealedMap.{found_key_pos}
use Rattle.rkyv_collections.proofs.map.ArchivedHashMap.lend_value.Goals as goal

pub value_seal-requires : goal.value_seal-requires
value_seal-requires g c =
    let pair = found_key_pos g.W.Word.word g.K.HasSpec.spec g.V.HasSpec.spec g.K.HasSpec.laws g.V.HasSpec.laws (archive_in c.args.this) (pos_in c.args.this) c.requires.map c.args.found c.in_ok-found.field-0 c.in_ok-found.was c.requires.found in
    pair.1.value.inside

pub returns-clause-walked : goal.returns-clause-walked
returns-clause-walked g c =
    let pair = found_key_pos g.W.Word.word g.K.HasSpec.spec g.V.HasSpec.spec g.K.HasSpec.laws g.V.HasSpec.laws (archive_in c.args.this) (pos_in c.args.this) c.requires.map c.args.found c.in_ok-found.field-0 c.in_ok-found.was c.requires.found in
    record { bucket = pair.0; key = c.in_ok-found.field-0; pair = pair.1; at = c.value_seal.ensures.at }

pub returns-clause-viewable : goal.returns-clause-viewable
returns-clause-viewable g c =
    let pair = found_key_pos g.W.Word.word g.K.HasSpec.spec g.V.HasSpec.spec g.K.HasSpec.laws g.V.HasSpec.laws (archive_in c.args.this) (pos_in c.args.this) c.requires.map c.args.found c.in_ok-found.field-0 c.in_ok-found.was c.requires.found in
    rw (c.value_seal.ensures.at.bytes, c.value_seal.ensures.at.pos) pair.1.value
