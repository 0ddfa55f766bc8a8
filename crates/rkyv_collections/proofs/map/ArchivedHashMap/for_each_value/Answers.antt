use Rattle.rkyv_keys.specs.Lemmas.QueryLaws.{hash_local}
use Rattle.rkyv_keys.specs.{hash_at}
use Rattle.rkyv_base.specs.{value_pos}
use Rattle.rkyv_table.specs.{SealedBy}
use Rattle.rkyv_collections.specs.{key_positions_at}
use Rattle.rkyv_collections.proofs.EachValue.{keys_kept, turns_mapped, values_once}
use Rattle.rkyv_collections.proofs.map.ArchivedHashMap.for_each_value.Goals as goal

pub returns-clause-writes : goal.returns-clause-writes
returns-clause-writes g c =
    let k = g.K.HasSpec.spec in
    let v = g.V.HasSpec.spec in
    turns_mapped (value_pos k v) (SealedBy (goal.F-post g) c.args.write tt) (key_positions_at g.W.Word.word k v c.args.archive.now c.args.root) c.args.archive.now _ c.seal_values.ensures

pub returns-clause-each : goal.returns-clause-each
returns-clause-each g c =
    values_once g.K.HasSpec.spec g.V.HasSpec.spec g.K.HasSpec.laws g.V.HasSpec.laws (goal.F-post g) c.args.write c.requires.write.keeps
    g.W.Word.word c.args.root c.args.archive.now _ c.requires.map c.seal_values.ensures

pub returns-clause-kept : goal.returns-clause-kept
returns-clause-kept g c =
    keys_kept g.K.HasSpec.spec g.V.HasSpec.spec g.K.HasSpec.laws g.V.HasSpec.laws (goal.F-post g) c.args.write c.requires.write.keeps
    g.W.Word.word c.args.root c.args.archive.now _ c.requires.map c.seal_values.ensures (hash_at g.H.KeyHasher.hasher g.K.KeyElement.key_calls) (hash_local g.H.KeyHasher.hasher g.met.K.KeyElement.key)

pub seal_values-requires : goal.seal_values-requires
seal_values-requires g c = record { map = c.requires.map; callable = c.requires.write.callable; keeps = c.requires.write.keeps }
