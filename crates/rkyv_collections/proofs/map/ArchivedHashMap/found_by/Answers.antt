use Rattle.std.proofs.Common.{refl, rules}
use Rattle.rkyv_table.proofs.FoundWrites.{unwritten_if_none, written_at_found}
use Rattle.rkyv_collections.proofs.SealedMap.{satisfies_implied_by}
use Rattle.rkyv_collections.proofs.map.ArchivedHashMap.found_by.Goals as goal

pub write-requires : goal.write-requires
write-requires g c = c.requires.writable _ c.in_ok-pos.pos refl c.in_ok-pos.ensures.inside c.in_ok-pos.ensures.viewable

pub returns : goal.returns
returns g c =
    let met = c.write.ensures in
    satisfies_implied_by _ _ _ _ _ (λ key_pos at. search (rules, written_at_found)) c.in_ok-pos.ensures.finds

pub returns-in_err-pos : goal.returns-in_err-pos
returns-in_err-pos g c =
    satisfies_implied_by _ _ _ _ _ (λ key_pos at. rw c.from_residual.ensures (unwritten_if_none (goal.G-post g) c.args.write c.args.archive.now _ at)) c.in_err-pos.ensures.finds
