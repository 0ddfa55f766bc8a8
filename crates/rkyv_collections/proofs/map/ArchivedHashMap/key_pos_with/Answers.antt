use Rattle.std.proofs.Common.{◌≡◌, ◌∙◌, sym}
use Rattle.rkyv_base.specs.{archive_in, pos_in}
use Rattle.rkyv_collections.specs.{IsViewAt}
use Rattle.rkyv_collections.proofs.SealedMap.{entry_read, found_by_read}
use Rattle.rkyv_collections.proofs.map.ArchivedHashMap.key_pos_with.Goals as goal

pub returns-clause-walked : goal.returns-clause-walked
returns-clause-walked g c =
    entry_read c.map_in.result (archive_in c.args.this.now) (pos_in c.args.this.now) c.map_in.ensures.bytes c.map_in.ensures.pos c.entry_with.result c.found_pos.result (sym c.found_pos.ensures) c.entry_with.ensures.found.walked

pub returns-clause-finds : goal.returns-clause-finds
returns-clause-finds g c =
    let got = c.entry_with.ensures.found in
    found_by_read c.map_in.result (archive_in c.args.this.now) (pos_in c.args.this.now) c.map_in.ensures.bytes c.map_in.ensures.pos (IsViewAt c.entry_with.result) (λ key_pos. c.found_pos.result ≡ key_pos) (λ key_pos at. c.found_pos.ensures ∙ at)
    _ (goal.F-post g c.args.cmp c.args.key) got.accepted got.finds got.first
