use Rattle.std.proofs.Common.{◌≡◌, ◌∙◌}
use Rattle.std.specs.Option.{option_map}
use Rattle.rkyv_base.specs.{value_pos}
use Rattle.rkyv_collections.specs.{IsValueAt}
use Rattle.rkyv_collections.proofs.SealedMap.{found_by_read, value_viewable}
use Rattle.rkyv_collections.proofs.map.ArchivedHashMap.value_pos_by.Goals as goal

pub returns-clause-finds : goal.returns-clause-finds
returns-clause-finds g c =
    let got = c.get_with.ensures in
    found_by_read c.map_over.result c.args.archive.now c.args.root c.map_over.ensures.bytes c.map_over.ensures.pos (IsValueAt g.K.HasSpec.spec g.V.HasSpec.spec c.get_with.result) (λ found. c.found_pos.result ≡ option_map (value_pos g.K.HasSpec.spec g.V.HasSpec.spec) found) (λ found at. c.found_pos.ensures ∙ at)
    _ (goal.F-post g c.args.cmp c.args.key) got.accepted got.finds got.first

pub returns-clause-viewable : goal.returns-clause-viewable
returns-clause-viewable g c =
    value_viewable c.map_over.result c.args.archive.now c.args.root c.map_over.ensures.bytes c.map_over.ensures.pos c.get_with.result c.found_pos.result c.found_pos.ensures c.get_with.ensures.walked
