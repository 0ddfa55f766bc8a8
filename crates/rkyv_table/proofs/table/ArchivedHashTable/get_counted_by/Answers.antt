use Rattle.std.proofs.Common.{None, Some, refl}
use Rattle.rkyv_table.proofs.FoundItems.{item_found, none_found, strides_counted}
use Rattle.rkyv_table.proofs.ValidTable.{read_accepted, read_walked}
use Rattle.rkyv_table.proofs.table.ArchivedHashTable.get_counted_by.Goals as goal

pub find_from-bucket-requires : goal.find_from-bucket-requires
find_from-bucket-requires g c κs =
    let read = c.controls.result.now in
    record {
      accepted = read_accepted g.T.HasSpec.laws c.args.self read c.controls.ensures;
      start = c.start.ensures;
      callable = λ b full. ((refl, tt), (read_walked g.T.HasSpec.laws c.args.self read c.controls.ensures b full, c.requires.callable));
    }

pub returns : goal.returns
returns g c =
    let post = goal.F-post g c.args.cmp in
    record {
      found = item_found post g.G.GroupKind.kind g.met.G.GroupKind.lawful g.T.HasSpec.laws c.args.self _ c.controls.ensures c.args.hash c.ranges.hash.fits _ _ _ (λ i r e. e)
          (Some c.in_ok-bucket.field-0) c.in_ok-bucket.ensures c.in_ok-bucket.field-0 refl c.item.result c.item.ensures;
      counts = strides_counted post g.G.GroupKind.kind g.met.G.GroupKind.lawful g.T.HasSpec.laws c.args.self _ c.controls.ensures c.args.hash c.ranges.hash.fits _ _ _ (λ i r e. e)
          (Some c.in_ok-bucket.field-0) c.in_ok-bucket.ensures;
    }

pub returns-in_err-bucket : goal.returns-in_err-bucket
returns-in_err-bucket g c =
    let post = goal.F-post g c.args.cmp in
    rw c.from_residual.ensures (record {
      found = none_found post g.G.GroupKind.kind g.met.G.GroupKind.lawful g.T.HasSpec.laws c.args.self _ c.controls.ensures c.args.hash c.ranges.hash.fits _ _ _ (λ i r e. e)
          None c.in_err-bucket.ensures refl;
      counts = strides_counted post g.G.GroupKind.kind g.met.G.GroupKind.lawful g.T.HasSpec.laws c.args.self _ c.controls.ensures c.args.hash c.ranges.hash.fits _ _ _ (λ i r e. e)
          None c.in_err-bucket.ensures;
    })
