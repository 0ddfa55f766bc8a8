use Rattle.std.proofs.Common.{None, refl, subst, sym, ◌∙◌, ◌<◌}
use Rattle.rkyv_keys.specs.{hash_at}
use Rattle.rkyv_index.specs.{IsKeyOf, index_len}
use Rattle.rkyv_index.proofs.Lookups.{counts_index, item_index}
use Rattle.rkyv_index.proofs.IndicesFound.{gets_index, stored_index_found}
use Rattle.rkyv_index.proofs.map.ArchivedIndexMap.index_with.Goals as goal

pub find_index-requires : goal.find_index-requires
find_index-requires g c κs =
    let m = c.args.self in
    record {
      callable = λ item is_item.
          let there = item_index m g.W.Index.Scalar.encoding g.met.W.Index.Scalar.laws g.met.W.IndexWidth.index c.table-table.result c.table-table.ensures.at item is_item in (
            there.0,
            λ i e. (
              (refl, tt),
              (
                m.valid,
                (
                  m.begins,
                  (
                    subst (λ n. n < index_len m) (sym e) there.1,
                    c.requires.callable,
                  ),
                ),
              ),
            ),
          );
    }

pub returns-clause-found : goal.returns-clause-found
returns-clause-found g c =
    let m = c.args.self in
    let f = c.find_index.ensures.found in
    gets_index m g.W.Index.Scalar.encoding g.met.W.Index.Scalar.laws g.met.W.IndexWidth.index c.table-table.result c.table-table.ensures.at
    (hash_at g.H.KeyHasher.hasher g.K.KeyElement.key_calls) _ (goal.F-post g c.args.cmp c.args.key)
    (λ h r x. (x.2.0, subst (λ n. IsKeyOf m n x.2.0) x.1 x.2.1, x.2.2))
    c.hash_value-hash.result _ c.hash_value-hash.ensures f.item f.found c.find_index.result
    (f.is ∙ stored_index_found m g.W.Index.Scalar.encoding g.met.W.Index.Scalar.laws g.met.W.IndexWidth.index c.table-table.result c.table-table.ensures.at f.item f.found.walked)

pub returns-clause-counted : goal.returns-clause-counted
returns-clause-counted g c = λ accept compares.
    let m = c.args.self in
    counts_index m g.W.Index.Scalar.encoding g.met.W.Index.Scalar.laws g.met.W.IndexWidth.index c.table-table.result c.table-table.ensures.at
    _ (goal.F-post g c.args.cmp c.args.key)
    (λ h r x. (x.2.0, subst (λ n. IsKeyOf m n x.2.0) x.1 x.2.1, x.2.2))
    None accept compares c.hash_value-hash.result _ _ _ c.hash_value-hash.ensures c.find_index.ensures.counts.counted
