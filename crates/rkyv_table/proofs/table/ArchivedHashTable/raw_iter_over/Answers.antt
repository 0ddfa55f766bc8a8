use Rattle.std.proofs.Common.{refl, ap, ◌∙◌}
use Rattle.rkyv_base.specs.declared.seal.ArchiveSeal.{ArchiveSeal}
use Rattle.rkyv_table.specs.{IsReadAt}
use Rattle.rkyv_table.specs.declared.table.TableOf.{TableOf}
use Rattle.rkyv_table.specs.declared.table.raw_iter_seal.RawIterSeal.{RawIterSeal}
use Rattle.rkyv_table.proofs.SealedItems.{all_left_at, begun_at}
use Rattle.rkyv_table.proofs.table.ArchivedHashTable.raw_iter_over.Goals as goal
use Rattle.rkyv_table.proofs.table.ArchivedHashTable.raw_iter_over.Goals.{After-of}

-- the decoded table is the one at the position
module _ (g : _) (c : After-of g) where
  abbrev sealed : ArchiveSeal (TableOf g.row.T.Denot g.row.W.Denot)
  sealed = record { archive = c.args.archive; pos = c.args.pos; kind = record {} }

  read : IsReadAt sealed c.of.result
  read = (ap (λ v. v.archive.now) c.of.ensures.view ∙ ap (λ v. v.now) c.new.ensures.0, ap (λ v. v.pos) c.of.ensures.view ∙ c.new.ensures.1)

pub returns-clause-iter : goal.returns-clause-iter
returns-clause-iter g c =
    let after = (goal.at.returns-clause-iter g c).After-of in
    begun_at g.T.HasSpec.laws (sealed g after) c.requires.table c.of.result (read g after) _ refl refl refl refl refl

pub returns-clause-buckets : goal.returns-clause-buckets
returns-clause-buckets g c =
    let after = (goal.at.returns-clause-buckets g c).After-of in
    let r : RawIterSeal g.row.T.Denot = record { archive = c.args.archive; buckets_end = c.of.result.header.controls_pos; cap = c.of.result.header.cap; next = 0; left = c.of.result.header.len; kind = record {} } in
    all_left_at g.T.HasSpec.laws (sealed g after) c.requires.table c.of.result (read g after) r refl refl refl refl refl
