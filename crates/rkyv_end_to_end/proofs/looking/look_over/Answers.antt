use Rattle.rkyv_end_to_end.proofs.Reports.{accepted_viewable, table_reported}
use Rattle.rkyv_end_to_end.specs.declared.looking.TableReport.{TableReport}
use Rattle.rkyv_end_to_end.proofs.looking.look_over.Goals as goal

pub walk-requires : goal.walk-requires
walk-requires g c =
    accepted_viewable g.W.Word.word g.met.W.Width.layout.kind g.T.HasSpec.spec g.T.HasSpec.laws c.args.bytes.now c.args.pos c.args.range c.in_ok-verify.field-0
    c.requires.inside c.requires.aligned c.requires.ordered.0 c.requires.ordered.1 c.in_ok-verify.ensures

pub look_up-lookup-requires-clause-table : goal.look_up-lookup-requires-clause-table
look_up-lookup-requires-clause-table g c =
    accepted_viewable g.W.Word.word g.met.W.Width.layout.kind g.T.HasSpec.spec g.T.HasSpec.laws c.args.bytes.now c.args.pos c.args.range c.in_ok-verify.field-0
    c.requires.inside c.requires.aligned c.requires.ordered.0 c.requires.ordered.1 c.in_ok-verify.ensures

pub returns : goal.returns
returns g c =
    let lookup = c.look_up-lookup in
    let walked = c.in_ok-walked.ensures in
    let report : TableReport = record { walked = c.in_ok-walked.walked; found = lookup.result.found; strides = lookup.result.strides } in (
      c.in_ok-verify.field-0,
      c.in_ok-verify.ensures,
      table_reported (goal.F-post g c.args.cmp) g.W.Word.word g.T.HasSpec.spec c.args.bytes.now c.args.pos c.walked_are_full.ensures c.args.hash report walked.items walked.count walked.all_valid
          lookup.ensures.looks lookup.ensures.reads lookup.ensures.exact,
    )
