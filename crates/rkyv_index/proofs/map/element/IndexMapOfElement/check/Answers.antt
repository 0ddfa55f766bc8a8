use Rattle.std.proofs.Common.{inl, inr, refl, List, ℕ}
use Rattle.std.proofs.lemmas.Result.{err_from_is_err_and}
use Rattle.rkyv_base.specs.{entry_spec}
use Rattle.rkyv_table.proofs.Moved.{moved}
use Rattle.rkyv_index.specs.{EntriesFail, EntriesIn, decode_entries}
use Rattle.rkyv_index.specs.Lemmas.IndexSpecs.{index_table_fails, index_table_is_valid}
use Rattle.rkyv_index.proofs.Checking.{table_viewable}
use Rattle.rkyv_index.proofs.map.element.IndexMapOfElement.check.Goals as goal

pub returns-in_err-rest : goal.returns-in_err-rest
returns-in_err-rest g c =
    let e = g.W.Index.Scalar.encoding in
    let p = err_from_is_err_and c.from_residual.result c.from_residual.ensures.1 in
    rw (p.1, p.2) (inl (index_table_fails g.W.Word.word g.W.Index.HasSpec.spec e g.met.W.Index.Scalar.laws g.met.W.IndexWidth.index c.args.bytes.now c.args.pos c.args.range.lo c.args.range.hi c.in_err-rest.field-0.0 c.in_err-rest.ensures))

pub check_indices-requires : goal.check_indices-requires
check_indices-requires g c =
    let w = g.W.Word.word in
    table_viewable w g.met.W.Width.layout.kind g.W.Index.HasSpec.spec g.W.Index.Scalar.encoding g.met.W.Index.Scalar.laws g.met.W.IndexWidth.index c.args.bytes.now c.args.pos c.args.range.lo c.args.range.hi c.in_ok-rest.rest.lo
    c.requires.inside c.requires.aligned c.requires.ordered.0 c.requires.ordered.1 c.in_ok-rest.ensures.1

pub returns-in_err-len : goal.returns-in_err-len
returns-in_err-len g c =
    let w = g.W.Word.word in
    let b : List ℕ = c.args.bytes.now in
    let table = index_table_is_valid w g.W.Index.HasSpec.spec g.W.Index.Scalar.encoding g.met.W.Index.Scalar.laws g.met.W.IndexWidth.index b c.args.pos c.args.range.lo c.args.range.hi c.in_ok-rest.rest.lo c.in_ok-rest.ensures.1 in
    let p = err_from_is_err_and c.from_residual-in_err-len.result c.from_residual-in_err-len.ensures.1 in
    rw (p.1, p.2) (inr (c.in_ok-rest.rest.lo, table, inl c.in_err-len.ensures.fails))

-- the entries fail for the length in the header and the range of the call
pub returns-in_err-end : goal.returns-in_err-end
returns-in_err-end g c =
    let w = g.W.Word.word in
    let b = c.args.bytes.now in
    let m = c.in_ok-rest.rest.lo in
    let table = index_table_is_valid w g.W.Index.HasSpec.spec g.W.Index.Scalar.encoding g.met.W.Index.Scalar.laws g.met.W.IndexWidth.index b c.args.pos c.args.range.lo c.args.range.hi m c.in_ok-rest.ensures.1 in
    let p = err_from_is_err_and c.from_residual-in_err-end.result c.from_residual-in_err-end.ensures.1 in
    rw (p.1, p.2) (inr (
      m,
      table,
      inr (
        c.in_ok-len.ensures.below,
        moved (λ n hi. EntriesFail (entry_spec g.K.HasSpec.spec g.V.HasSpec.spec) b (decode_entries w b c.args.pos) n m hi c.in_err-end.field-0.0) _ _ _ _ c.in_ok-len.ensures.len c.in_ok-rest.ensures.0 c.in_err-end.ensures,
      ),
    ))

pub returns : goal.returns
returns g c =
    let w = g.W.Word.word in
    let b = c.args.bytes.now in
    let m = c.in_ok-rest.rest.lo in (
      refl,
      record {
        middle = m;
        table = index_table_is_valid w g.W.Index.HasSpec.spec g.W.Index.Scalar.encoding g.met.W.Index.Scalar.laws g.met.W.IndexWidth.index b c.args.pos c.args.range.lo c.args.range.hi m c.in_ok-rest.ensures.1;
        below = c.in_ok-len.ensures.below;
        entries = moved (λ n hi. EntriesIn (entry_spec g.K.HasSpec.spec g.V.HasSpec.spec) b (decode_entries w b c.args.pos) n m hi c.in_ok-end.end) _ _ _ _ c.in_ok-len.ensures.len c.in_ok-rest.ensures.0 c.in_ok-end.ensures;
      },
    )
