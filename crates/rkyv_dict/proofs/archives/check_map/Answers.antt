use Rattle.std.proofs.Common.{◌∙◌, ap}
use Rattle.std.proofs.lemmas.Result.{err_from_is_err_and}
use Rattle.rkyv_base.proofs.AtViews.{read_at}
use Rattle.rkyv_table.specs.{len_at}
use Rattle.rkyv_dict.specs.{IsMapArchive, MapValidationFails, pair_count}
use Rattle.rkyv_dict.proofs.archives.check_map.Goals as goal

pub returns : goal.returns
unfolding IsMapArchive pair_count
returns g c =
    let len = len_at g.W.Word.word in
    (c.in_ok-root.ensures.root.0, c.len.ensures ∙ ap (λ v. len v.archive.now v.pos) c.of.ensures.view ∙ read_at c.in_ok-root.root _ _ c.in_ok-root.ensures.root.1 len)

pub returns-in_err-root : goal.returns-in_err-root
unfolding MapValidationFails
returns-in_err-root g c =
    let p = err_from_is_err_and c.from_residual.result c.from_residual.ensures.1 in
    rw (p.1, p.2) c.in_err-root.ensures.root
