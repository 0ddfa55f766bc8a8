use Rattle.std.proofs.lemmas.Result.{err_from_is_err_and}
use Rattle.rkyv_base.proofs.RootWriting.{archive_made}
use Rattle.rkyv_base.proofs.root.to_bytes_in.Goals as goal

pub returns-in_err-write_root_in : goal.returns-in_err-write_root_in
returns-in_err-write_root_in g c =
    let p = err_from_is_err_and c.from_residual.result c.from_residual.ensures.1 in
    rw (p.1, p.2) (_, rw c.new-writer.ensures at c.in_err-write_root_in.ensures)

pub returns : goal.returns
returns g c =
    archive_made g.W.Width.LIMIT g.V.Archived.HasSpec.spec g.V.Archived.HasSpec.laws g.V.Archived.Represents.represents g.V.Archive.format g.met.V.Archive.laws
    c.args.value.now _ _ _ (rw c.new-writer.ensures at c.in_ok-write_root_in.ensures) c.into_vec.ensures
