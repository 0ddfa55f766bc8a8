use Rattle.rkyv_base.specs.Lemmas.Access.{root_viewable}
use Rattle.ffi_calls.specs.{index_map}
use Rattle.ffi_calls.proofs.index.index_header_of.Goals as goal

pub access_unchecked-requires : goal.access_unchecked-requires
access_unchecked-requires g c = root_viewable g.W.Width.LIMIT (index_map g.W.Word.word g.K.HasSpec.spec g.V.HasSpec.spec) c.args.archive.now c.requires
