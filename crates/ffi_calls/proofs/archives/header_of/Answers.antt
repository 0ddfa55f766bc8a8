use Rattle.rkyv_base.specs.Lemmas.Access.{root_viewable}
use Rattle.rkyv_collections.specs.{map_spec}
use Rattle.ffi_calls.proofs.archives.header_of.Goals as goal

pub access_unchecked-requires : goal.access_unchecked-requires
access_unchecked-requires g c = root_viewable g.W.Width.LIMIT (map_spec g.W.Word.word g.K.HasSpec.spec g.V.HasSpec.spec) c.args.archive.now c.requires
