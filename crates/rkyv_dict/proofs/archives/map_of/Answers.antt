use Rattle.rkyv_dict.proofs.Roots.{map_root_viewable}
use Rattle.rkyv_dict.specs.{parts_by}
use Rattle.rkyv_dict.proofs.archives.map_of.Goals as goal

pub access_unchecked-requires : goal.access_unchecked-requires
access_unchecked-requires g c =
    map_root_viewable (parts_by g.W.Word.word g.W.Width.LIMIT g.P.HasSpec.spec g.P.Printable.text g.P.ElementEq.same g.P.KeyElement.key_calls) c.args.bytes.now c.requires
