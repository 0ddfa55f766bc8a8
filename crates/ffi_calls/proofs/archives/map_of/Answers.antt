use Rattle.std.proofs.Common.{◌∙◌, ap}
use Rattle.rkyv_base.specs.Lemmas.Access.{root_viewable}
use Rattle.rkyv_collections.specs.{map_spec}
use Rattle.ffi_calls.proofs.archives.map_of.Goals as goal

pub access_unchecked-root-requires : goal.access_unchecked-root-requires
access_unchecked-root-requires g c = root_viewable g.W.Width.LIMIT (map_spec g.W.Word.word g.K.HasSpec.spec g.V.HasSpec.spec) c.args.archive.now c.requires.archive

pub returns-clause-bytes : goal.returns-clause-bytes
returns-clause-bytes g c = ap (λ v. v.archive.now) c.with_header.ensures.view ∙ ap (λ a. a.now) c.access_unchecked-root.ensures.at.0

pub returns-clause-pos : goal.returns-clause-pos
returns-clause-pos g c = ap (λ v. v.pos) c.with_header.ensures.view ∙ c.access_unchecked-root.ensures.at.1
