use Rattle.std.proofs.Common.{◌≡◌, ◌∙◌, ap}
use Rattle.rkyv_table.specs.{len_at}
use Rattle.rkyv_index.proofs.SealedIndex.{as_read}
use Rattle.test_index.proofs.tests.in_place.len_of.Goals as goal

pub returns : goal.returns
returns g c =
    let bytes = ap (λ v. v.archive.now) c.of.ensures.view ∙ ap (λ a. a.now) c.new.ensures.0 in
    let pos = ap (λ v. v.pos) c.of.ensures.view ∙ c.new.ensures.1 in
    as_read c.of.result c.args.bytes.now c.args.root bytes pos (λ d r. c.len.result ≡ len_at g.W.Word.word d r) c.len.ensures
