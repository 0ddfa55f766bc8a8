use Rattle.std.proofs.lemmas.Grind.{common_steps}
use Rattle.std.proofs.Common.{rules, ◌≡◌, ◌∙◌, FitsSigned, arith}
use Rattle.std.specs.Int.{byte_len, w64, w128}
use Rattle.std.proofs.lemmas.Int.{to_z-of_z}
use Rattle.rkyv_base.proofs.text.out_of_line_start.Goals as goal

pub returns : goal.returns
returns g c =
    let w = g.W.Word.word in
    let s = c.args.fixed.now in
    let fits : FitsSigned w64 c.read_distance.result = search rules in
    let begin : FitsSigned w128 c.distance_target.result = search rules in
    let align : c.ALIGN.result ≡ byte_len w = c.ALIGN.ensures ∙ g.met.W.Width.layout.align_is in
    grind (arith, common_steps, to_z-of_z)
