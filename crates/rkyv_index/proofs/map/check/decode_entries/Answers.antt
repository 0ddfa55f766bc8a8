use Rattle.std.proofs.Common.{FitsSigned, rules, ap, ◌∙◌, ◌+◌, ◌*◌, ◌≡◌, ◌+ℤ◌, pos, List, ℕ}
use Rattle.std.specs.Int.{byte_len, w128, w64}
use Rattle.std.proofs.lemmas.Int.{to_z-of_z}
use Rattle.rkyv_base.specs.{signed_at}
use Rattle.rkyv_index.specs.{decode_entries}
use Rattle.rkyv_index.proofs.Checking.{decoded_is}
use Rattle.rkyv_index.proofs.map.check.decode_entries.Goals as goal

pub returns : goal.returns
returns g c =
    let w = g.W.Word.word in
    let b : List ℕ = c.args.bytes.now in
    let p = c.args.pos in
    let fits : FitsSigned w128 c.distance_target.result = search rules in
    let read : FitsSigned w64 c.read_distance.result = search rules in
    let align : c.ALIGN.result ≡ byte_len w = c.ALIGN.ensures ∙ g.met.W.Width.layout.align_is in
    record {
      decoded = decoded_is c.distance_target.result (decode_entries w b p) fits (c.distance_target.ensures ∙ ap (λ d. pos (p + 3 * c.ALIGN.result) +ℤ d) (to_z-of_z w64 c.read_distance.result read ∙ c.read_distance.ensures)
          ∙ ap (λ n. pos (p + 3 * n) +ℤ signed_at w b (p + 3 * n)) align);
    }
