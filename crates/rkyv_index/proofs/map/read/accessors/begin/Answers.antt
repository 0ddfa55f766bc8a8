use Rattle.std.proofs.Common.{◌∙◌, ◌<◌, ◌^◌, ap, arith, length, rules, subst, sym, List, ℕ, Bor, FitsSigned}
use Rattle.std.specs.Int.{w128}
use Rattle.rkyv_base.specs.{bytes_of, entry_spec, pos_of}
use Rattle.rkyv_base.specs.Lemmas.Entry.{entry_element}
use Rattle.rkyv_index.specs.{decode_entries, entries_pos}
use Rattle.rkyv_index.proofs.Checking.{decoded_is}
use Rattle.rkyv_index.proofs.ValidIndexMap.{entries_decoded, entries_inside}
use Rattle.rkyv_index.proofs.map.read.accessors.begin.Goals as goal

-- the position at which the entries begin is the position in the header
pub decode_pos-requires : goal.decode_pos-requires
decode_pos-requires g c =
    let w = g.W.Word.word in
    let b = bytes_of c.args.view in
    let p = pos_of c.args.view in
    let s = entry_spec g.K.HasSpec.spec g.V.HasSpec.spec in
    let law = entry_element g.K.HasSpec.spec g.V.HasSpec.spec g.K.HasSpec.laws g.V.HasSpec.laws in
    let fits : FitsSigned w128 c.decode_entries.result = search rules in
    let decoded = decoded_is c.decode_entries.result (decode_entries w b p) fits
    (c.decode_entries.ensures.decoded ∙ ap (λ (x : Bor (List ℕ)). decode_entries w x.now c.pos.result) c.bytes.ensures ∙ ap (decode_entries w b) c.pos.ensures) in
    let inside = entries_inside w g.met.W.Width.layout.kind s law b p c.requires in
    let room = c.requires.inside in
    let n : length b < 2 ^ 64 = subst (λ (x : Bor (List ℕ)). length x.now < 2 ^ 64) c.bytes.ensures c.bytes.type_inv.0 in
    (entries_pos w b p, entries_decoded w g.met.W.Width.layout.kind s law b p c.requires ∙ sym decoded, omega (arith, inside, room, n))
