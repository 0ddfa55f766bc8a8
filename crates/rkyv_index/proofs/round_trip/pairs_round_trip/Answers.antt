use Rattle.std.proofs.Common.{ℕ, ◌-◌, ◌∙◌, subst, sym, length, List}
use Rattle.std.proofs.lemmas.Result.{err_from_is_err_and}
use Rattle.rkyv_base.specs.{bytes_of, entry_spec, pos_of}
use Rattle.rkyv_base.proofs.AtViews.{back_at, forth_at}
use Rattle.rkyv_scan.specs.{fx_hasher, low_halves}
use Rattle.rkyv_keys.specs.{DeserializeMembers, hash_at}
use Rattle.rkyv_index.specs.{IndexRepresents, index_bytes, index_pos, index_spec, pairs_deserialize_fails}
use Rattle.rkyv_index.proofs.round_trip.pairs_round_trip.Goals as goal

pub returns-clause-same : goal.returns-clause-same
returns-clause-same g c =
    let w = g.W.Word.word in
    let k = g.A.Archived.HasSpec.spec in
    let v = g.B.Archived.HasSpec.spec in
    let s = index_spec w (entry_spec k v) in
    let listed = c.args.pairs.now.0.items in
    let P : List ℕ → ℕ → Type 0 = λ b p. IndexRepresents w k v g.A.Archived.Represents.represents g.B.Archived.Represents.represents (hash_at (fx_hasher low_halves) g.A.Archived.KeyElement.key_calls) (7, 8) b p listed in
    let here = subst (λ (xs : List ℕ). P xs (length xs - s.size)) (sym c.as_slice.ensures.value) c.in_ok-bytes.ensures.1 in
    let at_root = back_at c.in-Ok.root c.as_slice.result _ c.in-Ok.ensures.root.1 P here in
    let represents = subst (λ view. P (bytes_of view) (pos_of view)) (sym c.of.ensures.view) at_root in
    c.eq.ensures ∙ c.pairs_read_back_are_listed.ensures (index_bytes c.of.result) (index_pos c.of.result) (7, 8) listed c.in_ok-back.back.items c.of.result.valid represents c.in_ok-back.ensures

pub returns-in_err-back-clause-error : goal.returns-in_err-back-clause-error
returns-in_err-back-clause-error g c =
    let k = g.A.Archived.HasSpec.spec in
    let v = g.B.Archived.HasSpec.spec in
    let s = index_spec g.W.Word.word (entry_spec k v) in
    let key : DeserializeMembers g.row.A.Denot = record { spec = g.A.Archived.HasSpec.spec; laws = g.A.Archived.HasSpec.laws; represents = g.A.Archived.Represents.represents; deserialize_fails = g.A.Archived.Deserialize.deserialize_fails } in
    let value : DeserializeMembers g.row.B.Denot = record { spec = g.B.Archived.HasSpec.spec; laws = g.B.Archived.HasSpec.laws; represents = g.B.Archived.Represents.represents; deserialize_fails = g.B.Archived.Deserialize.deserialize_fails } in
    let deserialize_fails : List ℕ → ℕ → Type 0 = λ b p. pairs_deserialize_fails g.W.Word.word key value b p c.in_err-back.field-0.0 in
    let viewed = subst (λ view. deserialize_fails (bytes_of view) (pos_of view)) c.of.ensures.view c.in_err-back.ensures in
    let there = forth_at c.in-Ok.root c.as_slice.result _ c.in-Ok.ensures.root.1 deserialize_fails viewed in
    let here = subst (λ (xs : List ℕ). deserialize_fails xs (length xs - s.size)) c.as_slice.ensures.value there in
    let p = err_from_is_err_and c.from_residual-in_err-back.result c.from_residual-in_err-back.ensures.1 in
    rw (p.1, p.2) (c.in_ok-bytes.bytes.items, c.in_ok-bytes.ensures.2, here)

pub returns-in_err-back-clause-same : goal.returns-in_err-back-clause-same
returns-in_err-back-clause-same g c = let p = err_from_is_err_and c.from_residual-in_err-back.result c.from_residual-in_err-back.ensures.1 in rw p.1 tt

pub returns-in_err-back-clause-archived : goal.returns-in_err-back-clause-archived
returns-in_err-back-clause-archived g c = let p = err_from_is_err_and c.from_residual-in_err-back.result c.from_residual-in_err-back.ensures.1 in rw p.1 tt
