use Rattle.std.proofs.Common.{◌≡◌, ℕ, List, arith, inl, inr, length, refl}
use Rattle.rkyv_scan.specs.{fx_hasher, low_halves}
use Rattle.rkyv_base.specs.{ScalarRepresents}
use Rattle.rkyv_keys.specs.{hash_at}
use Rattle.rkyv_collections.specs.{MapRepresents, map_spec}
use Rattle.ffi_calls.proofs.Writing.{overwrite_status, set_keeps_header, set_kept}
use Rattle.ffi_calls.proofs.First.{first_pair_set}
use Rattle.ffi_calls.proofs.map_lookup.set_in.Goals as goal

pub returns-in_default-clause-sets : goal.returns-in_default-clause-sets
returns-in_default-clause-sets g c = inl (c.in_default.ensures.exact, refl, refl)

pub returns-clause-kept : goal.returns-clause-kept
returns-clause-kept g c =
    let set = c.set_value_of-found in
    let same : length set.new.archive ≡ length c.args.archive.now = omega (arith, set.auto.archive) in
    set_kept g.W.Word.word g.K.HasSpec.spec g.V.HasSpec.spec g.V.Scalar.encoding (hash_at (fx_hasher low_halves) g.K.KeyElement.key_calls) c.args.archive.now c.root_of-root.result (g.A.KeyHash.calls c.args.key.now)
    (g.A.Query.fits c.args.key.now c.args.archive.now) c.in-Some.number set.result set.new.archive c.root_of-root.ensures.at set.ensures.sets.finds g.W.Width.LIMIT c.requires c.root_of-root.ensures.viewable same

pub returns-in_default-clause-header : goal.returns-in_default-clause-header
returns-in_default-clause-header g c = λ header is. is

pub returns-clause-header : goal.returns-clause-header
returns-clause-header g c =
    let set = c.set_value_of-found in
    let same : length set.new.archive ≡ length c.args.archive.now = omega (arith, set.auto.archive) in
    set_keeps_header g.W.Word.word g.K.HasSpec.spec g.V.HasSpec.spec g.V.Scalar.encoding (hash_at (fx_hasher low_halves) g.K.KeyElement.key_calls) c.args.archive.now c.root_of-root.result (g.A.KeyHash.calls c.args.key.now)
    (g.A.Query.fits c.args.key.now c.args.archive.now) c.in-Some.number set.result set.new.archive c.root_of-root.ensures.at set.ensures.sets.finds same

pub returns-clause-sets : goal.returns-clause-sets
returns-clause-sets g c =
    let set = c.set_value_of-found in
    let overwrites = overwrite_status g.W.Word.word g.K.HasSpec.spec g.V.HasSpec.spec g.V.Scalar.encoding (hash_at (fx_hasher low_halves) g.K.KeyElement.key_calls) c.args.archive.now c.root_of-root.result (g.A.KeyHash.calls c.args.key.now)
    (g.A.Query.fits c.args.key.now c.args.archive.now) c.in-Some.number set.result set.new.archive c.root_of-root.ensures.at set.ensures.sets.finds c.status_of.result c.status_of.ensures.yes c.status_of.ensures.no in
    inr (c.in-Some.ensures.read.0, (c.in-Some.number, c.in-Some.ensures.exact, overwrites))

pub returns-in_default-clause-listed : goal.returns-in_default-clause-listed
returns-in_default-clause-listed g c = λ factor pairs represents. inl (c.in_default.ensures.exact, refl)

pub returns-clause-listed : goal.returns-clause-listed
returns-clause-listed g c =
    let set = c.set_value_of-found in
    let root = c.root_of-root in
    let number = c.in-Some in
    let accepts = g.A.PartialEq.eq c.args.key.now in
    let e = g.V.Scalar.encoding in
    let Represents : List ℕ → ℕ → ℕ × ℕ → List (g.row.A.Denot × g.row.V.Denot) → Type 0 = λ d r factor pairs. MapRepresents g.W.Word.word g.K.HasSpec.spec g.V.HasSpec.spec g.K.Represents.represents (ScalarRepresents e) (hash_at (fx_hasher low_halves) g.K.KeyElement.key_calls) factor d r pairs in
    let same : length set.new.archive ≡ length c.args.archive.now = omega (arith, set.auto.archive) in
    first_pair_set accepts e Represents (map_spec g.W.Word.word g.K.HasSpec.spec g.V.HasSpec.spec).size c.args.archive.now set.new.archive root.result c.args.value number.number set.result c.status_of.result
    root.ensures.at same number.ensures.read.0 number.ensures.exact set.ensures.listed c.status_of.ensures.yes c.status_of.ensures.no
