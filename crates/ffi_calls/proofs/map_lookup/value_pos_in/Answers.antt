use Rattle.std.proofs.Common.{◌≡◌, ℕ, ◌∙◌, List, sym}
use Rattle.std.specs.Option.{option_map}
use Rattle.rkyv_scan.specs.{fx_hasher, generic_kind, low_halves}
use Rattle.rkyv_base.specs.{entry_spec, pos_of_found, value_pos}
use Rattle.rkyv_table.specs.{pos_found}
use Rattle.rkyv_table.proofs.Moved.{moved}
use Rattle.rkyv_collections.proofs.SealedMap.{as_read, value_viewable}
use Rattle.rkyv_keys.specs.{first_value, hash_at}
use Rattle.rkyv_collections.specs.{MapRepresents, map_bytes, map_pos, map_root}
use Rattle.ffi_calls.specs.{hash_by}
use Rattle.ffi_calls.proofs.First.{found_placed}
use Rattle.ffi_calls.proofs.map_lookup.value_pos_in.Goals as goal

pub returns-clause-viewable : goal.returns-clause-viewable
returns-clause-viewable g c =
    let bytes = c.map_of.ensures.bytes in
    value_viewable c.map_of.result c.args.archive.now _ bytes c.map_of.ensures.pos c.get.result c.found_pos.result c.found_pos.ensures c.get.ensures.walked

pub returns-clause-found : goal.returns-clause-found
returns-clause-found g c =
    let bytes = c.map_of.ensures.bytes in
    let same_pos = c.map_of.ensures.pos in
    let k = g.K.HasSpec.spec in
    let v = g.V.HasSpec.spec in
    c.found_pos.ensures
    ∙ as_read c.map_of.result c.args.archive.now (map_root g.W.Word.word k v c.args.archive.now) bytes same_pos
    (λ d r. pos_of_found c.get.result ≡ option_map (value_pos k v) (pos_found generic_kind g.W.Word.word (entry_spec k v).size d r (hash_by (g.A.KeyHash.calls c.args.key.now)) (g.A.Query.fits c.args.key.now d)))
    c.get.ensures.finds

pub returns-clause-listed : goal.returns-clause-listed
returns-clause-listed g c = λ factor pairs represents.
    let bytes = c.map_of.ensures.bytes in
    let same_pos = c.map_of.ensures.pos in
    let m = c.map_of.result in
    let accepts = g.A.PartialEq.eq c.args.key.now in
    let Represents : List ℕ → ℕ → Type 0 = λ d r. MapRepresents g.W.Word.word g.K.HasSpec.spec g.V.HasSpec.spec g.K.Represents.represents g.V.Represents.represents (hash_at (fx_hasher low_halves) g.K.KeyElement.key_calls) factor d r pairs in
    let here = moved Represents c.args.archive.now (map_bytes m) (map_root g.W.Word.word g.K.HasSpec.spec g.V.HasSpec.spec c.args.archive.now) (map_pos m) (sym bytes) (sym same_pos) represents in
    let listed = c.lookups_find_listed.ensures m (g.A.Query.fits c.args.key.now (map_bytes m)) accepts factor pairs (λ a q s there. g.met.A.NativeKey.native c.args.key.now a (map_bytes m) q s there) here in
    found_placed m c.args.archive.now bytes g.V.Represents.represents c.get.result c.found_pos.result (first_value accepts pairs) c.found_pos.ensures c.get.ensures.walked
    (listed.returns_value c.get.result c.get.ensures.walked c.get.ensures.first)
