use Rattle.std.proofs.Common.{◌≡◌, None, Some, refl, subst, sym}
use Rattle.rkyv_index.specs.{IsFirst, index_bytes}
use Rattle.ffi_calls.specs.{FindsIndexed, IndexRepresentsPairs, found_index, index_at, query_of_key, query_pairs, value_pos_at}
use Rattle.ffi_calls.specs.declared.any_value.IndexedValue.{IndexedValue}
use Rattle.ffi_calls.proofs.IndexFound.{of_same_map, value_there}
use Rattle.ffi_calls.proofs.index.find_in.Goals as goal

pub returns-in-Some-clause-finds : goal.returns-in-Some-clause-finds
returns-in-Some-clause-finds g c =
    let reads = g.V.ToAny.any in
    let m = c.index_of.result in
    let calls = g.A.KeyHash.calls c.args.key.now in
    let fits = g.A.Query.fits c.args.key.now in
    let i = c.in-Some.index in
    let found : IndexedValue = record { index = i; value = c.to_any.result } in
    let there = value_there m reads i c.in-Some.value c.to_any.result c.to_any.ensures c.in-Some.ensures.walked.1.1 in
    of_same_map (λ n. FindsIndexed n reads (found_index n calls (fits n.bytes)) (Some found)) g.W.Word.word g.K.HasSpec.spec g.V.HasSpec.spec _ _ _ _ c.index_of.ensures.bytes c.index_of.ensures.pos
    (subst (λ at. FindsIndexed (index_at m) reads at (Some found)) c.in-Some.ensures.finds (refl, there))

pub returns-in-None-clause-finds : goal.returns-in-None-clause-finds
returns-in-None-clause-finds g c =
    let calls = g.A.KeyHash.calls c.args.key.now in
    let fits = g.A.Query.fits c.args.key.now in
    of_same_map (λ n. found_index n calls (fits n.bytes) ≡ None) g.W.Word.word g.K.HasSpec.spec g.V.HasSpec.spec _ _ _ _ c.index_of.ensures.bytes c.index_of.ensures.pos (sym c.in-None.ensures.finds)

pub returns-in-Some-clause-first : goal.returns-in-Some-clause-first
returns-in-Some-clause-first g c = λ factor pairs represents.
    let m = c.index_of.result in
    let accepts = g.A.PartialEq.eq c.args.key.now in
    let fits = g.A.Query.fits c.args.key.now in
    let query = query_of_key g.K.Represents.represents g.K.KeyElement.key_calls accepts in
    let here = of_same_map (λ n. IndexRepresentsPairs n (query_pairs n query g.V.Represents.represents) factor pairs) g.W.Word.word g.K.HasSpec.spec g.V.HasSpec.spec _ _ _ _ (sym c.index_of.ensures.bytes) (sym c.index_of.ensures.pos) represents in
    let listed = c.lookups_find_listed.ensures m fits accepts factor pairs (λ a q s there. g.met.A.NativeKey.native c.args.key.now a (index_bytes m) q s there) here in
    let i = c.in-Some.index in
    let first = subst (IsFirst accepts pairs) (sym (c.in-Some.ensures.first listed.homes listed.written)) listed.first in
    let read = value_there m g.V.ToAny.any i c.in-Some.value c.to_any.result c.to_any.ensures c.in-Some.ensures.walked.1.1 in
    let native = (listed.each i first.0.0 first.0.1).1 in
    (first, (first.0.0, first.0.1, g.met.V.StoredValue.agrees (index_bytes m) (value_pos_at (index_at m) i) c.to_any.result first.0.0.1 read native))

pub returns-in-None-clause-first : goal.returns-in-None-clause-first
returns-in-None-clause-first g c = λ factor pairs represents.
    let m = c.index_of.result in
    let accepts = g.A.PartialEq.eq c.args.key.now in
    let fits = g.A.Query.fits c.args.key.now in
    let query = query_of_key g.K.Represents.represents g.K.KeyElement.key_calls accepts in
    let here = of_same_map (λ n. IndexRepresentsPairs n (query_pairs n query g.V.Represents.represents) factor pairs) g.W.Word.word g.K.HasSpec.spec g.V.HasSpec.spec _ _ _ _ (sym c.index_of.ensures.bytes) (sym c.index_of.ensures.pos) represents in
    let listed = c.lookups_find_listed.ensures m fits accepts factor pairs (λ a q s there. g.met.A.NativeKey.native c.args.key.now a (index_bytes m) q s there) here in
    subst (IsFirst accepts pairs) (sym (c.in-None.ensures.first listed.homes listed.written)) listed.first
