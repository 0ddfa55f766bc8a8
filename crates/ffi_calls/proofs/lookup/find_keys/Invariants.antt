use Rattle.ffi_calls.specs.{index_width, key_members, types_by, value_members}
use Rattle.ffi_calls.proofs.Lookups.{Found}
use Rattle.ffi_calls.proofs.lookup.find_keys.Given as goal

-- the first results are the results of the keys, and the others are unchanged
abbrev pub invariant-loop-count : goal.invariant-loop-count
invariant-loop-count g l =
    let width = index_width record { word = g.W.Word.word; kind = g.W.Word.kind; LIMIT = g.W.Width.LIMIT; ALIGN = g.W.Width.ALIGN; MAX_CAPACITY = g.W.Width.MAX_CAPACITY; TABLE_SIZE = g.W.Width.TABLE_SIZE; INDEX_SIZE = g.W.Width.INDEX_SIZE; TEXT_SIZE = g.W.Width.TEXT_SIZE; TEXT_LIMIT = g.W.Width.TEXT_LIMIT } g.W.Index.HasSpec.spec g.W.Index.Scalar.encoding in
    let key = key_members record { format = g.A.Archive.format; is_value = g.A.FromAny.is_value; shows = g.A.FromAny.shows; is_none = g.A.FromAny.is_none; eq = g.A.PartialEq.eq; calls = g.A.KeyHash.calls; fits = g.A.Query.fits } record { any = g.K.ToAny.any; represents = g.K.Represents.represents; spec = g.K.HasSpec.spec; laws = g.K.HasSpec.laws; same = g.K.ElementEq.same; key_calls = g.K.KeyElement.key_calls; is_of = g.K.StoredKey.is_of } in
    let value = value_members record { format = g.B.Archive.format; is_value = g.B.FromAny.is_value; shows = g.B.FromAny.shows; is_none = g.B.FromAny.is_none } record { any = g.V.ToAny.any; spec = g.V.HasSpec.spec; laws = g.V.HasSpec.laws; represents = g.V.Represents.represents; is_of = g.V.StoredValue.is_of } in
    Found (types_by l.indexed width key value) l.archive l.initial.lookups l.count l.lookups
