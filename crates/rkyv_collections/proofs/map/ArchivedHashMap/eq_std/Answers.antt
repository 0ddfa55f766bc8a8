use Rattle.std.proofs.Common.{arith, length, rules, subst}
use Rattle.std.proofs.lemmas.Grind.{common_steps}
use Rattle.rkyv_keys.specs.{hash_of}
use Rattle.rkyv_table.specs.{len_at}
use Rattle.rkyv_collections.specs.{FindsPair, map_bytes, map_pos}
use Rattle.rkyv_collections.proofs.StdComparing.{Decides, decides_next, one_fails}
use Rattle.rkyv_collections.proofs.map.ArchivedHashMap.eq_std.Goals as goal

pub loop-key-preserved : goal.loop-key-preserved
loop-key-preserved g c =
    let hash = hash_of g.H.KeyHasher.hasher g.A.KeyHash.calls in
    let P = FindsPair g.W.Word.word g.K.HasSpec.spec g.V.HasSpec.spec hash g.A.Query.fits g.V.MatchesNative.equals (map_bytes c.args.self) (map_pos c.args.self) in
    let m = c.args.other.now.entries in
    decides_next P m (c.in-Some.key.now, c.in-Some.value.now) c.next.new.self (subst (Decides P m) c.in-Some.ensures.steps c.loop-key.invariant) (c.finds_equal.ensures.0 (search rules))

pub returns-then-not-finds_equal : goal.returns-then-not-finds_equal
returns-then-not-finds_equal g c =
    let hash = hash_of g.H.KeyHasher.hasher g.A.KeyHash.calls in
    let P = FindsPair g.W.Word.word g.K.HasSpec.spec g.V.HasSpec.spec hash g.A.Query.fits g.V.MatchesNative.equals (map_bytes c.args.self) (map_pos c.args.self) in
    let m = c.args.other.now.entries in
    one_fails P m (len_at g.W.Word.word (map_bytes c.args.self) (map_pos c.args.self)) (length m) (c.in-Some.key.now, c.in-Some.value.now) c.next.new.self
    (subst (Decides P m) c.in-Some.ensures.steps c.loop-key.invariant) c.finds_equal.result c.finds_equal.ensures (search rules)

pub loop-key-init : goal.loop-key-init
loop-key-init g c = grind (arith, common_steps)

pub returns : goal.returns
returns g c = grind (arith, common_steps)
