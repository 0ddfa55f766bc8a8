use Rattle.std.proofs.Common.{arith, rules, subst}
use Rattle.std.proofs.lemmas.Grind.{common_steps}
use Rattle.std.specs.HashSet.{hash_set_len}
use Rattle.rkyv_keys.specs.{hash_of}
use Rattle.rkyv_table.specs.{len_at}
use Rattle.rkyv_base.specs.{unit_represents, unit_spec}
use Rattle.rkyv_collections.specs.{FindsPair, set_bytes, set_pos}
use Rattle.rkyv_collections.proofs.StdComparing.{Decides, decides_next, one_fails}
use Rattle.rkyv_collections.proofs.set.ArchivedHashSet.eq_std.Goals as goal

pub loop-key-preserved : goal.loop-key-preserved
loop-key-preserved g c =
    let hash = hash_of g.H.KeyHasher.hasher g.A.KeyHash.calls in
    let P : g.row.A.Denot → Type 0 = λ key. FindsPair g.W.Word.word g.K.HasSpec.spec unit_spec hash g.A.Query.fits unit_represents (set_bytes c.args.self) (set_pos c.args.self) (key, tt) in
    let keys = c.args.other.now.keys in
    decides_next P keys c.in-Some.key.now c.next.new.self (subst (Decides P keys) c.in-Some.ensures.steps c.loop-key.invariant) (c.finds_equal.ensures.0 (search rules))

pub returns-then-not-finds_equal : goal.returns-then-not-finds_equal
returns-then-not-finds_equal g c =
    let hash = hash_of g.H.KeyHasher.hasher g.A.KeyHash.calls in
    let P : g.row.A.Denot → Type 0 = λ key. FindsPair g.W.Word.word g.K.HasSpec.spec unit_spec hash g.A.Query.fits unit_represents (set_bytes c.args.self) (set_pos c.args.self) (key, tt) in
    let keys = c.args.other.now.keys in
    one_fails P keys (len_at g.W.Word.word (set_bytes c.args.self) (set_pos c.args.self)) (hash_set_len c.args.other.now) c.in-Some.key.now c.next.new.self
    (subst (Decides P keys) c.in-Some.ensures.steps c.loop-key.invariant) c.finds_equal.result c.finds_equal.ensures (search rules)

pub loop-key-init : goal.loop-key-init
loop-key-init g c = grind (arith, common_steps)

pub returns : goal.returns
returns g c = grind (arith, common_steps)
