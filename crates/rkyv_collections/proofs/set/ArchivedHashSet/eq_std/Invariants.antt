use Rattle.rkyv_base.specs.{unit_represents, unit_spec}
use Rattle.rkyv_keys.specs.{hash_of}
use Rattle.rkyv_collections.specs.{FindsPair, set_bytes, set_pos}
use Rattle.rkyv_collections.proofs.StdComparing.{Decides}
use Rattle.rkyv_collections.proofs.set.ArchivedHashSet.eq_std.Given as goal

-- all keys are found if and only if the remaining ones are
abbrev pub invariant-loop-key : goal.invariant-loop-key
invariant-loop-key g l =
    let hash = hash_of g.H.KeyHasher.hasher g.A.KeyHash.calls in
    Decides (λ key. FindsPair g.W.Word.word g.K.HasSpec.spec unit_spec hash g.A.Query.fits unit_represents (set_bytes l.self) (set_pos l.self) (key, tt)) l.other.keys l.key-iterator
