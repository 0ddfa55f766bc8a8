-- Writing a pair: an error of its key or its value is an error of the pair.
use Rattle.std.specs.Prelude.{◌≡◌, ℕ, ◌+◌, List, length}
use Rattle.std.proofs.Common.{arith, rules}
use Rattle.std.proofs.lemmas.Grind.{common_steps}
use Rattle.rkyv_base.specs.declared.errors.WriteError.{WriteError}
use Rattle.rkyv_base.specs.declared.pairs.EntryResolver.{EntryResolver}
use Rattle.rkyv_base.specs.{Appends, ElementSpec, Format, IsSmall, Output, SerializeFails, Serialized, Within, end_of, pair_format}
use Rattle.rkyv_base.specs.Lemmas.Writing.{appends_after, end-appends, fails_after, fails_under, grows, within_after}

-- an error of the key
pub key_fails : {F V W R Q : Type 0} (limit : ℕ) (k v : ElementSpec) (kf : Format V R) (vf : Format W Q) (pair : V × W) (o o' : Output) (e : WriteError F)
    → IsSmall k v → SerializeFails limit kf pair.0 o o' e → SerializeFails limit (pair_format k v kf vf) pair o o' e
key_fails limit k v kf vf pair o o' e small t = grind (arith, common_steps, fails_under)

-- an error of the value
pub value_fails : {F V W R Q : Type 0} (limit : ℕ) (k v : ElementSpec) (kf : Format V R) (vf : Format W Q) (pair : V × W) (o o1 o2 : Output) (a : List ℕ) (r : R) (e : WriteError F)
    → IsSmall k v → Appends o o1 a → kf.parts pair.0 (end_of o) a r → Within limit o1 a → SerializeFails limit vf pair.1 o1 o2 e → SerializeFails limit (pair_format k v kf vf) pair o o2 e
value_fails limit k v kf vf pair o o1 o2 a r e small h good inside t =
    let at : end_of o1 ≡ end_of o + length a = end-appends o o1 a h in
    search (rules, fails_after)

-- both were serialized
pub pair_serialized : {V W R Q : Type 0} (limit : ℕ) (k v : ElementSpec) (kf : Format V R) (vf : Format W Q) (pair : V × W) (o o1 o2 : Output) (r : EntryResolver R Q)
    → IsSmall k v → Serialized limit kf pair.0 o o1 r.key → Serialized limit vf pair.1 o1 o2 r.value → Serialized limit (pair_format k v kf vf) pair o o2 r
pair_serialized limit k v kf vf pair o o1 o2 r small x y = grind (arith, common_steps, end-appends, appends_after, within_after, grows)
