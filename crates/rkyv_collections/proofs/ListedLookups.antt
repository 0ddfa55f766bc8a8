-- Lookups in a map that represents a list find the first pair of the list, under any relations of keys and values.
use Rattle.std.proofs.Common.{ap}
use Rattle.std.proofs.lemmas.Option.{IfSome_then}
use Rattle.rkyv_base.specs.declared.element.HasSpec.{Ghosts as Specs}
use Rattle.rkyv_base.specs.declared.width.Word.{Ghosts as Words}
use Rattle.rkyv_keys.specs.{NativePairs}
use Rattle.rkyv_collections.specs.{LookupsFindListed, map_bytes, map_pos}
use Rattle.rkyv_collections.proofs.FoundPairs.{contains_listed, first_listed, key_listed, pair_listed, value_listed}

pub lookups_listed : {A B K V W : Type 0} (H : Type 0) (wt : Words W) (ks : Specs K) (vs : Specs V) (native : NativePairs A B) → LookupsFindListed H wt ks vs native
lookups_listed H wt ks vs native = λ m accept accept_value factor pairs agrees h.
    let k = ks.spec in
    let v = vs.spec in
    let b = map_bytes m in
    let first = first_listed wt.word k v ks.laws vs.laws native.key native.value native.key_hash factor b (map_pos m) pairs m.valid accept accept_value agrees h in
    record {
      returns_pair = λ result walked finds_first. pair_listed k v native.key native.value b _ _ result (IfSome_then result walked (λ x i. (ap (λ a. a.now) i.key.archive, ap (λ a. a.now) i.at.0, i.at.1))) first (finds_first h.homes h.written);
      returns_key = λ result walked finds_first. key_listed k v native.key native.value b _ _ result (IfSome_then result walked (λ x i. ap (λ a. a.now) i.archive)) first (finds_first h.homes h.written);
      returns_value = λ result walked finds_first. value_listed k v native.key native.value b _ _ result (IfSome_then result walked (λ x i. ap (λ a. a.now) i.at.0)) first (finds_first h.homes h.written);
      contains = λ result finds_first. contains_listed k v native.key native.value b _ _ result first (finds_first h.homes h.written);
    }
