-- Equality of index maps and index sets that carry their validity is an equivalence of all of them.
use Rattle.rkyv_base.specs.declared.element.HasSpec.{Ghosts as Specs}
use Rattle.std.proofs.Common.{arith}
use Rattle.std.proofs.lemmas.Grind.{common_steps}
use Rattle.rkyv_base.specs.declared.width.Word.{Ghosts as Words}
use Rattle.std.specs.Prelude.{ℕ, Bool, List}
use Rattle.std.specs.Cmp.{IsEquivalence as IsEquality}
use Rattle.rkyv_base.specs.{ElementSpec, ValidAt, entry_spec}
use Rattle.rkyv_base.specs.Lemmas.Entry.{entry_element}
use Rattle.rkyv_keys.specs.{Comparison, IsEquivalence, unit_same}
use Rattle.rkyv_keys.specs.Lemmas.OfEntries.{entry_equivalence}
use Rattle.rkyv_keys.specs.Lemmas.OfUnits.{unit_equivalence}
use Rattle.rkyv_index.specs.{index_bytes, index_maps_equal, index_pos, index_sets_equal}
use Rattle.rkyv_index.specs.{unit_specs}
use Rattle.rkyv_index.specs.Lemmas.EqualLaws.{index_equivalence}
use Rattle.rkyv_index.specs.declared.map.ArchivedIndexMap.{ArchivedIndexMap}

-- an equivalence of valid values is one of all things that are at a valid value each
module _ {M : Type 0} {s : ElementSpec} {same : Comparison} (e : IsEquivalence s same)
    (bytes : M → List ℕ) (pos : M → ℕ) (valid : (m : M) → ValidAt s (bytes m) (pos m)) where
  abbrev same_there : M → M → Bool
  same_there m n = same (bytes m) (pos m) (bytes n) (pos n)

  pub equality_there : IsEquality same_there
  equality_there = grind (arith, common_steps)

module _ {K V H W : Type 0} {ks : Specs K} {vs : Specs V} {wt : Words W}
    {same_key same_value : Comparison} (k : IsEquivalence ks.spec same_key)
    (v : IsEquivalence vs.spec same_value) where
  pub maps_equality : IsEquality (index_maps_equal {K = K} {V = V} {H = H} {W = W} {ks = ks}
      {vs = vs} {wt = wt} same_key same_value)
  maps_equality = equality_there (index_equivalence wt.word (entry_spec ks.spec vs.spec)
      (entry_element ks.spec vs.spec ks.laws vs.laws)
      (entry_equivalence ks.laws vs.laws k v)) index_bytes index_pos
      (λ (m : ArchivedIndexMap K V H W ks vs wt). m.valid.valid)

module _ {K H W : Type 0} {ks : Specs K} {wt : Words W} {same : Comparison}
    (k : IsEquivalence ks.spec same) where
  pub sets_equality : IsEquality (index_sets_equal {K = K} {H = H} {W = W} {ks = ks} {wt = wt} same)
  sets_equality =
      let maps : IsEquality (index_maps_equal {K = K} {V = Unit {0}} {H = H} {W = W} {ks = ks}
      {vs = unit_specs} {wt = wt} same unit_same) = maps_equality k unit_equivalence in
      grind arith
