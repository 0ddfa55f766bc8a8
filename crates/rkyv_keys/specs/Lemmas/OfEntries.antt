-- Lemmas: entries, by their key and their value.
use Rattle.std.specs.Prelude.{ℕ, ◌+◌, ◌≤◌, Bool, ◌&&◌, List}
use Rattle.std.proofs.Common.{arith}
use Rattle.std.proofs.lemmas.Grind.{common_steps}
use Rattle.std.proofs.lemmas.Bool.{and_from, and_parts}
use Rattle.rkyv_scan.specs.{HasherCall}
use Rattle.rkyv_base.specs.{ElementSpec, IsElement, PairRepresents, ValidAt, entry_spec}
use Rattle.rkyv_base.specs.{value_offset}
use Rattle.rkyv_base.specs.Lemmas.ElementSpec.{valid_at}
use Rattle.rkyv_base.specs.Lemmas.Entry.{same_parts}
use Rattle.rkyv_keys.specs.Equality.{Comparison, EqualsUniquely, IsEquivalence, RepresentsUniquely}
use Rattle.rkyv_keys.specs.Keys.{FitsItsEqual, IsKey, IsQuery}
use Rattle.rkyv_keys.specs.OfEntries.{entry_calls, entry_equals, entry_fits, entry_same, pair_calls}

module _ {k v : ElementSpec} (kl : IsElement k) (vl : IsElement v) where
  pub valid_key : (b : List ℕ) (p : ℕ) → ValidAt (entry_spec k v) b p → ValidAt k b p
  valid_key b p h = (h.1.1, h.1.2)

  pub valid_value : (b : List ℕ) (p : ℕ) → ValidAt (entry_spec k v) b p
      → ValidAt v b (p + value_offset k v)
  valid_value b p h =
      let x : (0 ≤ h.1.1) × (h.1.1 ≤ p) = kl.rest_in_range b p 0 p h.1.1 (omega arith) h.1.2 in
      valid_at v vl b (p + value_offset k v) h.1.1 p h.0 x.1 (omega arith) h.1.3

  module _ {ks vs : Comparison} where
    pub entry_equivalence : IsEquivalence k ks → IsEquivalence v vs
        → IsEquivalence (entry_spec k v) (entry_same k v ks vs)
    entry_equivalence ke ve =
        grind (arith, common_steps, and_from, valid_key, valid_value, and_parts)

    module _ {kc vc : List ℕ → ℕ → List HasherCall} where
      pub entry_key : IsKey k ks kc → IsKey v vs vc
          → IsKey (entry_spec k v) (entry_same k v ks vs) (entry_calls k v kc vc)
      entry_key kk vk =
          let off = value_offset k v in
          record {
            same_calls = λ b c p q h g s.
                let t = and_parts (ks b p c q) (vs b (p + off) c (q + off)) s in
                let x = kk.same_calls b c p q (valid_key b p h) (valid_key c q g) t.0 in
                let y = vk.same_calls b c (p + off) (q + off) (valid_value b p h)
                (valid_value c q g) t.1 in
                cc;
            local = λ b c p lo hi l o h fixed part.
                let s = same_parts k v kl vl b c p lo hi l o h fixed part in
                let ke = kk.local b c p lo hi h.1 o h.2 s.key s.key_parts in
                let ve = vk.local b c (p + off) h.1 hi l s.room h.3 s.value s.value_parts in
                cc;
            copied = λ b c p lo hi l o h fixed part.
                let s = same_parts k v kl vl b c p lo hi l o h fixed part in
                and_from (ks b p c p) (vs b (p + off) c (p + off))
                (kk.copied b c p lo hi h.1 o h.2 s.key s.key_parts)
                (vk.copied b c (p + off) h.1 hi l s.room h.3 s.value s.value_parts);
          }

      module _ {A B : Type 0} {ac : A → List HasherCall} {bc : B
          → List HasherCall}
          {kf : A → List ℕ → ℕ → Bool} {vf : B → List ℕ → ℕ → Bool} where
        pub entry_query : IsQuery k ks kc ac kf → IsQuery v vs vc bc vf
            → IsQuery (entry_spec k v) (entry_same k v ks vs) (entry_calls k v kc vc)
            (pair_calls ac bc) (entry_fits k v kf vf)
        entry_query kq vq = grind (arith, common_steps, and_parts, valid_key, valid_value)

  module _ {A B : Type 0} (key : List ℕ → ℕ → A → Type 0) (value : List ℕ → ℕ → B → Type 0) where
    pub entry_equals_once : (key_equals : List ℕ → ℕ → A → Type 0)
        (value_equals : List ℕ → ℕ → B → Type 0) (ke : A → A → Bool) (ve : B → B → Bool)
        → EqualsUniquely k key key_equals ke → EqualsUniquely v value value_equals ve
        → EqualsUniquely (entry_spec k v) (PairRepresents k v key value)
        (entry_equals k v key_equals value_equals) (λ x y. ke x.0 y.0 && ve x.1 y.1)
    entry_equals_once key_equals value_equals ke ve ka va x y b p h st eq =
        grind (arith, common_steps, and_from, valid_key, valid_value)

    pub entry_once : (ke : A → A → Bool) (ve : B → B → Bool) → RepresentsUniquely k key ke
        → RepresentsUniquely v value ve
        → RepresentsUniquely (entry_spec k v) (PairRepresents k v key value)
        (λ x y. ke x.0 y.0 && ve x.1 y.1)
    entry_once ke ve ka va = entry_equals_once key value ke ve ka va

    pub entry_fits_its_equal : (ka : A → A → Bool) (va : B → B → Bool) (kf : A → List ℕ → ℕ → Bool)
        (vf : B → List ℕ → ℕ → Bool)
        → FitsItsEqual k key ka kf → FitsItsEqual v value va vf
        → FitsItsEqual (entry_spec k v) (PairRepresents k v key value) (λ x y. ka x.0 y.0
        && va x.1 y.1) (entry_fits k v kf vf)
    entry_fits_its_equal ka va kf vf kn vn q pair b p h st =
        grind (arith, common_steps, valid_key, valid_value)
