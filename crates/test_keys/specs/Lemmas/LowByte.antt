-- Lemmas: a number that is compared and hashed by its low byte is a key.
use Rattle.std.specs.Prelude.{◌≡◌, ℕ, ◌%◌, nat_eq}
use Rattle.std.specs.Cmp.{unsigned_Decides}
use Rattle.std.specs.Int.{from_le_bytes, w32}
use Rattle.std.proofs.Common.{inl, inr, refl, subst}
use Rattle.rkyv_base.specs.{IsElement, RepresentsLocally, unsigned}
use Rattle.rkyv_base.specs.Lemmas.Numbers.{unsigned_codes}
use Rattle.rkyv_base.specs.Lemmas.Scalar.{scalar_element, scalar_laws, scalar_local}
use Rattle.rkyv_keys.specs.{IsEquivalence, IsKey, IsQuery}
use Rattle.rkyv_keys.specs.Lemmas.OfValues.{value_equivalence, value_key, value_query}
use Rattle.test_keys.specs.LowByte.{byte_call, low_byte, low_calls, low_fits, low_represents}
use Rattle.test_keys.specs.LowByte.{low_same, low_spec}

pub low_element : IsElement low_spec
low_element = scalar_element (unsigned w32) (inr (inr (inl refl))) (unsigned_codes w32)

pub low_local : RepresentsLocally low_spec low_represents
low_local = scalar_local low_spec (unsigned w32) (scalar_laws (unsigned w32) (inr (inr (inl refl))))

pub low_equivalence : IsEquivalence low_spec low_same
low_equivalence = value_equivalence low_spec low_byte nat_eq unsigned_Decides

pub low_key : IsKey low_spec low_same low_calls
low_key = value_key low_spec low_byte nat_eq unsigned_Decides byte_call
    (λ v b c p lo hi l o h fixed part st. subst (λ s. from_le_bytes w32 s % 256 ≡ v) fixed st)

pub low_query : {Q : Type 0} (model : Q → ℕ)
    → IsQuery low_spec low_same low_calls (λ q. byte_call (model q)) (low_fits model)
low_query model = value_query low_spec low_byte nat_eq unsigned_Decides byte_call model
