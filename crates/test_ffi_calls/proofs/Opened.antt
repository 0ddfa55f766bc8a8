-- An archive whose opening returns the status 0 is valid.
use Rattle.std.proofs.Common.{◌≡◌, ◌∙◌, ℕ, IsSomeAnd, List, MatchOption, None, Option, Some, arith, inl, inr, sym}
use Rattle.rkyv_base.specs.{ElementSpec, IsValidArchive}
use Rattle.rkyv_base.specs.declared.errors.VerifyError.{VerifyError}
use Rattle.rkyv_base.specs.declared.errors.VerifyError.TheVariants.{InvalidLength, InvalidValue, OutOfRange, PlaceOutOfRange, Refused, Unaligned, UnwrappedControlByte, WrongNumberOfElements}
use Rattle.ffi_calls.specs.{IsValidByCodes, Opens, OpensByCodes, collection_of, collection_spec, limit_of, verify_status}
use Rattle.ffi_calls.specs.declared.collection.Collection.{Collection}
use Rattle.ffi_calls.specs.declared.containers.Codes.{Codes}

-- the status of no error is 0
verify_status_above_0 : (e : VerifyError) → verify_status e ≡ 0 → ⊥
unfolding verify_status
verify_status_above_0 (OutOfRange pos size) h = omega (arith, h)
verify_status_above_0 (Unaligned pos align) h = omega (arith, h)
verify_status_above_0 (InvalidLength len cap) h = omega (arith, h)
verify_status_above_0 (WrongNumberOfElements expected actual) h = omega (arith, h)
verify_status_above_0 (UnwrappedControlByte index) h = omega (arith, h)
verify_status_above_0 (PlaceOutOfRange place len) h = omega (arith, h)
verify_status_above_0 (InvalidValue pos) h = omega (arith, h)
verify_status_above_0 (Refused reason) h = omega (arith, h)

opened : (limit : ℕ) (s : ElementSpec) (b : List ℕ) (status : ℕ) → Opens limit s b status → status ≡ 0 → IsValidArchive limit s b
opened limit s b status (inl h) z = h.0
opened limit s b status (inr h) z = absurd (verify_status_above_0 h.0 (sym h.2 ∙ z))

opened_of : (o : Option Collection) (b : List ℕ) (status : ℕ) → MatchOption o (status ≡ 7) (λ c. Opens (limit_of c.wide) (collection_spec c) b status) → status ≡ 0
    → IsSomeAnd o (λ c. IsValidArchive (limit_of c.wide) (collection_spec c) b)
opened_of None b status h z = omega (arith, h, z)
opened_of (Some c) b status h z = opened (limit_of c.wide) (collection_spec c) b status h z

-- an archive whose opening by codes returns the status 0 is valid by these codes
pub opened_by_codes : (codes : Codes) (b : List ℕ) (status : ℕ) → OpensByCodes codes b status → status ≡ 0 → IsValidByCodes codes b
opened_by_codes codes = opened_of (collection_of codes)
