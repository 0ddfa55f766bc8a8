-- The statuses of errors: of validation, and of containers.
use Rattle.std.proofs.Common.{◌≡◌, ◌∙◌, ◌⊎◌, ℕ, List, ap, arith, inl, inr, refl}
use Rattle.std.specs.Prelude.{pos as int}
use Rattle.rkyv_base.specs.{AccessFails, ElementSpec, IsValidArchive}
use Rattle.rkyv_base.specs.declared.errors.VerifyError.{VerifyError}
use Rattle.rkyv_base.specs.declared.errors.VerifyError.TheVariants as verify
use Rattle.rkyv_container.specs.declared.errors.ContainerError.{ContainerError}
use Rattle.rkyv_container.specs.declared.errors.ContainerError.TheVariants as container
use Rattle.ffi_calls.specs.{Explains, Opens, container_status, explain, explain_container_error, explained, verify_status}
use Rattle.ffi_calls.specs.declared.explanation.Explanation.{Explanation}

-- the status of an error's explanation is the status of the error
explained_status : (e : VerifyError) → (explain e).status ≡ verify_status e
unfolding explain verify_status
explained_status (verify.OutOfRange pos size) = refl
explained_status (verify.Unaligned pos align) = refl
explained_status (verify.InvalidLength len cap) = refl
explained_status (verify.WrongNumberOfElements expected actual) = refl
explained_status (verify.UnwrappedControlByte index) = refl
explained_status (verify.PlaceOutOfRange place len) = refl
explained_status (verify.InvalidValue pos) = refl
explained_status (verify.Refused reason) = refl

opened_by : (limit : ℕ) (s : ElementSpec) (b : List ℕ) (result : Explanation) → (IsValidArchive limit s b × (result ≡ explained 0 (int 0) 0 0)) ⊎ ((e : VerifyError) × AccessFails limit s b e × (result ≡ explain e)) → Opens limit s b result.status
opened_by limit s b result (inl h) = inl (h.0, ap (λ r. r.status) h.1)
opened_by limit s b result (inr h) = inr (h.0, h.1, ap (λ r. r.status) h.2 ∙ explained_status h.0)

-- the status of the explanation is the status of opening the archive
pub opened : {limit : ℕ} {s : ElementSpec} {b : List ℕ} {result : Explanation} → Explains limit s b result → Opens limit s b result.status
opened {limit} {s} {b} {result} e = opened_by limit s b result e.explains

-- the status of the explanation of a container's error is the status of the error
pub explained_container_status : (e : ContainerError) → (explain_container_error e).status ≡ container_status e
unfolding explain_container_error container_status
explained_container_status (container.TooShort len) = refl
explained_container_status container.WrongMagic = refl
explained_container_status (container.UnsupportedVersion version) = refl
explained_container_status (container.UnknownKind code) = refl
explained_container_status (container.UnknownKeyType code) = refl
explained_container_status (container.UnknownValueType code) = refl
explained_container_status (container.UnknownWidth code) = refl
explained_container_status (container.UnknownFlags flags) = refl
explained_container_status (container.UnexpectedChecksum checksum) = refl
explained_container_status (container.NonzeroReserved number) = refl
explained_container_status (container.WrongKind expected found) = refl
explained_container_status (container.WrongKeyType expected found) = refl
explained_container_status (container.WrongValueType expected found) = refl
explained_container_status (container.WrongWidth expected found) = refl
explained_container_status (container.WrongLength expected found) = refl
explained_container_status (container.WrongChecksum expected found) = refl

-- no status of a container's error is the status of success
pub container_status_above_0 : (e : ContainerError) → container_status e ≡ 0 → ⊥
unfolding container_status
container_status_above_0 (container.TooShort len) e = omega (arith, e)
container_status_above_0 container.WrongMagic e = omega (arith, e)
container_status_above_0 (container.UnsupportedVersion version) e = omega (arith, e)
container_status_above_0 (container.UnknownKind code) e = omega (arith, e)
container_status_above_0 (container.UnknownKeyType code) e = omega (arith, e)
container_status_above_0 (container.UnknownValueType code) e = omega (arith, e)
container_status_above_0 (container.UnknownWidth code) e = omega (arith, e)
container_status_above_0 (container.UnknownFlags flags) e = omega (arith, e)
container_status_above_0 (container.UnexpectedChecksum checksum) e = omega (arith, e)
container_status_above_0 (container.NonzeroReserved number) e = omega (arith, e)
container_status_above_0 (container.WrongKind expected found) e = omega (arith, e)
container_status_above_0 (container.WrongKeyType expected found) e = omega (arith, e)
container_status_above_0 (container.WrongValueType expected found) e = omega (arith, e)
container_status_above_0 (container.WrongWidth expected found) e = omega (arith, e)
container_status_above_0 (container.WrongLength expected found) e = omega (arith, e)
container_status_above_0 (container.WrongChecksum expected found) e = omega (arith, e)
