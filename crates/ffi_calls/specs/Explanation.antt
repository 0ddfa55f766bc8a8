-- Why an archive is invalid, or a container: the first error, with its numbers.
use Rattle.std.specs.Prelude.{◌≡◌, ℕ, ℤ, ◌⊎◌, ◌-◌, ◌^◌, cond, int_lt, min, negsuc, List}
use Rattle.std.specs.Prelude.{pos as int}
use Rattle.rkyv_base.specs.{AccessFails, ElementSpec, IsValidArchive}
use Rattle.rkyv_base.specs.declared.errors.VerifyError.{VerifyError}
use Rattle.rkyv_base.specs.declared.errors.VerifyError.TheVariants.{OutOfRange, Unaligned}
use Rattle.rkyv_base.specs.declared.errors.VerifyError.TheVariants.{InvalidLength}
use Rattle.rkyv_base.specs.declared.errors.VerifyError.TheVariants.{WrongNumberOfElements}
use Rattle.rkyv_base.specs.declared.errors.VerifyError.TheVariants.{UnwrappedControlByte}
use Rattle.rkyv_base.specs.declared.errors.VerifyError.TheVariants.{InvalidValue, PlaceOutOfRange}
use Rattle.rkyv_base.specs.declared.errors.VerifyError.TheVariants.{Refused}
use Rattle.rkyv_container.specs.{IsContainerOf, OpenAsFails, item_code, kind_code, width_code}
use Rattle.rkyv_container.specs.declared.contents.Contents.{Contents}
use Rattle.rkyv_container.specs.declared.errors.ContainerError.{ContainerError}
use Rattle.rkyv_container.specs.declared.errors.ContainerError.TheVariants as container
use Rattle.ffi_calls.specs.Containers.{MatchCodes}
use Rattle.ffi_calls.specs.declared.containers.Codes.{Codes}
use Rattle.ffi_calls.specs.declared.explanation.Explanation.{Explanation}

-- the integer of 64 bits that is nearest to `z`
abbrev pub nearest : ℤ → ℤ
nearest z = cond (int_lt z (negsuc (2 ^ 63 - 1))) (negsuc (2 ^ 63 - 1))
    (cond (int_lt (int (2 ^ 63 - 1)) z) (int (2 ^ 63 - 1)) z)

-- an explanation with these numbers
abbrev pub explained : ℕ → ℤ → ℕ → ℕ → Explanation
explained status position first second =
    record { status = status; position = position; first = first; second = second }

-- the explanation of a validation error
unfoldable pub explain : VerifyError → Explanation
explain (OutOfRange pos size) = explained 16 (nearest pos) (min size (2 ^ 64 - 1)) 0
explain (Unaligned pos align) = explained 17 (nearest (int pos)) align 0
explain (InvalidLength len cap) = explained 18 (int 0) len cap
explain (WrongNumberOfElements expected actual) = explained 19 (int 0) expected actual
explain (UnwrappedControlByte index) = explained 20 (int 0) index 0
explain (PlaceOutOfRange place len) = explained 21 (int 0) place len
explain (InvalidValue pos) = explained 22 (nearest (int pos)) 0 0
explain (Refused reason) = explained 23 (int 0) reason 0

-- the explanation of a container's error; kinds, types and widths are their codes
unfoldable pub explain_container_error : ContainerError → Explanation
explain_container_error (container.TooShort len) = explained 32 (int 0) len 0
explain_container_error container.WrongMagic = explained 33 (int 0) 0 0
explain_container_error (container.UnsupportedVersion version) = explained 34 (int 0) version 0
explain_container_error (container.UnknownKind code) = explained 35 (int 0) code 0
explain_container_error (container.UnknownKeyType code) = explained 36 (int 0) code 0
explain_container_error (container.UnknownValueType code) = explained 37 (int 0) code 0
explain_container_error (container.UnknownWidth code) = explained 38 (int 0) code 0
explain_container_error (container.UnknownFlags flags) = explained 39 (int 0) flags 0
explain_container_error (container.UnexpectedChecksum checksum) = explained 40 (int 0) checksum 0
explain_container_error (container.NonzeroReserved number) = explained 41 (int 0) number 0
explain_container_error (container.WrongKind expected found) =
    explained 42 (int 0) (kind_code expected) (kind_code found)
explain_container_error (container.WrongKeyType expected found) =
    explained 43 (int 0) (item_code expected) (item_code found)
explain_container_error (container.WrongValueType expected found) =
    explained 44 (int 0) (item_code expected) (item_code found)
explain_container_error (container.WrongWidth expected found) =
    explained 45 (int 0) (width_code expected) (width_code found)
explain_container_error (container.WrongLength expected found) = explained 46 (int 0) expected found
explain_container_error (container.WrongChecksum expected found) =
    explained 47 (int 0) expected found

-- `b` is valid and there is no error, or it is the first validation error
pub record Explains (limit : ℕ) (s : ElementSpec) (b : List ℕ) (result : Explanation) : Type 0 where
  pub explains : (IsValidArchive limit s b × (result ≡ explained 0 (int 0) 0 0))
      ⊎ ((e : VerifyError) × AccessFails limit s b e × (result ≡ explain e))
  pub accepts : IsValidArchive limit s b → result.status ≡ 0

-- `b` is a container with these contents and there is no error, or it is the container's first one
abbrev pub ExplainsAs : Contents → List ℕ → Explanation → Type 0
ExplainsAs contents b result =
    ((a : List ℕ) × IsContainerOf contents a b × (result ≡ explained 0 (int 0) 0 0))
    ⊎ ((e : ContainerError) × OpenAsFails contents b e × (result ≡ explain_container_error e))

-- `b` is a container whose contents have the codes and there is no error, or it is the container's
-- first one. If no contents have the codes, its status is 7, and its numbers are 0.
abbrev pub ExplainsContainer : Codes → List ℕ → Explanation → Type 0
ExplainsContainer codes b result =
    MatchCodes codes (λ c. ExplainsAs c b result) (result ≡ explained 7 (int 0) 0 0)
