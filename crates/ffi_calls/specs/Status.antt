-- The statuses of errors.
use Rattle.std.specs.Prelude.{ℕ}
use Rattle.rkyv_base.specs.declared.errors.VerifyError.{VerifyError}
use Rattle.rkyv_base.specs.declared.errors.VerifyError.TheVariants.{OutOfRange, Unaligned}
use Rattle.rkyv_base.specs.declared.errors.VerifyError.TheVariants.{InvalidLength}
use Rattle.rkyv_base.specs.declared.errors.VerifyError.TheVariants.{WrongNumberOfElements}
use Rattle.rkyv_base.specs.declared.errors.VerifyError.TheVariants.{UnwrappedControlByte}
use Rattle.rkyv_base.specs.declared.errors.VerifyError.TheVariants.{InvalidValue, PlaceOutOfRange}
use Rattle.rkyv_base.specs.declared.errors.VerifyError.TheVariants.{Refused}
use Rattle.rkyv_base.specs.declared.errors.WriteError.{WriteError}
use Rattle.rkyv_base.specs.declared.errors.WriteError.TheVariants as write
use Rattle.rkyv_container.specs.declared.errors.ContainerError.{ContainerError}
use Rattle.rkyv_container.specs.declared.errors.ContainerError.TheVariants as container

-- the status of a validation error
unfoldable pub verify_status : VerifyError → ℕ
verify_status (OutOfRange pos size) = 16
verify_status (Unaligned pos align) = 17
verify_status (InvalidLength len cap) = 18
verify_status (WrongNumberOfElements expected actual) = 19
verify_status (UnwrappedControlByte index) = 20
verify_status (PlaceOutOfRange place len) = 21
verify_status (InvalidValue pos) = 22
verify_status (Refused reason) = 23

-- the status of a write error
unfoldable pub write_status : {F : Type 0} → WriteError F → ℕ
write_status write.Memory = 12
write_status (write.Writer fault) = 12
write_status (write.Refused reason) = 23
write_status (write.CapacityTooLarge len) = 24
write_status write.PositionTooLarge = 25
write_status write.DistanceTooLarge = 26
write_status write.TextTooLong = 27
write_status (write.InvalidLoadFactor numerator denominator) = 28
write_status (write.IteratorLengthMismatch mismatch) = 29

-- the status of a container's error
unfoldable pub container_status : ContainerError → ℕ
container_status (container.TooShort len) = 32
container_status container.WrongMagic = 33
container_status (container.UnsupportedVersion version) = 34
container_status (container.UnknownKind code) = 35
container_status (container.UnknownKeyType code) = 36
container_status (container.UnknownValueType code) = 37
container_status (container.UnknownWidth code) = 38
container_status (container.UnknownFlags flags) = 39
container_status (container.UnexpectedChecksum checksum) = 40
container_status (container.NonzeroReserved number) = 41
container_status (container.WrongKind expected found) = 42
container_status (container.WrongKeyType expected found) = 43
container_status (container.WrongValueType expected found) = 44
container_status (container.WrongWidth expected found) = 45
container_status (container.WrongLength expected found) = 46
container_status (container.WrongChecksum expected found) = 47
