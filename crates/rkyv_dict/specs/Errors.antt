-- The number and the name of each error, as the output has them.
use Rattle.std.specs.Prelude.{ℕ, Bool, true, false, List, codes}
use Rattle.rkyv_base.specs.declared.errors.VerifyError.{VerifyError}
use Rattle.rkyv_base.specs.declared.errors.VerifyError.TheVariants.{OutOfRange, Unaligned}
use Rattle.rkyv_base.specs.declared.errors.VerifyError.TheVariants.{InvalidLength}
use Rattle.rkyv_base.specs.declared.errors.VerifyError.TheVariants.{WrongNumberOfElements}
use Rattle.rkyv_base.specs.declared.errors.VerifyError.TheVariants.{UnwrappedControlByte}
use Rattle.rkyv_base.specs.declared.errors.VerifyError.TheVariants.{InvalidValue, PlaceOutOfRange}
use Rattle.rkyv_base.specs.declared.errors.VerifyError.TheVariants.{Refused}
use Rattle.rkyv_base.specs.declared.errors.WriteError.{WriteError}
use Rattle.rkyv_base.specs.declared.errors.WriteError.TheVariants.{InvalidLoadFactor}
use Rattle.rkyv_base.specs.declared.errors.WriteError.TheVariants.{IteratorLengthMismatch}
use Rattle.rkyv_base.specs.declared.errors.WriteError.TheVariants.{CapacityTooLarge}
use Rattle.rkyv_base.specs.declared.errors.WriteError.TheVariants.{PositionTooLarge}
use Rattle.rkyv_base.specs.declared.errors.WriteError.TheVariants.{DistanceTooLarge, TextTooLong}
use Rattle.rkyv_base.specs.declared.errors.WriteError.TheVariants.{Memory, Writer}
use Rattle.rkyv_base.specs.declared.errors.WriteError.TheVariants.{Refused as RefusedWrite}
use Rattle.rkyv_dict.specs.declared.run.RunError.{RunError}
use Rattle.rkyv_dict.specs.declared.run.RunError.TheVariants.{Memory as NoMemoryLeft, Read, Write}

-- the message of a failed run
abbrev pub message_of : RunError → List ℕ
message_of Read = codes "read fault"
message_of Write = codes "write fault"
message_of NoMemoryLeft = codes "no memory"

-- the number and the name of a validation error
unfoldable pub verify_error_text : VerifyError → List ℕ
verify_error_text (OutOfRange pos size) = codes "1 OutOfRange"
verify_error_text (Unaligned pos align) = codes "2 Unaligned"
verify_error_text (InvalidLength len cap) = codes "3 InvalidLength"
verify_error_text (WrongNumberOfElements expected actual) = codes "4 WrongNumberOfElements"
verify_error_text (UnwrappedControlByte index) = codes "5 UnwrappedControlByte"
verify_error_text (PlaceOutOfRange place len) = codes "6 PlaceOutOfRange"
verify_error_text (InvalidValue pos) = codes "7 InvalidValue"
verify_error_text (Refused reason) = codes "8 Refused"

-- the number and the name of a write error
unfoldable pub write_error_text : {F : Type 0} → WriteError F → List ℕ
write_error_text (InvalidLoadFactor numerator denominator) = codes "1 InvalidLoadFactor"
write_error_text (IteratorLengthMismatch mismatch) = codes "2 IteratorLengthMismatch"
write_error_text (CapacityTooLarge len) = codes "3 CapacityTooLarge"
write_error_text PositionTooLarge = codes "4 PositionTooLarge"
write_error_text DistanceTooLarge = codes "5 DistanceTooLarge"
write_error_text TextTooLong = codes "6 TextTooLong"
write_error_text (Writer fault) = codes "7 Writer"
write_error_text Memory = codes "8 Memory"
write_error_text (RefusedWrite reason) = codes "9 Refused"

-- the write error is an allocation failure, which has no line
unfoldable pub is_allocation_failure : {F : Type 0} → WriteError F → Bool
is_allocation_failure (InvalidLoadFactor numerator denominator) = false
is_allocation_failure (IteratorLengthMismatch mismatch) = false
is_allocation_failure (CapacityTooLarge len) = false
is_allocation_failure PositionTooLarge = false
is_allocation_failure DistanceTooLarge = false
is_allocation_failure TextTooLong = false
is_allocation_failure (Writer fault) = true
is_allocation_failure Memory = true
is_allocation_failure (RefusedWrite reason) = false
