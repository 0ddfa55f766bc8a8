use Rattle.std.proofs.Common.{◌≡◌, ◌≤◌, ◌++◌, length}
use Rattle.std.specs.Option.{option_map}
use Rattle.rkyv_dict.specs.{bytes_of_digits}
use Rattle.rkyv_dict.proofs.hex.read_hex.Given as goal

-- the bytes that are read, then those of the remaining digits, are the bytes of all digits.
-- At most all digits remain.
abbrev pub invariant-loop-rest : goal.invariant-loop-rest
invariant-loop-rest l = (bytes_of_digits l.digits ≡ option_map (λ more. l.bytes.items ++ more) (bytes_of_digits l.rest)) × (length l.rest ≤ length l.digits)

abbrev pub decreases-loop-rest : goal.decreases-loop-rest
decreases-loop-rest l = length l.rest
