-- Round trips: a value is written to memory, and deserialized from its archive.
use Rattle.std.specs.Prelude.{ℕ, ◌-◌, List, length}
use Rattle.rkyv_base.specs.{ElementSpec, Format, IsValidArchive, RootBytes, ToBytesFails}
use Rattle.rkyv_base.specs.declared.errors.RoundTripError.{RoundTripError}
use Rattle.rkyv_base.specs.declared.errors.RoundTripError.TheVariants.{Read, Write}
use Rattle.rkyv_keys.specs.Deserialize.{DeserializeErrors}

-- how a value is written and deserialized. `limit`: greatest length of the archive, `spec`: spec
-- of the element, `format`: format of the value, `deserialize_fails`: errors of deserializing it
pub record RoundTrip (V R : Type 0) : Type 1 where
  pub limit : ℕ
  pub spec : ElementSpec
  pub format : Format V R
  pub deserialize_fails : DeserializeErrors

-- the round trip of values with this element and this format
abbrev pub round_trip : {V R : Type 0} → ℕ → ElementSpec → Format V R → DeserializeErrors
    → RoundTrip V R
round_trip limit spec format deserialize_fails =
    record { limit = limit; spec = spec; format = format; deserialize_fails = deserialize_fails }

-- `e`: error of the round trip of the value `v`. It can't be written, or its root
-- can't be deserialized from the bytes of its archive
abbrev pub RoundTripFails : {V R : Type 0} → RoundTrip V R → V → RoundTripError → Type 0
RoundTripFails t v (Write e) = ToBytesFails t.limit t.spec t.format v e
RoundTripFails t v (Read e) = (b : List ℕ) × RootBytes t.spec.align t.format v 0 b (length b
    - t.spec.size) × t.deserialize_fails b (length b - t.spec.size) e

-- the value `v` has an archive
abbrev pub HasArchive : {V R : Type 0} → RoundTrip V R → V → Type 0
HasArchive t v = (b : List ℕ) × IsValidArchive t.limit t.spec b
    × RootBytes t.spec.align t.format v 0 b (length b - t.spec.size)
