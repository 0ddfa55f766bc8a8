-- The result of writing a table.
use Rattle.std.specs.Prelude.{◌≡◌, ℕ, ◌<◌, ◌≤◌, ◌⊎◌, ⊤, List, length, MatchResult, Option, Result}
use Rattle.rkyv_base.specs.{Appended, ElementSpec, Format, Output, SerializeFails, Serialized}
use Rattle.rkyv_base.specs.{WidthMembers, WriteFails, end_of}
use Rattle.rkyv_base.specs.declared.errors.WriteError.{WriteError}
use Rattle.rkyv_base.specs.declared.errors.WriteError.TheVariants.{InvalidLoadFactor}
use Rattle.rkyv_base.specs.declared.errors.WriteError.TheVariants.{IteratorLengthMismatch}
use Rattle.rkyv_base.specs.declared.errors.WriteError.TheVariants.{CapacityTooLarge}
use Rattle.rkyv_base.specs.declared.errors.WriteError.TheVariants.{PositionTooLarge}
use Rattle.rkyv_base.specs.declared.errors.WriteError.TheVariants.{DistanceTooLarge, TextTooLong}
use Rattle.rkyv_base.specs.declared.errors.WriteError.TheVariants.{Memory, Refused, Writer}
use Rattle.rkyv_table.specs.Controls.Numbers.{IsLoadFactor, capacity}
use Rattle.rkyv_table.specs.Table.Input.{Input}
use Rattle.rkyv_table.specs.Table.Slots.{ItemFormat, TableBytes, TableNext}
use Rattle.rkyv_table.specs.Table.TableFormat.{TableResolver, table_format}
use Rattle.rkyv_table.specs.Table.PlacedItems.{ArePlaced}

-- `len` items have a capacity of at most `max`
abbrev pub HasCapacity : ℕ → ℕ × ℕ → ℕ → Type 0
HasCapacity len load_factor max = IsLoadFactor load_factor × (capacity len load_factor ≤ max)

module _ (len : ℕ) (load_factor : ℕ × ℕ) (max : ℕ) (other : ℕ → Type 0) where
  -- the errors before the first byte, each with its condition. `other`: another number of items
  -- than `len`
  abbrev pub OwnCause : {F : Type 0} → WriteError F → Type 0
  OwnCause (InvalidLoadFactor n d) = (load_factor ≡ (n, d)) × (IsLoadFactor load_factor → ⊥)
  OwnCause (CapacityTooLarge l) =
      (l ≡ len) × IsLoadFactor load_factor × (max < capacity len load_factor)
  OwnCause Memory = HasCapacity len load_factor max × (0 < len)
  OwnCause (IteratorLengthMismatch m) =
      (m.expected ≡ len) × HasCapacity len load_factor max × other m.actual
  OwnCause PositionTooLarge = ⊥
  OwnCause DistanceTooLarge = ⊥
  OwnCause TextTooLong = ⊥
  OwnCause (Writer fault) = ⊥
  OwnCause (Refused c) = ⊥

-- the input has `len` items, and they are `items`
abbrev pub YieldsExactly : {X : Type 0} → (List X → Type 0) → ℕ → List X → Type 0
YieldsExactly yields len items = yields items × (length items ≡ len)

module _ {X R : Type 0} (yields : List X → Type 0) (len : ℕ) (load_factor : ℕ × ℕ) (max : ℕ)
    (f : Format (List X) R) (o o' : Output) (limit : ℕ) where
  -- the items of the input were written
  abbrev pub WroteItems : R → Type 0
  WroteItems r = HasCapacity len load_factor max × (items : List X) × YieldsExactly yields len items
      × Serialized limit f items o o' r

  -- an error before the first byte, and nothing was written; or else writing the items failed
  abbrev pub WriteItemsFails : {F : Type 0} → (ℕ → Type 0) → WriteError F → Type 0
  WriteItemsFails other e = (OwnCause len load_factor max other e × (o' ≡ o))
      ⊎ (HasCapacity len load_factor max × (items : List X) × YieldsExactly yields len items
      × SerializeFails limit f items o o' e)

-- `len` items are written in the format `f` under a load factor, with at most `max` buckets
-- and no position above `limit`. The result is their resolver, or an error
abbrev pub WritesItems : {X R F : Type 0} → Input X → ℕ → ℕ × ℕ → ℕ → ℕ → Format (List X) R
    → Output → Output → Result R (WriteError F) → Type 0
WritesItems input len load_factor max limit f o o' result = MatchResult result
    (WroteItems input.yields len load_factor max f o o' limit)
    (WriteItemsFails input.yields len load_factor max f o o' limit (input.yields_other_count len))

-- items to be written as a table. `input`: input pairs of hash and item, `len`: their claimed
-- number, `load_factor`: the load factor
pub record TableInput (X : Type 0) : Type 1 where
  pub input : Input (ℕ × X)
  pub len : ℕ
  pub load_factor : ℕ × ℕ

-- `len` pairs of the input, for a table under the load factor
abbrev pub table_input : {X : Type 0} → Input (ℕ × X) → ℕ → ℕ × ℕ → TableInput X
table_input input len load_factor =
    record { input = input; len = len; load_factor = load_factor }

-- the input pairs of `given` are written as a table of the width `w`, with items in the format
-- `items`. The result is its resolver, or an error
abbrev pub WritesTable : {X R F : Type 0} → WidthMembers → ItemFormat X R → TableInput X → Output
    → Output → Result TableResolver (WriteError F) → Type 0
WritesTable w items given o o' result =
    WritesItems given.input given.len given.load_factor w.MAX_CAPACITY w.LIMIT
    (table_format w.word items.spec items.format given.load_factor) o o' result

-- the errors with which the items are not placed
abbrev pub PlacingFails : {F : Type 0} → ℕ → (ℕ → Type 0) → WriteError F → Type 0
PlacingFails len other (InvalidLoadFactor n d) = ⊥
PlacingFails len other (CapacityTooLarge l) = ⊥
PlacingFails len other Memory = ⊤
PlacingFails len other (IteratorLengthMismatch m) = (m.expected ≡ len) × other m.actual
PlacingFails len other PositionTooLarge = ⊥
PlacingFails len other DistanceTooLarge = ⊥
PlacingFails len other TextTooLong = ⊥
PlacingFails len other (Writer fault) = ⊥
PlacingFails len other (Refused c) = ⊥

-- `pairs`: input pairs, which are placed in `slots` and `controls`
pub record InputPlaced {X : Type 0} (yields : List (ℕ × X)
    → Type 0) (len cap : ℕ) (slots : List (Option X)) (controls : List ℕ)
    (pairs : List (ℕ × X)) : Type 0 where
  pub exactly : YieldsExactly yields len pairs
  pub placed : ArePlaced cap pairs slots controls

module _ {X R : Type 0} (yields : List (ℕ × X) → Type 0) where
  module _ (len cap : ℕ) (s : ElementSpec) (f : Format X R) (o o' : Output) (limit : ℕ) where
    -- the bytes of the table of the input pairs were appended, with the first control byte at `z`
    abbrev pub WroteNonempty : ℕ → Type 0
    WroteNonempty z = (pairs : List (ℕ × X)) × (slots : List (Option X)) × (controls : List ℕ)
        × InputPlaced yields len cap slots controls pairs
        × (bytes : List ℕ) × Appended limit bytes o o'
        × TableBytes s f slots controls (end_of o) z bytes

    -- the items were not placed, and nothing was written; or else writing the input pairs failed
    abbrev pub WriteNonemptyFails : {F : Type 0} → (ℕ → Type 0) → WriteError F → Type 0
    WriteNonemptyFails other e = (PlacingFails len other e × (o' ≡ o))
        ⊎ ((pairs : List (ℕ × X)) × (slots : List (Option X)) × (controls : List ℕ)
        × InputPlaced yields len cap slots controls pairs
        × WriteFails limit (TableNext s f slots controls (end_of o)) o o' e)

-- items to be placed in buckets. `input`: input pairs of hash and item,
-- `len`: their claimed number, `cap`: number of buckets
pub record BucketInput (X : Type 0) : Type 1 where
  pub input : Input (ℕ × X)
  pub len : ℕ
  pub cap : ℕ

-- `len` pairs of the input, for `cap` buckets
abbrev pub bucket_input : {X : Type 0} → Input (ℕ × X) → ℕ → ℕ → BucketInput X
bucket_input input len cap = record { input = input; len = len; cap = cap }

-- the input pairs of `given` are placed in its buckets and written, with items in the format
-- `items`. The result is the position of the first control byte, or an error
abbrev pub WritesNonempty : {X R F : Type 0} → ℕ → ItemFormat X R → BucketInput X → Output → Output
    → Result ℕ (WriteError F) → Type 0
WritesNonempty limit items given o o' result = MatchResult result
    (WroteNonempty given.input.yields given.len given.cap items.spec items.format o o' limit)
    (WriteNonemptyFails given.input.yields given.len given.cap items.spec items.format o o' limit
    (given.input.yields_other_count given.len))
