-- The codes of kinds, types and widths, each one byte of a header.
use Rattle.std.specs.Prelude.{◌≡◌, ℕ}
use Rattle.rkyv_container.specs.declared.contents.Kind.{Kind}
use Rattle.rkyv_container.specs.declared.contents.Kind.TheVariants.{HashMap, HashSet, IndexMap}
use Rattle.rkyv_container.specs.declared.contents.Kind.TheVariants.{IndexSet}
use Rattle.rkyv_container.specs.declared.contents.ItemType.{ItemType}
use Rattle.rkyv_container.specs.declared.contents.ItemType.TheVariants.{Bool as BoolType, Bytes}
use Rattle.rkyv_container.specs.declared.contents.ItemType.TheVariants.{Char, F32, F64, I16, I32}
use Rattle.rkyv_container.specs.declared.contents.ItemType.TheVariants.{I64, I8, Text, U16, U32}
use Rattle.rkyv_container.specs.declared.contents.ItemType.TheVariants.{U64, U8, Unit as UnitType}
use Rattle.rkyv_container.specs.declared.contents.Width.{Width}
use Rattle.rkyv_container.specs.declared.contents.Width.TheVariants.{Narrow, Wide}

-- the code of a kind of collection
abbrev pub kind_code : Kind → ℕ
kind_code HashMap = 1
kind_code HashSet = 2
kind_code IndexMap = 3
kind_code IndexSet = 4

-- the code of a type of keys or values; the low four bits of a number's code are its size in bytes
abbrev pub item_code : ItemType → ℕ
item_code UnitType = 0x01
item_code BoolType = 0x02
item_code Char = 0x03
item_code Text = 0x04
item_code Bytes = 0x05
item_code U8 = 0x11
item_code U16 = 0x12
item_code U32 = 0x14
item_code U64 = 0x18
item_code I8 = 0x21
item_code I16 = 0x22
item_code I32 = 0x24
item_code I64 = 0x28
item_code F32 = 0x34
item_code F64 = 0x38

-- the code of a width: the size of its word in bytes
abbrev pub width_code : Width → ℕ
width_code Narrow = 4
width_code Wide = 8

-- `c` is the code of a kind of collection
abbrev pub IsKindCode : ℕ → Type 0
IsKindCode c = (kind : Kind) × (kind_code kind ≡ c)

-- `c` is the code of a type of keys or values
abbrev pub IsItemCode : ℕ → Type 0
IsItemCode c = (item : ItemType) × (item_code item ≡ c)

-- `c` is the code of a width
abbrev pub IsWidthCode : ℕ → Type 0
IsWidthCode c = (width : Width) × (width_code width ≡ c)
