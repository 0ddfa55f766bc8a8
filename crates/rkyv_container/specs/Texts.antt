-- The texts of kinds, types and widths, as `Display` writes them.
use Rattle.std.specs.Prelude.{ℕ, List, codes}
use Rattle.rkyv_container.specs.declared.contents.Kind.{Kind}
use Rattle.rkyv_container.specs.declared.contents.Kind.TheVariants.{HashMap, HashSet, IndexMap}
use Rattle.rkyv_container.specs.declared.contents.Kind.TheVariants.{IndexSet}
use Rattle.rkyv_container.specs.declared.contents.ItemType.{ItemType}
use Rattle.rkyv_container.specs.declared.contents.ItemType.TheVariants.{Bool as BoolType, Bytes}
use Rattle.rkyv_container.specs.declared.contents.ItemType.TheVariants.{Char, F32, F64, I16, I32}
use Rattle.rkyv_container.specs.declared.contents.ItemType.TheVariants.{I64, I8, Text, U16, U32}
use Rattle.rkyv_container.specs.declared.contents.ItemType.TheVariants.{U64, U8, Unit as UnitType}
use Rattle.rkyv_container.specs.declared.contents.Width.{Width}
use Rattle.rkyv_container.specs.declared.contents.Width.TheVariants.{Narrow, Wide}

-- the text of a kind of collection
abbrev pub kind_text : Kind → List ℕ
kind_text HashMap = codes "hash map"
kind_text HashSet = codes "hash set"
kind_text IndexMap = codes "index map"
kind_text IndexSet = codes "index set"

-- the text of a type of keys or values: Rust's name, or `str` or `[u8]` for any length
abbrev pub type_text : ItemType → List ℕ
type_text UnitType = codes "()"
type_text BoolType = codes "bool"
type_text Char = codes "char"
type_text Text = codes "text"
type_text Bytes = codes "bytes"
type_text U8 = codes "u8"
type_text U16 = codes "u16"
type_text U32 = codes "u32"
type_text U64 = codes "u64"
type_text I8 = codes "i8"
type_text I16 = codes "i16"
type_text I32 = codes "i32"
type_text I64 = codes "i64"
type_text F32 = codes "f32"
type_text F64 = codes "f64"

-- the text of a width
abbrev pub width_text : Width → List ℕ
width_text Narrow = codes "narrow"
width_text Wide = codes "wide"
