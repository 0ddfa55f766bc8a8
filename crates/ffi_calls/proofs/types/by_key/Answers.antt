use Rattle.std.proofs.Common.{refl}
use Rattle.ffi_calls.proofs.types.by_key.Goals as goal

pub by_value-requires : goal.by_value-requires
by_value-requires g c κs = ((refl, tt), rw c.in-U8.is at c.requires)

pub by_value-requires-in-U16 : goal.by_value-requires-in-U16
by_value-requires-in-U16 g c κs = ((refl, tt), rw c.in-U16.is at c.requires)

pub by_value-requires-in-U32 : goal.by_value-requires-in-U32
by_value-requires-in-U32 g c κs = ((refl, tt), rw c.in-U32.is at c.requires)

pub by_value-requires-in-U64 : goal.by_value-requires-in-U64
by_value-requires-in-U64 g c κs = ((refl, tt), rw c.in-U64.is at c.requires)

pub by_value-requires-in-Char : goal.by_value-requires-in-Char
by_value-requires-in-Char g c κs = ((refl, tt), rw c.in-Char.is at c.requires)

pub returns-in-U8 : goal.returns-in-U8
returns-in-U8 g c = rw c.in-U8.is c.by_value.ensures

pub returns-in-U16 : goal.returns-in-U16
returns-in-U16 g c = rw c.in-U16.is c.by_value-in-U16.ensures

pub returns-in-U32 : goal.returns-in-U32
returns-in-U32 g c = rw c.in-U32.is c.by_value-in-U32.ensures

pub returns-in-U64 : goal.returns-in-U64
returns-in-U64 g c = rw c.in-U64.is c.by_value-in-U64.ensures

pub returns-in-Char : goal.returns-in-Char
returns-in-Char g c = rw c.in-Char.is c.by_value-in-Char.ensures
