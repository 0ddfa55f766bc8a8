use Rattle.ffi_calls.proofs.types.by_value.Goals as goal

pub run-requires : goal.run-requires
run-requires g c = rw c.in-U8.is at c.requires

pub run-requires-in-U16 : goal.run-requires-in-U16
run-requires-in-U16 g c = rw c.in-U16.is at c.requires

pub run-requires-in-U32 : goal.run-requires-in-U32
run-requires-in-U32 g c = rw c.in-U32.is at c.requires

pub run-requires-in-U64 : goal.run-requires-in-U64
run-requires-in-U64 g c = rw c.in-U64.is at c.requires

pub run-requires-in-Bool : goal.run-requires-in-Bool
run-requires-in-Bool g c = rw c.in-Bool.is at c.requires

pub run-requires-in-Char : goal.run-requires-in-Char
run-requires-in-Char g c = rw c.in-Char.is at c.requires

pub returns-in-U8 : goal.returns-in-U8
returns-in-U8 g c = rw c.in-U8.is c.run.ensures

pub returns-in-U16 : goal.returns-in-U16
returns-in-U16 g c = rw c.in-U16.is c.run-in-U16.ensures

pub returns-in-U32 : goal.returns-in-U32
returns-in-U32 g c = rw c.in-U32.is c.run-in-U32.ensures

pub returns-in-U64 : goal.returns-in-U64
returns-in-U64 g c = rw c.in-U64.is c.run-in-U64.ensures

pub returns-in-Bool : goal.returns-in-Bool
returns-in-Bool g c = rw c.in-Bool.is c.run-in-Bool.ensures

pub returns-in-Char : goal.returns-in-Char
returns-in-Char g c = rw c.in-Char.is c.run-in-Char.ensures
