use Rattle.ffi_calls.proofs.Found.{found_in_index, found_in_map}
use Rattle.ffi_calls.proofs.lookup.find_key.Goals as goal

pub returns-then-indexed : goal.returns-then-indexed
returns-then-indexed g c = found_in_index _ _ _ c.args.archive.now c.args.indexed c.args.key c.in-Ok.key c.find_in.result c.if-indexed.true c.in-Ok.ensures.0 c.in-Ok.ensures.1 c.find_in.ensures.finds c.find_in.ensures.first

pub returns-else-indexed : goal.returns-else-indexed
returns-else-indexed g c =
    found_in_map _ _ _ c.args.archive.now c.args.indexed c.args.key c.in-Ok.key c.find_in-else-indexed.result c.if-indexed.false c.in-Ok.ensures.0 c.in-Ok.ensures.1 c.find_in-else-indexed.ensures.finds c.find_in-else-indexed.ensures.first
