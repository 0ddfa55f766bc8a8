use Rattle.std.proofs.Common.{ap, string_bytes}
use Rattle.std.specs.Option.{option_map}
use Rattle.rkyv_dict.specs.{archived_of, lookup_key, pairs_of, state_of}
use Rattle.rkyv_dict.proofs.Sound.{value_here}
use Rattle.rkyv_dict.proofs.dict.Dict.push_get.Goals as goal

pub returns : goal.returns
returns c =
    value_here (state_of c.args.self.now) (archived_of (pairs_of c.args.self.now.list) c.in-Some.archive) c.form.result c.as_slice.result.now
    c.push_value.result (string_bytes c.push_value.new.out) (string_bytes c.args.out.now) (lookup_key c.args.key)
    c.requires (ap (option_map (archived_of (pairs_of c.args.self.now.list))) c.in-Some.is) c.form.ensures c.as_slice.ensures.value
    c.push_value.ensures.found c.push_value.ensures.first
