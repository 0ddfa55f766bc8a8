-- Dictionaries as contracts see them.
use Rattle.std.specs.Option.{option_map}
use Rattle.rkyv_dict.specs.declared.dict.Dict.{Dict}
use Rattle.rkyv_dict.specs.declared.dict.Stored.{Stored}
use Rattle.rkyv_dict.specs.Counts.{take_pairs}
use Rattle.rkyv_dict.specs.Forms.{Pairs, pairs_of}
use Rattle.rkyv_dict.specs.States.{Archived, State}

-- an archive and its pairs: those of a built one are the first `built_len` pairs of the list
abbrev pub archived_of : Pairs → Stored → Archived
archived_of pairs stored = record {
  bytes = stored.bytes.items;
  built_of = option_map (λ n. take_pairs n pairs) stored.built_len;
}

-- the state of a script that a dictionary has
abbrev pub state_of : Dict → State
state_of dict = record {
  bits = dict.bits;
  load_factor = dict.load_factor;
  pairs = pairs_of dict.list;
  archive = option_map (archived_of (pairs_of dict.list)) dict.archive;
}
