-- Commands as contracts see them.
use Rattle.rkyv_dict.specs.Forms.{lookup_key}
use Rattle.rkyv_dict.specs.Script.{Request, put_numbers, set_kind, set_load_factor, set_width}
use Rattle.rkyv_dict.specs.Script.{build_archive, check_archive, get_value, put_texts, show_hex}
use Rattle.rkyv_dict.specs.Script.{count_misplaced, list_pairs}
use Rattle.rkyv_dict.specs.declared.script.Command.{Command}
use Rattle.rkyv_dict.specs.declared.script.Command.TheVariants.{SetKind, SetLoadFactor, SetWidth}
use Rattle.rkyv_dict.specs.declared.script.Command.TheVariants.{Build, Check, PutNumbers, PutTexts}
use Rattle.rkyv_dict.specs.declared.script.Command.TheVariants.{Audit, Get, Hex, ListPairs}

-- the request of a command
abbrev pub command_request : Command → Request
command_request (SetKind kind) = set_kind kind
command_request (SetWidth bits) = set_width bits
command_request (SetLoadFactor numerator denominator) = set_load_factor numerator denominator
command_request (PutNumbers key value) = put_numbers key value
command_request (PutTexts key value) = put_texts key.now value.now
command_request Build = build_archive
command_request (Check bytes) = check_archive bytes.items
command_request Hex = show_hex
command_request (Get key) = get_value (lookup_key key)
command_request ListPairs = list_pairs
command_request Audit = count_misplaced
