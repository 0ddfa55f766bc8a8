use Rattle.rkyv_table.specs.{with_units}
use Rattle.ffi_calls.proofs.Members.{item_found}
use Rattle.ffi_calls.proofs.laws.set_lookups_find_listed.Goals as goal

pub returns : goal.returns
returns g c = λ accepts b result finds factor keys represents. item_found accepts keys result (finds factor (with_units keys) represents)
