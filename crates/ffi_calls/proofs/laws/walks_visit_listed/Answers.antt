use Rattle.ffi_calls.proofs.laws.walks_visit_listed.Goals as goal

pub returns : goal.returns
returns g c = c.walks_visit_each.ensures.homes
