-- Appending to a text.
use Rattle.std.specs.Prelude.{◌≡◌, ℕ, List, ◌++◌, OnOk, Result, string_bytes}
use Rattle.std.specs.declared.string.String.{String}

-- `new` is `old` with `text` appended, unless `result` is an error
abbrev pub AppendsText : {T E Z : Type 0} → Result T E → String Z → String Z → List ℕ → Type 0
AppendsText result old new text = OnOk result (string_bytes new ≡ string_bytes old ++ text)
