use Rattle.std.proofs.Common.{inr}
use Rattle.std.proofs.lemmas.Result.{MatchResult-weaker}
use Rattle.example_symbols_program.proofs.by_address.archive.Goals as goal

pub returns : goal.returns
returns c =
    MatchResult-weaker c.to_bytes.result c.to_bytes.ensures
    (λ index archived. (record { 0 = c.in_ok-row.row }, c.in_ok-row.ensures, archived))
    (λ e failed. inr (record { 0 = c.in_ok-row.row }, c.in_ok-row.ensures, failed))
