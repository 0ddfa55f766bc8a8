-- Results whose error is another's.
use Rattle.std.proofs.Common.{◌≡◌, ℕ, Err, MatchResult, Ok, Result, subst, sym}
use Rattle.rkyv_base.specs.declared.errors.WriteError.{WriteError}
use Rattle.ffi_calls.specs.{write_status}

-- a result with the status of an error in place of the error
pub status_of : {T F : Type 0} (archive : Result T (WriteError F)) (result : Result T ℕ) {Writes Goal : T → Type 0} {Fails : WriteError F → Type 0} (GoalFails : ℕ → Type 0)
    → MatchResult archive (λ v. result ≡ Ok v) (λ e. result ≡ Err (write_status e)) → MatchResult archive Writes Fails
    → ((v : T) → Writes v → Goal v) → ((e : WriteError F) → Fails e → GoalFails (write_status e)) → MatchResult result Goal GoalFails
status_of (Ok v) result {Writes} {Goal} {Fails} GoalFails is h ok err = subst (λ r. MatchResult r Goal GoalFails) (sym is) (ok v h)
status_of (Err e) result {Writes} {Goal} {Fails} GoalFails is h ok err = subst (λ r. MatchResult r Goal GoalFails) (sym is) (err e h)
