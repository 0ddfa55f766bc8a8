-- The output of a call, of the result of a write.
use Rattle.std.proofs.Common.{◌≡◌, ℕ, Err, List, None, Ok, Option, Result, Some, inl, inr, subst, sym}
use Rattle.std.specs.Prelude.{MatchOption, MatchResult}
use Rattle.std.specs.declared.vec.Vec.{Vec}
use Rattle.ffi_calls.specs.{Outputs}
use Rattle.ffi_calls.specs.declared.building.Built.{Built}

-- the output: the bytes of an archive, or the status of an error
abbrev Leaks : {Z : Type 0} → Built → ℕ → Built → Result (Vec ℕ Z) ℕ → Type 0
Leaks before status after result = MatchResult result (λ v. (status ≡ 0) × (after.bytes.now ≡ v.items)) (λ error. (status ≡ error) × (after ≡ before))

archive_stored : {Z : Type 0} (IsArchive : List ℕ → Type 0) (Fails : ℕ → Type 0) (result : Result (Vec ℕ Z) ℕ) (before : Built) (status : ℕ) (after : Built) → MatchResult result (λ v. IsArchive v.items) Fails → Leaks before status after result
    → Outputs IsArchive Fails before status after
archive_stored IsArchive Fails (Ok v) before status after written out = inl (out.0, subst IsArchive (sym out.1) written)
archive_stored IsArchive Fails (Err error) before status after fails out = inr (subst Fails (sym out.0) fails, out.1)

-- the output of the write of a collection, or of the status of unknown codes
pub collection_stored : {C Z : Type 0} (IsArchive : C → List ℕ → Type 0) (Fails : C → ℕ → Type 0) (of : Option C) (result : Result (Vec ℕ Z) ℕ) (before : Built) (status : ℕ) (after : Built)
    → MatchOption of (result ≡ Err 7) (λ c. MatchResult result (λ v. IsArchive c v.items) (Fails c)) → Leaks before status after result → MatchOption of ((status ≡ 7) × (after ≡ before)) (λ c. Outputs (IsArchive c) (Fails c) before status after)
collection_stored IsArchive Fails None result before status after unknown out = subst (Leaks before status after) unknown out
collection_stored IsArchive Fails (Some c) result before status after written out = archive_stored (IsArchive c) (Fails c) result before status after written out
