-- The borrowed bytes of a seal, and the position of its value.
use Rattle.std.specs.Prelude.{◌≡◌, ℕ, ◌+◌, ◌≤◌, List, ◌++◌, length}
use Rattle.std.specs.Borrow.{Array, Fml, LendsBoth, MutBor, u8}
use Rattle.rkyv_base.specs.declared.seal.ArchiveSeal.{ArchiveSeal}
use Rattle.rkyv_base.specs.declared.seal.Seal.{Seal}
use Rattle.rkyv_base.specs.ElementSpecs.{ElementSpec}

-- the reference `lender` with the same bytes, and the position `p`
pub record BorrowsAt (lent : MutBor (List ℕ)) (at : ℕ) (lender : MutBor (List ℕ)) (p : ℕ) : Type 0
  where
    pub same_reference : lent.ghost_name ≡ lender.ghost_name
    pub bytes : lent.now ≡ lender.now
    pub pos : at ≡ p

-- the same reference, whose bytes may have changed, and the same position
pub record IsSameBorrow (lent lent' : MutBor (List ℕ)) (at at' : ℕ) : Type 0 where
  pub same_reference : lent'.ghost_name ≡ lent.ghost_name
  pub pos : at' ≡ at

-- the reference by which the seal `s` borrows its bytes
abbrev pub bytes_ref : {T : Type 0} → Seal T → MutBor (List ℕ)
bytes_ref s = s.bytes

-- the reference by which the archive seal `s` borrows the archive
abbrev pub archive_ref : {T : Type 0} → ArchiveSeal T → MutBor (List ℕ)
archive_ref s = s.archive

-- the bytes that the seal `s` borrows
abbrev pub bytes_in : {T : Type 0} → Seal T → List ℕ
bytes_in s = s.bytes.now

-- the bytes that the archive seal `s` borrows
abbrev pub archive_in : {T : Type 0} → ArchiveSeal T → List ℕ
archive_in s = s.archive.now

-- the position of the seal `s` in its bytes
abbrev pub seal_pos : {T : Type 0} → Seal T → ℕ
seal_pos s = s.pos

-- the position of the archive seal `s`
abbrev pub pos_in : {T : Type 0} → ArchiveSeal T → ℕ
pos_in s = s.pos

-- the seal `s` is at position `p` of the bytes of `lender`
abbrev pub SealAt : {T : Type 0} → Seal T → MutBor (List ℕ) → ℕ → Type 0
SealAt s lender p = BorrowsAt s.bytes s.pos lender p

-- the archive seal `s` is at position `p` of the bytes of `lender`
abbrev pub ArchiveAt : {T : Type 0} → ArchiveSeal T → MutBor (List ℕ) → ℕ → Type 0
ArchiveAt s lender p = BorrowsAt s.archive s.pos lender p

-- the seal `s'` has the reference and the position of `s`, and its bytes may have changed
abbrev pub SealStays : {T : Type 0} → Seal T → Seal T → Type 0
SealStays s s' = IsSameBorrow s.bytes s'.bytes s.pos s'.pos

-- the archive seal `s'` has the reference and the position of `s`, and its bytes may have changed
abbrev pub ArchiveStays : {T : Type 0} → ArchiveSeal T → ArchiveSeal T → Type 0
ArchiveStays s s' = IsSameBorrow s.archive s'.archive s.pos s'.pos

-- the fixed bytes of the value end inside the borrowed bytes
abbrev pub LiesIn : {T : Type 0} → ElementSpec → Seal T → Type 0
LiesIn s x = x.pos + s.size ≤ length x.bytes.now

-- the final bytes of the archive `s` are the front's, `r.0`, and then the back's, `r.1`
abbrev pub LendsFrontAndBack : MutBor (List ℕ) → MutBor (List ℕ) × MutBor (List ℕ) → Fml
LendsFrontAndBack s r = LendsBoth (Array u8 0) (Array u8 0) (Array u8 0) s r ◌++◌
