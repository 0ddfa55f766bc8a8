-- The root of an archive: the parts of a value, zeros up to its alignment, and its fixed bytes.
use Rattle.std.specs.Prelude.{List, MatchResult, Result, [], length, ℕ, ◌++◌, ◌+◌, ◌-◌, ◌<◌, ◌≡◌}
use Rattle.std.specs.Prelude.{◌≤◌, ◌⊎◌}
use Rattle.std.specs.declared.vec.Vec.{Vec}
use Rattle.rkyv_base.specs.declared.errors.WriteError.{WriteError}
use Rattle.rkyv_base.specs.Writing.{Appends, Only, Output, Step, WriteFails, distance, end_of}
use Rattle.rkyv_base.specs.Writing.{failure, no_memory, padding, piece, zeros}
use Rattle.rkyv_base.specs.ElementSpecs.{ElementSpec}
use Rattle.rkyv_base.specs.Entries.{round_up}
use Rattle.rkyv_base.specs.Access.{IsArchive, IsValidArchive}
use Rattle.rkyv_base.specs.Formats.{Format}
use Rattle.rkyv_base.specs.Layout.{narrow_limit, wide_limit}
use Rattle.rkyv_base.specs.Members.{ElementMembers}

module _ {V R : Type 0} (align : ℕ) (f : Format V R) (v : V) (p : ℕ) where
  -- `bytes`: bytes of a root that is written from position `p` on, `root`: position of the root
  abbrev pub RootBytes : List ℕ → ℕ → Type 0
  RootBytes bytes root =
      (part : List ℕ) × (r : R) × (out : List ℕ) × f.parts v p part r × f.image v r root out
      × (root ≡ round_up (p + length part) align)
      × (bytes ≡ part ++ (zeros (padding align (p + length part)) ++ out))

  -- `step`: the fixed bytes of the value, or the error that a distance doesn't fit
  abbrev pub ValueStep : List ℕ → R → Step → Type 0
  ValueStep part r step =
      ((out : List ℕ) × f.image v r (round_up (p + length part) align) out × (step ≡ piece out))
      ⊎ (f.overflow v r (round_up (p + length part) align) × (step ≡ failure distance))

module _ {V R : Type 0} (s : ElementSpec) (f : Format V R) (v : V) (p : ℕ) where
  -- `step`: next step of writing a root of the element `s` after `front`. It is a step of the
  -- value, the zeros or the fixed bytes. An allocation for more than 64 fixed bytes may fail first
  abbrev pub RootNext : List ℕ → Step → Type 0
  RootNext front step =
      ((64 < s.size) × Only (failure no_memory) front step)
      ⊎ f.next v p front step
      ⊎ ((r : R) × f.parts v p front r
      × (step ≡ piece (zeros (padding s.align (p + length front)))))
      ⊎ ((part : List ℕ) × (r : R) × f.parts v p part r
      × (front ≡ part ++ zeros (padding s.align (p + length part)))
      × ValueStep s.align f v p part r step)

-- `root`: position of the root that was appended, within the limit
abbrev pub WroteRoot : {V R : Type 0} → ℕ → ElementSpec → Format V R → V → Output → Output → ℕ
    → Type 0
WroteRoot limit s f v o o' root =
    (bytes : List ℕ) × Appends o o' bytes × RootBytes s.align f v (end_of o) bytes root
    × (end_of o' ≤ limit)

-- writing a root failed with `e`: the earlier bytes are unchanged, and the condition of `e` is met
abbrev pub WriteRootFails : {F V R : Type 0} → ℕ → ElementSpec → Format V R → V → Output → Output
    → WriteError F
    → Type 0
WriteRootFails limit s f v o o' e = WriteFails limit (RootNext s f v (end_of o)) o o' e

-- how a root is written. `spec`: its element, `format`: format of its value
pub record RootFormat (V R : Type 0) : Type 1 where
  pub spec : ElementSpec
  pub format : Format V R

-- the format of a root that is this element
abbrev pub root_format : {V R : Type 0} → ElementSpec → Format V R → RootFormat V R
root_format spec format = record { spec = spec; format = format }

-- `result`: the position of the root of the value `v` that was appended, or the error
abbrev pub WritesRoot : {F V R : Type 0} → ℕ → RootFormat V R → V → Output → Output
    → Result ℕ (WriteError F) → Type 0
WritesRoot limit root v o o' result = MatchResult result
    (WroteRoot limit root.spec root.format v o o')
    (WriteRootFails limit root.spec root.format v o o')

-- the output of a new writer to memory
abbrev pub fresh : Output
fresh = record { start = 0; bytes = []; failures = 0 }

-- `b`: archive of only the value `v`. It is accepted, and its root represents `v`
abbrev pub ArchiveOf : {V R : Type 0} → ℕ → ElementSpec → (List ℕ → ℕ → V → Type 0) → Format V R → V
    → List ℕ → Type 0
ArchiveOf limit s represents f v b =
    IsValidArchive limit s b × represents b (length b - s.size) v
    × RootBytes s.align f v 0 b (length b - s.size)

-- `e`: error of writing the value `v` to memory
abbrev pub ToBytesFails : {F V R : Type 0} → ℕ → ElementSpec → Format V R → V → WriteError F
    → Type 0
ToBytesFails limit s f v e = (o : Output) × WriteRootFails limit s f v fresh o e

-- `result`: an archive within `limit` of the native value, or the error of writing it to memory
abbrev pub Archives : {F V R Z : Type 0} → ℕ → ElementMembers V → Format V R → V
    → Result (Vec ℕ Z) (WriteError F) → Type 0
Archives limit element format value result = MatchResult result
    (λ b. IsArchive limit element b.items value)
    (ToBytesFails limit element.spec format value)

-- the same of a narrow archive
abbrev pub ArchivesNarrow : {F V R Z : Type 0} → ElementMembers V → Format V R → V
    → Result (Vec ℕ Z) (WriteError F) → Type 0
ArchivesNarrow element format value result = Archives narrow_limit element format value result

-- the same of a wide archive
abbrev pub ArchivesWide : {F V R Z : Type 0} → ElementMembers V → Format V R → V
    → Result (Vec ℕ Z) (WriteError F) → Type 0
ArchivesWide element format value result = Archives wide_limit element format value result
