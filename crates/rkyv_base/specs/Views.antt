-- The archive and the position of a view.
use Rattle.std.specs.Prelude.{◌≡◌, ℕ, List, Option}
use Rattle.std.specs.Option.{option_map}
use Rattle.std.specs.Borrow.{Bor}
use Rattle.rkyv_base.specs.declared.view.View.{View}
use Rattle.rkyv_base.specs.ElementSpecs.{ElementSpec, Viewable}

-- the position of the view `v`
abbrev pub pos_of : {T : Type 0} → View T → ℕ
pos_of v = v.pos

-- the position of the view that is found, if any
abbrev pub pos_of_found : {T : Type 0} → Option (View T) → Option ℕ
pos_of_found found = option_map pos_of found

-- the archive that the view `v` borrows
abbrev pub archive_of : {T : Type 0} → View T → Bor (List ℕ)
archive_of v = v.archive

-- the bytes of the archive of the view `v`
abbrev pub bytes_of : {T : Type 0} → View T → List ℕ
bytes_of v = v.archive.now

-- the archive has a valid value of the spec `s` at the position of the view `v`
abbrev pub IsValidView : {T : Type 0} → ElementSpec → View T → Type 0
IsValidView s v = Viewable s v.archive.now v.pos

-- the view `v` is at position `p` of `archive`
abbrev pub IsAt : {T : Type 0} → View T → Bor (List ℕ) → ℕ → Type 0
IsAt v archive p = (v.archive ≡ archive) × (v.pos ≡ p)

-- the bytes at the view `v` represent `value`
abbrev pub AtView : {T V : Type 0} → (List ℕ → ℕ → V → Type 0) → View T → V → Type 0
AtView represents v value = represents v.archive.now v.pos value
