-- Inspections of the bytes of a file.
use Rattle.std.specs.Prelude.{List, None, Option, Some, length, ℕ, ◌≡◌}
use Rattle.rkyv_container.specs.{IsContainer}
use Rattle.rkyv_container.specs.declared.contents.Contents.{Contents}
use Rattle.rkyv_container.specs.declared.header.Header.{Header}
use Rattle.rkyv_inspect.specs.{Covers}
use Rattle.rkyv_inspect_program.specs.declared.file_inspection.FileInspection.{FileInspection}

-- the regions of the inspection cover its archive
abbrev pub HasRegions : FileInspection → Type 0
HasRegions found = Covers 0 found.inspection.regions.items (length found.archive.now)

-- the archive of `found` is the file `bytes`, if the contents of a bare archive are named, or else
-- that of the container
abbrev pub HasArchive : Option Contents → List ℕ → FileInspection → Type 0
HasArchive (Some _) bytes found = found.archive.now ≡ bytes
HasArchive None bytes found =
    (header : Header) × (found.header ≡ Some header) × IsContainer header found.archive.now bytes
