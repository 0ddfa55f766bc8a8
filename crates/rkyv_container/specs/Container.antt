-- A container: a header and the archive behind it.
use Rattle.std.specs.Prelude.{◌≡◌, ℕ, ◌⊎◌, List, ◌++◌, length, drop, Option, None, Some, Bool, cond}
use Rattle.rkyv_container.specs.declared.contents.Contents.{Contents}
use Rattle.rkyv_container.specs.declared.header.Header.{Header}
use Rattle.rkyv_container.specs.declared.errors.ContainerError.{ContainerError}
use Rattle.rkyv_container.specs.declared.errors.ContainerError.TheVariants.{WrongChecksum}
use Rattle.rkyv_container.specs.declared.errors.ContainerError.TheVariants.{WrongKeyType, WrongKind}
use Rattle.rkyv_container.specs.declared.errors.ContainerError.TheVariants.{WrongLength}
use Rattle.rkyv_container.specs.declared.errors.ContainerError.TheVariants.{WrongValueType}
use Rattle.rkyv_container.specs.declared.errors.ContainerError.TheVariants.{WrongWidth}
use Rattle.rkyv_container.specs.Checking.{Checks, FirstFails, check, done, followed_by}
use Rattle.rkyv_container.specs.Checksum.{adler32_of}
use Rattle.rkyv_container.specs.Headers.{Fits, IsHeader, checksum_field, header_bytes}
use Rattle.rkyv_container.specs.Headers.{header_checks}

-- the checksum `c`, if there is one, is the checksum of the archive `a`
abbrev pub ChecksumMatches : Option ℕ → List ℕ → Type 0
ChecksumMatches None a = Unit {0}
ChecksumMatches (Some c) a = c ≡ adler32_of a

-- `b` is the container of the archive `a` under the header `h`
pub record IsContainer (h : Header) (a b : List ℕ) : Type 0 where
  pub fits : Fits h
  pub bytes : b ≡ header_bytes h ++ a
  pub len : h.len ≡ length a
  pub checksum : ChecksumMatches h.checksum a

-- `b` is a container of the archive `a` with the contents `c`
abbrev pub IsContainerOf : Contents → List ℕ → List ℕ → Type 0
IsContainerOf c a b = (h : Header) × ((h.contents ≡ c) × IsContainer h a b)

-- the header of the archive `a` with the contents `c`; `checked`: it has a checksum
abbrev pub header_of : Contents → List ℕ → Bool → Header
header_of c a checked = record {
  contents = c;
  len = length a;
  checksum = cond checked (Some (adler32_of a)) None;
}

-- the checks that the contents `found` are the `expected` ones
abbrev pub contents_checks : Contents → Contents → Checks
contents_checks expected found =
    check (found.kind ≡ expected.kind)
    (WrongKind expected.kind found.kind)
    (check (found.key ≡ expected.key)
    (WrongKeyType expected.key found.key)
    (check (found.value ≡ expected.value)
    (WrongValueType expected.value found.value)
    (check (found.width ≡ expected.width)
    (WrongWidth expected.width found.width) done)))

-- the checks of the archive `a` behind the header `h`
abbrev pub archive_checks : Header → List ℕ → Checks
archive_checks h a =
    check (length a ≡ h.len) (WrongLength h.len (length a))
    (check (ChecksumMatches h.checksum a)
    (WrongChecksum (checksum_field h.checksum) (adler32_of a)) done)

-- `e` is the first fault of the header in `b`, or else of the archive behind it
abbrev pub OpenFails : List ℕ → ContainerError → Type 0
OpenFails b e = FirstFails (header_checks b) e
    ⊎ ((h : Header) × (IsHeader h b × FirstFails (archive_checks h (drop 32 b)) e))

-- `e` is the first fault of the header in `b`, or else that its contents are not the `expected`
-- ones, or else the first fault of the archive behind it
abbrev pub OpenAsFails : Contents → List ℕ → ContainerError → Type 0
OpenAsFails expected b e = FirstFails (header_checks b) e
    ⊎ ((h : Header) × (IsHeader h b × FirstFails
    (followed_by (contents_checks expected h.contents) (archive_checks h (drop 32 b))) e))

-- `b` begins with the header `h`, and `rest` is behind it
abbrev pub IsSplit : Header → List ℕ → List ℕ → Type 0
IsSplit h rest b = IsHeader h b × (rest ≡ drop 32 b)
