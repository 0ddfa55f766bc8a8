-- The header of a container: its bytes, and the checks of reading it.
use Rattle.std.specs.Prelude.{List, None, Option, Some, [], length, slice_index, slice_range, take}
use Rattle.std.specs.Prelude.{ℕ, ◌++◌, ◌<◌, ◌^◌, ◌∷◌, ◌≡◌, ◌≤◌, ◌⊎◌}
use Rattle.std.specs.Int.{from_le_bytes, to_le_bytes, w16, w32, w64}
use Rattle.rkyv_container.specs.declared.contents.Contents.{Contents}
use Rattle.rkyv_container.specs.declared.header.Header.{Header}
use Rattle.rkyv_container.specs.declared.errors.ContainerError.TheVariants.{NonzeroReserved}
use Rattle.rkyv_container.specs.declared.errors.ContainerError.TheVariants.{TooShort}
use Rattle.rkyv_container.specs.declared.errors.ContainerError.TheVariants.{UnexpectedChecksum}
use Rattle.rkyv_container.specs.declared.errors.ContainerError.TheVariants.{UnknownFlags}
use Rattle.rkyv_container.specs.declared.errors.ContainerError.TheVariants.{UnknownKeyType}
use Rattle.rkyv_container.specs.declared.errors.ContainerError.TheVariants.{UnknownKind}
use Rattle.rkyv_container.specs.declared.errors.ContainerError.TheVariants.{UnknownValueType}
use Rattle.rkyv_container.specs.declared.errors.ContainerError.TheVariants.{UnknownWidth}
use Rattle.rkyv_container.specs.declared.errors.ContainerError.TheVariants.{UnsupportedVersion}
use Rattle.rkyv_container.specs.declared.errors.ContainerError.TheVariants.{WrongMagic}
use Rattle.rkyv_container.specs.Codes.{IsItemCode, IsKindCode, IsWidthCode, item_code, kind_code}
use Rattle.rkyv_container.specs.Codes.{width_code}
use Rattle.rkyv_container.specs.Checking.{Checks, check, done, followed_by}

-- the first eight bytes of a container: 137, RKYV, carriage return, line feed, 26
abbrev pub magic : List ℕ
magic = 137 ∷ 82 ∷ 75 ∷ 89 ∷ 86 ∷ 13 ∷ 10 ∷ 26 ∷ []

-- the flags of a header: 1 if it has a checksum, else 0
abbrev pub flags_of : Option ℕ → ℕ
flags_of None = 0
flags_of (Some c) = 1

-- the number in the checksum field: 0 without a checksum
abbrev pub checksum_field : Option ℕ → ℕ
checksum_field None = 0
checksum_field (Some c) = c

-- the four bytes of the contents `c`
abbrev pub contents_bytes : Contents → List ℕ
contents_bytes c =
    kind_code c.kind ∷ item_code c.key ∷ item_code c.value ∷ width_code c.width ∷ []

-- the 32 bytes of the header `h`: magic bytes, version, contents, flags, length, checksum, reserved
abbrev pub header_bytes : Header → List ℕ
header_bytes h =
    magic
    ++ (to_le_bytes w16 1
    ++ (contents_bytes h.contents
    ++ (to_le_bytes w16 (flags_of h.checksum)
    ++ (to_le_bytes w64 h.len
    ++ (to_le_bytes w32 (checksum_field h.checksum)
    ++ to_le_bytes w32 0)))))

-- the length and the checksum of the header `h` fit in their fields
pub record Fits (h : Header) : Type 0 where
  pub len : h.len < 2 ^ 64
  pub checksum : checksum_field h.checksum < 2 ^ 32

-- `b` begins with the bytes of the header `h`
pub record IsHeader (h : Header) (b : List ℕ) : Type 0 where
  pub fits : Fits h
  pub bytes : take 32 b ≡ header_bytes h

-- the checks of the bytes `b` before the contents
abbrev pub start_checks : List ℕ → Checks
start_checks b =
    let version = from_le_bytes w16 (slice_range b 8 10) in
    check (32 ≤ length b) (TooShort (length b))
    (check (slice_range b 0 8 ≡ magic) WrongMagic
    (check (version ≡ 1) (UnsupportedVersion version) done))

-- the checks of the four codes in `field`
abbrev pub code_checks : List ℕ → Checks
code_checks field =
    let kind = slice_index field 0 in
    let key = slice_index field 1 in
    let value = slice_index field 2 in
    let width = slice_index field 3 in
    check (IsKindCode kind) (UnknownKind kind)
    (check (IsItemCode key) (UnknownKeyType key)
    (check (IsItemCode value) (UnknownValueType value)
    (check (IsWidthCode width) (UnknownWidth width) done)))

-- the checks of the number `flags` and of the number in the checksum field
abbrev pub flag_checks : ℕ → ℕ → Checks
flag_checks flags checksum =
    check (flags < 2) (UnknownFlags flags)
    (check ((flags ≡ 1) ⊎ (checksum ≡ 0)) (UnexpectedChecksum checksum) done)

-- the check of the reserved bytes, as the number `n`
abbrev pub reserved_checks : ℕ → Checks
reserved_checks n = check (n ≡ 0) (NonzeroReserved n) done

-- the checks of the header in the bytes `b`
abbrev pub header_checks : List ℕ → Checks
header_checks b =
    followed_by (start_checks b)
    (followed_by (code_checks (slice_range b 10 14))
    (followed_by (flag_checks (from_le_bytes w16 (slice_range b 14 16))
    (from_le_bytes w32 (slice_range b 24 28)))
    (reserved_checks (from_le_bytes w32 (slice_range b 28 32)))))

-- the field `f` has the flags of the checksum `c`, and the field `s` has its number
pub record IsChecksumField (c : Option ℕ) (f s : List ℕ) : Type 0 where
  pub fits : checksum_field c < 2 ^ 32
  pub flags : f ≡ to_le_bytes w16 (flags_of c)
  pub number : s ≡ to_le_bytes w32 (checksum_field c)
