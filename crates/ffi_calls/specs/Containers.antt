-- Containers of archives, and the results of the calls for them.
use Rattle.std.specs.Prelude.{ℕ, ◌≡◌, ◌↔◌, ◌⊎◌, ◌++◌, Bool, List, drop, length}
use Rattle.std.specs.Option.{is_some}
use Rattle.rkyv_container.specs.declared.contents.Contents.{Contents}
use Rattle.rkyv_container.specs.declared.contents.Width.{Width}
use Rattle.rkyv_container.specs.declared.contents.Width.TheVariants.{Narrow, Wide}
use Rattle.rkyv_container.specs.declared.errors.ContainerError.{ContainerError}
use Rattle.rkyv_container.specs.declared.header.Header.{Header}
use Rattle.rkyv_container.specs.{FirstFails, IsContainer, IsContainerOf, IsHeader, OpenAsFails}
use Rattle.rkyv_container.specs.{header_checks, header_of, item_code, kind_code, width_code}
use Rattle.ffi_calls.specs.Archives.{by_flag}
use Rattle.ffi_calls.specs.Status.{container_status}
use Rattle.ffi_calls.specs.declared.containers.Codes.{Codes}
use Rattle.ffi_calls.specs.declared.containers.Opened.{Opened}

-- the width of an archive: narrow, or wide if the flag is `true`
abbrev pub container_width_by : Bool → Width
container_width_by = by_flag Narrow Wide

-- the codes of a kind, of a type of keys, of a type of values and of a width
abbrev pub codes_of : ℕ → ℕ → ℕ → ℕ → Codes
codes_of kind key value width = record { kind = kind; key = key; value = value; width = width }

-- the contents `c` have the codes
abbrev pub HasCodes : Codes → Contents → Type 0
HasCodes codes c =
    (kind_code c.kind ≡ codes.kind) × (item_code c.key ≡ codes.key)
    × (item_code c.value ≡ codes.value) × (width_code c.width ≡ codes.width)

-- no contents have the codes
abbrev pub AreUnknown : Codes → Type 0
AreUnknown codes = (c : Contents) → HasCodes codes c → ⊥

-- `Known` of the contents with the codes, or `Unknown` if no contents have them
abbrev pub MatchCodes : Codes → (Contents → Type 0) → Type 0 → Type 0
MatchCodes codes Known Unknown =
    ((c : Contents) × HasCodes codes c × Known c) ⊎ (AreUnknown codes × Unknown)

-- `b` is the container of the archive `a` with these contents; `checked`: it has a checksum
abbrev pub IsWrittenAs : Contents → Bool → List ℕ → List ℕ → Type 0
IsWrittenAs contents checked a = IsContainer (header_of contents a checked) a

-- The status is 0, and `after` is the header of the container of the archive `a`, whose contents
-- have the codes; `checked`: it has a checksum. Or no contents have them, the status is 7, and
-- `after` is `before`.
abbrev pub WritesContainerHeader : Codes → Bool → List ℕ → List ℕ → ℕ → List ℕ → Type 0
WritesContainerHeader codes checked a before status after =
    MatchCodes codes (λ c. (status ≡ 0) × IsWrittenAs c checked a (after ++ a))
    ((status ≡ 7) × (after ≡ before))

-- The status is 0 and `after` is whether the header in `b` has the greater width.
-- Or it is the status of the first error of the header, and `after` is `before`.
abbrev pub ReadsWidth : List ℕ → Bool → ℕ → Bool → Type 0
ReadsWidth b before status after =
    ((h : Header) × IsHeader h b × (status ≡ 0) × (h.contents.width ≡ container_width_by after))
    ⊎ ((e : ContainerError) × FirstFails (header_checks b) e × (status ≡ container_status e)
    × (after ≡ before))

-- The status is 0, and `after` has the archive of the container `b` with these contents.
-- Or the status is of the first error of the container, and `after` is `before`.
abbrev pub OpensAs : Contents → List ℕ → Opened → ℕ → Opened → Type 0
OpensAs contents b before status after =
    (IsContainerOf contents after.archive.now b × (status ≡ 0))
    ⊎ ((e : ContainerError) × OpenAsFails contents b e × (status ≡ container_status e)
    × (after ≡ before))

-- a container of any contents is opened if and only if they are the expected ones
abbrev pub OpensOwn : Contents → List ℕ → ℕ → Type 0
OpensOwn expected b status = (contents : Contents) (a : List ℕ) → IsContainerOf contents a b
    → (status ≡ 0) ↔ (contents ≡ expected)

-- The status is 0, and `after` has the archive of the container `b`, whose contents have the codes.
-- Or the status is of the first error of the container, or 7 if no contents have the codes,
-- and `after` is `before`.
abbrev pub OpensContainer : Codes → List ℕ → Opened → ℕ → Opened → Type 0
OpensContainer codes b before status after =
    MatchCodes codes (λ c. OpensAs c b before status after) ((status ≡ 7) × (after ≡ before))

-- a container of any contents is opened if and only if they have the codes
abbrev pub OpensOwnCodes : Codes → List ℕ → ℕ → Type 0
OpensOwnCodes codes b status = (contents : Contents) (a : List ℕ) → IsContainerOf contents a b
    → (status ≡ 0) ↔ HasCodes codes contents

-- The container `before` becomes a container of the bytes behind its header, and the status is 0.
-- Its contents, its length and whether it has a checksum stay. If the header has an error, or
-- another length, the status is of the first error, and no byte is changed.
abbrev pub UpdatesContainer : List ℕ → ℕ → List ℕ → Type 0
UpdatesContainer before status after =
    ((h : Header) × IsHeader h before × (h.len ≡ length (drop 32 before)) × (status ≡ 0)
    × IsContainer (header_of h.contents (drop 32 before) (is_some h.checksum))
    (drop 32 before) after)
    ⊎ ((e : ContainerError) × FirstFails (header_checks before) e
    × (status ≡ container_status e) × (after ≡ before))
    ⊎ ((h : Header) × IsHeader h before × (h.len ≡ length (drop 32 before) → ⊥) × (status ≡ 46)
    × (after ≡ before))
