-- The archives of maps: validity, lookups and overwrites.
use Rattle.std.specs.Prelude.{◌≡◌, ℕ, ◌<◌, ◌^◌, ◌≤◌, ◌⊎◌, Bool, true, false, List}
use Rattle.std.specs.Prelude.{MatchOption, None, Option, Some}
use Rattle.std.specs.Int.{Width, w32, w64}
use Rattle.std.specs.Option.{option_map}
use mir.Val.{bits}
use Rattle.rkyv_scan.specs.{HasherCall, fx_hash, generic_kind, low_halves}
use Rattle.rkyv_base.specs.{AccessFails, ElementSpec, Encoding, IsValidArchive, entry_spec}
use Rattle.rkyv_base.specs.{value_pos, with_value}
use Rattle.rkyv_base.specs.declared.errors.VerifyError.{VerifyError}
use Rattle.rkyv_collections.specs.{MapAt, map_root, map_spec}
use Rattle.rkyv_table.specs.{IsDecoded, pos_found}
use Rattle.rkyv_table.specs.declared.table.decoded.Decoded.{Decoded}
use Rattle.ffi_calls.specs.Status.{verify_status}
use Rattle.ffi_calls.specs.declared.any_value.AnyValue.{AnyValue}
use Rattle.ffi_calls.specs.declared.any_value.IndexedValue.{IndexedValue}

-- `shorter` if the flag is `false`, `longer` if it is `true`
abbrev pub by_flag : {A : Type 0} → A → A → Bool → A
by_flag shorter longer false = shorter
by_flag shorter longer true = longer

-- the word of 32 bits, or of 64 bits if the flag is `true`
abbrev pub word_of : Bool → Width
word_of = by_flag w32 w64

-- the greatest length of an archive, narrow or wide, in bytes
abbrev pub limit_of : Bool → ℕ
limit_of = by_flag 4_294_967_295 9_223_372_036_854_775_807

-- the greatest number of buckets, narrow or wide
abbrev pub most_of : Bool → ℕ
most_of = by_flag 4_294_967_295 4_611_686_018_427_387_904

-- `b` is the valid archive of a map with keys of spec `k` and values of spec `v`
abbrev pub IsMapArchive : Width → ℕ → ElementSpec → ElementSpec → List ℕ → Type 0
IsMapArchive w limit k v b = IsValidArchive limit (map_spec w k v) b

-- `b` is valid and the status is 0, or the status is the first validation error's
abbrev pub Opens : ℕ → ElementSpec → List ℕ → ℕ → Type 0
Opens limit s b status = (IsValidArchive limit s b × (status ≡ 0))
    ⊎ ((e : VerifyError) × AccessFails limit s b e × (status ≡ verify_status e))

-- the hash of hasher calls
abbrev pub hash_by : List HasherCall → ℕ
hash_by calls = fx_hash low_halves calls

-- the map at the root of the archive `b`
abbrev pub map_in : Width → ElementSpec → ElementSpec → List ℕ → MapAt
map_in w k v b = record { word = w; key = k; value = v; bytes = b; pos = map_root w k v b }

-- the decoded header of the map
abbrev pub IsHeaderOf : MapAt → Decoded → Type 0
IsHeaderOf m header = IsDecoded m.word m.bytes m.pos header

-- each decoded header of the map `m` is one of the map `n`
abbrev pub KeepsHeader : MapAt → MapAt → Type 0
KeepsHeader m n = (header : Decoded) → IsHeaderOf m header → IsHeaderOf n header

-- the position of the value that a lookup finds.
-- `calls`: hasher calls of the key, `fits`: test of the key at a position
abbrev pub value_found : MapAt → List HasherCall → (ℕ → Bool) → Option ℕ
value_found m calls fits =
    option_map (value_pos m.key m.value)
    (pos_found generic_kind m.word (entry_spec m.key m.value).size m.bytes m.pos (hash_by calls)
    fits)

-- `result` has the value at `target` and the index 0, or both are `None`.
-- `IsAt`: the stored value at a position
abbrev pub FindsValue : (ℕ → AnyValue → Type 0) → Option ℕ → Option IndexedValue → Type 0
FindsValue IsAt target result = MatchOption result (target ≡ None) (λ found.
    (found.index ≡ 0) × ((q : ℕ) × (target ≡ Some q) × IsAt q found.value))

-- `c` is `b` with the value of `number` at `target`, and the status is 0.
-- If `number` has too many bits, or at `None`, no byte is changed.
abbrev pub Overwrites : {N : Type 0} → Encoding N → List ℕ → Option ℕ → ℕ → ℕ → List ℕ → Type 0
Overwrites {N} e b target number status c =
    ((2 ^ bits e.word ≤ number) × (status ≡ 3) × (c ≡ b))
    ⊎ ((number < 2 ^ bits e.word) × ((value : N) × (e.code value ≡ number)
    × MatchOption target ((status ≡ 1) × (c ≡ b))
    (λ q. (status ≡ 0) × (c ≡ with_value e b q value))))
