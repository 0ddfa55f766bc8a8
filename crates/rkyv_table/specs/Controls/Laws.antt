-- Laws of the probe sequence and of written control bytes.
use Rattle.std.specs.Prelude.{◌≡◌, ℕ, ◌+◌, ◌*◌, ◌%◌, ◌/◌, ◌<◌, ◌≤◌, ◌^◌, ◌↔◌, List, Bool, true, eqb}
use Rattle.std.specs.Prelude.{[], ◌∷◌, ◌++◌, Some, length, slice_index}
use Rattle.std.specs.List.{All, Contains, IsDistinct, find}
use Rattle.rkyv_scan.specs.{IsKind, Kind}
use Rattle.rkyv_table.specs.Controls.ControlBytes.{HasRoom, IsFullBucket, empty_index, is_empty_at}
use Rattle.rkyv_table.specs.Controls.Numbers.{control_count, probe_capacity, start}
use Rattle.rkyv_table.specs.Controls.Probe.{probed, strides}
use Rattle.rkyv_table.specs.Controls.Placing.{AreHomes, AreValidControls, AreWrittenControls}
use Rattle.rkyv_table.specs.Controls.Placing.{IsWrapped, homes, walk, written_controls}
use Rattle.rkyv_table.specs.Controls.Finding.{found, marked, probe_length, stride_has_empty}

-- `indices`: all indices below the probe capacity that are congruent to the start modulo 16,
-- each once
pub record IsCover (hash cap : ℕ) (indices : List ℕ) : Type 0 where
  pub members : (p : ℕ)
      → Contains indices p ↔ (p < probe_capacity cap) × (p % 16 ≡ start hash cap % 16)
  pub once : IsDistinct eqb indices
  pub count : length indices ≡ probe_capacity cap / 16

-- the strides of a hash begin at the indices congruent to the start modulo 16, each once
abbrev pub StridesCover : Type 0
StridesCover = (hash cap : ℕ) → 0 < cap → IsCover hash cap (strides hash cap)

-- `q`: index of a control byte in some stride of the hash
abbrev pub IsInStrides : ℕ → ℕ → ℕ → Type 0
IsInStrides hash cap q = (p : ℕ) × Contains (strides hash cap) p × (p ≤ q) × (q < p + 16)

-- the strides of a hash read the control bytes from the index `start % 16` on, as many as the probe
-- capacity. All of these are control bytes of the table
abbrev pub StridesReadARow : Type 0
StridesReadARow = (hash cap q : ℕ) → 0 < cap → let first = start hash cap % 16 in
    (IsInStrides hash cap q ↔ (first ≤ q) × (q < first + probe_capacity cap))
    × (q < first + probe_capacity cap → q < control_count cap)

-- the strides of a hash probe every bucket
abbrev pub BucketsAreProbed : Type 0
BucketsAreProbed = (hash cap bucket : ℕ) → bucket < cap → Contains (probed hash cap) bucket

-- each hash is below 2^64
abbrev pub AreHashes : List ℕ → Type 0
AreHashes = All (λ hash. hash < 2 ^ 64)

-- fewer items than buckets have home buckets
abbrev pub HomesExist : Type 0
HomesExist = (cap : ℕ) (hashes : List ℕ) → length hashes < cap
    → AreHomes cap hashes (homes cap hashes)

-- the index `q` of the first empty control byte in the order of the strides is below `2 * cap`,
-- and its bucket is the first probed one that is empty
abbrev pub HomesAreFirstEmpty : Type 0
HomesAreFirstEmpty = (hash cap : ℕ) (controls : List ℕ) → IsWrapped cap controls
    → HasRoom cap controls → (p : ℕ) × (q : ℕ)
    × (find (stride_has_empty controls) (strides hash cap) ≡ Some p)
    × (empty_index controls p ≡ Some q) × (q < 2 * cap)
    × (find (is_empty_at controls) (probed hash cap) ≡ Some (q % cap))

-- in written control bytes of fewer items than buckets, the bucket of the first empty control
-- byte in the order of the strides of `hash` is the home bucket of the next item, under `hash`
abbrev pub FirstEmptyIsNextHome : Type 0
FirstEmptyIsNextHome = (hash cap : ℕ) (hashes xs controls : List ℕ) → length hashes < cap
    → AreHashes hashes → AreWrittenControls cap hashes xs controls → (p : ℕ) × (q : ℕ)
    × (find (stride_has_empty controls) (strides hash cap) ≡ Some p)
    × (empty_index controls p ≡ Some q) × (q < 2 * cap)
    × AreHomes cap (hashes ++ hash ∷ []) (xs ++ q % cap ∷ [])

-- the capacity and the hashes determine the home buckets
abbrev pub HomesAreOneList : Type 0
HomesAreOneList = (cap : ℕ) (hashes xs : List ℕ) → AreHomes cap hashes xs → xs ≡ homes cap hashes

-- the capacity and the hashes determine the written control bytes
abbrev pub WrittenAreOneList : Type 0
WrittenAreOneList = (cap : ℕ) (hashes xs controls : List ℕ) → 0 < cap
    → AreWrittenControls cap hashes xs controls → controls ≡ written_controls cap hashes

-- the written control bytes of fewer items than buckets are valid
abbrev pub WrittenAreValid : Type 0
WrittenAreValid = (cap : ℕ) (hashes xs controls : List ℕ) → length hashes < cap
    → AreHashes hashes → AreWrittenControls cap hashes xs controls
    → AreValidControls cap (length hashes) controls

-- a walk visits a bucket if and only if it is full
abbrev pub WalkedAreFull : Type 0
WalkedAreFull =
    (cap bucket : ℕ) (controls : List ℕ)
    → Contains (walk controls cap) bucket ↔ IsFullBucket cap controls bucket

-- a search in valid control bytes ends within ceil(cap / 16) strides
abbrev pub SearchIsBounded : Type 0
SearchIsBounded = (kind : Kind) (cap len hash : ℕ) (controls : List ℕ) (accept : ℕ → Bool)
    → (0 < len → AreValidControls cap len controls)
    → probe_length kind controls cap len hash accept ≤ probe_capacity cap / 16

-- a marked index of a stride is below `2 * cap`, and its bucket is in the walk
abbrev pub MarkedAreWalked : Type 0
MarkedAreWalked = (kind : Kind) (cap len hash tag p q : ℕ) (controls : List ℕ) → IsKind kind
    → AreValidControls cap len controls → tag < 128
    → Contains (strides hash cap) p → p ≤ q → q < p + 16 → marked kind controls tag p q ≡ true
    → (q < 2 * cap) × Contains (walk controls cap) (q % cap)

-- each accepted home bucket has an item under `hash`
abbrev pub IsUnderHash : ℕ → List ℕ → List ℕ → (ℕ → Bool) → Type 0
IsUnderHash hash hashes xs accept = (i : ℕ) → i < length hashes → accept (slice_index xs i) ≡ true
    → slice_index hashes i ≡ hash

-- a lookup in written control bytes finds the first accepted home bucket, if only items under
-- `hash` are accepted
abbrev pub FoundOnWritten : Type 0
FoundOnWritten = (kind : Kind) (cap hash : ℕ) (hashes xs controls : List ℕ) (accept : ℕ → Bool)
    → IsKind kind → hash < 2 ^ 64 → length hashes < cap → AreHashes hashes
    → AreWrittenControls cap hashes xs controls → IsUnderHash hash hashes xs accept
    → found kind controls cap (length hashes) hash accept ≡ find accept xs
