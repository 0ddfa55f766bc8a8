-- Items that a lookup of their own doesn't find.
use Rattle.std.specs.Prelude.{◌≡◌, ℕ, ◌<◌, ◌^◌, List, Bool, true, false, not, length, Option, Some}
use Rattle.std.specs.Prelude.{MatchOption, None, eqb, filter, slice_index, take}
use Rattle.std.specs.List.{Contains, list_any, range_with_len, sum_by}
use Rattle.rkyv_scan.specs.{IsKind, Kind}
use Rattle.rkyv_table.specs.Controls.Finding.{probe_length, found}
use Rattle.rkyv_table.specs.Controls.Laws.{AreHashes}
use Rattle.rkyv_table.specs.Controls.Placing.{AreValidControls, AreWrittenControls, walk}

-- a lookup found `bucket`
abbrev pub is_found_at : ℕ → Option ℕ → Bool
is_found_at bucket None = false
is_found_at bucket (Some other) = eqb bucket other

-- a lookup of the item in `bucket` doesn't find it. The lookup is under the item's hash,
-- and accepts the items that are the same as it
abbrev pub is_misplaced : Kind → List ℕ → ℕ → ℕ → (ℕ → ℕ) → (ℕ → ℕ → Bool) → ℕ → Bool
is_misplaced kind controls cap len hash_at same_at bucket =
    not (is_found_at bucket (found kind controls cap len (hash_at bucket) (same_at bucket)))

-- the number of misplaced items
abbrev pub misplaced : Kind → List ℕ → ℕ → ℕ → (ℕ → ℕ) → (ℕ → ℕ → Bool) → ℕ
misplaced kind controls cap len hash_at same_at =
    length (filter (is_misplaced kind controls cap len hash_at same_at) (walk controls cap))

-- the number of strides that a lookup of the item in `bucket` reads
abbrev pub own_strides : Kind → List ℕ → ℕ → ℕ → (ℕ → ℕ) → (ℕ → ℕ → Bool) → ℕ → ℕ
own_strides kind controls cap len hash_at same_at bucket =
    probe_length kind controls cap len (hash_at bucket) (same_at bucket)

-- the number of strides that the lookups of all items read
abbrev pub all_strides : Kind → List ℕ → ℕ → ℕ → (ℕ → ℕ) → (ℕ → ℕ → Bool) → ℕ
all_strides kind controls cap len hash_at same_at =
    sum_by (own_strides kind controls cap len hash_at same_at) (walk controls cap)

-- the item with the number `i` is the same as an earlier one
abbrev pub repeats_earlier : (ℕ → ℕ → Bool) → List ℕ → ℕ → Bool
repeats_earlier same_at homes i = list_any (same_at (slice_index homes i)) (take i homes)

-- the number of items that are the same as an earlier one
abbrev pub repeated : (ℕ → ℕ → Bool) → List ℕ → ℕ
repeated same_at homes = length
    (filter (repeats_earlier same_at homes) (range_with_len 0 (length homes)))

-- the items at `homes` have these hashes. `same_at` is an equivalence on them, and the same items
-- have the same hash
pub record IsSameness (hash_at : ℕ → ℕ) (same_at : ℕ → ℕ → Bool) (hashes homes : List ℕ) : Type 0
  where
    pub hashed : (i : ℕ) → i < length homes → hash_at (slice_index homes i) ≡ slice_index hashes i
    pub equal : (b c : ℕ) → Contains homes b → Contains homes c → same_at b c ≡ true
        → hash_at b ≡ hash_at c
    pub reflexive : (b : ℕ) → Contains homes b → same_at b b ≡ true
    pub symmetric : (b c : ℕ) → Contains homes b → Contains homes c → same_at b c ≡ true
        → same_at c b ≡ true
    pub transitive : (b c d : ℕ) → Contains homes b → Contains homes c → Contains homes d
        → same_at b c ≡ true → same_at c d ≡ true → same_at b d ≡ true

-- on written control bytes, as many items are misplaced as are the same as an earlier one
abbrev pub RepeatedAreMisplaced : Type 0
RepeatedAreMisplaced = (kind : Kind) (cap : ℕ) (hashes homes controls : List ℕ) (hash_at : ℕ → ℕ)
    (same_at : ℕ → ℕ → Bool) → IsKind kind → length hashes < cap → AreHashes hashes
    → AreWrittenControls cap hashes homes controls → IsSameness hash_at same_at hashes homes
    → misplaced kind controls cap (length hashes) hash_at same_at ≡ repeated same_at homes

-- each item that the query accepts has its hash, and the query accepts exactly the items
-- that are the same as it
pub record AcceptsSame (controls : List ℕ) (cap hash : ℕ) (accept : ℕ → Bool) (hash_at : ℕ → ℕ)
    (same_at : ℕ → ℕ → Bool) : Type 0 where
  pub hashed : (b : ℕ) → Contains (walk controls cap) b → accept b ≡ true → hash_at b ≡ hash
  pub same : (b c : ℕ) → Contains (walk controls cap) b → Contains (walk controls cap) c
      → accept b ≡ true → accept c ≡ same_at b c

-- no item is accepted
abbrev pub NoneAccepted : List ℕ → ℕ → (ℕ → Bool) → Type 0
NoneAccepted controls cap accept = (b : ℕ) → Contains (walk controls cap) b → accept b ≡ false

-- the item in `bucket` is the only accepted one
pub record AloneAccepted (controls : List ℕ) (cap : ℕ) (accept : ℕ → Bool) (bucket : ℕ) : Type 0
  where
    pub walked : Contains (walk controls cap) bucket
    pub accepted : accept bucket ≡ true
    pub alone : (b : ℕ) → Contains (walk controls cap) b → accept b ≡ true → b ≡ bucket

-- if no item is misplaced, a lookup finds the only accepted item, and `None` if and only if no item
-- is accepted
abbrev pub NoneMisplacedIsComplete : Type 0
NoneMisplacedIsComplete = (kind : Kind) (cap len hash : ℕ) (controls : List ℕ) (accept : ℕ → Bool)
    (hash_at : ℕ → ℕ) (same_at : ℕ → ℕ → Bool) → IsKind kind → AreValidControls cap len controls
    → hash < 2 ^ 64 → misplaced kind controls cap len hash_at same_at ≡ 0
    → AcceptsSame controls cap hash accept hash_at same_at
    → MatchOption (found kind controls cap len hash accept) (NoneAccepted controls cap accept)
    (AloneAccepted controls cap accept)
