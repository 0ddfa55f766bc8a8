-- Home buckets, and the control bytes of items in them.
use Rattle.std.specs.Prelude.{◌≡◌, ℕ, ◌*◌, ◌-◌, ◌%◌, ◌<◌, ◌≤◌, List, [], ◌∷◌, ◌++◌, Bool, true, not}
use Rattle.std.specs.Prelude.{Some, cond, eqb, length, ltb, map, slice_index, slice_index_or, take}
use Rattle.std.specs.Prelude.{filter}
use Rattle.std.specs.List.{find, fold, list_any, position_or_len, range_with_len}
use Rattle.std.specs.Option.{unwrap_or}
use Rattle.rkyv_scan.specs.{is_full}
use Rattle.rkyv_table.specs.Controls.Numbers.{control_count, tag}
use Rattle.rkyv_table.specs.Controls.Probe.{probed}

-- `b` is not in `taken`
abbrev pub is_free : List ℕ → ℕ → Bool
is_free taken b = not (list_any (eqb b) taken)

-- `homes`: home buckets of items under `hashes`. A home bucket is the first one probed
-- that no earlier item has
pub record AreHomes (cap : ℕ) (hashes homes : List ℕ) : Type 0 where
  pub count : length homes ≡ length hashes
  pub first : (i : ℕ) → i < length hashes
      → find (is_free (take i homes)) (probed (slice_index hashes i) cap)
      ≡ Some (slice_index homes i)

-- `taken`, followed by the home bucket of an item under `hash`
unfoldable pub with_home : ℕ → List ℕ → ℕ → List ℕ
with_home cap taken hash = taken ++ unwrap_or (find (is_free taken) (probed hash cap)) 0 ∷ []

-- the home buckets of items under `hashes`, in order
abbrev pub homes : ℕ → List ℕ → List ℕ
homes cap hashes = fold (with_home cap) [] hashes

-- the control bytes mirror the buckets' ones: from `cap` on they repeat the first ones,
-- and from `2 * cap` on they are empty
pub record IsWrapped (cap : ℕ) (controls : List ℕ) : Type 0 where
  pub count : length controls ≡ control_count cap
  pub repeated : (q : ℕ) → cap ≤ q → q < 2 * cap → q < control_count cap
      → slice_index controls q ≡ slice_index controls (q - cap)
  pub past : (q : ℕ) → 2 * cap ≤ q → q < control_count cap → 128 ≤ slice_index controls q

-- the full buckets, in ascending order
unfoldable pub walk : List ℕ → ℕ → List ℕ
walk controls cap = filter (λ b. is_full (slice_index controls b)) (range_with_len 0 cap)

-- the valid control bytes of a table of `len` items. Some bucket is empty, `len` are full,
-- and the control bytes mirror the buckets' ones
pub record AreValidControls (cap len : ℕ) (controls : List ℕ) : Type 0 where
  pub room : len < cap
  pub full : length (walk controls cap) ≡ len
  pub wrapped : IsWrapped cap controls

-- the control bytes of a written table: the tag at each home bucket, and 255 at other buckets
-- and from `2 * cap` on
pub record AreWrittenControls (cap : ℕ) (hashes homes controls : List ℕ) : Type 0 where
  pub placed : AreHomes cap hashes homes
  pub wrapped : IsWrapped cap controls
  pub tags : (i : ℕ) → i < length hashes
      → slice_index controls (slice_index homes i) ≡ tag (slice_index hashes i)
  pub others : (b : ℕ) → b < cap → is_free homes b ≡ true → slice_index controls b ≡ 255
  pub past : (q : ℕ) → 2 * cap ≤ q → q < control_count cap → slice_index controls q ≡ 255

-- the control byte of bucket `b` of a written table: the tag of its item, or 255 if it is empty
abbrev pub bucket_control : ℕ → List ℕ → ℕ → ℕ
bucket_control cap hashes b = slice_index_or (map tag hashes)
    (position_or_len (eqb b) (homes cap hashes)) 255

-- the control bytes of a written table, as one list
unfoldable pub written_controls : ℕ → List ℕ → List ℕ
written_controls cap hashes = map (λ q.
    cond (ltb q (2 * cap)) (bucket_control cap hashes (q % cap)) 255)
    (range_with_len 0 (control_count cap))
