-- The number of items of a table that a lookup of their own doesn't find.
use Rattle.rkyv_base.specs.declared.element.HasSpec.{Ghosts as Specs}
use Rattle.rkyv_base.specs.declared.width.Word.{Ghosts as Words}
use Rattle.std.specs.Prelude.{◌≡◌, ℕ, ◌+◌, ◌/◌, ◌<◌, ◌≤◌, Bool, List, MatchOption, Option}
use Rattle.rkyv_base.specs.declared.view.View.{View}
use Rattle.rkyv_base.specs.{pos_of}
use Rattle.rkyv_scan.specs.{Kind, generic_kind}
use Rattle.rkyv_table.specs.Controls.Finding.{count_after}
use Rattle.rkyv_table.specs.Controls.Numbers.{probe_capacity}
use Rattle.rkyv_table.specs.Table.Header.{cap_at, len_at}
use Rattle.rkyv_table.specs.Table.Misplaced.{all_strides, is_misplaced, misplaced, own_strides}
use Rattle.rkyv_table.specs.Table.Reading.{CountsWithin, IsItem, IsItemIn, item_pos, table_bytes}
use Rattle.rkyv_table.specs.Table.Positions.{table_controls}
use Rattle.rkyv_table.specs.Table.Reading.{table_pos}
use Rattle.rkyv_table.specs.declared.table.ArchivedHashTable.{ArchivedHashTable}

-- `read`: number of strides that lookups read until their number is above `limit`. `bound`: most
-- strides of one lookup
pub record IsCutAt (limit bound before after : ℕ) (result : Option ℕ) : Type 0 where
  pub read : ℕ
  pub counted : after ≡ count_after before read
  pub bounded : read ≤ limit + bound
  pub cut : MatchOption result (limit < read) (λ n. read ≤ limit)

module _ {T W : Type 0} {ts : Specs T} {wt : Words W} where
  -- the number of items
  abbrev pub table_len : ArchivedHashTable T W ts wt → ℕ
  table_len t = len_at wt.word (table_bytes t) (table_pos t)

  -- the comparison can be called with any two items
  abbrev pub MayCompare : (View T → View T → Type 0) → ArchivedHashTable T W ts wt → Type 0
  MayCompare pre t = (x y : View T) → IsItem t x → IsItem t y → pre x y

  -- the hash of each item is `hash_of` of its position
  abbrev pub HashesAs : (View T → ℕ → Type 0) → ArchivedHashTable T W ts wt → (ℕ → ℕ) → Type 0
  HashesAs post t hash_of = (x : View T) (h : ℕ) → IsItem t x → post x h → h ≡ hash_of (pos_of x)

  -- the comparison of any two items is `same` of their positions
  abbrev pub ComparesAs : (View T → View T → Bool → Type 0) → ArchivedHashTable T W ts wt
      → (ℕ → ℕ → Bool) → Type 0
  ComparesAs post t same = (x y : View T) (r : Bool) → IsItem t x → IsItem t y → post x y r
      → r ≡ same (pos_of x) (pos_of y)

  -- a function of the control bytes, the capacity and the length of a table, and of the hashes
  -- and the relation of items by bucket. `hash_of` and `same` are by positions of items
  abbrev pub apply_to_table : {A : Type 0} → (List ℕ → ℕ → ℕ → (ℕ → ℕ) → (ℕ → ℕ → Bool) → A)
      → ArchivedHashTable T W ts wt → (ℕ → ℕ) → (ℕ → ℕ → Bool) → A
  apply_to_table quantity t hash_of same =
      quantity (table_controls wt.word (table_bytes t) (table_pos t))
      (cap_at wt.word (table_bytes t) (table_pos t)) (len_at wt.word (table_bytes t) (table_pos t))
      (λ i. hash_of (item_pos t i)) (λ i j. same (item_pos t i) (item_pos t j))

  -- the item in the bucket is misplaced
  abbrev pub bucket_misplaced : Kind → ArchivedHashTable T W ts wt → (ℕ → ℕ) → (ℕ → ℕ → Bool) → ℕ
      → Bool
  bucket_misplaced kind t hash_of same = apply_to_table (is_misplaced kind) t hash_of same

  -- the number of misplaced items
  abbrev pub table_misplaced : Kind → ArchivedHashTable T W ts wt → (ℕ → ℕ) → (ℕ → ℕ → Bool) → ℕ
  table_misplaced kind t hash_of same = apply_to_table (misplaced kind) t hash_of same

  -- the number of strides that a lookup of the item in the bucket reads
  abbrev pub bucket_strides : Kind → ArchivedHashTable T W ts wt → (ℕ → ℕ) → (ℕ → ℕ → Bool) → ℕ → ℕ
  bucket_strides kind t hash_of same = apply_to_table (own_strides kind) t hash_of same

  -- the number of strides that the lookups of all items read
  abbrev pub table_strides : Kind → ArchivedHashTable T W ts wt → (ℕ → ℕ) → (ℕ → ℕ → Bool) → ℕ
  table_strides kind t hash_of same = apply_to_table (all_strides kind) t hash_of same

  -- `result`: result of the comparison for the items in buckets `i` and `j`
  abbrev pub ComparesItems : (View T → View T → Bool → Type 0) → ArchivedHashTable T W ts wt → ℕ → ℕ
      → Bool → Type 0
  ComparesItems post t i j result =
      (x : View T) × (y : View T) × IsItemIn t i x × IsItemIn t j y × post x y result

  -- `result`: `true` if the item in the bucket is misplaced, if both functions depend only on
  -- positions of items
  abbrev pub ReturnsMisplaced : (View T → ℕ → Type 0) → (View T → View T → Bool → Type 0)
      → ArchivedHashTable T W ts wt → ℕ → Bool → Type 0
  ReturnsMisplaced hashes compares t bucket result =
      (hash_of : ℕ → ℕ) (same : ℕ → ℕ → Bool) → HashesAs hashes t hash_of
      → ComparesAs compares t same → result ≡ bucket_misplaced generic_kind t hash_of same bucket

  -- the strides that a lookup of the item in the bucket reads are counted
  pub record CountsOwn (hashes : View T → ℕ → Type 0) (compares : View T → View T → Bool → Type 0)
      (t : ArchivedHashTable T W ts wt) (bucket before after : ℕ) : Type 0 where
    pub bounded : CountsWithin t before after
    pub counted : (hash_of : ℕ → ℕ) (same : ℕ → ℕ → Bool) → HashesAs hashes t hash_of
        → ComparesAs compares t same
        → after ≡ count_after before (bucket_strides generic_kind t hash_of same bucket)

  -- `result`: number of misplaced items, if both functions depend only on positions of items
  abbrev pub CountsMisplaced : (View T → ℕ → Type 0) → (View T → View T → Bool → Type 0) → Kind
      → ArchivedHashTable T W ts wt → ℕ → Type 0
  CountsMisplaced hashes compares kind t result =
      (hash_of : ℕ → ℕ) (same : ℕ → ℕ → Bool) → HashesAs hashes t hash_of
      → ComparesAs compares t same → result ≡ table_misplaced kind t hash_of same

  -- `result`: number of misplaced items, or `None` if the lookups of all items read more
  -- than `limit` strides
  abbrev pub CountsUpTo : (View T → ℕ → Type 0) → (View T → View T → Bool → Type 0)
      → ArchivedHashTable T W ts wt → ℕ → Option ℕ → Type 0
  CountsUpTo hashes compares t limit result =
      (hash_of : ℕ → ℕ) (same : ℕ → ℕ → Bool) → HashesAs hashes t hash_of
      → ComparesAs compares t same
      → MatchOption result (limit < table_strides generic_kind t hash_of same)
      (λ n. (table_strides generic_kind t hash_of same ≤ limit)
      × (n ≡ table_misplaced generic_kind t hash_of same))

  -- the strides of the lookups of all items are counted, or a part of them if `result` is `None`
  abbrev pub CountsAllStrides : (View T → ℕ → Type 0) → (View T → View T → Bool → Type 0)
      → ArchivedHashTable T W ts wt → ℕ → ℕ → Option ℕ → Type 0
  CountsAllStrides hashes compares t before after result =
      (hash_of : ℕ → ℕ) (same : ℕ → ℕ → Bool) → HashesAs hashes t hash_of
      → ComparesAs compares t same
      → MatchOption result
      (after ≤ count_after before (table_strides generic_kind t hash_of same))
      (λ n. after ≡ count_after before (table_strides generic_kind t hash_of same))

  -- For any two functions: at most `limit` strides and one more lookup's are counted, and
  -- `result` is `None` if and only if more than `limit` are. `before`, `after`: counts of strides
  abbrev pub ReadsUpTo : ArchivedHashTable T W ts wt → ℕ → ℕ → ℕ → Option ℕ → Type 0
  ReadsUpTo t limit before after result =
      IsCutAt limit (probe_capacity (cap_at wt.word (table_bytes t) (table_pos t)) / 16) before
      after result
