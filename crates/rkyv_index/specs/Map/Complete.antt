-- Lookups that find the one key that fits.
use Rattle.std.specs.Prelude.{◌≡◌, ℕ, ◌<◌, Bool, true, false, List, Option, MatchOption}
use Rattle.rkyv_keys.specs.{Comparison}
use Rattle.rkyv_table.specs.{len_at}
use Rattle.rkyv_index.specs.Map.Equality.{index_misplaced}
use Rattle.rkyv_index.specs.Map.{Index, fits_at}

module _ (len : ℕ) (fits : ℕ → Bool) where
  -- `fits i` is `false` for each index `i` below `len`
  abbrev pub NoneFits : Type 0
  NoneFits = (i : ℕ) → i < len → fits i ≡ false

  -- `index`: the only index below `len` that fits
  pub record FitsAlone (index : ℕ) : Type 0 where
    pub below : index < len
    pub fitting : fits index ≡ true
    pub alone : (i : ℕ) → i < len → fits i ≡ true → i ≡ index

  -- `found`: the only index that fits, or `None` if none fits
  abbrev pub FindsTheOne : Option ℕ → Type 0
  FindsTheOne found = MatchOption found NoneFits FitsAlone

-- if no key is misplaced, `P` is a property of the only index whose key fits,
-- or of `None` if no key fits
abbrev pub FindsOneKey : {K : Type 0} → Index K → (List ℕ → ℕ → ℕ) → Comparison
    → (List ℕ → ℕ → Bool) → (Option ℕ → Type 0) → Type 0
FindsOneKey m key_hash same fits P =
    index_misplaced m (record { hash = key_hash; same = same }) ≡ 0
    → (index : Option ℕ) × FindsTheOne (len_at m.word m.bytes m.pos) (fits_at m fits) index
    × P index
