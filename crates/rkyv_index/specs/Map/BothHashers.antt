-- Lookups under two hashers that differ only in `usize` and `isize`.
use Rattle.std.specs.Prelude.{◌≡◌, ℕ, All, Bool, List, Option}
use Rattle.std.specs.Int.{Width}
use Rattle.rkyv_scan.specs.{HasherCall, IsFixed, SizeWords, fx_hash}
use Rattle.rkyv_base.specs.{ElementSpec, Viewable, entry_spec}
use Rattle.rkyv_keys.specs.{fx_hash_at}
use Rattle.rkyv_index.specs.Map.{fits_in, index_found}
use Rattle.rkyv_index.specs.Map.IndexFormat.{IndexWrittenAt}
use Rattle.rkyv_index.specs.Map.IndexLayout.{index_spec}

-- the index that a lookup under the hash of `calls` finds
abbrev pub fx_index_found : Width → SizeWords → List HasherCall → List ℕ → ℕ → (ℕ → Bool) → Option ℕ
fx_index_found w sizes calls b p accept = index_found w b p (fx_hash sizes calls) accept

-- in any index map, a lookup by calls without `usize` and `isize` finds the same index under both
-- rules
abbrev pub ComparedAlike : Width → Type 0
ComparedAlike w = (one other : SizeWords) (calls : List HasherCall) → All IsFixed calls
    → (b : List ℕ) (p : ℕ) (accept : ℕ → Bool)
    → fx_index_found w one calls b p accept ≡ fx_index_found w other calls b p accept

module _ (w : Width) (k v : ElementSpec) where
  -- an index map that was written under one rule was written under each other rule
  abbrev pub WrittenAlike : (List ℕ → ℕ → List HasherCall) → Type 0
  WrittenAlike key_calls = (one other : SizeWords) (b : List ℕ) (p : ℕ) (homes : List ℕ)
      → Viewable (index_spec w (entry_spec k v)) b p
      → IndexWrittenAt w (entry_spec k v).size (fx_hash_at one key_calls) b p homes
      → IndexWrittenAt w (entry_spec k v).size (fx_hash_at other key_calls) b p homes

  -- in a written index map, a query finds the same index under both rules
  abbrev pub QueriedAlike : {Q : Type 0} → (List ℕ → ℕ → List HasherCall)
      → (Q → List HasherCall) → (Q → List ℕ → ℕ → Bool) → Type 0
  QueriedAlike {Q} key_calls calls fits =
      (one other : SizeWords) (b : List ℕ) (p : ℕ) (homes : List ℕ)
      → Viewable (index_spec w (entry_spec k v)) b p
      → IndexWrittenAt w (entry_spec k v).size (fx_hash_at one key_calls) b p homes
      → (query : Q)
      → fx_index_found w one (calls query) b p (fits_in w k v b p (fits query))
      ≡ fx_index_found w other (calls query) b p (fits_in w k v b p (fits query))
