-- Lookups under two hashers that differ only in `usize` and `isize`.
use Rattle.std.specs.Prelude.{◌≡◌, ℕ, All, Bool, List, Option}
use Rattle.std.specs.Int.{Width}
use Rattle.rkyv_scan.specs.{HasherCall, IsFixed, SizeWords, fx_hash}
use Rattle.rkyv_base.specs.{ElementSpec, Viewable, entry_spec}
use Rattle.rkyv_keys.specs.{fx_hash_at}
use Rattle.rkyv_table.specs.{item_found}
use Rattle.rkyv_collections.specs.Map.{MapWrittenAt}
use Rattle.rkyv_collections.specs.Map.MapSpec.{map_spec}

module _ (w : Width) (k v : ElementSpec) where
  -- the position that a lookup under the hash of `calls` finds
  abbrev pub fx_found : SizeWords → List HasherCall → List ℕ → ℕ → (ℕ → Bool) → Option ℕ
  fx_found sizes calls b p accept =
      item_found w (entry_spec k v).size b p (fx_hash sizes calls) accept

  -- a map that was written under one rule was written under each other rule
  abbrev pub WrittenAlike : (List ℕ → ℕ → List HasherCall) → Type 0
  WrittenAlike key_calls = (one other : SizeWords) (b : List ℕ) (p : ℕ) (homes : List ℕ)
      → Viewable (map_spec w k v) b p
      → MapWrittenAt w (entry_spec k v) (fx_hash_at one key_calls) b p homes
      → MapWrittenAt w (entry_spec k v) (fx_hash_at other key_calls) b p homes

  -- in any map, a lookup by calls without `usize` and `isize` finds the same key under both rules
  abbrev pub ComparedAlike : Type 0
  ComparedAlike = (one other : SizeWords) (calls : List HasherCall) → All IsFixed calls
      → (b : List ℕ) (p : ℕ) (accept : ℕ → Bool)
      → fx_found one calls b p accept ≡ fx_found other calls b p accept

  -- in a written map, a query finds the same key under both rules
  abbrev pub QueriedAlike : {Q : Type 0} → (List ℕ → ℕ → List HasherCall) → (Q → List HasherCall)
      → (Q → List ℕ → ℕ → Bool) → Type 0
  QueriedAlike {Q} key_calls calls fits =
      (one other : SizeWords) (b : List ℕ) (p : ℕ) (homes : List ℕ)
      → Viewable (map_spec w k v) b p
      → MapWrittenAt w (entry_spec k v) (fx_hash_at one key_calls) b p homes
      → (query : Q)
      → fx_found one (calls query) b p (fits query b)
      ≡ fx_found other (calls query) b p (fits query b)
