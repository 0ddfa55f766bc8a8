-- Writes of all values of a map in place, one after the other.
use Rattle.std.specs.Prelude.{◌≡◌, ℕ, ◌<◌, ◌^◌, Bool, List, map}
use Rattle.std.specs.Borrow.{MutBor}
use Rattle.std.specs.Int.{Width}
use Rattle.rkyv_base.specs.{ElementSpec, Viewable, bytes_in, entry_spec, seal_pos, value_pos}
use Rattle.rkyv_base.specs.declared.seal.Seal.{Seal}
use Rattle.rkyv_keys.specs.{NativePairs}
use Rattle.rkyv_table.specs.{IsWalked, KeepsItems, KeepsSeals, RestsOnKey, SameValue, SealedBy}
use Rattle.rkyv_table.specs.{WritesOnce, item_found}
use Rattle.rkyv_collections.specs.Map.{MapWrittenAt}
use Rattle.rkyv_collections.specs.Map.ListedWalks.{key_positions_at}
use Rattle.rkyv_collections.specs.Map.MapAt.{MapAt}
use Rattle.rkyv_collections.specs.Map.MapFormat.{MapRepresents}
use Rattle.rkyv_collections.specs.Map.MapSpec.{map_spec}
use Rattle.rkyv_collections.specs.Map.ValueWrites.{entry_at}

-- the positions of the values of the map at `p`, in bucket order
abbrev pub value_positions_at : Width → ElementSpec → ElementSpec → List ℕ → ℕ → List ℕ
value_positions_at w k v b p = map (value_pos k v) (key_positions_at w k v b p)

-- each value of the map is written once between its bytes and the bytes `c`
abbrev pub WritesEachValue : MapAt → (List ℕ → ℕ → List ℕ → Type 0) → List ℕ → Type 0
WritesEachValue m Writes c = (i : ℕ) → IsWalked m.word m.bytes m.pos i
    → WritesOnce m.value Writes m.bytes
    (value_pos m.key m.value (entry_at m.word m.key m.value m.bytes m.pos i)) c

-- The map is a map in `c` too. Its header, its control bytes and all keys are unchanged. Each
-- lookup that depends only on the key finds the same key, and a written map is still one.
-- `key_hash b q`: hash of the key at `q`
pub record KeepsKeys (m : MapAt) (key_hash : List ℕ → ℕ → ℕ) (c : List ℕ) : Type 0 where
  pub table : KeepsItems m.word (entry_spec m.key m.value) m.bytes c m.pos
  pub keys : (j : ℕ) → IsWalked m.word m.bytes m.pos j
      → SameValue m.key m.bytes c (entry_at m.word m.key m.value m.bytes m.pos j)
  pub hashes : (j : ℕ) → IsWalked m.word m.bytes m.pos j
      → key_hash c (entry_at m.word m.key m.value m.bytes m.pos j)
      ≡ key_hash m.bytes (entry_at m.word m.key m.value m.bytes m.pos j)
  pub lookups : (hash : ℕ) (fits : List ℕ → ℕ → Bool) → hash < 2 ^ 64 → RestsOnKey m.key fits
      → item_found m.word (entry_spec m.key m.value).size c m.pos hash (fits c)
      ≡ item_found m.word (entry_spec m.key m.value).size m.bytes m.pos hash (fits m.bytes)
  pub written : (homes : List ℕ)
      → MapWrittenAt m.word (entry_spec m.key m.value) key_hash m.bytes m.pos homes
      → MapWrittenAt m.word (entry_spec m.key m.value) key_hash c m.pos homes

-- after each call of `write` with a seal of a valid value that represents a native one, the value
-- represents what `f` computes of that. `represents b q x`: the value at `q` represents `x`
abbrev pub ComputesNatives : {F V B : Type 0}
    → (F → MutBor (Seal V) → Unit {0} → MutBor (Seal V) → Type 0) → ElementSpec
    → (List ℕ → ℕ → B → Type 0) → F → (B → B) → Type 0
ComputesNatives {F} {V} {B} post v represents write f = (x y : MutBor (Seal V)) (old : B)
    → Viewable v (bytes_in x.now) (seal_pos x.now) → post write x tt y
    → represents (bytes_in x.now) (seal_pos x.now) old
    → represents (bytes_in y.now) (seal_pos x.now) (f old)

-- a map that represents a list of pairs represents, after its values were written by `write`,
-- the list with the values that `f` computes. `native`: what represents keys and values
abbrev pub EachWrittenRepresents : {A B F V : Type 0} → Width → ElementSpec → ElementSpec
    → NativePairs A B → (F → MutBor (Seal V) → Unit {0} → MutBor (Seal V) → Type 0) → Type 0
EachWrittenRepresents {A} {B} {F} {V} w k v native post =
    (write : F) (f : B → B) (b c : List ℕ) (p : ℕ) (factor : ℕ × ℕ) (pairs : List (A × B))
    → KeepsSeals post v write → ComputesNatives post v native.value write f
    → Viewable (map_spec w k v) b p
    → WritesEachValue (record { word = w; key = k; value = v; bytes = b; pos = p })
    (SealedBy post write tt) c
    → KeepsKeys (record { word = w; key = k; value = v; bytes = b; pos = p }) native.key_hash c
    → MapRepresents w k v native.key native.value native.key_hash factor b p pairs
    → MapRepresents w k v native.key native.value native.key_hash factor c p
    (map (λ pair. (pair.0, f pair.1)) pairs)
