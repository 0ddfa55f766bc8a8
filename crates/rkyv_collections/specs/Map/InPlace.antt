-- Calls that write the value of a key over the bytes of an archive.
use Rattle.std.specs.Prelude.{◌≡◌, ℕ, Bool, List, MatchOption, Option, false, true}
use Rattle.std.specs.Int.{Width}
use Rattle.std.specs.Option.{is_some}
use Rattle.rkyv_base.specs.{ElementSpec, Encoding, ScalarRepresents, with_value}
use Rattle.rkyv_keys.specs.{KeyLookup, first_pair, with_first}
use Rattle.rkyv_collections.specs.Map.MapAt.{FoundValueHasAt, MapAt, ValueQuery}
use Rattle.rkyv_collections.specs.Map.MapFormat.{MapRepresents}
use Rattle.rkyv_collections.specs.Map.ValueWrites.{KeepsMapAt}

module _ {N : Type 0} (w : Width) (k v : ElementSpec) (e : Encoding N) where
  -- No value is found, and the archive is unchanged. Or the value at the position is the new one,
  -- all other bytes are unchanged, and the map is kept
  abbrev pub SetsFound : (List ℕ → ℕ → ℕ) → List ℕ → ℕ → N → Bool → List ℕ → Option ℕ → Type 0
  SetsFound key_hash b p value result c key_pos = MatchOption key_pos ((result ≡ false) × (c ≡ b))
      (λ q. (result ≡ true) × (c ≡ with_value e b q value)
      × KeepsMapAt w k v key_hash b c p q)

-- the value that a lookup finds is written, if it finds one. `result`: it finds one, `c`: bytes
-- afterwards
abbrev pub SetsValue : {N : Type 0} → MapAt → KeyLookup → Encoding N → N → Bool → List ℕ → Type 0
SetsValue m a e value result c = FoundValueHasAt m a
    (SetsFound m.word m.key m.value e a.key_hash m.bytes m.pos value result c)

-- a map that represents a list of pairs represents the list with the new value in the first pair
-- with an accepted key
abbrev pub SetsFirst : {A N : Type 0} → MapAt → ValueQuery A → Encoding N → N → Bool → List ℕ
    → Type 0
SetsFirst {A} {N} m a e value result c = (factor : ℕ × ℕ) (pairs : List (A × N))
    → MapRepresents m.word m.key m.value a.represents
    (ScalarRepresents e) a.key_hash factor m.bytes m.pos pairs
    → (result ≡ is_some (first_pair a.accept_value pairs))
    × MapRepresents m.word m.key m.value a.represents (ScalarRepresents e) a.key_hash factor c m.pos
    (with_first a.accept_value value pairs)
