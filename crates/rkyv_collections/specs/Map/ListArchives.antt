-- Archives with a root map that represents a list of pairs, and the values that are found in one.
use Rattle.rkyv_base.specs.declared.element.HasSpec.{Ghosts as Specs}
use Rattle.rkyv_base.specs.declared.width.Word.{Ghosts as Words}
use Rattle.std.specs.Prelude.{◌≡◌, ℕ, ◌+◌, ◌-◌, Bool, IfSome, List, MatchOption, MatchResult}
use Rattle.std.specs.Prelude.{Option, Result, false, length, true}
use Rattle.std.specs.Borrow.{Bor}
use Rattle.std.specs.Int.{Width, w32}
use Rattle.std.specs.Option.{option_map}
use Rattle.std.specs.declared.vec.Vec.{Vec}
use Rattle.rkyv_scan.specs.{fx_hasher, low_halves}
use Rattle.rkyv_base.specs.{ArchiveOf, ElementSpec, Encoding, Format, IsAt, IsTextOf}
use Rattle.rkyv_base.specs.{IsValidArchive, OpensNarrow, ScalarRepresents, ToBytesFails}
use Rattle.rkyv_base.specs.{entry_spec, narrow_limit, scalar_format, scalar_spec, text_at}
use Rattle.rkyv_base.specs.{text_format, text_spec, value_at, value_offset, value_pos}
use Rattle.rkyv_base.specs.{with_value, written_as}
use Rattle.rkyv_base.specs.declared.errors.VerifyError.{VerifyError}
use Rattle.rkyv_base.specs.declared.errors.WriteError.{WriteError}
use Rattle.rkyv_base.specs.declared.view.View.{View}
use Rattle.rkyv_keys.specs.{FoundValues, NativeKeys, first_value, hash_at, hash_of, same_bytes}
use Rattle.rkyv_keys.specs.{text_calls, text_key_calls}
use Rattle.rkyv_table.specs.{TableResolver, item_found, listed}
use Rattle.rkyv_collections.specs.Map.{FindsFirstKey, IsValueAt, IsValueIn, map_bytes}
use Rattle.rkyv_collections.specs.Map.MapSpec.{map_spec}
use Rattle.rkyv_collections.specs.Map.MapFormat.{MapRepresents, map_format}
use Rattle.rkyv_collections.specs.declared.map.ArchivedHashMap.{ArchivedHashMap}
use Rattle.rkyv_collections.specs.declared.map.HashMapOf.{HashMapOf}

-- the position of the root of an archive, if the root is a map
abbrev pub map_root : Width → ElementSpec → ElementSpec → List ℕ → ℕ
map_root w k v b = length b - (map_spec w k v).size

-- texts, each with a value
abbrev pub TextPairs : Type 0 → Type 0
TextPairs N = List (Bor (List ℕ) × N)

-- the element of a narrow map of texts to scalars
abbrev pub text_map_spec : {N : Type 0} → Encoding N → ElementSpec
text_map_spec e = map_spec w32 (text_spec w32) (scalar_spec e)

-- a narrow map of texts to scalars under `FxHasher64` and a load factor, which represents the pairs
abbrev pub TextMapRepresents : {N : Type 0} → Encoding N → ℕ × ℕ → List ℕ → ℕ → TextPairs N → Type 0
TextMapRepresents e factor b p pairs = MapRepresents w32 (text_spec w32) (scalar_spec e)
    (IsTextOf w32 (λ text. text.now)) (ScalarRepresents e)
    (hash_at (fx_hasher low_halves) (text_key_calls w32)) factor b p pairs

-- `b`: narrow archive. Its root is a map of texts to scalars under `FxHasher64`
-- that represents `pairs` under some load factor
pub record IsTextMap {N : Type 0} (e : Encoding N) (b : List ℕ) (pairs : TextPairs N) : Type 0 where
  pub accepted : IsValidArchive narrow_limit (text_map_spec e) b
  pub load_factor : ℕ × ℕ
  pub represents : TextMapRepresents e load_factor b (length b - (text_map_spec e).size) pairs

-- the format of the pairs under a load factor
abbrev pub text_map_format : {N : Type 0} → Encoding N → ℕ × ℕ → Format (TextPairs N) TableResolver
text_map_format e factor = listed narrow_limit factor
    (map_format w32 (text_spec w32) (scalar_spec e)
    (written_as (λ text. text.now) (text_format w32)) (scalar_format e)
    (hash_of (fx_hasher low_halves) (λ text. text_calls text.now)) factor)

-- `b`: archive of only the pairs under the load factor 7 / 8. It is valid, represents them,
-- and has no other bytes
abbrev pub IsTextMapOf : {N : Type 0} → Encoding N → TextPairs N → List ℕ → Type 0
IsTextMapOf e pairs b =
    ArchiveOf narrow_limit (text_map_spec e) (TextMapRepresents e (7, 8)) (text_map_format e (7, 8))
    pairs b

-- `why`: error of archiving the pairs under the load factor 7 / 8
abbrev pub TextMapFails : {F N : Type 0} → Encoding N → TextPairs N → WriteError F → Type 0
TextMapFails e pairs why =
    ToBytesFails narrow_limit (text_map_spec e) (text_map_format e (7, 8)) pairs why

-- the result of archiving the pairs under the load factor 7 / 8: the archive of only the pairs,
-- or an error
abbrev pub TextMapResult : {F N Z : Type 0} → Encoding N → TextPairs N
    → Result (Vec ℕ Z) (WriteError F) → Type 0
TextMapResult e pairs result =
    MatchResult result (λ archive. IsTextMapOf e pairs archive.items) (TextMapFails e pairs)

-- The bytes are opened if and only if they are a narrow archive whose root is a map of texts
-- to scalars. The error is the first fault of the bytes
abbrev pub OpensTextMap : {N R : Type 0} → Encoding N → List ℕ → Result R VerifyError → Type 0
OpensTextMap e b result = OpensNarrow (text_map_spec e) b result

-- the value of the first pair whose key is `text`
abbrev pub first_of_text : {N : Type 0} → List ℕ → TextPairs N → Option N
first_of_text text pairs = first_value (λ other. same_bytes text other.now) pairs

-- the position of the key that a lookup of `text` finds in the map at the root of the archive `b`,
-- which may represent no list
abbrev pub text_key_found : {N : Type 0} → Encoding N → List ℕ → List ℕ → Option ℕ
text_key_found e text b =
    item_found w32 (entry_spec (text_spec w32) (scalar_spec e)).size b
    (map_root w32 (text_spec w32) (scalar_spec e) b)
    (hash_of (fx_hasher low_halves) text_calls text) (λ q. same_bytes text (text_at w32 b q))

-- the value of the pair that a lookup of `text` finds in the map at the root of the archive `b`,
-- which may represent no list
abbrev pub text_found : {N : Type 0} → Encoding N → List ℕ → List ℕ → Option N
text_found e text b =
    option_map (λ q. value_at e b (q + value_offset (text_spec w32) (scalar_spec e)))
    (text_key_found e text b)

-- `c`: the archive `b` with `value` written over the value that a lookup of `text` finds, and
-- `found` is `true`. If it finds none, `c` is `b`, and `found` is `false`
abbrev pub SetsValueOfText : {N : Type 0} → Encoding N → List ℕ → N → List ℕ → List ℕ → Bool
    → Type 0
SetsValueOfText e text value b c found =
    MatchOption (text_key_found e text b) ((found ≡ false) × (c ≡ b))
    (λ q. (found ≡ true) × (c ≡ with_value e b (value_pos (text_spec w32) (scalar_spec e) q) value))

-- The root of the archive is a map that represents a list of pairs. A lookup of a native key
-- finds the value of the first pair with an equal key, and `None` if no pair has one.
-- `wt`: word of the archive, `keys`: its native keys, `values`: how its values are found
abbrev pub FoundAreListed : {A Q B K V W : Type 0} → (H : Type 0) → Words W → Specs K → Specs V
    → NativeKeys A Q → FoundValues V B → Type 0
FoundAreListed {A} {Q} {B} {K} {V} {W} H wt ks vs keys values =
    (map : ArchivedHashMap K V H W ks vs wt) (root : View (HashMapOf K V H W))
    (archive : Bor (List ℕ)) (factor : ℕ × ℕ) (pairs : List (A × B)) (query : Q)
    (found : Option (View V)) → map.view ≡ root
    → IsAt root archive (map_root wt.word ks.spec vs.spec archive.now)
    → MapRepresents wt.word ks.spec vs.spec keys.represents values.represents keys.key_hash
    factor archive.now (map_root wt.word ks.spec vs.spec archive.now) pairs
    → IfSome found (IsValueIn map)
    → FindsFirstKey map keys.key_hash (keys.fits query (map_bytes map))
    (IsValueAt ks.spec vs.spec found)
    → values.IsFound found (first_value (keys.equal query) pairs)
