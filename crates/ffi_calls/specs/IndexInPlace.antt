-- Overwrites of values in index maps.
use Rattle.std.specs.Prelude.{ℕ, Bool, List, Option}
use Rattle.std.specs.Option.{option_map}
use Rattle.rkyv_scan.specs.{HasherCall}
use Rattle.rkyv_base.specs.{Encoding, ScalarRepresents}
use Rattle.rkyv_collections.specs.{MapAt, ValueQuery}
use Rattle.ffi_calls.specs.IndexArchives.{found_index, index_in, value_pos_at}
use Rattle.ffi_calls.specs.IndexLists.{IndexRepresentsPairs}
use Rattle.ffi_calls.specs.Lists.{SetsFirstPair, query_pairs}

-- the position of the value that a lookup finds. `calls`: hasher calls of the key, `fits`: test of
-- the key at a position
abbrev pub value_found_in : MapAt → List HasherCall → (ℕ → Bool) → Option ℕ
value_found_in m calls fits = option_map (value_pos_at m) (found_index m calls fits)

-- after an overwrite the index map in `c` represents the list with the new value in the first pair
-- whose key is accepted
abbrev pub SetsFirstIndexed : {A N : Type 0} → MapAt → ValueQuery A → Encoding N → ℕ → ℕ → List ℕ
    → Type 0
SetsFirstIndexed m a e number status c = let native = query_pairs m a (ScalarRepresents e) in
    SetsFirstPair a.accept_value e (IndexRepresentsPairs m native)
    (IndexRepresentsPairs (index_in m.word m.key m.value c) native) number status
