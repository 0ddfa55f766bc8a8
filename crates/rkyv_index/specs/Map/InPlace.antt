-- Calls that write the value of a key over the bytes of an archive.
use Rattle.rkyv_base.specs.declared.element.HasSpec.{Ghosts as Specs}
use Rattle.rkyv_base.specs.declared.width.Word.{Ghosts as Words}
use Rattle.std.specs.Prelude.{◌≡◌, ℕ, Bool, List, MatchOption, None, Option, Some, cond}
use Rattle.std.specs.Prelude.{false, map, slice_get, slice_set, true}
use Rattle.std.specs.Borrow.{Bor}
use Rattle.std.specs.Char.{to_ascii_uppercase}
use Rattle.std.specs.Int.{Width}
use Rattle.std.specs.Option.{is_some, option_map}
use Rattle.rkyv_base.specs.{ElementSpec, Encoding, Uppercases, entry_spec, text_spec, value_pos}
use Rattle.rkyv_base.specs.{with_value}
use Rattle.rkyv_base.specs.declared.view.View.{View}
use Rattle.rkyv_keys.specs.{KeyLookup, LookupHashes, NativePairs, first_pair}
use Rattle.rkyv_keys.specs.{list_after_uppercase, with_first}
use Rattle.rkyv_index.specs.Map.{Index, key_at}
use Rattle.rkyv_index.specs.Map.IndexFormat.{IndexRepresents}
use Rattle.rkyv_index.specs.Map.IndexLayout.{index_spec}
use Rattle.rkyv_index.specs.Map.Lookups.{FoundByHas, FoundKeyHas}
use Rattle.rkyv_index.specs.Map.SealedIndex.{index_at}
use Rattle.rkyv_index.specs.Map.ValueWrites.{KeepsIndexMap, index_kind}

-- the index map of keys `ks` and values `vs` in an archive of the word `wt`, with its header
-- at `pos`
abbrev pub index_over : {K V W : Type 0} → Words W → Specs K → Specs V → List ℕ → ℕ → Index K
index_over wt ks vs bytes pos = index_at wt.word ks.spec vs.spec bytes pos

-- the position of the value at index `i`
abbrev pub value_pos_of : {K : Type 0} → Index K → ℕ → ℕ
value_pos_of m i = value_pos m.key m.value (key_at m i)

-- the property applies to the position of the value that a lookup finds, or to `None`
abbrev pub FoundValueHas : {K : Type 0} → Index K → KeyLookup → (Option ℕ → Type 0) → Type 0
FoundValueHas m a P = FoundKeyHas m a (λ index. P (option_map (value_pos_of m) index))

-- the property applies to the position of the value of a key that a comparison accepted, or to
-- `None`
abbrev pub FoundValueByHas : {K : Type 0} → Index K → LookupHashes → (View K → Bool → Type 0)
    → (Option ℕ → Type 0) → Type 0
FoundValueByHas m hashes post P =
    FoundByHas m hashes post (λ index. P (option_map (value_pos_of m) index))

-- the value that such a lookup finds is written, if it finds one. `Writes`: relation of the bytes
-- before, the result, the bytes `c` afterwards and the found position
abbrev pub WritesFoundBy : {K X : Type 0} → Index K → LookupHashes → (View K → Bool → Type 0)
    → (List ℕ → X → List ℕ → Option ℕ → Type 0) → X → List ℕ → Type 0
WritesFoundBy m hashes post Writes result c =
    FoundValueByHas m hashes post (Writes m.bytes result c)

-- the element of an index map to texts
abbrev pub index_to_texts_spec : Width → ElementSpec → ElementSpec
index_to_texts_spec w k = index_spec w (entry_spec k (text_spec w))

-- If the index map at `p` of `b` represents a list of pairs of keys and texts, it represents a list
-- in `c`: with the text at index `i` in upper case if `inline` is `true`, and else the same.
-- `represents`: lists that index maps represent, by the load factor
abbrev pub UppercasesListed : {A : Type 0}
    → (ℕ × ℕ → List ℕ → ℕ → List (A × Bor (List ℕ)) → Type 0) → List ℕ → List ℕ → ℕ → ℕ → Bool
    → Type 0
UppercasesListed {A} represents b c p i inline =
    (factor : ℕ × ℕ) (pairs : List (A × Bor (List ℕ))) (pair : A × Bor (List ℕ))
    (text : Bor (List ℕ))
    → represents factor b p pairs → slice_get pairs i ≡ Some pair
    → text.now ≡ map to_ascii_uppercase pair.1.now
    → represents factor c p (cond inline (slice_set pairs i (pair.0, text)) pairs)

-- the index map of keys `ks` to texts in an archive of the word `wt`, with its header at `pos`
abbrev pub index_to_texts_over : {K W : Type 0} → Words W → Specs K → List ℕ → ℕ → Index K
index_to_texts_over wt ks bytes pos = index_at wt.word ks.spec (text_spec wt.word) bytes pos

module _ {K : Type 0} (m : Index K) where
  -- No index is found, and the archive is unchanged. Or the value at the index is the new one,
  -- all other bytes are unchanged, and the index map is kept
  abbrev pub SetsFound : {N : Type 0} → (List ℕ → ℕ → ℕ) → Encoding N → N → Bool → List ℕ
      → Option ℕ → Type 0
  SetsFound key_hash e value result c index = MatchOption index ((result ≡ false) × (c ≡ m.bytes))
      (λ i. (result ≡ true) × (c ≡ with_value e m.bytes (value_pos_of m i) value)
      × KeepsIndexMap (index_kind m.word m.key m.value key_hash) m.bytes c m.pos i)

  -- the value at the index that a lookup finds is written, if it finds one. `result`: it finds
  -- one, `c`: bytes afterwards
  abbrev pub SetsValue : {N : Type 0} → KeyLookup → Encoding N → N → Bool → List ℕ → Type 0
  SetsValue a e value result c = FoundKeyHas m a (SetsFound a.key_hash e value result c)

  -- No index is found, and the archive is unchanged. Or the text at the index is in upper case
  -- if it is inline, all other bytes are unchanged, and the index map is kept
  abbrev pub UppercasesFound : (List ℕ → ℕ → ℕ) → Option Bool → List ℕ → Option ℕ → Type 0
  UppercasesFound key_hash result c index = MatchOption index ((result ≡ None) × (c ≡ m.bytes))
      (λ i. (inline : Bool) × (result ≡ Some inline)
      × Uppercases m.word m.bytes (value_pos_of m i) c inline
      × KeepsIndexMap (index_kind m.word m.key m.value key_hash) m.bytes c m.pos i)

  -- the text at the index that a lookup finds is written in upper case, if it finds one.
  -- `c`: bytes afterwards
  abbrev pub UppercasesText : KeyLookup → Option Bool → List ℕ → Type 0
  UppercasesText a result c = FoundKeyHas m a (UppercasesFound a.key_hash result c)

module _ {A B K : Type 0} (m : Index K) (native : NativePairs A B) where
  -- the index map at the position of `m` in the bytes `b` represents the list
  abbrev pub RepresentsIn : ℕ × ℕ → List ℕ → List (A × B) → Type 0
  RepresentsIn factor b pairs = IndexRepresents m.word m.key m.value native.key native.value
      native.key_hash factor b m.pos pairs

  -- an index map that represents a list of pairs represents the list with the new value in the
  -- first pair with an accepted key. `result`: the list has one, `c`: bytes afterwards
  abbrev pub SetsFirst : (A → Bool) → B → Bool → List ℕ → Type 0
  SetsFirst accept value result c = (factor : ℕ × ℕ) (pairs : List (A × B))
      → RepresentsIn factor m.bytes pairs
      → (result ≡ is_some (first_pair accept pairs))
      × RepresentsIn factor c (with_first accept value pairs)

-- An index map that represents a list of pairs of keys and texts. If the text of the first pair
-- with an accepted key is inline, the index map represents the list with that text in upper case.
-- Otherwise it represents the same list. The result is `None` if and only if no key is accepted
abbrev pub UppercasesFirst : {A K : Type 0} → Index K → NativePairs A (Bor (List ℕ)) → (A → Bool)
    → Option Bool → List ℕ → Type 0
UppercasesFirst {A} m native accept result c =
    (factor : ℕ × ℕ) (pairs : List (A × Bor (List ℕ)))
    → RepresentsIn m native factor m.bytes pairs
    → (is_some result ≡ is_some (first_pair accept pairs))
    × RepresentsIn m native factor c (list_after_uppercase accept result pairs)
