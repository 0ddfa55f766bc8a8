-- Calls that write the inline text of a key in upper case over the bytes of an archive.
use Rattle.rkyv_base.specs.declared.element.HasSpec.{Ghosts as Specs}
use Rattle.rkyv_base.specs.declared.width.Word.{Ghosts as Words}
use Rattle.std.specs.Prelude.{◌≡◌, ℕ, Bool, List, None, Option, Some}
use Rattle.std.specs.Borrow.{Bor}
use Rattle.std.specs.Int.{Width}
use Rattle.std.specs.Option.{is_some}
use Rattle.rkyv_base.specs.{ElementSpec, IsTextOf, Uppercases, text_spec}
use Rattle.rkyv_keys.specs.{KeyLookup, first_pair, list_after_uppercase}
use Rattle.rkyv_collections.specs.Map.MapAt.{FoundValueHasAt, MapAt, ValueQuery}
use Rattle.rkyv_collections.specs.Map.MapSpec.{map_spec}
use Rattle.rkyv_collections.specs.Map.MapFormat.{MapRepresents}
use Rattle.rkyv_collections.specs.Map.ValueWrites.{KeepsMapAt}

-- the element of a map to texts
abbrev pub map_to_texts_spec : Width → ElementSpec → ElementSpec
map_to_texts_spec w k = map_spec w k (text_spec w)

module _ (w : Width) (k : ElementSpec) where
  -- No value is found, and the archive is unchanged. Or the text at the position is in upper case
  -- if it is inline, all other bytes are unchanged, and the map is kept
  abbrev pub UppercasesFound : (List ℕ → ℕ → ℕ) → List ℕ → ℕ → Option Bool → List ℕ → Option ℕ
      → Type 0
  UppercasesFound key_hash b p result c None = (result ≡ None) × (c ≡ b)
  UppercasesFound key_hash b p result c (Some q) =
      (inline : Bool) × (result ≡ Some inline) × Uppercases w b q c inline
      × KeepsMapAt w k (text_spec w) key_hash b c p q

-- the map of keys `ks` to texts in an archive of the word `wt`, with its header at `pos`
abbrev pub map_to_texts_at : {K W : Type 0} → Words W → Specs K → List ℕ → ℕ → MapAt
map_to_texts_at wt ks bytes pos = record {
  word = wt.word;
  key = ks.spec;
  value = text_spec wt.word;
  bytes = bytes;
  pos = pos;
}

-- the text that a lookup finds in a map to texts is written in upper case, if it finds one.
-- `c`: bytes afterwards
abbrev pub UppercasesText : MapAt → KeyLookup → Option Bool → List ℕ → Type 0
UppercasesText m a result c =
    FoundValueHasAt m a (UppercasesFound m.word m.key a.key_hash m.bytes m.pos result c)

-- A map that represents a list of pairs of keys and texts. If the text of the first pair
-- with an accepted key is inline, the map represents the list with that text in upper case.
-- Otherwise it represents the same list. The result is `None` if and only if no key is accepted
abbrev pub UppercasesFirst : {A : Type 0} → MapAt → ValueQuery A → Option Bool → List ℕ → Type 0
UppercasesFirst {A} m a result c =
    (factor : ℕ × ℕ) (pairs : List (A × Bor (List ℕ)))
    → MapRepresents m.word m.key m.value a.represents (IsTextOf m.word (λ text. text.now))
    a.key_hash factor m.bytes m.pos pairs
    → (is_some result ≡ is_some (first_pair a.accept_value pairs))
    × MapRepresents m.word m.key m.value a.represents (IsTextOf m.word (λ text. text.now))
    a.key_hash factor c m.pos
    (list_after_uppercase a.accept_value result pairs)
