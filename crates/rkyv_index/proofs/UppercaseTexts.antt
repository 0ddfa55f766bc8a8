-- A text of an index map that is written in upper case in place.
use Rattle.std.proofs.Common.{◌≡◌, ℕ, ◌+◌, ◌<◌, ◌≤◌, ◌∙◌, ap, Bool, true, false, List, Some, length, subst, sym}
use Rattle.std.specs.Borrow.{Bor}
use Rattle.std.specs.Char.{to_ascii_uppercase}
use Rattle.std.specs.Int.{Width}
use Rattle.std.specs.Prelude.{cond, map, slice_get, slice_set}
use Rattle.rkyv_base.specs.{ElementSpec, IsArchiveWord, IsElement, IsTextOf, RepresentsLocally, Uppercases, Viewable, entry_spec, text_at, text_size, text_spec, value_pos}
use Rattle.rkyv_base.specs.Lemmas.Text.{text_local}
use Rattle.rkyv_base.proofs.SealedText.{uppercased_reads, uppercased_sealed, uppercased_valid}
use Rattle.rkyv_keys.specs.{HashLocal}
use Rattle.rkyv_table.specs.{WritesValue, len_at}
use Rattle.rkyv_index.specs.{IndexRepresents, index_spec, pair_at}
use Rattle.rkyv_index.proofs.ValueWrites.{value_written, written_value_represents}

-- the text at index `i` is written, if it is inline
pub text_written : (w : Width) (k : ElementSpec) (b : List ℕ) (p : ℕ) (c : List ℕ) (i pos : ℕ) (inline : Bool) → pos ≡ value_pos k (text_spec w) (pair_at w k (text_spec w) b p i)
    → pos + text_size w ≤ length b → Uppercases w b pos c inline → WritesValue k (text_spec w) b c (pair_at w k (text_spec w) b p i)
text_written w k b p c i pos inline is inside uppercased =
    value_written is (uppercased_sealed w b pos inside c inline uppercased) (uppercased_valid w b pos inside c inline uppercased)

module _ (w : Width) (kind : IsArchiveWord w) (k : ElementSpec) (kl : IsElement k) (tl : IsElement (text_spec w)) (b : List ℕ) (p : ℕ) (view : Viewable (index_spec w (entry_spec k (text_spec w))) b p)
    (c : List ℕ) (i : ℕ) (below : i < len_at w b p) {A : Type 0} (key : List ℕ → ℕ → A → Type 0) (key_hash : List ℕ → ℕ → ℕ) (local : HashLocal k key_hash) (kn : RepresentsLocally k key)
    (factor : ℕ × ℕ) (pairs : List (A × Bor (List ℕ))) (pair : A × Bor (List ℕ)) (text : Bor (List ℕ)) where
  abbrev v : ElementSpec
  v = text_spec w

  abbrev text_pos : ℕ
  text_pos = value_pos k v (pair_at w k v b p i)

  abbrev Represents : List ℕ → List (A × Bor (List ℕ)) → Type 0
  Represents d l = IndexRepresents w k v key (IsTextOf w (λ t. t.now)) key_hash factor d p l

  pub uppercased_listed : (pos : ℕ) (inline : Bool) → pos ≡ text_pos → pos + text_size w ≤ length b → Uppercases w b pos c inline → Represents b pairs
      → slice_get pairs i ≡ Some pair → text.now ≡ map to_ascii_uppercase pair.1.now
      → Represents c (cond inline (slice_set pairs i (pair.0, text)) pairs)
  uppercased_listed pos false is inside uppercased st there upper = subst (λ d. Represents d pairs) (sym uppercased.1) st
  uppercased_listed pos true is inside uppercased st there upper =
      let before : text_at w b pos ≡ pair.1.now = ap (text_at w b) is ∙ (st.at i pair there).1 in
      let after : text_at w c pos ≡ text.now = uppercased_reads w b pos inside c true uppercased uppercased.0 ∙ ap (map to_ascii_uppercase) before ∙ sym upper in
      written_value_represents w kind k v kl tl b p view c i below (text_written w k b p c i pos true is inside uppercased) key_hash local key (IsTextOf w (λ t. t.now)) kn (λ x. text_local w x.now) factor pairs pair text st there
      (subst (λ q. text_at w c q ≡ text.now) is after)
