-- Texts of a map that are written in upper case in place.
use Rattle.std.proofs.Common.{◌≡◌, ℕ, ◌+◌, ◌≤◌, ◌∙◌, ap, Bool, true, false, List, length, Option, None, Some, subst, sym}
use Rattle.std.specs.Borrow.{Bor}
use Rattle.std.specs.Char.{to_ascii_uppercase}
use Rattle.std.specs.Int.{Width}
use Rattle.std.specs.List.{find}
use Rattle.std.specs.Option.{is_some, option_map}
use Rattle.std.specs.Prelude.{map}
use Rattle.rkyv_base.specs.{ElementSpec, IsElement, IsTextOf, RepresentsLocally, Uppercases, Viewable, entry_spec, text_size, text_spec, value_pos}
use Rattle.rkyv_base.specs.Lemmas.Text.{text_local}
use Rattle.rkyv_base.proofs.SealedText.{uppercased_reads, uppercased_sealed, uppercased_valid}
use Rattle.rkyv_table.specs.{home_positions}
use Rattle.rkyv_collections.specs.{AgreesOnKeys, MapRepresents, map_spec}
use Rattle.rkyv_keys.specs.{HashLocal, first_pair, list_after_uppercase, uppercase_text}
use Rattle.rkyv_collections.proofs.FirstWrites.{first_behind, none_behind}

module _ (w : Width) (k : ElementSpec) (kl : IsElement k) (tl : IsElement (text_spec w)) {A : Type 0} (key : List ℕ → ℕ → A → Type 0) (key_hash : List ℕ → ℕ → ℕ) (factor : ℕ × ℕ) (b : List ℕ) (p : ℕ)
    (pairs : List (A × Bor (List ℕ))) (accept : ℕ → Bool) (accept_value : A → Bool) (view : Viewable (map_spec w k (text_spec w)) b p) (agrees : AgreesOnKeys k key b accept accept_value)
    (st : MapRepresents w k (text_spec w) key (IsTextOf w (λ text. text.now)) key_hash factor b p pairs) where
  abbrev v : ElementSpec
  v = text_spec w

  abbrev value : List ℕ → ℕ → Bor (List ℕ) → Type 0
  value = IsTextOf w (λ text. text.now)

  abbrev Represents : List ℕ → List (A × Bor (List ℕ)) → Type 0
  Represents c l = MapRepresents w k v key value key_hash factor c p l

  abbrev pos_found : Option ℕ
  pos_found = option_map (value_pos k v) (find accept (home_positions w (entry_spec k v).size b p st.homes))

  pub none_uppercased : None ≡ pos_found → (false ≡ is_some (first_pair accept_value pairs)) × Represents b pairs
  none_uppercased found = ((none_behind w k v kl tl key value key_hash factor b p pairs uppercase_text accept accept_value view agrees st found).0, st)

  pub first_uppercased : RepresentsLocally k key → HashLocal k key_hash → (c : List ℕ) (pos : ℕ) (inline : Bool) → pos + text_size w ≤ length b → Some pos ≡ pos_found → Uppercases w b pos c inline
      → (true ≡ is_some (first_pair accept_value pairs)) × Represents c (list_after_uppercase accept_value (Some inline) pairs)
  first_uppercased kn local c pos true inside found uppercased =
      first_behind w k v kl tl key value key_hash factor b p pairs uppercase_text accept accept_value view agrees st kn (λ x. text_local w x.now) local c pos found
      (uppercased_sealed w b pos inside c true uppercased) (uppercased_valid w b pos inside c true uppercased)
      (λ x there. uppercased_reads w b pos inside c true uppercased uppercased.0 ∙ ap (map to_ascii_uppercase) there)
  first_uppercased kn local c pos false inside found uppercased =
      let unchanged = first_behind w k v kl tl key value key_hash factor b p pairs (λ text. text) accept accept_value view agrees st kn (λ x. text_local w x.now) local c pos found
      (uppercased_sealed w b pos inside c false uppercased) (uppercased_valid w b pos inside c false uppercased)
      (λ x there. subst (λ a. value a pos x) (sym uppercased.1) there) in
      (unchanged.0, subst (λ x. Represents x pairs) (sym uppercased.1) st)
