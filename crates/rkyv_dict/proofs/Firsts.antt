-- The first pair with an accepted key, by the positions of a written map and in its list.
use Rattle.std.proofs.Common.{◌≡◌, ℕ, suc, ◌+◌, ◌==◌, refl, ap, sym, ◌∙◌, arith, inl, inr, Bool, List, [], ◌∷◌, length, slice_get, slice_index, Option, None, Some}
use Rattle.std.specs.Int.{w32}
use Rattle.std.specs.Option.{option_map}
use Rattle.std.specs.List.{find}
use Rattle.std.specs.Prelude.{decimal}
use Rattle.std.proofs.lemmas.Bool.{cases_Bool}
use Rattle.std.proofs.lemmas.List.{length-map}
use Rattle.rkyv_base.specs.{ScalarRepresents, TextReads, number_at, text_at, unsigned, value_offset}
use Rattle.rkyv_keys.specs.{same_bytes}
use Rattle.rkyv_table.specs.{home_positions}
use Rattle.rkyv_dict.specs.{HasHomes, MapTypes, Pairs, PairsRepresent, PairsRepresentAt, RootRepresents, first_under, first_value_text, hash, number_key, number_parts, numbers, pair_spec, root, text_key, text_parts, texts, value_text, word_of}
use Rattle.rkyv_dict.specs.declared.form.ArchiveWidth.{ArchiveWidth}
use Rattle.rkyv_dict.specs.declared.form.Form.{Form}
use Rattle.rkyv_dict.specs.declared.form.Kind.{Kind}
use Rattle.rkyv_dict.specs.declared.form.Kind.TheVariants.{Num, Text}

-- lists whose items agree on both functions have first accepted items that agree
firsts_alike : {Y U : Type 0} (fits : ℕ → Bool) (accept : Y → Bool) (read_value : ℕ → U) (show : Y → U) (xs : List ℕ) (ys : List Y) → length xs ≡ length ys
    → ((i : ℕ) (y : Y) → slice_get ys i ≡ Some y → (fits (slice_index xs i) ≡ accept y) × (read_value (slice_index xs i) ≡ show y))
    → option_map read_value (find fits xs) ≡ option_map show (find accept ys)
firsts_alike fits accept read_value show [] [] n h = refl
firsts_alike fits accept read_value show [] (y ∷ ys) n h = absurd (omega (arith, n))
firsts_alike fits accept read_value show (x ∷ xs) [] n h = absurd (omega (arith, n))
firsts_alike fits accept read_value show (x ∷ xs) (y ∷ ys) n h =
    let here = h 0 y refl in
    let rest = firsts_alike fits accept read_value show xs ys (omega (arith, n)) (λ i z e. h (suc i) z e) in
    elim (cases_Bool (accept y)) [
      | inl t ↦ rw (here.0, t) (ap Some here.1)
      | inr f ↦ rw (here.0, f) rest
    ]

module _ (k : MapTypes) {A : Type 0} (represents : List ℕ → ℕ → A → Type 0) (factor : ℕ × ℕ) (b : List ℕ) (pairs : List (A × A))
    (fits : ℕ → Bool) (accept : A → Bool) (show : A → List ℕ) (same_calls : (q : ℕ) (a : A) → represents b q a → fits q ≡ accept a) (reads : (q : ℕ) (a : A) → represents b q a → k.text b q ≡ show a) where
  first_at : (h : PairsRepresentAt k factor represents b (root k b) pairs)
      → option_map (value_text k b) (find fits (home_positions k.word (pair_spec k).size b (root k b) h.homes)) ≡ option_map (λ pair. show pair.1) (find (λ pair. accept pair.0) pairs)
  first_at h =
      let positions = home_positions k.word (pair_spec k).size b (root k b) h.homes in
      let count : length positions ≡ length pairs = sym (length-map positions (λ q. hash (k.calls b q))) ∙ sym h.written.count ∙ h.len in
      firsts_alike fits (λ pair. accept pair.0) (value_text k b) (λ pair. show pair.1) positions pairs count
      (λ i pair e. let there = h.at i pair e in
      (same_calls (slice_index positions i) pair.0 there.0, reads (slice_index positions i + value_offset k.spec k.spec) pair.1 there.1))

  pub first_represents : PairsRepresent k factor represents pairs b
      → (homes : List ℕ) × HasHomes k b homes × (first_under k b homes fits ≡ option_map (λ pair. show pair.1) (find (λ pair. accept pair.0) pairs))
  unfolding PairsRepresent HasHomes first_under
  first_represents h = (h.homes, h.written, first_at h)

option_map_second : {A B U : Type 0} (show : B → U) (o : Option (A × B)) → option_map (λ pair. show pair.1) o ≡ option_map show (option_map (λ pair. pair.1) o)
option_map_second show None = refl
option_map_second show (Some pair) = refl

-- a form equals the record of its kind and its width
pub form_is : (form : Form) (kind : Kind) (bits : ArchiveWidth) → form.kind ≡ kind → form.bits ≡ bits → form ≡ record { kind = kind; bits = bits }
form_is form kind bits e d = ap {B = Form} (λ k. record { kind = k; bits = form.bits }) e ∙ ap {B = Form} (λ b. record { kind = kind; bits = b }) d

module _ (bits : ArchiveWidth) (factor : ℕ × ℕ) (b : List ℕ) where
  -- the first pair of a map of numbers, and of a map of texts
  pub first_number : (pairs : Pairs) (n : ℕ) → RootRepresents (record { kind = Num; bits = bits }) factor b pairs
      → (homes : List ℕ) × HasHomes (number_parts bits) b homes
      × (first_under (number_parts bits) b homes (λ q. n == number_at w32 b q) ≡ first_value_text pairs (number_key n))
  first_number (numbers pairs) n h =
      let there = first_represents (number_parts bits) (ScalarRepresents (unsigned w32)) factor b pairs
      (λ q. n == number_at w32 b q) (λ key. n == key) decimal (λ q v st. ap (λ x. n == x) st) (λ q v st. ap decimal st) h in
      (there.0, there.1, there.2 ∙ option_map_second decimal (find (λ pair. n == pair.0) pairs))
  first_number (texts pairs) n h = absurd h

  pub first_text : (pairs : Pairs) (t : List ℕ) → RootRepresents (record { kind = Text; bits = bits }) factor b pairs
      → (homes : List ℕ) × HasHomes (text_parts bits) b homes
      × (first_under (text_parts bits) b homes (λ q. same_bytes t (text_at (word_of bits) b q)) ≡ first_value_text pairs (text_key t))
  first_text (texts pairs) t h =
      first_represents (text_parts bits) (TextReads (word_of bits)) factor b pairs
      (λ q. same_bytes t (text_at (word_of bits) b q)) (λ key. same_bytes t key) (λ v. v) (λ q v st. ap (same_bytes t) st) (λ q v st. st) h
  first_text (numbers pairs) t h = absurd h
