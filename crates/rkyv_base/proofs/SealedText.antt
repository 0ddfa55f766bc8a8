-- Inline text in upper case: no other byte changes, and the text stays valid.
use Rattle.std.specs.Prelude.{◌≡◌, ℕ, ◌+◌, ◌-◌, ◌≤◌, ◌==◌, ◌&&◌, Bool, true, false, nat_le, nat_lt, List, [], ◌∷◌, ◌++◌, length, map, drop}
use Rattle.std.specs.Char.{to_ascii_uppercase}
use Rattle.std.specs.Int.{Width}
use Rattle.std.specs.Str.{IsUtf8}
use Rattle.std.proofs.Common.{refl, arith, subst, sym, ◌∙◌, ap, inl, inr}
use Rattle.std.proofs.lemmas.Grind.{common_steps}
use Rattle.std.proofs.lemmas.Bool.{cases_Bool}
use Rattle.std.proofs.lemmas.Bool.Decides.{nat_tests}
use Rattle.std.proofs.lemmas.List.{drop-drop, drop-take, length-drop, length-map, length-take}
use Rattle.std.proofs.Math.Seq.{take-append-add}
use Rattle.rkyv_base.specs.{IsInline, IsUtf8IfInline, ModifiesOnly, StaysValid, Uppercases, fixed_bytes, inline_at, inline_text, is_out_of_line, text_at, text_size, text_spec, with_uppercase}
use Rattle.rkyv_base.specs.Lemmas.Text.{inline_reads}
use Rattle.rkyv_base.proofs.Uppercase.{utf8_uppercase}
use Rattle.rkyv_base.proofs.Sealing.{sealed_wider, with_bytes-rest, with_bytes-sealed}

-- the fixed bytes `s`, with the text before the first ff in upper case
abbrev uppercase_front : List ℕ → List ℕ
uppercase_front s = map to_ascii_uppercase (inline_text s) ++ drop (length (inline_text s)) s

not_ff : (x : ℕ) → (x == 255) ≡ false → (to_ascii_uppercase x == 255) ≡ false
not_ff x h = grind (arith, nat_tests)

same_form : (x : ℕ) → (nat_le 128 (to_ascii_uppercase x) && nat_lt (to_ascii_uppercase x) 192) ≡ (nat_le 128 x && nat_lt x 192)
same_form x = grind (arith, nat_tests)

inline_stops : (x : ℕ) (xs : List ℕ) → (x == 255) ≡ true → inline_text (x ∷ xs) ≡ []
inline_stops x xs h = rw h refl

inline_continues : (x : ℕ) (xs : List ℕ) → (x == 255) ≡ false → inline_text (x ∷ xs) ≡ x ∷ inline_text xs
inline_continues x xs h = grind (arith, common_steps)

-- the inline text of `uppercase_front s` is the text of `s` in upper case
inline_text_uppercase : (s : List ℕ) → inline_text (uppercase_front s) ≡ map to_ascii_uppercase (inline_text s)
inline_text_uppercase [] = refl
inline_text_uppercase (x ∷ xs) = grind (arith, common_steps, cases_Bool, inline_stops, inline_continues, not_ff, inline_text_uppercase xs)

-- the text is inline if it was before
form_uppercase : (s : List ℕ) → is_out_of_line (uppercase_front s) ≡ is_out_of_line s
form_uppercase [] = refl
form_uppercase (x ∷ xs) = grind (arith, common_steps, cases_Bool, inline_stops, inline_continues, same_form)

module _ (w : Width) (b : List ℕ) (p : ℕ) (inside : p + text_size w ≤ length b) where
  fixed_length : length (fixed_bytes w b p) ≡ text_size w
  fixed_length = simp (length-take, length-drop) (omega (arith, inside))

  inline_length : length (inline_at w b p) ≤ text_size w
  inline_length = simp length-take (omega (arith, fixed_length))

  fixed_uppercase : fixed_bytes w (with_uppercase w b p) p ≡ uppercase_front (fixed_bytes w b p)
  fixed_uppercase =
      let n : ℕ = text_size w in
      let t : List ℕ = inline_at w b p in
      let k : ℕ = length t in
      grind (arith, common_steps, length-map t to_ascii_uppercase, drop-take k (n - k) (drop p b), drop-drop k p b, take-append-add (map to_ascii_uppercase t) (drop (p + k) b) (n - k), inline_length, with_bytes-rest)

  inline_stays : IsInline w b p → IsInline w (with_uppercase w b p) p
  inline_stays h = ap is_out_of_line fixed_uppercase ∙ form_uppercase (fixed_bytes w b p) ∙ h

  inline_uppercase : inline_at w (with_uppercase w b p) p ≡ map to_ascii_uppercase (inline_at w b p)
  inline_uppercase = ap inline_text fixed_uppercase ∙ inline_text_uppercase (fixed_bytes w b p)

  inline_utf8_uppercase : IsUtf8 (inline_at w b p) → IsUtf8 (inline_at w (with_uppercase w b p) p)
  inline_utf8_uppercase u = subst IsUtf8 (sym inline_uppercase) (utf8_uppercase (inline_at w b p) u)

  uppercase_sealed : ModifiesOnly b p (text_size w) (with_uppercase w b p)
  uppercase_sealed = grind (arith, common_steps, inline_length, sealed_wider, with_bytes-sealed, length-map)

  uppercase_valid : IsInline w b p → StaysValid (text_spec w) b (with_uppercase w b p) p
  uppercase_valid inline lo hi l o q (inl h) = inl (inline_stays inline, inline_utf8_uppercase h.1, h.2)
  uppercase_valid inline lo hi l o q (inr h) = cc (inline, h.0)

  uppercase_reads : IsInline w b p → text_at w (with_uppercase w b p) p ≡ map to_ascii_uppercase (text_at w b p)
  uppercase_reads inline = grind (arith, common_steps, inline_reads, inline_stays, inline_uppercase)

  -- the bytes after a call that writes the text in upper case
  module _ (c : List ℕ) where
    pub uppercased_sealed : (inline : Bool) → Uppercases w b p c inline → ModifiesOnly b p (text_size w) c
    uppercased_sealed raised h = grind (arith, common_steps, uppercase_sealed)

    pub uppercased_valid : (inline : Bool) → Uppercases w b p c inline → StaysValid (text_spec w) b c p
    uppercased_valid true h = subst (λ x. StaysValid (text_spec w) b x p) (sym h.1) (uppercase_valid h.0)
    uppercased_valid false h = subst (λ x. StaysValid (text_spec w) b x p) (sym h.1) (λ lo hi l o q k. k)

    pub uppercased_reads : (inline : Bool) → Uppercases w b p c inline → IsInline w b p → text_at w c p ≡ map to_ascii_uppercase (text_at w b p)
    uppercased_reads raised h inline = grind (arith, common_steps, uppercase_reads)

    pub uppercased_text : (inline : Bool) → Uppercases w b p c inline → IsUtf8IfInline w b p → IsUtf8IfInline w c p
    uppercased_text true h text = subst (λ x. IsUtf8IfInline w x p) (sym h.1) (λ inline. inline_utf8_uppercase (text h.0))
    uppercased_text false h text = subst (λ x. IsUtf8IfInline w x p) (sym h.1) text
