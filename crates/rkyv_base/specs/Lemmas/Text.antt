-- Lemmas: text in an archive: inline in its fixed bytes, or out of line, with a length and a
-- distance.
use Rattle.std.specs.Prelude.{◌≡◌, ℕ, ◌+◌, ◌%◌, ◌<◌, ◌≤◌, pos, true, false, List, slice_range}
use Rattle.std.specs.Int.{Width, byte_len, w32, w64}
use Rattle.std.specs.Str.{IsUtf8}
use Rattle.std.specs.Coded.{le_prop, ×_prop}
use Rattle.std.proofs.Common.{refl, arith, subst, sym, ◌∙◌, inl, inr, rules}
use Rattle.std.proofs.lemmas.Grind.{common_steps}
use Rattle.std.proofs.Props.{props}
use Rattle.rkyv_base.specs.declared.errors.VerifyError.{VerifyError}
use Rattle.rkyv_base.specs.{AgreeOn, IsArchiveWord, IsElement, IsValidInline}
use Rattle.rkyv_base.specs.{IsValidOutOfLine, IsValidText, OutOfLineFails, PartIn}
use Rattle.rkyv_base.specs.{RepresentsLocally, TextFails, TextReads, Viewable, fixed_bytes}
use Rattle.rkyv_base.specs.{inline_text, is_out_of_line, out_of_line_begin, out_of_line_length}
use Rattle.rkyv_base.specs.{text_at, text_of, text_size, text_spec}
use Rattle.rkyv_base.specs.Lemmas.Bytes.{agree_on_part}
use Rattle.rkyv_base.specs.Lemmas.Props.{either_prop, only_one, prop_by}
use Rattle.rkyv_base.specs.Lemmas.Parts.{part_exclusive, part_one, part_one_failure, part_prop}
use Rattle.rkyv_base.specs.Lemmas.Parts.{part_wider}

-- a property of both words is one of either
pub by_archive_word : (P : Width → Type 0) → P w32 → P w64 → (w : Width) → IsArchiveWord w → P w
by_archive_word P p32 p64 w h = grind (arith, common_steps)

module _ (w : Width) where
  -- a text is inline or out of line, and an out-of-line text has one position
  out_of_line_prop : (s b : List ℕ) (p lo hi l : ℕ) → IsProp (IsValidOutOfLine w s b p lo hi l)
  out_of_line_prop s b p lo hi l =
      let P : ℕ → Type 0 =
      λ at. PartIn (out_of_line_begin w s p) (out_of_line_length w s) 1 lo hi at
      × (IsUtf8 (slice_range b at (at + out_of_line_length w s))
      × (l ≡ at + out_of_line_length w s)) in
      prop_by {B = (is_out_of_line s ≡ true) × ((text_size w < out_of_line_length w s) × ((at : ℕ)
      × P at))}
      (λ h. (h.0, (h.1, (h.2, (h.3, (h.4, h.5))))))
      (λ h. (h.0, h.1.0, h.1.1.0, h.1.1.1.0, h.1.1.1.1.0, h.1.1.1.1.1)) (λ _. refl)
      (×_prop (hlevel props) (×_prop le_prop (only_one
      (λ at. ×_prop (part_prop (out_of_line_begin w s p) (out_of_line_length w s) 1 lo hi at)
      (×_prop (hlevel props) (hlevel props)))
      (λ at at' h k. part_one (out_of_line_begin w s p)
      (out_of_line_length w s) 1 lo hi at at' h.0 k.0))))

  inline_prop : (s : List ℕ) (lo l : ℕ) → IsProp (IsValidInline s lo l)
  inline_prop s lo l =
      prop_by {B = (is_out_of_line s ≡ false) × (IsUtf8 (inline_text s) × (l ≡ lo))}
      (λ h. (h.0, (h.1, h.2))) (λ h. (h.0, h.1.0, h.1.1)) (λ _. refl)
      (×_prop (hlevel props) (×_prop (hlevel props) (hlevel props)))

  text_prop : (s b : List ℕ) (p lo hi l : ℕ) → IsProp (IsValidText w s b p lo hi l)
  text_prop s b p lo hi l =
      either_prop (inline_prop s lo l) (out_of_line_prop s b p lo hi l) (λ h k. cc (h.0, k.0))

  valid_between : (s b : List ℕ) (p lo hi l : ℕ) → lo ≤ hi → IsValidText w s b p lo hi l → (lo ≤ l)
      × (l ≤ hi)
  valid_between s b p lo hi l o h = grind (arith, common_steps)

  valid_one : (s b : List ℕ) (p lo hi l l' : ℕ) → IsValidText w s b p lo hi l
      → IsValidText w s b p lo hi l' → l ≡ l'
  valid_one s b p lo hi l l' (inl h) (inl k) = h.2 ∙ sym k.2
  valid_one s b p lo hi l l' (inl h) (inr k) = cc (h.0, k.0)
  valid_one s b p lo hi l l' (inr h) (inl k) = cc (h.0, k.0)
  valid_one s b p lo hi l l' (inr (f, n, at, part, u, q)) (inr (f', n', at', part', u', q')) =
      grind (arith, common_steps, part_one)

  valid_exclusive : (s b : List ℕ) (p lo hi l : ℕ) (e : VerifyError) → IsValidText w s b p lo hi l
      → TextFails w s b p lo hi e → ⊥
  valid_exclusive s b p lo hi l e (inl h) (inl k) = k.1 h.1
  valid_exclusive s b p lo hi l e (inl h) (inr k) = cc (h.0, k.0)
  valid_exclusive s b p lo hi l e (inr h) (inl k) = cc (h.0, k.0)
  valid_exclusive s b p lo hi l e (inr h) (inr (f, inl k)) = omega (arith, h.1, k.0)
  valid_exclusive s b p lo hi l e (inr (f, n, at, part, u, q)) (inr (f', inr (inl k))) =
      part_exclusive (out_of_line_begin w s p) (out_of_line_length w s) 1 lo hi at e part k.1
  valid_exclusive s b p lo hi l e (inr (f, n, at, part, u, q))
      (inr (f', inr (inr (n', at', part', none, q')))) = grind (arith, common_steps, part_one)

  out_of_line_one_failure : (s b : List ℕ) (p lo hi : ℕ) (e e' : VerifyError)
      → OutOfLineFails w s b p lo hi e
      → OutOfLineFails w s b p lo hi e' → e ≡ e'
  out_of_line_one_failure s b p lo hi e e' (inl f) (inl g) = f.1 ∙ sym g.1
  out_of_line_one_failure s b p lo hi e e' (inl f) (inr (inl g)) = absurd (omega (arith, f.0, g.0))
  out_of_line_one_failure s b p lo hi e e' (inl f) (inr (inr g)) = absurd (omega (arith, f.0, g.0))
  out_of_line_one_failure s b p lo hi e e' (inr (inl f)) (inl g) = absurd (omega (arith, f.0, g.0))
  out_of_line_one_failure s b p lo hi e e' (inr (inr f)) (inl g) = absurd (omega (arith, f.0, g.0))
  out_of_line_one_failure s b p lo hi e e' (inr (inl f)) (inr (inl g)) =
      part_one_failure (out_of_line_begin w s p) (out_of_line_length w s) 1 lo hi e e' f.1 g.1
  out_of_line_one_failure s b p lo hi e e' (inr (inl f)) (inr (inr g)) =
      grind (arith, part_exclusive)
  out_of_line_one_failure s b p lo hi e e' (inr (inr f)) (inr (inl g)) =
      grind (arith, part_exclusive)
  out_of_line_one_failure s b p lo hi e e' (inr (inr f)) (inr (inr g)) = f.4 ∙ sym g.4

  text_one_failure : (s b : List ℕ) (p lo hi : ℕ) (e e' : VerifyError) → TextFails w s b p lo hi e
      → TextFails w s b p lo hi e' → e ≡ e'
  text_one_failure s b p lo hi e e' (inl f) (inl g) = f.2 ∙ sym g.2
  text_one_failure s b p lo hi e e' (inl f) (inr g) = cc (f.0, g.0)
  text_one_failure s b p lo hi e e' (inr f) (inl g) = cc (f.0, g.0)
  text_one_failure s b p lo hi e e' (inr f) (inr g) =
      grind (arith, common_steps, out_of_line_one_failure s b p lo hi e e' f.1 g.1)

  valid_wider : (s b : List ℕ) (p lo lo' hi hi' l : ℕ) → lo' ≤ lo → hi ≤ hi'
      → IsValidOutOfLine w s b p lo hi l → IsValidOutOfLine w s b p lo' hi' l
  valid_wider s b p lo lo' hi hi' l low high (f, n, at, part, u, q) =
      grind (arith, common_steps, part_wider)

  valid_higher : (s b : List ℕ) (p lo hi hi' l : ℕ) → hi ≤ hi' → IsValidText w s b p lo hi l
      → IsValidText w s b p lo hi' l
  valid_higher s b p lo hi hi' l o h = grind (arith, common_steps, valid_wider)

  valid_lower : (s b : List ℕ) (p lo lo' hi l : ℕ) → lo' ≤ lo → IsValidText w s b p lo hi l
      → (l' : ℕ) × IsValidText w s b p lo' hi l' × (l' ≤ l)
  valid_lower s b p lo lo' hi l o (inl h) = (lo', inl (h.0, h.1, refl), omega (arith, h.2))
  valid_lower s b p lo lo' hi l o (inr h) =
      (l, inr (valid_wider s b p lo lo' hi hi l o (omega arith) h), omega arith)

  -- the out-of-line text is below the new lower end, so it is the same if those bytes are
  same_text : (s b c : List ℕ) (p lo hi l : ℕ) → AgreeOn b c lo l
      → (h : IsValidOutOfLine w s b p lo hi l)
      → slice_range b h.2 (h.2 + out_of_line_length w s) ≡ slice_range c h.2
      (h.2 + out_of_line_length w s)
  same_text s b c p lo hi l part (f, n, at, at_part, u, q) = search (rules, agree_on_part)

  valid_local : (s b c : List ℕ) (p lo hi l : ℕ) → AgreeOn b c lo l → IsValidText w s b p lo hi l
      → IsValidText w s c p lo hi l
  valid_local s b c p lo hi l part (inl h) = inl h
  valid_local s b c p lo hi l part (inr h) =
      inr (h.0, h.1, h.2, h.3, subst IsUtf8 (same_text s b c p lo hi l part h) h.4, h.5)

  -- inline text, and out-of-line text, as read
  pub inline_reads : (s b : List ℕ) (p : ℕ) → is_out_of_line s ≡ false
      → text_of w s b p ≡ inline_text s
  unfolding text_of
  inline_reads s b p inline = rw inline refl

  pub out_of_line_reads : (s b : List ℕ) (p at : ℕ) → is_out_of_line s ≡ true
      → pos at ≡ out_of_line_begin w s p
      → text_of w s b p ≡ slice_range b at (at + out_of_line_length w s)
  unfolding text_of
  out_of_line_reads s b p at out_of_line begins = grind (arith, common_steps)

  reads_local : (s b c : List ℕ) (p lo hi l : ℕ) (t : List ℕ) → IsValidText w s b p lo hi l
      → AgreeOn b c lo l → text_of w s b p ≡ t → text_of w s c p ≡ t
  reads_local s b c p lo hi l t (inl h) part e = grind (arith, common_steps, inline_reads)
  reads_local s b c p lo hi l t (inr h) part e =
      out_of_line_reads s c p h.2 h.0 h.3.begins ∙ sym (same_text s b c p lo hi l part h)
      ∙ sym (out_of_line_reads s b p h.2 h.0 h.3.begins) ∙ e

  -- a valid text is UTF-8
  valid_text : (s b : List ℕ) (p lo hi l : ℕ) → IsValidText w s b p lo hi l
      → IsUtf8 (text_of w s b p)
  valid_text s b p lo hi l (inl h) = subst IsUtf8 (sym (inline_reads s b p h.0)) h.1
  valid_text s b p lo hi l (inr h) =
      subst IsUtf8 (sym (out_of_line_reads s b p h.2 h.0 h.3.begins)) h.4

  -- the text of a view is UTF-8
  pub viewable_text : (b : List ℕ) (p : ℕ) → Viewable (text_spec w) b p → IsUtf8 (text_at w b p)
  viewable_text b p v = valid_text (fixed_bytes w b p) b p 0 p v.valid.0 v.valid.1

  -- the out-of-line text of a view is before the view's position
  pub viewable_out_of_line : (b : List ℕ) (p : ℕ) → Viewable (text_spec w) b p
      → is_out_of_line (fixed_bytes w b p) ≡ true
      → (at : ℕ) × (pos at ≡ out_of_line_begin w (fixed_bytes w b p) p)
      × (at + out_of_line_length w (fixed_bytes w b p) ≤ p)
  viewable_out_of_line b p v out_of_line =
      elim (v.valid.1) [
        | inl h ↦ cc (h.0, out_of_line)
        | inr h ↦ (h.2, h.3.begins, h.3.below)
      ]

  -- the text depends only on the bytes on which validity depends
  pub text_local : RepresentsLocally (text_spec w) (TextReads w)
  text_local t b c p lo hi l o h fixed part reads =
      reads_local (fixed_bytes w c p) b c p lo hi l t
      (subst (λ s. IsValidText w s b p lo hi l) fixed h) part
      (subst (λ s. text_of w s b p ≡ t) fixed reads)

module _ (w : Width) (kind : IsArchiveWord w) where
  pub text_element : IsElement (text_spec w)
  text_element = record {
    align_is = grind (arith, common_steps, by_archive_word);
    size_whole = by_archive_word (λ v. text_size v % byte_len v ≡ 0) refl refl w kind;
    size_small = by_archive_word (λ v. text_size v ≤ 1073741824) (omega arith) (omega arith) w kind;
    proper = λ b p lo hi l. text_prop w (fixed_bytes w b p) b p lo hi l;
    rest_in_range = λ b p lo hi l o h. valid_between w (fixed_bytes w b p) b p lo hi l o h;
    rest_unique = λ b p lo hi l l' h h'. valid_one w (fixed_bytes w b p) b p lo hi l l' h h';
    exclusive = λ b p lo hi l e h f. valid_exclusive w (fixed_bytes w b p) b p lo hi l e h f;
    one_failure = λ b p lo hi e e' f g. text_one_failure w (fixed_bytes w b p) b p lo hi e e' f g;
    widen_hi = λ b p lo hi hi' l o h. valid_higher w (fixed_bytes w b p) b p lo hi hi' l o h;
    lower_lo = λ b p lo lo' hi l o o' h. valid_lower w (fixed_bytes w b p) b p lo lo' hi l o h;
    local = λ b c p lo hi l o fixed part h. valid_local w (fixed_bytes w c p) b c p lo hi l part
        (subst (λ s. IsValidText w s b p lo hi l) fixed h);
  }
