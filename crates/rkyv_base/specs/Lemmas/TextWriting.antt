-- Lemmas: the format of text: inline, filled up with ff, if it fits in the fixed bytes,
-- and else in one piece out of line.
use Rattle.std.specs.Prelude.{FitsSigned, List, [], false, get_or, length, nat_le, nat_lt, pos}
use Rattle.std.specs.Prelude.{replicate, slice_range, true, ℕ, ℤ, ◌&&◌, ◌++◌, ◌+ℤ◌, ◌+◌}
use Rattle.std.specs.Prelude.{◌-ℤ◌, ◌-◌, ◌<◌, ◌==◌, ◌∷◌, ◌≡◌, ◌≤◌}
use Rattle.std.specs.Int.{Width, byte_len}
use Rattle.std.specs.Str.{IsUtf8}
use Rattle.rkyv_base.specs.declared.strings.TextResolver.{TextResolver}
use Rattle.rkyv_base.specs.{IsArchiveWord, IsFormat, IsLong, IsTextOf, IsValidText, IsWord}
use Rattle.rkyv_base.specs.{OccursAt, PartIn, TextImage, TextOverflows, TextParts, TextReads}
use Rattle.rkyv_base.specs.{decode_length, fixed_bytes, inline_bytes, inline_text, is_out_of_line}
use Rattle.rkyv_base.specs.{length_word, out_of_line_begin, out_of_line_bytes, out_of_line_length}
use Rattle.rkyv_base.specs.{signed_at, text_format, text_limit, text_size, text_spec, written_as}
use Rattle.rkyv_base.specs.Lemmas.Pairs.{written_as-format}
use Rattle.rkyv_base.specs.Lemmas.Text.{by_archive_word, out_of_line_reads, inline_reads}
use Rattle.rkyv_base.specs.Lemmas.Utf8.{text_begins, text_below}
use Rattle.std.proofs.Common.{refl, arith, sym, subst, ◌∙◌, ap, inl, inr, length-append}
use Rattle.std.proofs.lemmas.Grind.{common_steps}
use Rattle.std.proofs.Math.ListN.{get_or-append}
use Rattle.std.proofs.Math.Seq.{drop-append_seam, get_or-append_right, take-append_seam}
use Rattle.std.proofs.lemmas.Bool.Decides.{nat_tests}
use Rattle.std.proofs.lemmas.Int.{ints, to_z-of_z}
use Rattle.std.proofs.lemmas.List.{get_or-replicate, length-replicate, take_all}
use Rattle.std.proofs.lemmas.List.Sums.{position_or_len_is}
use Rattle.rkyv_base.specs.Lemmas.Scalar.{word_bytes, word_reads_back}

-- the bytes in an archive at a text's position are its fixed bytes
fixed_sits : (w : Width) (c out : List ℕ) (p : ℕ) → length out ≡ text_size w → OccursAt c p out
    → fixed_bytes w c p ≡ out
fixed_sits w c out p n sits = subst (λ k. slice_range c p (p + k) ≡ out) n sits.there

length_inline : (size : ℕ) (t : List ℕ) → length t ≤ size → length (inline_bytes size t) ≡ size
length_inline size t h = simp (length-append, length-replicate) (omega arith)

-- inline text doesn't have the form of out-of-line text
inline_form : (size : ℕ) (t : List ℕ) → 0 < size → IsUtf8 t
    → is_out_of_line (inline_bytes size t) ≡ false
inline_form size [] h u = rw (get_or-replicate {A = ℕ} (size - 0) 0 255 0 (omega arith)) refl
inline_form size (x ∷ t) h u = text_begins x t u

-- inline text ends before the first ff
inline_ends : (size : ℕ) (t : List ℕ) → IsUtf8 t → inline_text (inline_bytes size t) ≡ t
inline_ends size t u =
    let fill : List ℕ = replicate (size - length t) 255 in
    let below : (k : ℕ) → k < length t → (get_or (t ++ fill) k 0 == 255) ≡ false =
    grind (arith, common_steps, text_below, get_or-append, nat_tests) in
    grind (
      arith,
      common_steps,
      length-append t fill,
      get_or-append_right t fill (length t) 0 (omega arith),
      take-append_seam t fill,
      length-replicate,
      get_or-replicate,
      position_or_len_is,
    )

-- a byte of the form 10xxxxxx
out_of_line_byte : (x : ℕ) → 128 ≤ x → x < 192 → (nat_le 128 x && nat_lt x 192) ≡ true
out_of_line_byte x h g = grind (arith, nat_tests)

is_word : (w : Width) → IsArchiveWord w → IsWord w
is_word w h = grind (arith, common_steps)

-- the first of two parts, and the second
first_part : (x y : List ℕ) (k : ℕ) → length x ≡ k → slice_range (x ++ y) 0 (0 + k) ≡ x
first_part x y k n = let e : 0 + k - 0 ≡ length x = omega arith in rw e (take-append_seam x y)

second_part : (x y : List ℕ) (k : ℕ) → length x ≡ k → length y ≡ k
    → slice_range (x ++ y) k (k + k) ≡ y
second_part x y k n m = grind (arith, common_steps, drop-append_seam, take_all)

length_decoded : (n : ℕ) → decode_length (length_word n) ≡ n
length_decoded n = omega arith

-- the fixed bytes of out-of-line text encode its form, its length and its distance
module _ (w : Width) (kind : IsArchiveWord w) (n : ℕ) (d : ℤ) where
  pub length_out_of_line : length (out_of_line_bytes w n d) ≡ text_size w
  length_out_of_line = grind (arith, common_steps, by_archive_word)

  out_of_line_first : is_out_of_line (out_of_line_bytes w n d) ≡ true
  out_of_line_first = grind (arith, common_steps, by_archive_word, out_of_line_byte)

  length_reads : n < text_limit w → out_of_line_length w (out_of_line_bytes w n d) ≡ n
  length_reads small =
      grind (
        arith,
        common_steps,
        by_archive_word,
        first_part,
        word_bytes,
        is_word,
        word_reads_back,
        length_decoded,
      )

  distance_reads : FitsSigned w d → signed_at w (out_of_line_bytes w n d) (byte_len w) ≡ d
  distance_reads fits = grind (arith, is_word, second_part, word_bytes, word_reads_back, to_z-of_z)

-- a distance leads back to the position from which it was taken
add_distance : (p q : ℕ) → pos q ≡ pos p +ℤ (pos q -ℤ pos p)
add_distance p q = omega (arith, ints)

module _ (w : Width) (kind : IsArchiveWord w) where
  sizes : (0 < text_size w) × (text_size w < text_limit w)
  sizes = grind (arith, common_steps, by_archive_word)

  text_whole : (t : List ℕ) (r : TextResolver) (p : ℕ) (out : List ℕ) → TextImage w t r p out
      → length out ≡ text_size w
  text_whole t r p out h = grind (arith, common_steps, length_inline, length_out_of_line)

  inline_sound : (t c : List ℕ) (p lo hi : ℕ) → IsUtf8 t
      → fixed_bytes w c p ≡ inline_bytes (text_size w) t
      → (l : ℕ) × IsValidText w (fixed_bytes w c p) c p lo hi l × TextReads w c p t
  inline_sound t c p lo hi u fixed =
      let inline : is_out_of_line (fixed_bytes w c p) ≡ false =
      grind (arith, common_steps, inline_form, sizes) in
      let text : inline_text (fixed_bytes w c p) ≡ t = grind (arith, common_steps, inline_ends) in (
        lo,
        inl (inline, subst IsUtf8 (sym text) u, refl),
        inline_reads w (fixed_bytes w c p) c p inline ∙ text,
      )

  out_of_line_sound : (t c : List ℕ) (p p0 : ℕ) → IsUtf8 t → IsLong w t
      → FitsSigned w (pos p0 -ℤ pos p)
      → OccursAt c p0 t
      → fixed_bytes w c p ≡ out_of_line_bytes w (length t) (pos p0 -ℤ pos p)
      → (l : ℕ) × IsValidText w (fixed_bytes w c p) c p p0 (p0 + length t) l × TextReads w c p t
  out_of_line_sound t c p p0 u long fits sits fixed =
      let d : ℤ = pos p0 -ℤ pos p in
      let s : List ℕ = fixed_bytes w c p in
      let out_of_line : is_out_of_line s ≡ true =
      ap is_out_of_line fixed ∙ out_of_line_first w kind (length t) d in
      let len : out_of_line_length w s ≡ length t = grind (arith, length_reads) in
      let distance : signed_at w s (byte_len w) ≡ d = grind (arith, distance_reads) in
      let begins : pos p0 ≡ out_of_line_begin w s p = grind (arith, common_steps, add_distance) in
      let text : slice_range c p0 (p0 + out_of_line_length w s) ≡ t =
      ap (λ (n : ℕ). slice_range c p0 (p0 + n)) len ∙ sits.there in
      let part : PartIn (out_of_line_begin w s p) (out_of_line_length w s) 1 p0 (p0 + length t) p0 =
      grind (arith, common_steps) in (
        p0 + out_of_line_length w s,
        inr (out_of_line, omega (arith, len, long.0), p0, part, subst IsUtf8 (sym text) u, refl),
        out_of_line_reads w s c p p0 out_of_line begins ∙ text,
      )

  text_exclusive : (t : List ℕ) (r : TextResolver) (p : ℕ) (out : List ℕ) → TextImage w t r p out
      → TextOverflows w t r p → ⊥
  text_exclusive t r p out h f = grind (arith, common_steps)

  text_sound : (t : List ℕ) (r : TextResolver) (c : List ℕ) (p0 p : ℕ) (part out : List ℕ)
      → TextParts w t p0 part r → TextImage w t r p out
      → OccursAt c p0 part → fixed_bytes w c p ≡ out
      → (l : ℕ) × IsValidText w (fixed_bytes w c p) c p p0 (p0 + length part) l × TextReads w c p t
  text_sound t r c p0 p part out h (inl i) s fixed = grind (arith, common_steps, inline_sound)
  text_sound t r c p0 p part out (u, inl h) (inr (inl i)) s fixed = grind (arith, common_steps)
  text_sound t r c p0 p part out (u, inl h) (inr (inr i)) s fixed = grind (arith, common_steps)
  text_sound t r c p0 p part out (u, inr h) (inr (inr i)) s fixed = grind (arith, common_steps)
  text_sound t r c p0 p part out (u, inr h) (inr (inl i)) s fixed =
      let fits : FitsSigned w (pos p0 -ℤ pos p) =
      subst (λ q. FitsSigned w (pos q -ℤ pos p)) h.2 i.1 in
      grind (arith, out_of_line_sound)

  -- a written text is valid, and represents the text
  pub text_is_format : IsFormat (text_spec w) (TextReads w) (text_format w)
  text_is_format = record {
    size_exact = text_whole;
    exclusive = text_exclusive;
    sound = λ t r c p0 p part out h i s q o al. text_sound t r c p0 p part out h i s
        (fixed_sits w c out p (text_whole t r p out i) q);
  }

  -- the same for any type that is written as a text
  pub text_as_format : {X : Type 0} (as_value : X → List ℕ)
      → IsFormat (text_spec w) (IsTextOf w as_value)
      (written_as as_value (text_format w))
  text_as_format as_value =
      written_as-format as_value (text_spec w) (TextReads w) (text_format w) text_is_format
