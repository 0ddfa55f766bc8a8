-- Lemmas: the format of byte strings: the bytes in one piece, and two words with the distance and
-- the length.
use Rattle.std.specs.Prelude.{FitsSigned, List, length, pos, slice_range, ℕ, ℤ, ◌+ℤ◌, ◌+◌}
use Rattle.std.specs.Prelude.{◌-ℤ◌, ◌-◌, ◌<◌, ◌^◌, ◌≡◌}
use Rattle.std.specs.Int.{Width, byte_len, cast_unsigned, to_le_bytes}
use mir.Val.{bits}
use Rattle.rkyv_base.specs.declared.bytes.BytesResolver.{BytesResolver}
use Rattle.rkyv_base.specs.{ByteStringImage, ByteStringOverflows, ByteStringParts, ByteStringReads}
use Rattle.rkyv_base.specs.{HasWordLength, IsArchiveWord, IsByteStringOf, IsFormat}
use Rattle.rkyv_base.specs.{IsValidByteString, OccursAt, PartIn, byte_string_begin}
use Rattle.rkyv_base.specs.{byte_string_format, byte_string_length, byte_string_spec}
use Rattle.rkyv_base.specs.{byte_string_words, fixed_bytes, signed_at, text_size, written_as}
use Rattle.rkyv_base.specs.Lemmas.Bytes.{occurs_back, occurs_front}
use Rattle.rkyv_base.specs.Lemmas.ByteStrings.{byte_string_reads}
use Rattle.rkyv_base.specs.Lemmas.Pairs.{written_as-format}
use Rattle.rkyv_base.specs.Lemmas.Scalar.{word_bytes}
use Rattle.rkyv_base.specs.Lemmas.Words.{archive_word, counts_read_back, distances_read_back}
use Rattle.std.proofs.Common.{refl, arith, subst, ◌∙◌, ap, inl, inr, length-append}
use Rattle.std.proofs.lemmas.Grind.{common_steps}
use Rattle.std.proofs.lemmas.Int.{ints}
use Rattle.std.proofs.lemmas.List.{take_all}

-- the bytes in an archive at a byte string's position are its fixed bytes
fixed_sits : (w : Width) (c out : List ℕ) (p : ℕ) → length out ≡ text_size w → OccursAt c p out
    → fixed_bytes w c p ≡ out
fixed_sits w c out p n sits = subst (λ k. slice_range c p (p + k) ≡ out) n sits.there

-- a list is at the start of itself
occurs_whole : (s : List ℕ) → OccursAt s 0 s
occurs_whole s =
    let e : 0 + length s - 0 ≡ length s = omega arith in
    record { inside = omega arith; there = rw e (take_all (length s) s (omega arith)) }

-- a distance leads back to the position from which it was taken
add_distance : (p q : ℕ) → pos q ≡ pos p +ℤ (pos q -ℤ pos p)
add_distance p q = omega (arith, ints)

-- the fixed bytes encode the distance and the length
module _ (w : Width) (kind : IsArchiveWord w) (d : ℤ) (n : ℕ) where
  word_is : (m : ℕ) → length (to_le_bytes w m) ≡ byte_len w
  word_is m = word_bytes w (archive_word w kind) m

  words_whole : length (byte_string_words w d n) ≡ text_size w
  words_whole =
      let a : length (to_le_bytes w (cast_unsigned w d)) ≡ byte_len w =
      word_is (cast_unsigned w d) in
      let b : length (to_le_bytes w n) ≡ byte_len w = word_is n in
      length-append (to_le_bytes w (cast_unsigned w d)) (to_le_bytes w n) ∙ omega (arith, a, b)

  distance_reads : FitsSigned w d → signed_at w (byte_string_words w d n) 0 ≡ d
  distance_reads fits =
      distances_read_back w kind d (byte_string_words w d n) 0 fits
      (occurs_front (byte_string_words w d n) 0 (to_le_bytes w (cast_unsigned w d))
      (to_le_bytes w n) (occurs_whole (byte_string_words w d n)))

  length_reads : n < 2 ^ bits w → byte_string_length w (byte_string_words w d n) ≡ n
  length_reads small =
      counts_read_back w kind n (byte_string_words w d n) (byte_len w) small
      (subst (λ k. OccursAt (byte_string_words w d n) k (to_le_bytes w n))
      (omega (arith, word_is (cast_unsigned w d)))
      (occurs_back (byte_string_words w d n) 0 (to_le_bytes w (cast_unsigned w d))
      (to_le_bytes w n) (occurs_whole (byte_string_words w d n))))

module _ (w : Width) (kind : IsArchiveWord w) where
  byte_string_whole : (t : List ℕ) (r : BytesResolver) (p : ℕ) (out : List ℕ)
      → ByteStringImage w t r p out → length out ≡ text_size w
  byte_string_whole t r p out h = grind (arith, common_steps, words_whole)

  byte_string_exclusive : (t : List ℕ) (r : BytesResolver) (p : ℕ) (out : List ℕ)
      → ByteStringImage w t r p out → ByteStringOverflows w t r p → ⊥
  byte_string_exclusive t r p out h f = grind (arith, common_steps)

  written_sound : (t c : List ℕ) (p p0 : ℕ) → HasWordLength w t → FitsSigned w (pos p0 -ℤ pos p)
      → OccursAt c p0 t → fixed_bytes w c p ≡ byte_string_words w (pos p0 -ℤ pos p) (length t)
      → (l : ℕ) × IsValidByteString w (fixed_bytes w c p) p p0 (p0 + length t) l
      × ByteStringReads w c p t
  written_sound t c p p0 small fits sits fixed =
      let d : ℤ = pos p0 -ℤ pos p in
      let s : List ℕ = fixed_bytes w c p in
      let len : byte_string_length w s ≡ length t =
      ap (byte_string_length w) fixed ∙ length_reads w kind d (length t) small in
      let distance : signed_at w s 0 ≡ d =
      ap (λ x. signed_at w x 0) fixed ∙ distance_reads w kind d (length t) fits in
      let begins : pos p0 ≡ byte_string_begin w s p = grind (arith, common_steps, add_distance) in
      let text : slice_range c p0 (p0 + byte_string_length w s) ≡ t =
      ap (λ (n : ℕ). slice_range c p0 (p0 + n)) len ∙ sits.there in
      let part : PartIn (byte_string_begin w s p) (byte_string_length w s) 1 p0 (p0 + length t) p0 =
      grind (arith, common_steps) in (
        p0 + byte_string_length w s,
        (p0, part, refl),
        byte_string_reads w s c p p0 begins ∙ text,
      )

  byte_string_sound : (t : List ℕ) (r : BytesResolver) (c : List ℕ) (p0 p : ℕ) (part out : List ℕ)
      → ByteStringParts w t p0 part r → ByteStringImage w t r p out
      → OccursAt c p0 part → fixed_bytes w c p ≡ out
      → (l : ℕ) × IsValidByteString w (fixed_bytes w c p) p p0 (p0 + length part) l
      × ByteStringReads w c p t
  byte_string_sound t r c p0 p part out h (inr i) s fixed = absurd (omega (arith, h.0, i.0))
  byte_string_sound t r c p0 p part out h (inl i) s fixed =
      let fits : FitsSigned w (pos p0 -ℤ pos p) =
      subst (λ q. FitsSigned w (pos q -ℤ pos p)) h.2 i.1 in
      grind (arith, written_sound)

  -- a written byte string is valid, and represents the byte string
  pub byte_string_is_format : IsFormat (byte_string_spec w) (ByteStringReads w)
      (byte_string_format w)
  byte_string_is_format = record {
    size_exact = byte_string_whole;
    exclusive = byte_string_exclusive;
    sound = λ t r c p0 p part out h i s q o al. byte_string_sound t r c p0 p part out h i s
        (fixed_sits w c out p (byte_string_whole t r p out i) q);
  }

  -- the same for any type that is written as a byte string
  pub byte_string_as_format : {X : Type 0} (as_value : X → List ℕ)
      → IsFormat (byte_string_spec w) (IsByteStringOf w as_value)
      (written_as as_value (byte_string_format w))
  byte_string_as_format as_value =
      written_as-format as_value (byte_string_spec w) (ByteStringReads w) (byte_string_format w)
      byte_string_is_format
