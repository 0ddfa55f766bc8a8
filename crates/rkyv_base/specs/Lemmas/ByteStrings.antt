-- Lemmas: byte strings in an archive, always out of line, with a distance and a length.
use Rattle.std.specs.Prelude.{◌≡◌, ℕ, ◌+◌, ◌%◌, ◌≤◌, pos, List, slice_range}
use Rattle.std.specs.Int.{Width, byte_len}
use Rattle.std.specs.Coded.{×_prop}
use Rattle.std.proofs.Common.{refl, arith, subst, sym, ◌∙◌, rules}
use Rattle.std.proofs.lemmas.Grind.{common_steps}
use Rattle.std.proofs.Props.{props}
use Rattle.rkyv_base.specs.declared.errors.VerifyError.{VerifyError}
use Rattle.rkyv_base.specs.{AgreeOn, ByteStringFails, ByteStringReads, IsArchiveWord, IsElement}
use Rattle.rkyv_base.specs.{IsValidByteString, PartIn, RepresentsLocally, Viewable}
use Rattle.rkyv_base.specs.{byte_string_begin, byte_string_length, byte_string_of}
use Rattle.rkyv_base.specs.{byte_string_spec, fixed_bytes, text_size}
use Rattle.rkyv_base.specs.Lemmas.Bytes.{agree_on_part}
use Rattle.rkyv_base.specs.Lemmas.Props.{only_one, prop_by}
use Rattle.rkyv_base.specs.Lemmas.Parts.{part_exclusive, part_one, part_one_failure, part_prop}
use Rattle.rkyv_base.specs.Lemmas.Parts.{part_wider}
use Rattle.rkyv_base.specs.Lemmas.Text.{by_archive_word}

module _ (w : Width) where
  -- a byte string has one position
  byte_string_prop : (s : List ℕ) (p lo hi l : ℕ) → IsProp (IsValidByteString w s p lo hi l)
  byte_string_prop s p lo hi l =
      let P : ℕ → Type 0 =
      λ at. PartIn (byte_string_begin w s p) (byte_string_length w s) 1 lo hi at
      × (l ≡ at + byte_string_length w s) in
      prop_by {B = (at : ℕ) × P at} (λ h. (h.0, (h.1, h.2))) (λ h. (h.0, h.1.0, h.1.1)) (λ _. refl)
      (only_one
      (λ at. ×_prop (part_prop (byte_string_begin w s p) (byte_string_length w s) 1 lo hi at)
      (hlevel props))
      (λ at at' h k. part_one (byte_string_begin w s p) (byte_string_length w s) 1 lo hi at at' h.0
      k.0))

  valid_between : (s : List ℕ) (p lo hi l : ℕ) → IsValidByteString w s p lo hi l → (lo ≤ l)
      × (l ≤ hi)
  valid_between s p lo hi l h = grind (arith, common_steps)

  valid_one : (s : List ℕ) (p lo hi l l' : ℕ) → IsValidByteString w s p lo hi l
      → IsValidByteString w s p lo hi l' → l ≡ l'
  valid_one s p lo hi l l' (at, part, q) (at', part', q') = grind (arith, common_steps, part_one)

  valid_exclusive : (s : List ℕ) (p lo hi l : ℕ) (e : VerifyError) → IsValidByteString w s p lo hi l
      → ByteStringFails w s p lo hi e → ⊥
  valid_exclusive s p lo hi l e h f =
      part_exclusive (byte_string_begin w s p) (byte_string_length w s) 1 lo hi h.0 e h.1 f

  valid_wider : (s : List ℕ) (p lo lo' hi hi' l : ℕ) → lo' ≤ lo → hi ≤ hi'
      → IsValidByteString w s p lo hi l → IsValidByteString w s p lo' hi' l
  valid_wider s p lo lo' hi hi' l low high h = grind (arith, common_steps, part_wider)

  -- a byte string is below the new lower end, so it is the same if those bytes are
  same_bytes : (s b c : List ℕ) (p lo hi l : ℕ) → AgreeOn b c lo l
      → (h : IsValidByteString w s p lo hi l)
      → slice_range b h.0 (h.0 + byte_string_length w s) ≡ slice_range c h.0
      (h.0 + byte_string_length w s)
  same_bytes s b c p lo hi l same (at, part, q) = search (rules, agree_on_part)

  pub byte_string_reads : (s b : List ℕ) (p at : ℕ) → pos at ≡ byte_string_begin w s p
      → byte_string_of w s b p ≡ slice_range b at (at + byte_string_length w s)
  unfolding byte_string_of
  byte_string_reads s b p at begins = grind (arith, common_steps)

  reads_local : (s b c : List ℕ) (p lo hi l : ℕ) (t : List ℕ) → IsValidByteString w s p lo hi l
      → AgreeOn b c lo l → byte_string_of w s b p ≡ t → byte_string_of w s c p ≡ t
  reads_local s b c p lo hi l t h same e =
      byte_string_reads s c p h.0 h.1.begins ∙ sym (same_bytes s b c p lo hi l same h)
      ∙ sym (byte_string_reads s b p h.0 h.1.begins) ∙ e

  -- the byte string of a view is before the view's position
  pub viewable_byte_string : (b : List ℕ) (p : ℕ) → Viewable (byte_string_spec w) b p → (at : ℕ)
      × (pos at ≡ byte_string_begin w (fixed_bytes w b p) p)
      × (at + byte_string_length w (fixed_bytes w b p) ≤ p)
  viewable_byte_string b p v = (v.valid.1.0, v.valid.1.1.begins, v.valid.1.1.below)

  -- the byte string depends only on the bytes on which validity depends
  pub byte_string_local : RepresentsLocally (byte_string_spec w) (ByteStringReads w)
  byte_string_local t b c p lo hi l o h fixed same reads =
      reads_local (fixed_bytes w c p) b c p lo hi l t
      (subst (λ s. IsValidByteString w s p lo hi l) fixed h) same
      (subst (λ s. byte_string_of w s b p ≡ t) fixed reads)

module _ (w : Width) (kind : IsArchiveWord w) where
  pub byte_string_element : IsElement (byte_string_spec w)
  byte_string_element = record {
    align_is = grind (arith, common_steps, by_archive_word);
    size_whole = by_archive_word (λ v. text_size v % byte_len v ≡ 0) refl refl w kind;
    size_small = by_archive_word (λ v. text_size v ≤ 1073741824) (omega arith) (omega arith) w kind;
    proper = λ b p lo hi l. byte_string_prop w (fixed_bytes w b p) p lo hi l;
    rest_in_range = λ b p lo hi l o h. valid_between w (fixed_bytes w b p) p lo hi l h;
    rest_unique = λ b p lo hi l l' h h'. valid_one w (fixed_bytes w b p) p lo hi l l' h h';
    exclusive = λ b p lo hi l e h f. valid_exclusive w (fixed_bytes w b p) p lo hi l e h f;
    one_failure = λ b p lo hi e e' f g. part_one_failure
        (byte_string_begin w (fixed_bytes w b p) p) (byte_string_length w (fixed_bytes w b p)) 1 lo
        hi e e' f g;
    widen_hi = λ b p lo hi hi' l o h. valid_wider w (fixed_bytes w b p) p lo lo hi hi' l (omega
        arith) o h;
    lower_lo = λ b p lo lo' hi l o o' h. (
      l,
      valid_wider w (fixed_bytes w b p) p lo lo' hi hi l o
          (omega arith) h,
      omega arith,
    );
    local = λ b c p lo hi l o fixed same h. subst (λ s. IsValidByteString w s p lo hi l) fixed h;
  }
