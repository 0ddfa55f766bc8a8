-- Lemmas: scalars, which are one little-endian number: numbers, `bool` and `char`.
use Rattle.std.specs.Prelude.{◌≡◌, ℕ, ◌+◌, ◌%◌, ◌^◌, ◌<◌, ◌≤◌, List, length}
use Rattle.std.specs.Int.{Width, byte_len, from_le_bytes, to_le_bytes, w16, w32, w64, w8}
use Rattle.std.specs.Coded.{×_prop}
use Rattle.std.proofs.Common.{refl, arith, subst, sym, ◌∙◌, ap}
use Rattle.std.proofs.lemmas.Grind.{common_steps}
use Rattle.std.proofs.Props.{props}
use Rattle.std.proofs.lemmas.Nat.{from_le_bytes-to_le_bytes_2, from_le_bytes-to_le_bytes_4}
use Rattle.std.proofs.lemmas.Nat.{from_le_bytes-to_le_bytes_8}
use mir.Val.{bits}
use Rattle.rkyv_base.specs.{AreProps, ElementSpec, Encodes, Encoding, IsAlign, IsElement, IsFormat}
use Rattle.rkyv_base.specs.{IsScalar, IsWord, OccursAt, RepresentsLocally, ScalarRepresents}
use Rattle.rkyv_base.specs.{number_at, scalar_format, scalar_spec}

-- a property of each word is one of any word
by_word : (P : Width → Type 0) → P w8 → P w16 → P w32 → P w64 → (w : Width) → IsWord w → P w
by_word P p8 p16 p32 p64 w h = grind (arith, common_steps)

pub word_align : (w : Width) → IsWord w → IsAlign (byte_len w)
word_align w h = grind (arith, common_steps, by_word)

byte_reads_back : (n : ℕ) → n < 2 ^ bits w8 → from_le_bytes w8 (to_le_bytes w8 n) ≡ n
byte_reads_back n h = omega arith

-- a number that fits in its word reads back as written
pub word_reads_back : (w : Width) → IsWord w → (n : ℕ) → n < 2 ^ bits w
    → from_le_bytes w (to_le_bytes w n) ≡ n
word_reads_back w h =
    by_word (λ v. (n : ℕ) → n < 2 ^ bits v → from_le_bytes v (to_le_bytes v n) ≡ n) byte_reads_back
    from_le_bytes-to_le_bytes_2 from_le_bytes-to_le_bytes_4 from_le_bytes-to_le_bytes_8 w h

pub word_bytes : (w : Width) → IsWord w → (n : ℕ) → length (to_le_bytes w n) ≡ byte_len w
word_bytes w h = grind (arith, common_steps, by_word)

word_multiple : (w : Width) → IsWord w → byte_len w % byte_len w ≡ 0
word_multiple w h = by_word (λ v. byte_len v % byte_len v ≡ 0) refl refl refl refl w h

word_small : (w : Width) → IsWord w → byte_len w ≤ 1073741824
word_small w h = grind (arith, common_steps, by_word)

module _ {V : Type 0} (e : Encoding V) (word : IsWord e.word) where
  pub scalar_laws : IsScalar (scalar_spec e) e
  scalar_laws = grind (arith, common_steps)

  pub scalar_element : AreProps e → IsElement (scalar_spec e)
  scalar_element codes = record {
    proper = λ b p lo hi l. ×_prop (hlevel props) (codes (number_at e.word b p));
    align_is = word_align e.word word;
    size_whole = word_multiple e.word word;
    size_small = word_small e.word word;
    rest_in_range = λ b p lo hi l o h. (omega (arith, h.0), omega (arith, h.0));
    rest_unique = λ b p lo hi l l' h h'. h.0 ∙ sym h'.0;
    exclusive = λ b p lo hi l error h f. f.1 h.1;
    one_failure = λ b p lo hi error error' f f'. f.0 ∙ sym f'.0;
    widen_hi = λ b p lo hi hi' l o h. h;
    lower_lo = λ b p lo lo' hi l o o' h. (lo', (refl, h.1), omega (arith, h.0));
    local = grind (arith, common_steps);
  }

module _ {V : Type 0} (s : ElementSpec) (e : Encoding V) (laws : IsScalar s e) where
  pub scalar_local : RepresentsLocally s (ScalarRepresents e)
  scalar_local v b c p lo hi l o h same part st = grind (arith, common_steps)

  -- the number at `p` of bytes in an archive
  number_sits : (v : V) (out c : List ℕ) (p : ℕ) → Encodes e v out → OccursAt c p out
      → number_at e.word c p ≡ e.code v
  number_sits v out c p i sits = grind (arith, common_steps, word_bytes, word_reads_back)

  pub scalar_is_format : IsFormat s (ScalarRepresents e) (scalar_format e)
  scalar_is_format = record {
    size_exact = grind (arith, common_steps, word_bytes);
    exclusive = λ v r p out i f. f;
    sound = λ v r c p0 p part out h i s t o al.
        let n : number_at e.word c p ≡ e.code v = number_sits v out c p i t in (
          p0,
          (laws.is_valid c p p0 (p0 + length part) p0).1 (refl, subst e.IsCode (sym n) i.is_code),
          ap e.value n ∙ i.reads_back,
        );
  }
