-- The results of validating out-of-line text, step by step.
use Rattle.std.specs.Prelude.{◌≡◌, ℕ, ◌+◌, ◌<◌, ◌≤◌, ◌⊎◌, ℤ, true, List, length, slice_range}
use Rattle.std.specs.Int.{Width, w32, w64}
use Rattle.std.specs.Str.{IsUtf8}
use Rattle.std.proofs.Common.{arith, inl, inr, subst}
use Rattle.std.proofs.lemmas.Grind.{common_steps}
use Rattle.rkyv_base.specs.declared.errors.VerifyError.{VerifyError}
use Rattle.rkyv_base.specs.declared.errors.VerifyError.TheVariants.{InvalidValue}
use Rattle.rkyv_base.specs.{IsValidText, PartFails, PartIn, TextFails, is_out_of_line, out_of_line_begin, out_of_line_length, text_size}

eight_fit : (w : Width) → (w ≡ w32) ⊎ (w ≡ w64) → 8 ≤ text_size w
eight_fit w h = grind (arith, common_steps)

-- out-of-line text has more bytes than fit inline, so at least eight
pub is_long : (w : Width) (b : List ℕ) (at len : ℕ) → (w ≡ w32) ⊎ (w ≡ w64) → text_size w < len → at + len ≤ length b → 8 ≤ length (slice_range b at (at + len))
is_long w b at len kind large within = grind (arith, common_steps, eight_fit)

-- the fixed bytes `s` are of out-of-line text that is too long to be inline.
-- Its start and length are as read
module _ (w : Width) (s b : List ℕ) (p lo hi : ℕ) (begin : ℤ) (len : ℕ) (out_of_line : is_out_of_line s ≡ true) (large : text_size w < len)
    (begins : begin ≡ out_of_line_begin w s p) (lens : len ≡ out_of_line_length w s) where
  long : text_size w < out_of_line_length w s
  long = subst (λ n. text_size w < n) lens large

  pub part_fails : (e : VerifyError) → PartFails begin len 1 lo hi e → TextFails w s b p lo hi e
  part_fails e f =
      inr (out_of_line, inr (inl (long, subst (λ n. PartFails (out_of_line_begin w s p) n 1 lo hi e) lens (subst (λ z. PartFails z len 1 lo hi e) begins f))))

  part_decoded : (at : ℕ) → PartIn begin len 1 lo hi at → PartIn (out_of_line_begin w s p) (out_of_line_length w s) 1 lo hi at
  part_decoded at part = subst (λ n. PartIn (out_of_line_begin w s p) n 1 lo hi at) lens (subst (λ z. PartIn z len 1 lo hi at) begins part)

  pub no_text_fails : (at : ℕ) (e : VerifyError) → PartIn begin len 1 lo hi at → (IsUtf8 (slice_range b at (at + len)) → ⊥) → e ≡ InvalidValue p → TextFails w s b p lo hi e
  no_text_fails at e part none q = grind (arith, common_steps, long, part_decoded)

  pub text_passes : (at : ℕ) → PartIn begin len 1 lo hi at → IsUtf8 (slice_range b at (at + len)) → IsValidText w s b p lo hi (at + len)
  text_passes at part u = grind (arith, common_steps, long, part_decoded)
