-- Bytes that are in no UTF-8 text, and bytes that begin none.
use Rattle.std.specs.Prelude.{All, List, [], false, nat_le, nat_lt, true, ℕ, ◌%◌, ◌&&◌, ◌+◌, ◌/◌}
use Rattle.std.specs.Prelude.{◌<◌, ◌∷◌, ◌≡◌, ◌≤◌}
use Rattle.std.specs.Str.{IsUtf8}
use Rattle.std.proofs.Common.{arith, subst}
use Rattle.std.proofs.lemmas.Grind.{common_steps}
use Rattle.std.proofs.Math.Utf8.{encode, encodes, scalar, scalar_cases, scalars}
use Rattle.std.proofs.lemmas.Bool.{and_parts, cond_both, ltb-true}
use Rattle.std.proofs.lemmas.Bool.Decides.{nat_tests}
use Rattle.std.proofs.lemmas.List.Elements.{All-append}
use Rattle.std.proofs.lemmas.Str.{IsCharBoundary-start}

-- all bytes are below ff
abbrev BelowFf : List ℕ → Type 0
BelowFf xs = All (λ x. x < 255) xs

below_nil : BelowFf []
below_nil k d h = absurd (omega (arith, h))

below_cons : (x : ℕ) (xs : List ℕ) → x < 255 → BelowFf xs → BelowFf (x ∷ xs)
below_cons x xs h g i d k = grind (arith, common_steps)

-- a byte that continues a character
tail_below : (c : ℕ) (xs : List ℕ) → BelowFf xs → BelowFf ((128 + c % 64) ∷ xs)
tail_below c xs h = below_cons (128 + c % 64) xs (omega arith) h

lead_below : (c : ℕ) → scalar c ≡ true → 240 + c / 262144 < 255
lead_below c h = grind (arith, common_steps, scalar_cases)

char_below : (c : ℕ) → scalar c ≡ true → BelowFf (encode c)
unfolding encode
char_below c h =
    grind (arith, common_steps, tail_below, below_nil, cond_both, below_cons, ltb-true, lead_below)

chars_below : (cs : List ℕ) → scalars cs ≡ true → BelowFf (encodes cs)
chars_below [] h = below_nil
chars_below (c ∷ cs) h =
    let both : (scalar c ≡ true) × (scalars cs ≡ true) = and_parts (scalar c) (scalars cs) h in
    All-append (λ x. x < 255) (encode c) (encodes cs) (char_below c both.0) (chars_below cs both.1)

-- no byte of a text is ff
pub text_below : (t : List ℕ) → IsUtf8 t → BelowFf t
text_below t u = subst BelowFf u.1.1 (chars_below u.0 u.1.0)

-- the first byte of a text doesn't have the form 10xxxxxx
pub text_begins : (x : ℕ) (t : List ℕ) → IsUtf8 (x ∷ t) → (nat_le 128 x && nat_lt x 192) ≡ false
text_begins x t u =
    let lead : 128 ≤ x → 192 ≤ x = (IsCharBoundary-start (x ∷ t) u).1 (omega arith) in
    grind (arith, nat_tests)
