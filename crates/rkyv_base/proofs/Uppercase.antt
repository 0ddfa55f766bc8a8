-- UTF-8 text in ASCII upper case is UTF-8.
use Rattle.std.proofs.lemmas.Grind.{common_steps}
use Rattle.std.specs.Prelude.{◌≡◌, ℕ, ◌≤◌, true, List, [], ◌∷◌, map}
use Rattle.std.specs.Char.{to_ascii_uppercase}
use Rattle.std.specs.Str.{IsUtf8}
use Rattle.std.proofs.Common.{refl, arith}
use Rattle.std.proofs.Math.Utf8.{encode, encodes, scalar, scalars}
use Rattle.std.proofs.lemmas.Bool.{and_parts, cases_lt, cond_both, ltb-true}
use Rattle.std.proofs.lemmas.List.{map-append}
use Rattle.std.proofs.lemmas.Str.{encode_ascii}
use Rattle.std.proofs.lemmas.Str.Ascii.{uppercase_ascii, uppercase_is}

-- the bytes are unchanged
abbrev Stay : List ℕ → Type 0
Stay xs = map to_ascii_uppercase xs ≡ xs

high_stays : (x : ℕ) → 128 ≤ x → to_ascii_uppercase x ≡ x
high_stays x h = (uppercase_is x).2 (omega arith)

stay_cons : (x : ℕ) (xs : List ℕ) → 128 ≤ x → Stay xs → Stay (x ∷ xs)
stay_cons x xs h k = rw (high_stays x h, k) refl

-- no byte of a character from 128 on changes
char_stays : (c : ℕ) → 128 ≤ c → Stay (encode c)
unfolding encode
char_stays c h = grind (arith, common_steps, stay_cons, cond_both, ltb-true)

-- a character in upper case is a character, and its bytes are those in upper case
char_uppercase : (c : ℕ) → map to_ascii_uppercase (encode c) ≡ encode (to_ascii_uppercase c)
char_uppercase c = grind (arith, common_steps, cases_lt, encode_ascii, uppercase_ascii, char_stays, high_stays)

scalar_uppercase : (c : ℕ) → scalar c ≡ true → scalar (to_ascii_uppercase c) ≡ true
scalar_uppercase c h = grind (arith, common_steps, cases_lt, uppercase_ascii, high_stays)

chars_uppercase : (cs : List ℕ) → scalars cs ≡ true
    → (scalars (map to_ascii_uppercase cs) ≡ true) × (encodes (map to_ascii_uppercase cs) ≡ map to_ascii_uppercase (encodes cs))
chars_uppercase [] h = (refl, refl)
chars_uppercase (c ∷ cs) h =
    let both : (scalar c ≡ true) × (scalars cs ≡ true) = and_parts (scalar c) (scalars cs) h in
    grind (arith, common_steps, scalar_uppercase, char_uppercase, map-append, chars_uppercase cs both.1)

pub utf8_uppercase : (t : List ℕ) → IsUtf8 t → IsUtf8 (map to_ascii_uppercase t)
utf8_uppercase t u = grind (arith, common_steps, chars_uppercase u.0 u.1.0)
