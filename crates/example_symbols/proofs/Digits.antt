-- Sixteen hexadecimal digits represent an address.
use Rattle.std.proofs.Common.{◌≡◌, ℕ, ◌^◌, ◌<◌, true, List, [], ◌∷◌, length, take, get_or, arith, refl, subst}
use Rattle.std.specs.Char.{digit_value, is_ascii_hexdigit}
use Rattle.std.specs.List.{list_all}
use Rattle.std.specs.Str.Parse.{AllDigits, IsNumeral, digits_value, without_leading_plus}
use Rattle.std.proofs.lemmas.Bool.Decides.{nat_tests}
use Rattle.std.proofs.lemmas.Int.Digits.{digits_value-lt}
use Rattle.example_symbols.specs.{has_symbol}

pub symbol_layout : (line : List ℕ) → has_symbol line ≡ true → (19 < length line) × (get_or line 18 0 ≡ 32) × (list_all is_ascii_hexdigit (take 16 line) ≡ true)
symbol_layout line h = (grind (arith, nat_tests), grind (arith, nat_tests), grind (arith, nat_tests))

hexdigit_bound : (c : ℕ) → is_ascii_hexdigit c ≡ true → digit_value c < 16
hexdigit_bound c h = grind (arith, nat_tests)

all_hexdigits : (cs : List ℕ) → list_all is_ascii_hexdigit cs ≡ true → AllDigits 16 cs
all_hexdigits [] h = tt
all_hexdigits (c ∷ cs) h = (hexdigit_bound c (grind (arith, nat_tests)), all_hexdigits cs (grind (arith, nat_tests)))

no_plus : (cs : List ℕ) → list_all is_ascii_hexdigit cs ≡ true → without_leading_plus cs ≡ cs
no_plus [] h = refl
no_plus (c ∷ cs) h = grind (arith, nat_tests)

pub hexdigits_numeral : (cs : List ℕ) → list_all is_ascii_hexdigit cs ≡ true → length cs ≡ 16 → (without_leading_plus cs ≡ cs) × IsNumeral 16 cs × (digits_value 16 cs < 2 ^ 64)
hexdigits_numeral cs h n = let all = all_hexdigits cs h in (no_plus cs h, (omega arith, all), subst (λ k. digits_value 16 cs < 16 ^ k) n (digits_value-lt 16 cs all))
