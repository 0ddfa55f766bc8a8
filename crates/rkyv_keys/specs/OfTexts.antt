-- Text, by its bytes, inline or out of line.
use Rattle.std.specs.Prelude.{ℕ, Bool, nat_eq, List}
use Rattle.std.specs.Cmp.Lexicographic.{pointwise}
use Rattle.std.specs.Int.{Width}
use Rattle.rkyv_scan.specs.{HasherCall}
use Rattle.rkyv_base.specs.{text_at}
use Rattle.rkyv_keys.specs.Calls.{text_calls}
use Rattle.rkyv_keys.specs.Equality.{Comparison}
use Rattle.rkyv_keys.specs.OfValues.{value_calls, value_fits, values_same}

-- two texts have the same bytes
abbrev pub same_bytes : List ℕ → List ℕ → Bool
same_bytes = pointwise nat_eq

module _ (w : Width) where
  -- the texts at both positions have the same bytes
  abbrev pub text_same : Comparison
  text_same = values_same (text_at w) same_bytes

  -- the calls of the text at a position
  abbrev pub text_key_calls : List ℕ → ℕ → List HasherCall
  text_key_calls = value_calls (text_at w) text_calls

  -- the text at a position has the bytes of the query
  abbrev pub text_fits : {Q : Type 0} → (Q → List ℕ) → Q → List ℕ → ℕ → Bool
  text_fits as_value = value_fits (text_at w) same_bytes as_value
