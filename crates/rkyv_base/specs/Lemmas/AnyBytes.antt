-- Lemmas: elements for which all bytes of their size are valid.
use Rattle.std.specs.Prelude.{◌≡◌, ℕ, ◌%◌, ◌≤◌}
use Rattle.std.proofs.Common.{refl, arith, sym, ◌∙◌}
use Rattle.std.proofs.Props.{props}
use Rattle.rkyv_base.specs.ElementSpecs.{IsAlign, IsElement, any_bytes}

pub any_bytes-element : (size align : ℕ) → IsAlign align → size % align ≡ 0 → size ≤ 1073741824
    → IsElement (any_bytes size align)
any_bytes-element size align is_align whole small = record {
  align_is = is_align;
  size_whole = whole;
  size_small = small;
  proper = λ b p lo hi l. hlevel props;
  rest_in_range = λ b p lo hi l o h. (omega (arith, h), omega (arith, h));
  rest_unique = λ b p lo hi l l' h h'. h ∙ sym h';
  exclusive = λ b p lo hi l e h f. f;
  one_failure = λ b p lo hi e e' f f'. absurd f;
  widen_hi = λ b p lo hi hi' l o h. h;
  lower_lo = λ b p lo lo' hi l o o' h. (lo', refl, omega (arith, h));
  local = λ b c p lo hi l o same part h. h;
}
