-- Lookups of several keys, whose results are stored one behind the other.
use Rattle.std.proofs.Common.{◌≡◌, ◌∙◌, ℕ, ◌+◌, ◌<◌, ◌≤◌, List, Some, ap, arith, drop, get_or, length, refl, slice_set, subst, sym}
use Rattle.std.specs.Prelude.{slice_get}
use Rattle.std.proofs.lemmas.Grind.{drop_more_same}
use Rattle.std.proofs.lemmas.List.{drop-set-lt, get_or-drop, length-set}
use Rattle.std.proofs.lemmas.Option.{get_or_from_slice_get, slice_get_within}
use Rattle.rkyv_table.proofs.Lists.{set_each}
use Rattle.ffi_calls.specs.{IsLookedUp, StoresLookups, Types}
use Rattle.ffi_calls.specs.declared.any_value.AnyValue.{AnyValue}
use Rattle.ffi_calls.specs.declared.any_value.LookedUp.{LookedUp}

module _ (t : Types AnyValue) (b : List ℕ) (before : List LookedUp) where
  -- the first `n` results of `now` are the results of the keys, and the others are as in `before`
  pub record Found (n : ℕ) (now : List LookedUp) : Type 0 where
    pub same : length now ≡ length before
    pub each : (i : ℕ) (old new : LookedUp) → i < n → slice_get before i ≡ Some old → slice_get now i ≡ Some new → IsLookedUp t b old new
    pub rest : drop n now ≡ drop n before

  pub none_found : Found 0 before
  none_found = record { same = refl; each = λ i old new small there then. absurd (omega (arith, small)); rest = refl }

  -- a result that is not stored yet is as it was
  unchanged : (n : ℕ) (now : List LookedUp) (old d : LookedUp) → Found n now → slice_get before n ≡ Some old → get_or now n d ≡ old
  unchanged n now old d s there =
      let here : n + 0 ≡ n = omega arith in
      let same_then = sym (get_or-drop n now 0 d) ∙ ap (λ xs. get_or xs 0 d) s.rest ∙ get_or-drop n before 0 d in
      subst (λ k. get_or now k d ≡ get_or before k d) here same_then ∙ get_or_from_slice_get before n old d there

  pub one_found : (n : ℕ) (now : List LookedUp) (looked d : LookedUp) → n < length before → Found n now → IsLookedUp t b (get_or now n d) looked
      → Found (n + 1) (slice_set now n looked)
  one_found n now looked d small s is =
      let same = s.same in
      let fits : n < length now = omega (arith, small, same) in
      let IsStored : ℕ → LookedUp → Type 0 = λ j new. (old : LookedUp) → j < n + 1 → slice_get before j ≡ Some old → IsLookedUp t b old new in
      let own : IsStored n looked = λ old some there. subst (λ x. IsLookedUp t b x looked) (unchanged n now old d s there) is in
      record {
        same = length-set now n looked ∙ s.same;
        each = λ i old new few there then. set_each IsStored now n looked fits own (λ j new j_there other old some there. s.each j old new (omega (arith, some, other)) there j_there) i new then old few there;
        rest = drop-set-lt (n + 1) now n looked (omega arith) ∙ drop_more_same now before n s.rest;
      }

  pub all_found : (n : ℕ) (now : List LookedUp) → length before ≤ n → Found n now → StoresLookups t b before now
  all_found n now all s = record {
    number = s.same;
    each = λ i old new there then. s.each i old new (omega (arith, all, slice_get_within before i old there)) there then;
  }
