-- The stored key that equals a key, after insertions.
use Rattle.std.proofs.Common.{◌≡◌, ℕ, zero, suc, refl, sym, ap, subst, ◌∙◌, arith, inl, inr, Bool}
use Rattle.std.proofs.Common.{true, not, List, [], ◌∷◌, ◌++◌, slice_get, None, Option, Some}
use Rattle.std.proofs.lemmas.Grind.{common_steps}
use Rattle.std.specs.Cmp.{IsEquivalence}
use Rattle.std.specs.HashMap.{HashMap, IsUnique, PutsEntry, get, keys}
use Rattle.std.specs.HashSet.{HashSet, PutsKey, contains}
use Rattle.std.specs.List.{Contains, IsDistinct, find, list_any}
use Rattle.std.specs.List.Sorted.{IsPermutation}
use Rattle.std.specs.Map.{keys_of, lookup}
use Rattle.std.specs.Option.{IsSome, option_or}
use Rattle.std.proofs.lemmas.Bool.{both_ways, cases_Bool, or_left, or_right}
use Rattle.std.proofs.lemmas.List.Folds.{find-append}
use Rattle.std.proofs.lemmas.List.Sorted.{Contains-permutation, IsPermutation-map}
use Rattle.std.proofs.lemmas.List.Sorted.{IsPermutation-to_front, IsPermutation-trans}
use Rattle.std.proofs.lemmas.List.Sorted.{list_any-IsPermutation}
use Rattle.std.proofs.lemmas.Map.Keys.{apart_from_distinct}
use Rattle.std.proofs.lemmas.Option.{none-some, same_Some}
use Rattle.rkyv_table.proofs.Lists.{find_none, none_find}
use Rattle.rkyv_collections.specs.{AddsKey}

-- a found element is in the list, and passes
contained_from_find : {A : Type 0} (test : A → Bool) (xs : List A) (x : A)
    → find test xs ≡ Some x → Contains xs x × (test x ≡ true)
contained_from_find test [] x h = absurd (none-some x h)
contained_from_find test (y ∷ ys) x h = elim (cases_Bool (test y)) [
  | inl here ↦ grind (arith, common_steps, same_Some)
  | inr other ↦
      let h' = rw other at h in
      let rest = contained_from_find test ys x h' in
      let below = rest.0.1 in
      ((suc rest.0.0, omega (arith, below), rest.0.2), rest.1)
]

-- a lookup that finds a value finds a key
found_any : {A B : Type 0} (test : A → Bool) (es : List (A × B)) (x : B)
    → lookup test es ≡ Some x → list_any test (keys_of es) ≡ true
found_any test [] x h = absurd (none-some x h)
found_any test (e ∷ es) x h = elim (cases_Bool (test e.0)) [
  | inl here ↦ or_left (test e.0) (list_any test (keys_of es)) here
  | inr other ↦
      let h' = rw other at h in
      or_right (test e.0) (list_any test (keys_of es)) (found_any test es x h')
]

-- a lookup that finds no value finds no key
pub no_key : {A B : Type 0} (test : A → Bool) (es : List (A × B)) → lookup test es ≡ None
    → find test (keys_of es) ≡ None
no_key test [] none = refl
no_key test (e ∷ es) none = elim (cases_Bool (test e.0)) [
  | inl here ↦ let none' = rw here at none in absurd (none-some e.1 (sym none'))
  | inr other ↦ let none' = rw other at none in rw other (no_key test es none')
]

-- the key of an entry is one of the keys
pub key_contained : {A B : Type 0} (es : List (A × B)) (n : ℕ) (y : A × B)
    → slice_get es n ≡ Some y → Contains (keys_of es) y.0
key_contained [] n y at = absurd (none-some y at)
key_contained (e ∷ es) zero y at = (zero, omega arith, ap (λ z. z.0) (same_Some e y at))
key_contained (e ∷ es) (suc n) y at =
    let rest = key_contained es n y at in
    let below = rest.1 in
    (suc rest.0, omega (arith, below), rest.2)

module _ {A : Type 0} (equal : A → A → Bool) (laws : IsEquivalence equal) where
  -- a key of a list of distinct keys is the one that is found
  pub find_in_distinct : (ks : List A) → IsDistinct equal ks → (k : A) → Contains ks k → (q : A)
      → equal q k ≡ true → find (equal q) ks ≡ Some k
  unfolding IsDistinct
  find_in_distinct [] d k at q same = absurd (omega (arith, at.1))
  find_in_distinct (x ∷ xs) d k (zero, l, at) q same = rw (ap (equal q) at ∙ same) (ap Some at)
  find_in_distinct (x ∷ xs) d k (suc n, l, at) q same = elim (cases_Bool (equal q x)) [
    | inl here ↦
        absurd (both_ways (equal q k)
        (laws.congr q x k here ∙ ap (equal x) (sym at)
        ∙ apart_from_distinct equal (x ∷ xs) 0 (suc n) k d (omega arith) l) same)
    | inr other ↦ rw other (find_in_distinct xs d.1 k (n, omega (arith, l), at) q same)
  ]

  -- distinct keys in another order
  find_permuted : (xs ys : List A) → IsDistinct equal ys → IsPermutation xs ys → (q : A)
      → find (equal q) ys ≡ find (equal q) xs
  find_permuted xs ys d moved q = by (find (equal q) xs) refl
    where
      by : (o : Option A) → find (equal q) xs ≡ o → find (equal q) ys ≡ o
      by None e =
          find_none (equal q) ys
          (sym (list_any-IsPermutation (equal q) xs ys moved) ∙ none_find (equal q) xs e)
      by (Some k) e =
          let at = contained_from_find (equal q) xs k e in
          find_in_distinct ys d k (Contains-permutation xs ys k moved at.0) q at.1

  -- a new key
  key_added : (before after : List A) (a : A) → IsDistinct equal after
      → IsPermutation (a ∷ before) after → AddsKey equal before after a
  key_added before after a d moved q =
      find_permuted (before ++ a ∷ []) after d
      (IsPermutation-trans (before ++ a ∷ []) (a ∷ before) after
      (IsPermutation-to_front before a) moved) q

  -- a key that equals a stored one
  key_kept : (ks : List A) (a : A) → list_any (equal a) ks ≡ true → AddsKey equal ks ks a
  key_kept ks a there q =
      sym (find-append (equal q) ks (a ∷ []) ∙ by (find (equal q) ks) refl)
    where
      by : (o : Option A) → find (equal q) ks ≡ o → option_or o (find (equal q) (a ∷ [])) ≡ o
      by (Some k) e = refl
      by None e = elim (cases_Bool (equal q a)) [
        | inl same ↦
            absurd (both_ways (list_any (equal q) ks) (none_find (equal q) ks e)
            (ap (λ (test : A → Bool). list_any test ks) (λ i z. laws.congr q a z same i) ∙ there))
        | inr other ↦ rw other refl
      ]

  -- the keys of a map after an insertion
  pub entry_added : {B S : Type 0} (m n : HashMap A B S) (a : A) (x : B) (old : Option B)
      → old ≡ get equal m a → IsUnique equal n → PutsEntry equal m n a x old
      → (IsSome old → keys n ≡ keys m) → AddsKey equal (keys m) (keys n) a
  entry_added m n a x None is d puts stay =
      key_added (keys m) (keys n) a d
      (IsPermutation-map (λ e. e.0) ((a, x) ∷ m.entries) n.entries puts)
  entry_added m n a x (Some w) is d puts stay =
      subst (λ (after : List A). AddsKey equal (keys m) after a) (sym (stay refl))
      (key_kept (keys m) a (found_any (equal a) m.entries w (sym is)))

  -- the keys of a set after an insertion
  pub key_put : {S : Type 0} (s n : HashSet A S) (a : A) (added : Bool)
      → added ≡ not (contains equal s a) → IsDistinct equal n.keys → PutsKey s n a added
      → AddsKey equal s.keys n.keys a
  key_put s n a b is d puts = grind (arith, common_steps, key_added, key_kept, both_ways)
