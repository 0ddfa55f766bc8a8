-- Lemmas: laws of values at several positions, validated in order.
use Rattle.std.specs.Prelude.{◌≡◌, ℕ, ◌+◌, ◌<◌, ◌≤◌, List, [], ◌∷◌}
use Rattle.std.specs.Coded.{×_prop}
use Rattle.std.proofs.Common.{refl, arith, subst, sym, ◌∙◌, inl, inr}
use Rattle.std.proofs.lemmas.Grind.{common_steps}
use Rattle.std.proofs.Props.{props}
use Rattle.rkyv_scan.specs.{AllBelow}
use Rattle.rkyv_base.specs.declared.errors.VerifyError.{VerifyError}
use Rattle.rkyv_base.specs.{AgreeOn, ElementSpec, IsElement}
use Rattle.rkyv_base.specs.Lemmas.Bytes.{agree_on_part}
use Rattle.rkyv_base.specs.Lemmas.Props.{only_one, prop_by}
use Rattle.rkyv_table.specs.Table.ValidItems.{AreValidAt, FirstFails}

module _ (s : ElementSpec) (law : IsElement s) (at : ℕ → ℕ) where
  pub all_between : (b : List ℕ) (hi : ℕ) (is : List ℕ) (lo l : ℕ) → lo ≤ hi
      → AreValidAt s at b hi is lo l → (lo ≤ l) × (l ≤ hi)
  all_between b hi [] lo l o h = (omega arith, omega arith)
  all_between b hi (i ∷ is) lo l o h =
      let k : (lo ≤ h.0) × (h.0 ≤ hi) = law.rest_in_range b (at i) lo hi h.0 o h.1 in
      let r : (h.0 ≤ l) × (l ≤ hi) = all_between b hi is h.0 l k.1 h.2 in
      (omega arith, r.1)

  -- the new lower end is unique, and that the values are valid is a proposition
  pub all_one : (b : List ℕ) (hi : ℕ) (is : List ℕ) (lo l l' : ℕ) → AreValidAt s at b hi is lo l
      → AreValidAt s at b hi is lo l' → l ≡ l'
  all_one b hi [] lo l l' h h' = h ∙ sym h'
  all_one b hi (i ∷ is) lo l l' h h' =
      let q : h'.0 ≡ h.0 = law.rest_unique b (at i) lo hi h'.0 h.0 h'.1 h.1 in
      all_one b hi is h.0 l l' h.2 (subst (λ m. AreValidAt s at b hi is m l') q h'.2)

  pub all_prop : (b : List ℕ) (hi : ℕ) (is : List ℕ) (lo l : ℕ)
      → IsProp (AreValidAt s at b hi is lo l)
  all_prop b hi [] lo l = hlevel props
  all_prop b hi (i ∷ is) lo l =
      prop_by {B = (m : ℕ) × (s.is_valid b (at i) lo hi m × AreValidAt s at b hi is m l)}
      (λ h. (h.0, (h.1, h.2))) (λ h. (h.0, h.1.0, h.1.1)) (λ _. refl)
      (only_one (λ m. ×_prop (law.proper b (at i) lo hi m) (all_prop b hi is m l))
      (λ m m' h h'. law.rest_unique b (at i) lo hi m m' h.0 h'.0))

  pub all_exclusive : (b : List ℕ) (hi : ℕ) (is : List ℕ) (lo l : ℕ) (e : VerifyError)
      → AreValidAt s at b hi is lo l → FirstFails s at b hi is lo e → ⊥
  all_exclusive b hi [] lo l e h f = f
  all_exclusive b hi (i ∷ is) lo l e h (inl f) = law.exclusive b (at i) lo hi h.0 e h.1 f
  all_exclusive b hi (i ∷ is) lo l e h (inr f) =
      let q : f.0 ≡ h.0 = law.rest_unique b (at i) lo hi f.0 h.0 f.1 h.1 in
      all_exclusive b hi is h.0 l e h.2 (subst (λ m. FirstFails s at b hi is m e) q f.2)

  -- the first fault of the values is unique
  pub all_one_failure : (b : List ℕ) (hi : ℕ) (is : List ℕ) (lo : ℕ) (e e' : VerifyError)
      → FirstFails s at b hi is lo e → FirstFails s at b hi is lo e' → e ≡ e'
  all_one_failure b hi [] lo e e' f g = absurd f
  all_one_failure b hi (i ∷ is) lo e e' (inl f) (inl g) = law.one_failure b (at i) lo hi e e' f g
  all_one_failure b hi (i ∷ is) lo e e' (inl f) (inr g) = grind (arith, common_steps)
  all_one_failure b hi (i ∷ is) lo e e' (inr f) (inl g) = grind (arith, common_steps)
  all_one_failure b hi (i ∷ is) lo e e' (inr f) (inr g) =
      let q : g.0 ≡ f.0 = law.rest_unique b (at i) lo hi g.0 f.0 g.1 f.1 in
      all_one_failure b hi is f.0 e e' f.2 (subst (λ m. FirstFails s at b hi is m e') q g.2)

  pub all_lower : (b : List ℕ) (hi : ℕ) (is : List ℕ) (lo lo' l : ℕ) → lo' ≤ lo → lo ≤ hi
      → AreValidAt s at b hi is lo l
      → (l' : ℕ) × AreValidAt s at b hi is lo' l' × (l' ≤ l)
  all_lower b hi [] lo lo' l o o' h = (lo', refl, omega arith)
  all_lower b hi (i ∷ is) lo lo' l o o' h =
      let k : (lo ≤ h.0) × (h.0 ≤ hi) = law.rest_in_range b (at i) lo hi h.0 o' h.1 in
      let d : (m : ℕ) × s.is_valid b (at i) lo' hi m × (m ≤ h.0) =
      law.lower_lo b (at i) lo lo' hi h.0 o o' h.1 in
      grind (arith, common_steps, all_lower b hi is h.0 d.0 l d.2 k.1 h.2)

  -- the validity of the values depends only on the bytes from `x` on and below `y`,
  -- if the positions below `n` are in there
  pub all_local : (b c : List ℕ) (x y n hi : ℕ) (is : List ℕ) (lo l : ℕ) → AgreeOn b c x y → x ≤ lo
      → lo ≤ hi → hi ≤ y → AllBelow n is
      → ((i : ℕ) → i < n → (x ≤ at i) × (at i + s.size ≤ y)) → AreValidAt s at b hi is lo l
      → AreValidAt s at c hi is lo l
  all_local b c x y n hi [] lo l same o o' o'' below inside h = h
  all_local b c x y n hi (i ∷ is) lo l same o o' o'' below inside h =
      let k : (lo ≤ h.0) × (h.0 ≤ hi) = law.rest_in_range b (at i) lo hi h.0 o' h.1 in
      let u : (x ≤ at i) × (at i + s.size ≤ y) = inside i below.0 in (
        h.0,
        law.local b c (at i) lo hi h.0 o'
            (agree_on_part b c x y (at i) (at i + s.size) u.0 u.1 (omega arith) same)
            (agree_on_part b c x y lo h.0 o (omega arith) k.0 same) h.1,
        all_local b c x y n hi is h.0 l same (omega arith) k.1 o'' below.1 inside h.2,
      )
