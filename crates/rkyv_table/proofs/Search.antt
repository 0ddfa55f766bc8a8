-- The general steps of a search over strides.
use Rattle.std.proofs.Common.{◌≡◌, ℕ, zero, suc, ◌+◌, ◌*◌, ◌-◌, ◌/◌, ◌%◌, ◌<◌, ◌≤◌, ◌⊎◌, inl, inr, refl, sym, ap, ◌∙◌, arith, List, [], ◌∷◌, Bool, true, false, cond, eqb, ltb, get_or, take, drop, map, filter, Option, Some, None, add-zero}
use Rattle.std.proofs.lemmas.Grind.{common_steps}
use Rattle.std.specs.Iterator.{YieldsFirst}
use Rattle.std.specs.List.{find, flat_map, list_any, range_with_len}
use Rattle.std.specs.Option.{option_and_then}
use Rattle.std.proofs.Math.Nat.{mod-eq_of_lt}
use Rattle.std.proofs.lemmas.Nat.{mod_below, pow_pos}
use Rattle.std.proofs.lemmas.List.Folds.{find-append}
use Rattle.std.proofs.lemmas.Option.{none-some, same_Some}
use Rattle.std.proofs.lemmas.Bool.{and_parts, cases_Bool, cases_lt, eq-eqb, eqb-true, lt-ltb, ltb-true, or_from, or_left, or_right}
use Rattle.rkyv_table.specs.{IsWrapped, buckets_at, candidates, control_count, ends_at, marked, modulus, probe_capacity, probe_index, start, stride_has_empty, strides}
use Rattle.rkyv_scan.specs.{IsKind, Kind}
use Rattle.rkyv_table.proofs.Coverage.{has_stride, mod_more}
use Rattle.rkyv_table.proofs.Modulus.{modulus_power}
use Rattle.rkyv_table.proofs.Lists.{none_find, some_find}

pub cases_option : (o : Option ℕ) → (o ≡ None) ⊎ ((x : ℕ) × (o ≡ Some x))
cases_option None = inl refl
cases_option (Some x) = inr (x, refl)

-- ---- the control bytes

-- a control byte below `2 * cap` is the control byte of its bucket
pub control_of : (cap : ℕ) (controls : List ℕ) (q : ℕ) → 0 < cap → IsWrapped cap controls → q < 2 * cap → q < control_count cap → get_or controls q 0 ≡ get_or controls (q % cap) 0
control_of cap controls q pos r two c = elim (cases_lt q cap) [
  | inl a ↦ ap (λ z. get_or controls z 0) (sym (mod-eq_of_lt a))
  | inr b ↦ grind (arith, common_steps, mod_more)
]

-- a stride that shows an index from `2 * cap` on shows every bucket, together with the first stride
pub tail_shows_all : (h cap p b : ℕ) → b < cap → list_any (eqb p) (strides h cap) ≡ true → 2 * cap < p + 16
    → (q : ℕ) × (q < 2 * cap) × (q % cap ≡ b) × (((p ≤ q) × (q < p + 16)) ⊎ ((start h cap ≤ q) × (q < start h cap + 16)))
tail_shows_all h cap p b hb hp over = grind (arith, common_steps, mod_more b cap hb, cases_lt (b + cap) p, has_stride, and_parts, ltb-true, eqb-true, mod_below)

range_head : (f : ℕ → ℕ) (P : ℕ → Bool) (n : ℕ) → 0 < n → P (f 0) ≡ true → (rest : List ℕ) × (filter P (map f (range_with_len 0 n)) ≡ f 0 ∷ rest)
range_head f P zero h t = absurd (omega arith)
range_head f P (suc n) h t = (filter P (map f (range_with_len (0 + 1) n)), rw t refl)

-- the first stride begins at the start
pub strides_head : (h cap : ℕ) → 0 < cap → (rest : List ℕ) × (strides h cap ≡ start h cap ∷ rest)
unfolding strides
strides_head h cap pos =
    let w = modulus_power cap pos in
    let m = modulus cap in
    let s = start h cap in
    let ls : s < cap = mod_below h cap pos in
    let some : 0 < m / 16 = let u = pow_pos w.0 in omega arith in
    let e : probe_index s m 0 ≡ s = ap (λ z. z % m) (add-zero s) ∙ mod-eq_of_lt (let l : s < m = omega arith in l) in
    let r = range_head (probe_index s m) (λ p. ltb p (probe_capacity cap)) (m / 16) some (rw e (lt-ltb s (probe_capacity cap) (omega arith))) in
    (r.0, r.1 ∙ ap (λ z. z ∷ r.0) e)

-- ---- marked indices

at_mark : (kind : Kind) (controls : List ℕ) (p q : ℕ) → 0 < kind.width → p ≤ q → get_or (take kind.width (drop (p + (q - p) / kind.width * kind.width) controls)) ((q - p) % kind.width) 0 ≡ get_or controls q 0
at_mark kind controls p q pos le = grind (arith, common_steps)

pub width_some : (kind : Kind) → IsKind kind → 0 < kind.width
width_some kind law = rw law.power.2 (pow_pos law.power.0)

pub mark_equal : (kind : Kind) → IsKind kind → (controls : List ℕ) (t p q : ℕ) → p ≤ q → get_or controls q 0 ≡ t → marked kind controls t p q ≡ true
mark_equal kind law controls t p q le e = grind (arith, common_steps, width_some kind law, mod_below, at_mark)

pub mark_full : (kind : Kind) → IsKind kind → (controls : List ℕ) (t p q : ℕ) → t < 128 → p ≤ q → marked kind controls t p q ≡ true → get_or controls q 0 < 128
mark_full kind law controls t p q ht le e = grind (arith, common_steps, at_mark kind controls p q (width_some kind law) le, width_some kind law)

-- ---- the walk over the strides, for any tests

pub record GoodStride (cap b : ℕ) (free accept : ℕ → Bool) (kind : Kind) (controls : List ℕ) (t p : ℕ) : Type 0 where
  pub passes : find free (buckets_at cap p) ≡ None → (find accept (candidates kind controls cap t p) ≡ None) × (stride_has_empty controls p ≡ false)
  pub hits : find free (buckets_at cap p) ≡ Some b → find accept (candidates kind controls cap t p) ≡ Some b

abbrev pub found_along : Kind → List ℕ → ℕ → ℕ → (ℕ → Bool) → List ℕ → Option ℕ
found_along kind controls cap t accept ps = option_and_then (λ p. find accept (candidates kind controls cap t p)) (find (ends_at kind controls cap t accept) ps)

-- one stride, and then the others
pub found_along_cons : (kind : Kind) (controls : List ℕ) (cap t : ℕ) (accept : ℕ → Bool) (p : ℕ) (ps : List ℕ) →
    found_along kind controls cap t accept (p ∷ ps) ≡ cond (ends_at kind controls cap t accept p) (find accept (candidates kind controls cap t p)) (found_along kind controls cap t accept ps)
found_along_cons kind controls cap t accept p ps = elim (cases_Bool (ends_at kind controls cap t accept p)) [ inl e ↦ rw e refl | inr e ↦ rw e refl ]

pub walk_on : (cap b : ℕ) (free accept : ℕ → Bool) (kind : Kind) (controls : List ℕ) (t p : ℕ) (ps : List ℕ) → GoodStride cap b free accept kind controls t p
    → (find free (buckets_at cap p) ≡ None → find free (flat_map (buckets_at cap) ps) ≡ Some b → found_along kind controls cap t accept ps ≡ Some b)
    → find free (flat_map (buckets_at cap) (p ∷ ps)) ≡ Some b → found_along kind controls cap t accept (p ∷ ps) ≡ Some b
walk_on cap b free accept kind controls t p ps good rest h = grind (arith, common_steps, find-append, found_along_cons, cases_option, none_find, or_from, same_Some, some_find, or_left)

pub walk_all : (cap b : ℕ) (free accept : ℕ → Bool) (kind : Kind) (controls : List ℕ) (t : ℕ) (ps : List ℕ) → ((p : ℕ) → list_any (eqb p) ps ≡ true → GoodStride cap b free accept kind controls t p)
    → find free (flat_map (buckets_at cap) ps) ≡ Some b → found_along kind controls cap t accept ps ≡ Some b
walk_all cap b free accept kind controls t [] good h = absurd (none-some b h)
walk_all cap b free accept kind controls t (p ∷ ps) good h =
    walk_on cap b free accept kind controls t p ps (good p (or_left (eqb p p) (list_any (eqb p) ps) (eq-eqb p p refl)))
    (λ none h'. walk_all cap b free accept kind controls t ps (λ q m. good q (or_right (eqb q p) (list_any (eqb q) ps) m)) h') h

-- the strides that a search still reads: the next one, if there is one, and those after it
abbrev pub ahead : Option ℕ → List ℕ → List ℕ
ahead None rest = []
ahead (Some p) rest = p ∷ rest

pub ahead_is : (next : Option ℕ) (before after : List ℕ) → YieldsFirst (λ ps. ps) before next after → before ≡ ahead next after
ahead_is None before after h = h.0
ahead_is (Some p) before after h = h
