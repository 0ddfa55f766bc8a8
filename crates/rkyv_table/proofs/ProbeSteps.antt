-- The steps of a `Probe`.
use Rattle.std.proofs.Common.{◌≡◌, ℕ, inl, inr, ◌+◌, ◌*◌, ◌-◌, ◌/◌, ◌%◌, ◌^◌, ◌<◌, ◌≤◌, refl, sym, ap, ◌∙◌, arith, [], ◌∷◌, bit_and, add-zero}
use Rattle.std.proofs.lemmas.Grind.{common_steps}
use Rattle.std.proofs.Math.Nat.{mod-add-mod, mod-eq_of_lt}
use Rattle.std.proofs.Math.Pow.{pow_mono}
use Rattle.std.proofs.lemmas.Nat.{and_mask, mod_below, pow_pos}
use Rattle.std.proofs.lemmas.Bool.{cases_lt, le-ltb, lt-ltb}
use Rattle.rkyv_table.specs.{IsProbe, control_count, modulus, probe_capacity, probe_index, strides, strides_from}
use Rattle.rkyv_table.proofs.Triangle.{triangle, twice}
use Rattle.rkyv_table.proofs.Modulus.{modulus_power}
use Rattle.rkyv_table.proofs.Lists.{range_cons}

-- ---- the next index

triangle_next : (j : ℕ) → 16 * triangle j + 16 * (j + 1) ≡ 16 * triangle (j + 1)
triangle_next j = grind (arith, common_steps, twice j, twice (j + 1))

index_next : (s m j : ℕ) → (probe_index s m j + 16 * (j + 1)) % m ≡ probe_index s m (j + 1)
index_next s m j =
    let e : s + 16 * triangle j + 16 * (j + 1) ≡ s + 16 * triangle (j + 1) = omega (arith, triangle_next j) in
    mod-add-mod (s + 16 * triangle j) m (16 * (j + 1)) ∙ ap (λ z. z % m) e

-- ---- bounds

pow_small : (e : ℕ) → 2 ^ e < 2 ^ 64 → 2 ^ e ≤ 2 ^ 63
pow_small e h = elim (cases_lt e 64) [
  | inl a ↦ pow_mono {i = e} {j = 63} (omega arith)
  | inr b ↦ let u : 2 ^ 64 ≤ 2 ^ e = pow_mono {i = 64} {j = e} b in absurd (omega arith)
]

pub modulus_small : (cap : ℕ) → modulus cap < 2 ^ 64 → modulus cap ≤ 2 ^ 63
unfolding modulus
modulus_small cap h = pow_small _ h

pub pos_below : (cap s pos step : ℕ) → IsProbe cap s pos step → pos < modulus cap
unfolding modulus
pos_below cap s pos step is = rw is.at (mod_below (s + 16 * triangle (step / 16 - 1)) (modulus cap) (pow_pos _))

-- the modulus is a multiple of 16
pub sixteenths : (cap step : ℕ) → 0 < cap → step % 16 ≡ 0 → step < modulus cap → (step / 16 < modulus cap / 16) × (step + 16 ≤ modulus cap)
sixteenths cap step pos whole h =
    let w = modulus_power cap pos in
    let e : modulus cap ≡ 16 * 2 ^ w.0 = w.1 in
    (omega (arith, e), omega (arith, e))

-- ---- the next index, as the code computes it

pub next_is : (cap s pos step : ℕ) → 0 < step → IsProbe cap s pos step → bit_and (pos + step) (modulus cap - 1) ≡ probe_index s (modulus cap) (step / 16)
unfolding modulus
next_is cap s pos step h is =
    let j = step / 16 - 1 in
    let whole = is.whole in
    let k : step / 16 ≡ j + 1 = omega arith in
    let e : step ≡ 16 * (j + 1) = omega arith in
    and_mask (pos + step) _ ∙ ap (λ z. (z + step) % modulus cap) is.at ∙ ap (λ z. (probe_index s (modulus cap) j + z) % modulus cap) e ∙ index_next s (modulus cap) j ∙ ap (probe_index s (modulus cap)) (sym k)

pub stepped : (cap s pos step : ℕ) → 0 < step → IsProbe cap s pos step → IsProbe cap s (bit_and (pos + step) (modulus cap - 1)) (step + 16)
stepped cap s pos step h is =
    let whole = is.whole in
    let e : step / 16 ≡ (step + 16) / 16 - 1 = omega arith in
    record {
      begun = is.begun;
      fits = is.fits;
      whole = omega arith;
      at = next_is cap s pos step h is ∙ ap (probe_index s (modulus cap)) e;
    }

-- the index with the number `k` is one of the strides, or it is skipped
taken : (cap s k p : ℕ) → k < modulus cap / 16 → p ≡ probe_index s (modulus cap) k → p < probe_capacity cap → strides_from cap s k ≡ p ∷ strides_from cap s (k + 1)
unfolding strides_from
taken cap s k p lt e below = grind (arith, common_steps, lt-ltb, range_cons)

skipped : (cap s k p : ℕ) → k < modulus cap / 16 → p ≡ probe_index s (modulus cap) k → probe_capacity cap ≤ p → strides_from cap s k ≡ strides_from cap s (k + 1)
unfolding strides_from
skipped cap s k p lt e above = grind (arith, common_steps, le-ltb, range_cons)

pub takes : (cap s pos step : ℕ) → 0 < step → step < modulus cap → IsProbe cap s pos step → bit_and (pos + step) (modulus cap - 1) < probe_capacity cap
    → strides_from cap s (step / 16) ≡ bit_and (pos + step) (modulus cap - 1) ∷ strides_from cap s ((step + 16) / 16)
takes cap s pos step h lt is below =
    let begun = is.begun in
    let e : step / 16 + 1 ≡ (step + 16) / 16 = omega arith in
    taken cap s (step / 16) _ (sixteenths cap step (omega arith) is.whole lt).0 (next_is cap s pos step h is) below
    ∙ ap (λ k. bit_and (pos + step) (modulus cap - 1) ∷ strides_from cap s k) e

pub skips : (cap s pos step : ℕ) → 0 < step → step < modulus cap → IsProbe cap s pos step → probe_capacity cap ≤ bit_and (pos + step) (modulus cap - 1)
    → strides_from cap s (step / 16) ≡ strides_from cap s ((step + 16) / 16)
skips cap s pos step h lt is above =
    let begun = is.begun in
    let e : step / 16 + 1 ≡ (step + 16) / 16 = omega arith in
    skipped cap s (step / 16) _ (sixteenths cap step (omega arith) is.whole lt).0 (next_is cap s pos step h is) above
    ∙ ap (strides_from cap s) e

pub ends : (cap s step : ℕ) → modulus cap ≤ step → strides_from cap s (step / 16) ≡ []
unfolding strides_from
ends cap s step h = let e : modulus cap / 16 - step / 16 ≡ 0 = omega arith in rw e refl

pub all_strides : (hash cap : ℕ) → strides_from cap (hash % cap) 0 ≡ strides hash cap
unfolding strides_from strides
all_strides hash cap = let z : modulus cap / 16 - 0 ≡ modulus cap / 16 = omega arith in rw z refl

-- the first index is the start
pub first_taken : (cap s : ℕ) → s < cap → strides_from cap s 0 ≡ s ∷ strides_from cap s 1
first_taken cap s h =
    let w = modulus_power cap (omega arith) in
    grind (arith, common_steps, pow_pos, taken, add-zero, mod-eq_of_lt)

-- the start is the first index
pub begins : (cap s : ℕ) → s < cap → control_count cap ≤ 2 ^ 63 → IsProbe cap s s 0
begins cap s h fits =
    let w = modulus_power cap (omega arith) in
    let below : s < modulus cap = omega (arith, w.2) in
    record {
      begun = h;
      fits = fits;
      whole = refl;
      at = sym (ap (λ z. z % modulus cap) (add-zero s) ∙ mod-eq_of_lt below);
    }
