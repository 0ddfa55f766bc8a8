-- Lemmas: groups of sixteen control bytes, whose halves are matched as groups of eight.
use Rattle.std.proofs.lemmas.Grind.{common_steps}
use Rattle.std.specs.Prelude.{◌≡◌, ℕ, ◌+◌, ◌*◌, ◌/◌, ◌%◌, ◌<◌, List, slice_index, drop}
use Rattle.std.proofs.Common.{arith, refl, sym, ◌∙◌, ap, get_or-take, get_or-drop}
use Rattle.rkyv_scan.specs.{IsKind, half_of, is_half_match_at, is_word_match_at, paired_kind}
use Rattle.rkyv_scan.specs.Lemmas.KindLaws.{word_lawful}

pub half_at : (s : List ℕ) (k : ℕ) → slice_index (half_of s k) (k % 8) ≡ slice_index s k
half_at s k =
    let e : k / 8 * 8 + k % 8 ≡ k = omega arith in
    get_or-take 8 (drop (k / 8 * 8) s) (k % 8) 0 (omega arith) ∙ get_or-drop (k / 8 * 8) s (k % 8) 0
    ∙ ap (slice_index s) e

-- the match at index `j` of the half that has index `k`
pub half_lower : (s : List ℕ) (t k j : ℕ) → j < 8
    → is_half_match_at s t (k / 8 * 8 + j) ≡ is_word_match_at (half_of s k) t j
half_lower s t k j l = grind (arith, common_steps)

pub paired_lawful : IsKind paired_kind
paired_lawful = record {
  power = (4, omega arith, refl);
  equal = λ s t k l h. word_lawful.equal (half_of s k) t (k % 8) (omega arith) (half_at s k ∙ h);
  full = λ s t k l h. omega (arith, half_at s k, word_lawful.full (half_of s k) t (k % 8) l h);
  lowest = λ s t k h low. sym (half_at s k)
      ∙ word_lawful.lowest (half_of s k) t (k % 8) h
      (λ j l. grind (arith, common_steps, half_lower s t k j (omega arith)));
}
