-- A lookup by groups of sixteen as two halves has the result of one by groups of eight.
use Rattle.std.proofs.lemmas.Grind.{common_steps}
use Rattle.std.proofs.Common.{◌≡◌, ℕ, ◌+◌, ◌-◌, ◌*◌, ◌/◌, ◌%◌, ◌<◌, ◌≤◌, Bool, refl, ap, arith, List, drop, map, take}
use Rattle.rkyv_scan.specs.{generic_kind, paired_kind}
use Rattle.rkyv_scan.proofs.Indices.{range_agree}
use Rattle.rkyv_table.specs.{candidates, found, marked, probe_length}
use Rattle.rkyv_table.proofs.Groups.{group_of}

marked_alike : (controls : List ℕ) (t p q : ℕ) → p ≤ q → q < p + 16 → marked paired_kind controls t p q ≡ marked generic_kind controls t p q
marked_alike controls t p q lo hi =
    let d = q - p in
    let w : d / 16 * 16 ≡ 0 = omega arith in
    let z : p + d / 16 * 16 ≡ p = omega arith in
    let r : d % 16 ≡ d = omega arith in
    let s : List ℕ = take 16 (drop p controls) in
    grind (arith, common_steps, group_of controls s p (d / 8 * 8) 8 (omega arith) refl)

candidates_alike : (controls : List ℕ) (cap t p : ℕ) → candidates paired_kind controls cap t p ≡ candidates generic_kind controls cap t p
unfolding candidates
candidates_alike controls cap t p =
    ap (map (λ q. q % cap)) (range_agree (marked paired_kind controls t p) (marked generic_kind controls t p) p 16 (λ q lo hi. marked_alike controls t p q lo hi))

pub found_paired : (controls : List ℕ) (cap len hash : ℕ) (accept : ℕ → Bool) → found paired_kind controls cap len hash accept ≡ found generic_kind controls cap len hash accept
found_paired controls cap len hash accept = grind (arith, common_steps, candidates_alike)

pub end_paired : (controls : List ℕ) (cap len hash : ℕ) (accept : ℕ → Bool) → probe_length paired_kind controls cap len hash accept ≡ probe_length generic_kind controls cap len hash accept
end_paired controls cap len hash accept = grind (arith, common_steps, candidates_alike)
