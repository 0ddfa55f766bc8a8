-- A stride as one group.
use Rattle.std.proofs.Common.{◌≡◌, ◌↔◌, ℕ, ◌+◌, ◌*◌, ◌%◌, ◌<◌, sym, ap, ◌∙◌, arith, List, Bool, true, ◌||◌, leb, length, map, filter, drop, take, get_or, Option, None}
use Rattle.std.proofs.lemmas.Grind.{common_steps}
use Rattle.std.specs.List.{find, list_any, range_with_len}
use Rattle.rkyv_scan.specs.{IsKind, Kind, indices_where}
use Rattle.rkyv_table.specs.{IsFullInStride, IsMarked, candidates, stride_has_empty}
use Rattle.rkyv_table.proofs.Groups.{all_candidates, all_empty, candidates_in, empty_in, found_more, indices_are, mark_is_any, more_empty, no_candidates, no_empty}
use Rattle.rkyv_table.proofs.Marks.{marked_bucket_full}
use Rattle.rkyv_table.proofs.Search.{width_some}

whole_group : (controls group stride : List ℕ) (p w : ℕ) → w ≡ 16 → group ≡ take w stride → stride ≡ take 16 (drop p controls) → group ≡ take w (drop (p + 0 * w) controls)
whole_group controls group stride p w one s e = grind (arith, common_steps)

pub whole_found : (kind : Kind) → IsKind kind → (controls group stride : List ℕ) (cap t p : ℕ) (accept : ℕ → Bool) (r : Option ℕ) (indices : List ℕ) → kind.width ≡ 16
    → group ≡ take kind.width stride → stride ≡ take 16 (drop p controls) → indices ≡ indices_where (kind.marks group t) kind.width
    → r ≡ find accept (map (λ j. (p + j) % cap) indices) → find accept (candidates kind controls cap t p) ≡ r
whole_found kind law controls group stride cap t p accept r indices one s e m f =
    let w = kind.width in
    let z : p ≡ p + 0 * w = omega arith in
    let n : 0 * w ≡ 0 = omega arith in
    let n' : (0 + 1) * w ≡ 16 = omega arith in
    let none : find accept (candidates_in kind controls cap t p (0 * w)) ≡ None = ap (λ n. find accept (candidates_in kind controls cap t p n)) n ∙ ap (find accept) (no_candidates kind controls cap t p) in
    let f' = f ∙ ap (λ xs. find accept (map (λ j. (p + j) % cap) xs)) (m ∙ indices_are (kind.marks group t) w) ∙ ap (λ q. find accept (map (λ j. (q + j) % cap) (filter (kind.marks group t) (range_with_len 0 w)))) z in
    let g = found_more kind controls group cap t p 0 accept r (width_some kind law) (whole_group controls group stride p w one s e) none f' in
    ap (find accept) (sym (ap (candidates_in kind controls cap t p) n' ∙ all_candidates kind controls cap t p)) ∙ g

pub whole_empty : (controls group stride : List ℕ) (p w : ℕ) (has_empty : Bool) (indices : List ℕ) → w ≡ 16 → group ≡ take w stride → stride ≡ take 16 (drop p controls)
    → indices ≡ indices_where (λ j. leb 128 (get_or group j 0)) w → (has_empty ≡ true) ↔ (0 < length indices) → stride_has_empty controls p ≡ has_empty
whole_empty controls group stride p w has_empty indices one s e m t =
    let n : 0 * w ≡ 0 = omega arith in
    let n' : (0 + 1) * w ≡ 16 = omega arith in
    let P = λ (j : ℕ). leb 128 (get_or group j 0) in
    let t' = rw (m, indices_are) at t in
    let a = mark_is_any has_empty P (range_with_len 0 w) t' in
    let b = ap (empty_in controls p) n ∙ no_empty controls p in
    let g = more_empty controls group p 0 w (whole_group controls group stride p w one s e) in
    sym (ap (empty_in controls p) n' ∙ all_empty controls p) ∙ g ∙ (λ i. b i || list_any P (range_with_len 0 w)) ∙ sym a

pub whole_marked_full : (kind : Kind) → IsKind kind → (t p cap : ℕ) (stride group ps : List ℕ) → t < 128 → kind.width ≡ 16 → group ≡ take kind.width stride
    → ps ≡ indices_where (kind.marks group t) kind.width → (b : ℕ) → IsMarked p cap ps b → IsFullInStride stride p cap b
whole_marked_full kind law t p cap stride group ps small one s m b k =
    let z : p ≡ p + 0 = omega arith in
    marked_bucket_full kind law t p cap 0 stride group ps small (omega arith) s m b (k.0, k.1, k.2 ∙ ap (λ q. (q + get_or ps k.0 0) % cap) z)

-- if no index is accepted, the stride has an empty control byte if and only if the group does
pub whole_none : (kind : Kind) → IsKind kind → (controls group stride : List ℕ) (cap t p : ℕ) (accept : ℕ → Bool) (has_empty : Bool) (indices empties : List ℕ) → kind.width ≡ 16
    → group ≡ take kind.width stride → stride ≡ take 16 (drop p controls) → indices ≡ indices_where (kind.marks group t) kind.width
    → None ≡ find accept (map (λ j. (p + j) % cap) indices) → empties ≡ indices_where (λ j. leb 128 (get_or group j 0)) kind.width → (has_empty ≡ true) ↔ (0 < length empties)
    → (find accept (candidates kind controls cap t p) ≡ None) × (stride_has_empty controls p ≡ has_empty)
whole_none kind law controls group stride cap t p accept has_empty indices empties one s e m f k b =
    (whole_found kind law controls group stride cap t p accept None indices one s e m f, whole_empty controls group stride p kind.width has_empty empties one s e k b)
