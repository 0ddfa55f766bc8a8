-- The strides of a hash begin at the indices congruent to the start modulo 16, each once. They show
-- every bucket.
use Rattle.std.proofs.Common.{◌≡◌, ℕ, ◌+◌, ◌*◌, ◌-◌, ◌/◌, ◌%◌, ◌^◌, ◌<◌, ◌≤◌, ◌↔◌, inl, inr, sym, ap, ◌∙◌, arith, List, Bool, true, ◌&&◌, eqb, ltb, length, map}
use Rattle.std.proofs.lemmas.Grind.{common_steps}
use Rattle.std.specs.List.{IsDistinct, list_any, range_with_len}
use Rattle.std.proofs.Math.Nat.{add-mul-mod_self_right, mod-add-mod, mod-eq_of_lt}
use Rattle.std.proofs.lemmas.Nat.{div-add-mod', mod-mul-add, mod_below, pow_pos}
use Rattle.std.proofs.lemmas.Bool.{and_from, and_parts, cases_lt, eq-eqb, eqb-true, lt-ltb, ltb-true}
use Rattle.std.proofs.lemmas.Map.Made.{length-from_same_keys}
use Rattle.std.specs.Cmp.{nat_eq_equiv}
use Rattle.std.proofs.lemmas.List.FromFn.{length-map-range_with_len}
use Rattle.rkyv_table.specs.{IsInStrides, control_count, modulus, probe_capacity, probe_index, start, strides}
use Rattle.rkyv_table.proofs.Triangle.{hits, hits_once, triangle}
use Rattle.rkyv_table.proofs.Lists.{any_filter, any_map_range, contains_member, distinct_filter, distinct_map_range, from_map_range, member_contains}
use Rattle.rkyv_table.proofs.Modulus.{modulus_power}

-- the index with the number `k`, if the modulus is `16 * n`
pub probe_index_is : (s n k : ℕ) → 0 < n → probe_index s (16 * n) k ≡ 16 * ((s / 16 + triangle k) % n) + s % 16
probe_index_is s n k pos =
    let r = (s / 16 + triangle k) % n in
    let lr : r < n = mod_below (s / 16 + triangle k) n pos in
    let q = (s / 16 + triangle k) / n in
    let d = div-add-mod' (s / 16 + triangle k) n in
    let small : 16 * r + s % 16 < 16 * n = omega arith in
    let e : q * (16 * n) + (16 * r + s % 16) ≡ s + 16 * triangle k = omega arith in
    let m = mod-mul-add q (16 * n) (16 * r + s % 16) small in
    rw e at m

-- `a + t` is `j` modulo `n`, if `t` is `j - a`
turn : (a t j n : ℕ) → j < n → t % n ≡ (j + (n - a % n)) % n → (a + t) % n ≡ j
turn a t j n h e =
    let la : a % n < n = mod_below a n (omega arith) in
    let d = div-add-mod' a n in
    let dt = div-add-mod' t n in
    let u = j + (n - a % n) in
    grind (arith, common_steps, div-add-mod' u n, add-mul-mod_self_right (a + t) (u / n) n, mod-mul-add (a / n + t / n + 1) n j h)

-- the converse
unturn : (a t u n : ℕ) → 0 < n → (a + t) % n ≡ (a + u) % n → t % n ≡ u % n
unturn a t u n pos e =
    let b = n - a % n in
    let la : a % n < n = mod_below a n pos in
    let d = div-add-mod' a n in
    let f = λ (z : ℕ). (let m = add-mul-mod_self_right z (a / n + 1) n in
    let s : a + z + b ≡ z + (a / n + 1) * n = omega arith in
    ap (λ w. w % n) s ∙ m) in
    grind (arith, common_steps, mod-add-mod (a + t) n b, mod-add-mod (a + u) n b)

-- exactly one index has each residue
index_hit : (s n j : ℕ) → j < 2 ^ n → (k : ℕ) × (k < 2 ^ n) × (probe_index s (16 * 2 ^ n) k ≡ 16 * j + s % 16)
index_hit s n j h =
    let pos : 0 < 2 ^ n = pow_pos n in
    let a = s / 16 % 2 ^ n in
    let la : a < 2 ^ n = mod_below (s / 16) (2 ^ n) pos in
    let lr : (j + (2 ^ n - a)) % 2 ^ n < 2 ^ n = mod_below (j + (2 ^ n - a)) (2 ^ n) pos in
    let t = hits n ((j + (2 ^ n - a)) % 2 ^ n) lr in
    (t.0, t.1, probe_index_is s (2 ^ n) t.0 pos ∙ ap (λ z. 16 * z + s % 16) (turn (s / 16) (triangle t.0) j (2 ^ n) h t.2))

index_once : (s n x y : ℕ) → x < 2 ^ n → y < 2 ^ n → probe_index s (16 * 2 ^ n) x ≡ probe_index s (16 * 2 ^ n) y → x ≡ y
index_once s n x y hx hy e =
    let pos : 0 < 2 ^ n = pow_pos n in
    let ex = probe_index_is s (2 ^ n) x pos in
    let ey = probe_index_is s (2 ^ n) y pos in
    let same : (s / 16 + triangle x) % 2 ^ n ≡ (s / 16 + triangle y) % 2 ^ n = omega arith in
    hits_once n x y hx hy (unturn (s / 16) (triangle x) (triangle y) (2 ^ n) pos same)

pub same_tests : (b c : Bool) → (b ≡ true → c ≡ true) → (c ≡ true → b ≡ true) → b ≡ c
same_tests b c f g = grind (arith, common_steps)

-- all indices, below the probe capacity or not
indices : ℕ → ℕ → List ℕ
indices s m = map (probe_index s m) (range_with_len 0 (m / 16))

has_index : (s m n x : ℕ) → m ≡ 16 * 2 ^ n → x < m → list_any (eqb x) (indices s m) ≡ eqb (x % 16) (s % 16)
unfolding indices
has_index s m n x e h =
    let f = probe_index s (16 * 2 ^ n) in
    let len : m / 16 ≡ 2 ^ n = omega arith in
    let goal : list_any (eqb x) (map f (range_with_len 0 (2 ^ n))) ≡ eqb (x % 16) (s % 16) =
    same_tests (list_any (eqb x) (map f (range_with_len 0 (2 ^ n)))) (eqb (x % 16) (s % 16))
    (λ t. let w = from_map_range f (2 ^ n) x t in
    let p = probe_index_is s (2 ^ n) w.0 (pow_pos n) in
    eq-eqb (x % 16) (s % 16) (omega arith))
    (λ t. let u = eqb-true (x % 16) (s % 16) t in
    let j : x / 16 < 2 ^ n = omega arith in
    let w = index_hit s n (x / 16) j in
    grind (arith, common_steps, any_map_range f (2 ^ n) w.0 w.1)) in
    rw (len, e) goal

distinct_indices : (s m n : ℕ) → m ≡ 16 * 2 ^ n → IsDistinct eqb (indices s m)
unfolding indices
distinct_indices s m n e = grind (arith, common_steps, distinct_map_range, index_once)

-- an index is in the strides if and only if it is below the probe capacity and congruent
-- to the start modulo 16
pub has_stride : (h cap p : ℕ) → 0 < cap → list_any (eqb p) (strides h cap) ≡ (ltb p (probe_capacity cap) && eqb (p % 16) (start h cap % 16))
unfolding strides indices
has_stride h cap p pos = grind (arith, common_steps, modulus_power cap pos, any_filter, indices, same_tests, and_parts, ltb-true, has_index, and_from)

pub stride_below : (h cap p : ℕ) → 0 < cap → list_any (eqb p) (strides h cap) ≡ true → p < probe_capacity cap
stride_below h cap p pos m = ltb-true p (probe_capacity cap) (and_parts (ltb p (probe_capacity cap)) (eqb (p % 16) (start h cap % 16)) (sym (has_stride h cap p pos) ∙ m)).0

-- each index is in the strides once
pub distinct_strides : (h cap : ℕ) → 0 < cap → IsDistinct eqb (strides h cap)
unfolding strides indices
distinct_strides h cap pos = grind (arith, common_steps, modulus_power cap pos, indices (start h cap) (modulus cap), distinct_filter, distinct_indices)

-- the number of strides is a sixteenth of the probe capacity
pub count_strides : (h cap : ℕ) → 0 < cap → length (strides h cap) ≡ probe_capacity cap / 16
count_strides h cap pos =
    let s = start h cap % 16 in
    let ls : s < 16 = omega arith in
    let n = probe_capacity cap / 16 in
    let f = λ (j : ℕ). 16 * j + s in
    let xs = map f (range_with_len 0 n) in
    let d : IsDistinct eqb xs = distinct_map_range f n (λ i j hi hj e. omega arith) in
    let l : length xs ≡ n = length-map-range_with_len f 0 n in
    length-from_same_keys nat_eq_equiv (strides h cap) xs (distinct_strides h cap pos) d (λ q.
    has_stride h cap q pos
    ∙ same_tests (ltb q (probe_capacity cap) && eqb (q % 16) s) (list_any (eqb q) xs)
    (λ t. let u = and_parts (ltb q (probe_capacity cap)) (eqb (q % 16) s) t in
    let a = ltb-true q (probe_capacity cap) u.0 in
    grind (arith, common_steps, eqb-true (q % 16) s u.1, any_map_range f n (q / 16) (omega arith)))
    (λ t. let w = from_map_range f n q t in
    and_from (ltb q (probe_capacity cap)) (eqb (q % 16) s) (lt-ltb q (probe_capacity cap) (omega arith)) (eq-eqb (q % 16) s (omega arith))))
    ∙ l

pub mod_more : (b c : ℕ) → b < c → (b + c) % c ≡ b
mod_more b c h = let m = mod-mul-add 1 c b h in let e : 1 * c + b ≡ b + c = omega arith in rw e at m

-- every bucket is at an index of some stride
pub covered : (h cap b : ℕ) → b < cap → (p : ℕ) × (q : ℕ) × (list_any (eqb p) (strides h cap) ≡ true) × (p ≤ q) × (q < p + 16) × (q < 2 * cap) × (q % cap ≡ b)
covered h cap b hb =
    let s = start h cap in
    let pos : 0 < cap = omega arith in
    let step = λ (q : ℕ) (lo : s % 16 ≤ q) (hi : q < s % 16 + probe_capacity cap) (two : q < 2 * cap) (m : q % cap ≡ b).
    (let p = q - (q - s % 16) % 16 in
    let r : p % 16 ≡ s % 16 = omega arith in
    let l : p < probe_capacity cap = omega arith in
    let t = has_stride h cap p pos in
    let t' = and_from (ltb p (probe_capacity cap)) (eqb (p % 16) (s % 16)) (lt-ltb p (probe_capacity cap) l) (eq-eqb (p % 16) (s % 16) r) in
    let out : (p : ℕ) × (q : ℕ) × (list_any (eqb p) (strides h cap) ≡ true) × (p ≤ q) × (q < p + 16) × (q < 2 * cap) × (q % cap ≡ b) = (p, q, t ∙ t', omega arith, omega arith, two, m) in out) in
    elim (cases_lt b (s % 16)) [
      | inl a ↦ step (b + cap) (omega arith) (omega arith) (omega arith) (mod_more b cap hb)
      | inr a ↦ step b a (omega arith) (omega arith) (mod-eq_of_lt hb)
    ]

-- the strides read the control bytes from the start modulo 16 on, as many as the probe capacity
pub read_row : (h cap q : ℕ) → 0 < cap → IsInStrides h cap q ↔ (start h cap % 16 ≤ q) × (q < start h cap % 16 + probe_capacity cap)
read_row h cap q pos =
    let r = start h cap % 16 in (
      λ read.
          let p = read.0 in
          let u = and_parts (ltb p (probe_capacity cap)) (eqb (p % 16) r) (sym (has_stride h cap p pos) ∙ contains_member p (strides h cap) read.1) in
          let below = ltb-true p (probe_capacity cap) u.0 in
          let same = eqb-true (p % 16) r u.1 in
          let from = read.2 in
          let to = read.3 in
          (omega arith, omega arith),
      λ row.
          let from = row.0 in
          let to = row.1 in
          let p = q - (q - r) % 16 in
          let same : p % 16 ≡ r = omega arith in
          let below : p < probe_capacity cap = omega arith in
          let is = has_stride h cap p pos ∙ and_from (ltb p (probe_capacity cap)) (eqb (p % 16) r) (lt-ltb p (probe_capacity cap) below) (eq-eqb (p % 16) r same) in
          (p, member_contains p (strides h cap) is, omega arith, omega arith),
    )

-- they are control bytes of the table
pub row_inside : (h cap q : ℕ) → q < start h cap % 16 + probe_capacity cap → q < control_count cap
row_inside h cap q below = omega (arith, below)
