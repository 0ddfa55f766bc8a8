-- One item more in written control bytes.
use Rattle.std.proofs.Common.{◌≡◌, ℕ, ◌+◌, ◌-◌, ◌^◌, ◌<◌, ◌≢◌, inl, inr, refl, sym, ap, ◌∙◌, arith, List, [], ◌∷◌, ◌++◌, Bool, true, false, eqb, length, get_or, take, set, replicate, Some, get_or-set_same, get_or-set_other, length-set}
use Rattle.std.proofs.lemmas.Grind.{common_steps}
use Rattle.std.specs.List.{IsDistinct, find, flat_map, list_any, range_with_len}
use Rattle.std.specs.Cmp.{nat_eq_equiv}
use Rattle.std.proofs.lemmas.Map.Keys.{IsDistinct-from_apart}
use Rattle.std.proofs.lemmas.Map.Made.{length-le_from_is_member}
use Rattle.std.proofs.lemmas.List.FromFn.{get_or-range_with_len, length-range_with_len}
use Rattle.std.proofs.lemmas.List.{get_or_append_left, get_or_push, length_push, take_all}
use Rattle.std.proofs.lemmas.List.Folds.{Any-from_list_any, find-append, list_any-append}
use Rattle.std.proofs.lemmas.Nat.{mod_below}
use Rattle.std.proofs.lemmas.Bool.{both_ways, cases_Bool, cases_eq, cases_lt, eq-eqb, false_from_ne_true, le-leb, leb-true, lt-leb, ne_eqb, not-false, not-true, not_from_false, or_parts}
use Rattle.rkyv_table.specs.{AreHomes, AreWrittenControls, HasRoom, buckets_at, control_count, is_empty_at, is_free, probed, strides, tag, with_control}
use Rattle.rkyv_table.proofs.Written.{find_buckets, probed_below, tag_small, taken_home}
use Rattle.rkyv_table.proofs.Lists.{any_member, some_find}

-- ---- reading a control byte after the two writes

at_bucket : (controls : List ℕ) (cap b t : ℕ) → 0 < cap → b < length controls → get_or (with_control controls cap b t) b 0 ≡ t
at_bucket controls cap b t pos h = grind (arith, common_steps)

at_repeat : (controls : List ℕ) (cap b t : ℕ) → cap + b < length controls → get_or (with_control controls cap b t) (cap + b) 0 ≡ t
at_repeat controls cap b t h = let l = length-set controls b t in get_or-set_same (set controls b t) (cap + b) t 0 (omega arith)

at_other : (controls : List ℕ) (cap b t q : ℕ) → q ≢ b → q ≢ cap + b → get_or (with_control controls cap b t) q 0 ≡ get_or controls q 0
at_other controls cap b t q n m = get_or-set_other (set controls b t) (cap + b) q t 0 m ∙ get_or-set_other controls b q t 0 n

-- ---- tests that agree below `cap` find the same

find_ext : (P Q : ℕ → Bool) (xs : List ℕ) → ((x : ℕ) → P x ≡ Q x) → find P xs ≡ find Q xs
find_ext P Q [] h = refl
find_ext P Q (x ∷ xs) h = rw (h x, find_ext P Q xs h) refl

pub probed_agree : (P Q : ℕ → Bool) (cap : ℕ) (ps : List ℕ) → 0 < cap → ((b : ℕ) → b < cap → P b ≡ Q b) → find P (flat_map (buckets_at cap) ps) ≡ find Q (flat_map (buckets_at cap) ps)
probed_agree P Q cap [] pos h = refl
probed_agree P Q cap (p ∷ ps) pos h = grind (arith, common_steps, find_buckets, find_ext, mod_below, find-append, probed_agree P Q cap ps pos h)

-- ---- the step

-- a bucket is free if and only if its written control byte is empty
pub free_empty : (cap : ℕ) (hashes homes controls : List ℕ) (b : ℕ) → AreWrittenControls cap hashes homes controls → ((j : ℕ) → j < length hashes → get_or hashes j 0 < 2 ^ 64) → b < cap → is_free homes b ≡ is_empty_at controls b
free_empty cap hashes homes controls b w fits hb =
    let len = w.placed.count in
    elim (cases_Bool (is_free homes b)) [
      | inl t ↦ let e = w.others b hb t in t ∙ sym (le-leb 128 (get_or controls b 0) (omega arith))
      | inr f ↦
          let whole = take_all (length homes) homes (omega arith) in
          let f' : is_free (take (length homes) homes) b ≡ false = rw whole f in
          let k = taken_home homes (length homes) b (omega arith) f' in
          let lj : k.0 < length hashes = omega (arith, k.1) in
          let t = w.tags k.0 lj in
          let s = tag_small (get_or hashes k.0 0) (fits k.0 lj) in
          let e : get_or controls b 0 ≡ get_or controls (get_or homes k.0 0) 0 = ap (λ z. get_or controls z 0) (sym k.2) in
          f ∙ sym (lt-leb 128 (get_or controls b 0) (omega arith))
    ]

pub home_below : (cap : ℕ) (hashes homes controls : List ℕ) (i : ℕ) → 0 < cap → AreWrittenControls cap hashes homes controls → i < length hashes → get_or homes i 0 < cap
home_below cap hashes homes controls i pos w hi = probed_below (is_free (take i homes)) cap (get_or homes i 0) (strides (get_or hashes i 0) cap) pos (w.placed.first i hi)

pub homes_more : (cap h b : ℕ) (hashes homes : List ℕ) → AreHomes cap hashes homes → find (is_free homes) (probed h cap) ≡ Some b → AreHomes cap (hashes ++ h ∷ []) (homes ++ b ∷ [])
homes_more cap h b hashes homes p e = grind (arith, common_steps)

pub one_more : (cap h b : ℕ) (hashes homes controls : List ℕ) → 0 < cap → AreWrittenControls cap hashes homes controls → ((j : ℕ) → j < length hashes → get_or hashes j 0 < 2 ^ 64) → h < 2 ^ 64
    → find (is_empty_at controls) (probed h cap) ≡ Some b
    → AreWrittenControls cap (hashes ++ h ∷ []) (homes ++ b ∷ []) (with_control controls cap b (tag h))
one_more cap h b hashes homes controls pos w fits hh e =
    let n = length hashes in
    let len = w.placed.count in
    let r = w.wrapped in
    let count = r.count in
    let hb : b < cap = probed_below (is_empty_at controls) cap b (strides h cap) pos e in
    let fb = (some_find (is_empty_at controls) (probed h cap) b e).1 in
    let lb = leb-true 128 (get_or controls b 0) fb in
    let bc : b < length controls = omega arith in
    let t = tag h in
    let lenh = length_push hashes h in
    let lenb = length_push homes b in
    let whole = take_all n homes (omega arith) in
    record {
      placed = homes_more cap h b hashes homes w.placed (probed_agree (is_free homes) (is_empty_at controls) cap (strides h cap) pos (λ c hc. free_empty cap hashes homes controls c w fits hc) ∙ e);
      wrapped = record {
        count = let l = length-set (set controls b t) (cap + b) t in let m = length-set controls b t in omega arith;
        repeated = λ q lo two c. elim (cases_eq q (cap + b)) [
          | inl s ↦
              let d : q - cap ≡ b = omega arith in
              let W = with_control controls cap b t in
              ap (λ z. get_or W z 0) s ∙ at_repeat controls cap b t (omega arith) ∙ sym (ap (λ z. get_or W z 0) d ∙ at_bucket controls cap b t pos bc)
          | inr m ↦
              at_other controls cap b t q (λ z. omega arith) m ∙ r.repeated q lo two c
              ∙ sym (at_other controls cap b t (q - cap) (λ z. m (omega arith)) (λ z. omega arith))
        ];
        past = λ q g c. let x = at_other controls cap b t q (λ z. omega arith) (λ z. omega arith) in let y = r.past q g c in omega arith;
      };
      tags = λ i hi. elim (cases_lt i n) [
        | inl l ↦
            let x = get_or_append_left hashes (h ∷ []) 0 i l in
            let y = get_or_append_left homes (b ∷ []) 0 i (omega arith) in
            let k = w.tags i l in
            let s = tag_small (get_or hashes i 0) (fits i l) in
            let below = home_below cap hashes homes controls i pos w l in
            let apart : get_or homes i 0 ≢ b = λ z. (let q = ap (λ y. get_or controls y 0) z in omega arith) in
            rw (x, y) (at_other controls cap b t (get_or homes i 0) apart (λ z. omega arith) ∙ k)
        | inr g ↦
            let s : i ≡ n = omega arith in
            let x = get_or_push hashes h 0 n refl in
            let y = get_or_push homes b 0 n len in
            rw (s, x, y) (at_bucket controls cap b t pos bc)
      ];
      others = grind (arith, not-true, or_parts, list_any-append, both_ways, eq-eqb, at_other, not_from_false);
      past = λ q g c. let x = at_other controls cap b t q (λ z. omega arith) (λ z. omega arith) in x ∙ w.past q g c;
    }

-- the fresh control bytes are the control bytes of no item
pub fresh : (cap : ℕ) → 0 < cap → AreWrittenControls cap [] [] (replicate (control_count cap) 255)
fresh cap pos = grind (arith, common_steps)

-- fewer home buckets than buckets leave one free
pub free_bucket : (cap : ℕ) (homes : List ℕ) → length homes < cap → (b : ℕ) × (b < cap) × (is_free homes b ≡ true)
free_bucket cap homes h =
    let xs = range_with_len 0 cap in
    let l = length-range_with_len 0 cap in
    elim (cases_Bool (list_any (is_free homes) xs)) [
      | inl t ↦
          let w = Any-from_list_any (is_free homes) xs t in
          grind (arith, common_steps, get_or-range_with_len)
      | inr f ↦
          let d : IsDistinct eqb xs = IsDistinct-from_apart eqb xs (λ i j d ij hj. grind (arith, common_steps, get_or-range_with_len, ne_eqb)) in
          let m = length-le_from_is_member nat_eq_equiv xs homes d (λ q m.
          not-false (list_any (eqb q) homes) (false_from_ne_true (is_free homes q) (λ t.
          both_ways (list_any (is_free homes) xs) f (any_member (is_free homes) q xs m t)))) in
          absurd (omega arith)
    ]

-- written control bytes leave a bucket empty
pub room_left : (cap : ℕ) (hashes homes controls : List ℕ) → AreWrittenControls cap hashes homes controls → ((j : ℕ) → j < length hashes → get_or hashes j 0 < 2 ^ 64) → length hashes < cap → HasRoom cap controls
room_left cap hashes homes controls w fits h = grind (arith, common_steps, free_bucket cap homes (omega arith), leb-true, free_empty)

pub all_fit : (hashes : List ℕ) (i : ℕ) → ((j : ℕ) → get_or hashes j 0 < 2 ^ 64) → (j : ℕ) → j < length (take i hashes) → get_or (take i hashes) j 0 < 2 ^ 64
all_fit hashes i fits j h = grind (arith, common_steps)
