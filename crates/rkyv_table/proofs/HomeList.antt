-- The capacity and the hashes determine the home buckets and the written control bytes.
use Rattle.std.proofs.Common.{◌≡◌, ℕ, zero, suc, ◌+◌, ◌*◌, ◌%◌, ◌<◌, ◌≤◌, inl, inr, refl, sym, ap, ◌∙◌, arith, List, [], ◌∷◌, ◌++◌, Bool, true, false, cond, eqb, ltb, length, get_or, take, map, Some, length-take}
use Rattle.std.proofs.lemmas.Grind.{common_steps}
use Rattle.std.specs.List.{find, fold, list_any, position_or_len, range_with_len}
use Rattle.std.specs.Option.{unwrap_or}
use Rattle.std.proofs.lemmas.Nat.{mod_below}
use Rattle.std.proofs.lemmas.List.{ext_get_or, get_or-map, get_or_past, length-map, take_all, take_more}
use Rattle.std.proofs.lemmas.List.FromFn.{get_or-map-range_with_len, length-map-range_with_len}
use Rattle.std.proofs.lemmas.List.Sums.{fold-append, passes_at_first}
use Rattle.std.proofs.lemmas.Bool.{both_ways, cases_Bool, cases_lt, eqb-true, le-ltb, lt-ltb, or_parts}
use Rattle.rkyv_table.specs.{AreHomes, AreWrittenControls, bucket_control, control_count, homes, is_free, probed, tag, with_home, written_controls}
use Rattle.rkyv_table.proofs.FirstFree.{free_probed}
use Rattle.rkyv_table.proofs.Lists.{none_find}
use Rattle.rkyv_table.proofs.Search.{cases_option, control_of}
use Rattle.rkyv_table.proofs.Written.{first_within}
use Rattle.rkyv_table.proofs.WrittenStep.{free_bucket, homes_more}

-- ---- home buckets

with_home_is : (cap h b : ℕ) (taken : List ℕ) → find (is_free taken) (probed h cap) ≡ Some b → with_home cap taken h ≡ taken ++ b ∷ []
unfolding with_home
with_home_is cap h b taken e = ap (λ o. taken ++ unwrap_or o 0 ∷ []) e

one_more_home : (cap : ℕ) (hashes : List ℕ) (i : ℕ) → i < length hashes → homes cap (take (i + 1) hashes) ≡ with_home cap (homes cap (take i hashes)) (get_or hashes i 0)
one_more_home cap hashes i h = ap (fold (with_home cap) []) (take_more hashes i 0 h) ∙ fold-append (with_home cap) [] (take i hashes) (get_or hashes i 0 ∷ [])

front_homes : (cap : ℕ) (hashes xs : List ℕ) → AreHomes cap hashes xs → (i : ℕ) → i ≤ length hashes → homes cap (take i hashes) ≡ take i xs
front_homes cap hashes xs p zero h = refl
front_homes cap hashes xs p (suc i) h =
    let count = p.count in
    let s : suc i ≡ i + 1 = omega arith in
    let ih = front_homes cap hashes xs p i (omega arith) in
    let f = with_home_is cap (get_or hashes i 0) (get_or xs i 0) (take i xs) (p.first i (omega arith)) in
    rw s (one_more_home cap hashes i (omega arith) ∙ ap (λ t. with_home cap t (get_or hashes i 0)) ih ∙ f ∙ sym (take_more xs i 0 (omega arith)))

pub homes_one_list : (cap : ℕ) (hashes xs : List ℕ) → AreHomes cap hashes xs → xs ≡ homes cap hashes
homes_one_list cap hashes xs p = grind (arith, common_steps, front_homes, take_all)

-- fewer items than buckets leave a home bucket for the next item
next_home : (cap h : ℕ) (taken : List ℕ) → length taken < cap → (b : ℕ) × (find (is_free taken) (probed h cap) ≡ Some b)
next_home cap h taken room =
    let f = free_bucket cap taken room in
    grind (arith, common_steps, cases_option (find (is_free taken) (probed h cap)), free_probed h cap (is_free taken) f.0 f.1 f.2, both_ways, none_find)

front_exist : (cap : ℕ) (hashes : List ℕ) → length hashes < cap → (i : ℕ) → i ≤ length hashes → AreHomes cap (take i hashes) (homes cap (take i hashes))
front_exist cap hashes room zero h = record { count = refl; first = λ i l. absurd (omega arith) }
front_exist cap hashes room (suc i) h =
    let s : suc i ≡ i + 1 = omega arith in
    let ih = front_exist cap hashes room i (omega arith) in
    let count = ih.count in
    let l = length-take i hashes in
    let n = next_home cap (get_or hashes i 0) (homes cap (take i hashes)) (omega arith) in
    let e = one_more_home cap hashes i (omega arith) ∙ with_home_is cap (get_or hashes i 0) n.0 (homes cap (take i hashes)) n.1 in
    rw (s, e, take_more hashes i 0 (omega arith)) (homes_more cap (get_or hashes i 0) n.0 (take i hashes) (homes cap (take i hashes)) ih n.1)

pub homes_exist : (cap : ℕ) (hashes : List ℕ) → length hashes < cap → AreHomes cap hashes (homes cap hashes)
homes_exist cap hashes room = grind (arith, common_steps, front_exist cap hashes room (length hashes) (omega arith), take_all (length hashes) hashes (omega arith))

-- ---- written control bytes

none_within : (P : ℕ → Bool) (xs : List ℕ) → list_any P xs ≡ false → length xs ≤ position_or_len P xs
none_within P [] h = omega arith
none_within P (x ∷ xs) h = let u = or_parts (P x) (list_any P xs) h in let ih = none_within P xs u.1 in rw u.0 (omega arith)

bucket_is : (cap : ℕ) (hashes xs controls : List ℕ) (b : ℕ) → AreWrittenControls cap hashes xs controls → b < cap → get_or controls b 0 ≡ bucket_control cap hashes b
bucket_is cap hashes xs controls b w hb =
    let count = w.placed.count in
    let same = homes_one_list cap hashes xs w.placed in
    let lm = length-map hashes tag in
    let i = position_or_len (eqb b) xs in
    elim (cases_Bool (list_any (eqb b) xs)) [
      | inr none ↦
          let f : is_free xs b ≡ true = rw none refl in
          let past : length xs ≤ i = none_within (eqb b) xs none in
          w.others b hb f ∙ sym (rw (← same) (get_or_past (map tag hashes) i 255 (omega arith)))
      | inl some ↦
          let l : i < length xs = first_within (eqb b) xs some in
          let e = eqb-true b (get_or xs i 0) (passes_at_first (eqb b) xs 0 l) in
          ap (λ z. get_or controls z 0) e ∙ w.tags i (omega arith) ∙ sym (rw (← same) (get_or-map tag hashes i 0 255 (omega arith)))
    ]

pub written_one_list : (cap : ℕ) (hashes xs controls : List ℕ) → 0 < cap → AreWrittenControls cap hashes xs controls → controls ≡ written_controls cap hashes
unfolding written_controls
written_one_list cap hashes xs controls pos w =
    let f = λ (q : ℕ). cond (ltb q (2 * cap)) (bucket_control cap hashes (q % cap)) 255 in
    let n = control_count cap in
    let count = w.wrapped.count in
    let l = length-map-range_with_len f 0 n in
    ext_get_or 0 controls (map f (range_with_len 0 n)) (omega arith) (λ q h. grind (arith, common_steps, cases_lt q (2 * cap), bucket_is cap hashes xs controls (q % cap) w (mod_below q cap pos), mod_below q cap pos, get_or-map-range_with_len, lt-ltb, control_of, le-ltb))
