-- Proofs of the laws of the hash.
use Rattle.std.proofs.Common.{◌≡◌, ℕ, zero, suc, ◌+◌, ◌*◌, ◌/◌, ◌%◌, ◌<◌, ◌≤◌, List, [], ◌∷◌, ◌++◌, length, get_or, map, drop, refl, sym, ap, ◌∙◌, arith, add-zero, zero-add, get_or-drop, append-nil, append_assoc, length-append, w64}
use Rattle.std.proofs.lemmas.Grind.{common_steps}
use Rattle.std.specs.List.{All, flat_map, fold, range_with_len}
use Rattle.std.specs.Int.{Width, from_le_bytes}
use Rattle.std.proofs.lemmas.List.{get_or_append_left}
use Rattle.std.proofs.Math.Seq.{drop-append-add}
use Rattle.std.proofs.lemmas.List.Sums.{fold-append}
use Rattle.rkyv_scan.specs.{CallsHashTheirWords, EightBytesAreOneWord, FixedCallsAgree, FixedCallsHashAlike, HasherCall, IsFixed, Isize, SizeWords, Usize, WritesJoin, byte_words, call_words, fx_feed, hash_word, hash_words, number_from, rest_words, whole_words}

pub fixed_agree : FixedCallsAgree
fixed_agree one other (Usize n) h = absurd h
fixed_agree one other (Isize z) h = absurd h
fixed_agree one other _ h = refl

states_agree : (one other : SizeWords) (state : ℕ) (calls : List HasherCall) → All IsFixed calls
    → fold (fx_feed one) state calls ≡ fold (fx_feed other) state calls
states_agree one other state [] h = refl
states_agree one other state (call ∷ calls) h =
    states_agree one other (fx_feed one state call) calls (λ k default l. h (suc k) default (omega arith))
    ∙ ap (λ words. fold (fx_feed other) (hash_words state words) calls) (fixed_agree one other call (h 0 call (omega arith)))

pub fixed_alike : FixedCallsHashAlike
fixed_alike one other calls h = states_agree one other 0 calls h

calls_are_words : (sizes : SizeWords) (state : ℕ) (calls : List HasherCall)
    → fold (fx_feed sizes) state calls ≡ hash_words state (flat_map (call_words sizes) calls)
calls_are_words sizes state [] = refl
calls_are_words sizes state (call ∷ calls) = grind (arith, common_steps, fold-append, calls_are_words sizes (fx_feed sizes state call) calls)

pub calls_words : CallsHashTheirWords
calls_words sizes calls = calls_are_words sizes 0 calls

-- a length that is a multiple of eight leaves no further words
rest_none : (a : List ℕ) → length a % 8 ≡ 0 → rest_words a ≡ []
unfolding rest_words
rest_none a h = grind (arith, common_steps)

pub eight_bytes : EightBytesAreOneWord
unfolding byte_words
eight_bytes sizes state a long = grind (arith, common_steps, rest_none)

from_eight : (xs ys : List ℕ) → ((j : ℕ) → j < 8 → get_or xs j 0 ≡ get_or ys j 0) → from_le_bytes w64 xs ≡ from_le_bytes w64 ys
from_eight xs ys h = grind arith

-- a word of the first list, and a word of the second
number_left : (a b : List ℕ) (i : ℕ) → i + 8 ≤ length a → number_from w64 (a ++ b) i ≡ number_from w64 a i
number_left a b i l = grind (arith, common_steps, from_eight, get_or-drop, get_or_append_left)

number_right : (w : Width) (a b : List ℕ) (i j : ℕ) → i ≡ length a + j → number_from w (a ++ b) i ≡ number_from w b j
number_right w a b i j e = ap (from_le_bytes w) (ap (λ x. drop x (a ++ b)) e ∙ drop-append-add a b j)

map_range : (f g : ℕ → ℕ) (a c n : ℕ) → ((j : ℕ) → j < n → f (a + j) ≡ g (c + j)) → map f (range_with_len a n) ≡ map g (range_with_len c n)
map_range f g a c zero h = refl
map_range f g a c (suc n) h =
    let here : f a ≡ g c = ap f (sym (add-zero a)) ∙ h 0 (omega arith) ∙ ap g (add-zero c) in
    let rest = map_range f g (a + 1) (c + 1) n (λ j l. ap f (let e : a + 1 + j ≡ a + (j + 1) = omega arith in e) ∙ h (j + 1) (omega arith) ∙ ap g (let e : c + (j + 1) ≡ c + 1 + j = omega arith in e)) in
    (λ i. here i ∷ rest i)

map_split : (f : ℕ → ℕ) (a m n : ℕ) → map f (range_with_len a (m + n)) ≡ map f (range_with_len a m) ++ map f (range_with_len (a + m) n)
map_split f a zero n = (λ i. map f (range_with_len (sym (add-zero a) i) (zero-add n i)))
map_split f a (suc m) n =
    let e : suc m + n ≡ suc (m + n) = omega arith in
    ap (λ x. map f (range_with_len a x)) e ∙ ap (λ t. f a ∷ t) (map_split f (a + 1) m n ∙ ap (λ x. map f (range_with_len (a + 1) m) ++ map f (range_with_len x n)) (let g : a + 1 + m ≡ a + suc m = omega arith in g))

whole_join : (a b : List ℕ) (m n : ℕ) → length a ≡ 8 * m → whole_words (a ++ b) (m + n) ≡ whole_words a m ++ whole_words b n
whole_join a b m n long =
    let f = λ (k : ℕ). number_from w64 (a ++ b) (8 * k) in
    map_split f 0 m n
    ∙ (λ i. map_range f (λ k. number_from w64 a (8 * k)) 0 0 m (λ j l. number_left a b (8 * (0 + j)) (omega arith)) i
    ++ map_range f (λ k. number_from w64 b (8 * k)) (0 + m) 0 n (λ j l. number_right w64 a b (8 * (0 + m + j)) (8 * (0 + j)) (omega arith)) i)

rest_join : (a b : List ℕ) → length a % 8 ≡ 0 → rest_words (a ++ b) ≡ rest_words b
unfolding rest_words
rest_join a b h = grind (arith, common_steps, length-append a b, number_right)

words_join : (a b : List ℕ) → length a % 8 ≡ 0 → byte_words (a ++ b) ≡ byte_words a ++ byte_words b
unfolding byte_words
words_join a b h =
    let m = length a / 8 in
    let n = length b / 8 in
    grind (arith, common_steps, length-append a b, rest_none a h, append-nil (whole_words a m), whole_join a b m n (omega arith), append_assoc (whole_words a m) (whole_words b n) (rest_words b), rest_join)

pub writes_join : WritesJoin
writes_join sizes state a b whole = sym (ap (hash_words state) (words_join a b whole) ∙ fold-append hash_word state (byte_words a) (byte_words b))
