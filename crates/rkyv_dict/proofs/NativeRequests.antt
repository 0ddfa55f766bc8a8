-- The keys and values of a request are numbers of 32 bits, or UTF-8.
use Rattle.std.proofs.Common.{◌≡◌, ℕ, zero, suc, ◌+◌, ◌<◌, ◌≤◌, ◌^◌, ◌==◌, ◌&&◌, arith, rules, refl, sym, subst, inl, inr, Bool, true, false, List, [], ◌∷◌, length, take, drop, Option, None, Some, IfSome, length-drop}
use Rattle.std.specs.Prelude.{if◌then◌else◌, nat_le, slice_index}
use Rattle.std.specs.List.{All, position_or_len, slice_split}
use Rattle.std.specs.Option.{option_map}
use Rattle.std.specs.Str.{IsUtf8, is_utf8}
use Rattle.std.specs.Str.Parse.{digits_value}
use Rattle.std.proofs.lemmas.Bool.{and_parts, cases_lt, eqb-true, leb-true}
use Rattle.std.proofs.lemmas.List.{nil_from_length}
use Rattle.std.proofs.lemmas.List.Elements.{All-cons, All-nil, All-tail}
use Rattle.std.proofs.lemmas.List.Splits.{slice_split_first, slice_split_none}
use Rattle.std.proofs.lemmas.List.Sums.{fails_before_first, passes_at_first}
use Rattle.std.proofs.lemmas.Str.{IsCharBoundary-after_ascii, IsCharBoundary-before_ascii, IsUtf8-drop, IsUtf8-from_is_utf8, IsUtf8-nil, IsUtf8-take}
use Rattle.rkyv_dict.specs.{Request, both_of, build_archive, check_archive, count_misplaced, get_request, get_value, is_numeral, list_pairs, most_number, number_key, number_of, one_of, parsed_by, parsed_by_both, put_numbers, put_request, put_texts, request_by, request_of, request_of_words, set_kind, set_load_factor, set_width, show_hex, text_key, text_of, two_of, without_arguments, words_of}
use Rattle.rkyv_dict.specs.declared.form.Kind.{Kind}
use Rattle.rkyv_dict.specs.declared.form.Kind.TheVariants.{Num, Text}

-- the key and the value of a request to put a pair are native
abbrev pub IsNative : Request → Type 0
IsNative (set_kind kind) = Unit {0}
IsNative (set_width bits) = Unit {0}
IsNative (set_load_factor numerator denominator) = Unit {0}
IsNative (put_numbers key value) = (key < 2 ^ 32) × (value < 2 ^ 32)
IsNative (put_texts key value) = IsUtf8 key × IsUtf8 value
IsNative build_archive = Unit {0}
IsNative (check_archive bytes) = Unit {0}
IsNative show_hex = Unit {0}
IsNative (get_value key) = Unit {0}
IsNative list_pairs = Unit {0}
IsNative count_misplaced = Unit {0}

-- ---- words

-- the words of UTF-8 are UTF-8
words_utf8 : (n : ℕ) (xs : List ℕ) → length xs ≤ n → IsUtf8 xs → All IsUtf8 (slice_split (λ b. b == 32) xs)
words_utf8 zero xs short u = subst (λ (l : List ℕ). All IsUtf8 (slice_split (λ b. b == 32) l)) (sym (nil_from_length xs (omega arith))) (All-cons IsUtf8 [] [] IsUtf8-nil (All-nil IsUtf8))
words_utf8 (suc n) xs short u =
    let p : ℕ → Bool = λ b. b == 32 in
    let i = position_or_len p xs in
    elim (cases_lt i (length xs)) [
      | inr none ↦
          let whole = slice_split_none p xs (λ k d below. fails_before_first p xs k d (omega arith)) in
          subst (All IsUtf8) (sym whole) (All-cons IsUtf8 xs [] u (All-nil IsUtf8))
      | inl some ↦
          let space : slice_index xs i ≡ 32 = eqb-true (slice_index xs i) 32 (passes_at_first p xs 0 some) in
          let small : slice_index xs i < 128 = omega (arith, space) in
          let word : IsUtf8 (take i xs) = IsUtf8-take xs i u (IsCharBoundary-before_ascii xs i some small) in
          let rest : IsUtf8 (drop (i + 1) xs) = IsUtf8-drop xs (i + 1) u (IsCharBoundary-after_ascii xs i u some small) in
          let others = words_utf8 n (drop (i + 1) xs) (omega (arith, length-drop (i + 1) xs)) rest in
          subst (All IsUtf8) (sym (slice_split_first p xs 0 some)) (All-cons IsUtf8 (take i xs) (slice_split p (drop (i + 1) xs)) word others)
    ]

-- ---- values of words

if_some : {A : Type 0} (P : A → Type 0) (test : Bool) (value : Option A) → (test ≡ true → IfSome value P) → IfSome (if test then value else None) P
if_some P true value h = h refl
if_some P false value h = tt

small_number : (most : ℕ) (word : List ℕ) → IfSome (number_of most word) (λ n. n ≤ most)
unfolding number_of
small_number most word =
    let n = digits_value 10 word in
    if_some (λ m. m ≤ most) (is_numeral word && nat_le n most) (Some n) (λ t. leb-true n most (and_parts (is_numeral word) (nat_le n most) t).1)

native_text : (word : List ℕ) → IsUtf8 word → IfSome (text_of word) IsUtf8
native_text [] u = tt
native_text (b ∷ bs) u = u

both_native : {A : Type 0} (P : A → Type 0) (a b : Option A) → IfSome a P → IfSome b P → IfSome (both_of a b) (λ p. P p.0 × P p.1)
both_native P None b h k = tt
both_native P (Some x) None h k = tt
both_native P (Some x) (Some y) h k = (h, k)

two_native : (Q : List ℕ → Type 0) (words : List (List ℕ)) → All Q words → IfSome (two_of words) (λ p. Q p.0 × Q p.1)
two_native Q words all = grind arith

parsed_native : {A : Type 0} (P : A → Type 0) (Q : List ℕ → Type 0) (parse : List ℕ → Option A) → ((word : List ℕ) → Q word → IfSome (parse word) P)
    → (words : Option (List ℕ × List ℕ)) → IfSome words (λ p. Q p.0 × Q p.1) → IfSome (parsed_by_both parse words) (λ p. P p.0 × P p.1)
parsed_native P Q parse one None h = tt
parsed_native P Q parse one (Some words) h = both_native P (parse words.0) (parse words.1) (one words.0 h.0) (one words.1 h.1)

mapped_native : {A : Type 0} (P : A → Type 0) (request : A → Request) (value : Option A) → IfSome value P → ((a : A) → P a → IsNative (request a)) → IfSome (option_map request value) IsNative
mapped_native P request None h native = tt
mapped_native P request (Some a) h native = native a h

-- a request that puts no pair is native, whatever its values
mapped_any : {A : Type 0} (request : A → Request) (value : Option A) → ((a : A) → IsNative (request a)) → IfSome (option_map request value) IsNative
mapped_any request None native = tt
mapped_any request (Some a) native = native a

-- ---- requests

alone_native : (request : Request) (arguments : List (List ℕ)) → IsNative request → IfSome (without_arguments request arguments) IsNative
alone_native request [] h = h
alone_native request (next ∷ more) h = tt

put_native : (kind : Kind) (arguments : List (List ℕ)) → All IsUtf8 arguments → IfSome (put_request kind arguments) IsNative
put_native Num arguments all =
    mapped_native (λ p. (p.0 ≤ most_number) × (p.1 ≤ most_number)) (λ p. put_numbers p.0 p.1) (parsed_by_both (number_of most_number) (two_of arguments))
    (parsed_native (λ n. n ≤ most_number) IsUtf8 (number_of most_number) (λ word u. small_number most_number word) (two_of arguments) (two_native IsUtf8 arguments all))
    (λ p h. (omega (arith, h.0), omega (arith, h.1)))
put_native Text arguments all =
    mapped_native (λ p. IsUtf8 p.0 × IsUtf8 p.1) (λ p. put_texts p.0 p.1) (parsed_by_both text_of (two_of arguments))
    (parsed_native IsUtf8 IsUtf8 text_of native_text (two_of arguments) (two_native IsUtf8 arguments all)) (λ p h. h)

get_native : (kind : Kind) (arguments : List (List ℕ)) → IfSome (get_request kind arguments) IsNative
get_native Num arguments = mapped_any (λ k. get_value (number_key k)) (parsed_by (number_of most_number) (one_of arguments)) (λ k. tt)
get_native Text arguments = mapped_any (λ t. get_value (text_key t)) (parsed_by text_of (one_of arguments)) (λ t. tt)

if_both : (test : Bool) (x y : Option Request) → IfSome x IsNative → IfSome y IsNative → IfSome (if test then x else y) IsNative
if_both true x y h k = h
if_both false x y h k = k

by_native : (kind : Kind) (verb : List ℕ) (arguments : List (List ℕ)) → All IsUtf8 arguments → IfSome (request_by kind verb arguments) IsNative
unfolding request_by
by_native kind verb arguments all = search (rules, if_both, mapped_any, put_native, get_native, alone_native)

of_words_native : (kind : Kind) (words : List (List ℕ)) → All IsUtf8 words → IfSome (request_of_words kind words) IsNative
of_words_native kind [] all = tt
of_words_native kind (verb ∷ arguments) all = by_native kind verb arguments (All-tail IsUtf8 verb arguments all)

-- the request of a line is native
pub request_native : (kind : Kind) (line : List ℕ) → IfSome (request_of kind line) IsNative
unfolding request_of
request_native kind line =
    if_some IsNative (is_utf8 line) (request_of_words kind (words_of line))
    (λ t. of_words_native kind (words_of line) (words_utf8 (length line) line (omega arith) (IsUtf8-from_is_utf8 line t)))
