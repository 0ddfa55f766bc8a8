-- Splits of a list at the first item that passes a test.
use Rattle.std.proofs.Common.{◌≡◌, ◌==◌, ℕ, ◌+◌, ◌<◌, ◌≤◌, Bool, true, List, [], ◌∷◌, Option, length, take, drop, Some, None, refl, sym, ap, subst, arith}
use Rattle.std.specs.List.{position, slice_split}
use Rattle.std.proofs.lemmas.List.Splits.{length-slice_split, slice_split_first, slice_split_none}
use denote.Ref.{Bor}
use Rattle.std.specs.Option.{MatchOption}
use Rattle.std.proofs.lemmas.Str.Pattern.{IsSplitOnceResult, split_once_first}
use Rattle.std.specs.Prelude.{codes, OnErr, Result}
use Rattle.std.specs.Str.{bytes_eq}
use Rattle.std.proofs.lemmas.Result.{on_err_weaker}
use Rattle.std.proofs.lemmas.Slice.Eq.{bytes_eq-Decides}
use Rattle.rkyv_dict.specs.{NeedMemory, Request, one_of, split_at, two_of, without_arguments}
use Rattle.std.proofs.lemmas.List.Quantifiers.{position-Some}
use Rattle.std.proofs.lemmas.List.Sums.{fails_before_first, position_or_len_is}
use Rattle.std.proofs.lemmas.Bool.{cases_lt, lt-ltb}

pub cut_at : (p : ℕ → Bool) (xs : List ℕ) (i : ℕ) → position p xs ≡ Some i → slice_split p xs ≡ take i xs ∷ slice_split p (drop (i + 1) xs)
cut_at p xs i e = grind (arith, position-Some, position_or_len_is, slice_split_first)

-- a list without such an item is one part
pub cut_none : (p : ℕ → Bool) (xs : List ℕ) → position p xs ≡ None → slice_split p xs ≡ xs ∷ []
cut_none p xs e = grind (arith, lt-ltb, slice_split_none, fails_before_first, cases_lt)

-- a list with at least one part has a first part
cons_of : (parts : List (List ℕ)) → 0 < length parts → (first : List ℕ) × (others : List (List ℕ)) × (parts ≡ first ∷ others)
cons_of [] h = absurd (omega arith)
cons_of (first ∷ others) h = (first, others, refl)

pub split_cons : (p : ℕ → Bool) (xs : List ℕ) → (first : List ℕ) × (others : List (List ℕ)) × (slice_split p xs ≡ first ∷ others)
split_cons p xs = cons_of (slice_split p xs) (omega (arith, length-slice_split p xs))

pub one_of_more : (word rest : List ℕ) → one_of (word ∷ split_at 32 rest) ≡ None
one_of_more word rest = let s = split_cons (λ b. b == 32) rest in rw s.2 refl

pub two_of_more : (first second rest : List ℕ) → two_of (first ∷ second ∷ split_at 32 rest) ≡ None
two_of_more first second rest = let s = split_cons (λ b. b == 32) rest in rw s.2 refl

pub without_arguments_of_more : (request : Request) (rest : List ℕ) → without_arguments request (split_at 32 rest) ≡ None
without_arguments_of_more request rest = let s = split_cons (λ b. b == 32) rest in rw s.2 refl

-- the only word of a list is all of it
one_of_is : (words : List (List ℕ)) (word : List ℕ) → one_of words ≡ Some word → words ≡ word ∷ []
one_of_is [] word e = absurd (let bad : None ≡ Some word = e in cc)
one_of_is (first ∷ []) word e = let same : Some first ≡ Some word = e in cc
one_of_is (first ∷ second ∷ more) word e = absurd (let bad : None ≡ Some word = e in cc)

pub needs_memory : (arguments : List (List ℕ)) (word : List ℕ) → one_of arguments ≡ Some word → 2 ≤ length word → NeedMemory (codes "check" ∷ arguments)
needs_memory arguments word e long = record { digits = word; check = ap (λ others. codes "check" ∷ others) (one_of_is arguments word e); several = long }

-- the same with a verb that equals `check`
pub needs_memory_as : {T E : Type 0} (r : Result T E) (verb : List ℕ) (arguments : List (List ℕ)) → bytes_eq verb (codes "check") ≡ true
    → OnErr r (NeedMemory (codes "check" ∷ arguments)) → OnErr r (NeedMemory (verb ∷ arguments))
needs_memory_as r verb arguments is h =
    on_err_weaker r (λ needs. subst (λ v. NeedMemory (v ∷ arguments)) (sym ((bytes_eq-Decides verb (codes "check")).0 is)) needs) h

-- a text is split at its first space
pub cut_first : (bs : List ℕ) (r : Option (Bor (List ℕ) × Bor (List ℕ))) → IsSplitOnceResult 32 bs r
    → MatchOption r (split_at 32 bs ≡ bs ∷ []) (λ x. split_at 32 bs ≡ x.0.now ∷ split_at 32 x.1.now)
cut_first bs None h =
    let none = split_once_first 32 bs None h (omega arith) in
    slice_split_none (λ b. b == 32) bs (λ k d below. fails_before_first (λ b. b == 32) bs k d (omega (arith, none)))
cut_first bs (Some x) h =
    let found = split_once_first 32 bs (Some x) h (omega arith) in
    rw (found.1, found.2) (slice_split_first (λ b. b == 32) bs 0 found.0)
