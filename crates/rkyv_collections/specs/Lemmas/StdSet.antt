-- Lemmas: std sets, as their keys, each with the unit value.
use Rattle.std.proofs.lemmas.Grind.{common_steps}
use Rattle.std.specs.Prelude.{◌≡◌, ℕ, Bool, List, [], ◌∷◌, length}
use Rattle.std.proofs.Common.{refl, ap, ◌∙◌, arith, cond, Some, None}
use Rattle.std.specs.List.{All, list_any}
use Rattle.std.proofs.lemmas.Bool.{cases_Bool}
use Rattle.std.proofs.lemmas.List.{length-map}
use Rattle.std.proofs.lemmas.List.Elements.{All-cons, All-head, All-tail}
use Rattle.std.specs.Int.{Width}
use Rattle.std.specs.Map.{keys_of, lookup}
use Rattle.rkyv_base.specs.{ElementSpec, Format, IsFormat, unit_represents, unit_spec}
use Rattle.rkyv_table.specs.{len_at, with_units}
use Rattle.rkyv_collections.specs.{EntriesEqual, FindsPair}

pub keys_with_units : {A : Type 0} (keys : List A) → keys_of (with_units keys) ≡ keys
keys_with_units [] = refl
keys_with_units {A} (x ∷ xs) = ap (λ (t : List A). x ∷ t) (keys_with_units xs)

-- a lookup among keys, each with the unit value
pub unit_lookup : {A : Type 0} (test : A → Bool) (keys : List A)
    → lookup test (with_units keys) ≡ cond (list_any test keys) (Some tt) None
unit_lookup test [] = refl
unit_lookup test (x ∷ xs) = grind (arith, common_steps, cases_Bool, unit_lookup test xs)

all_units : {A : Type 0} (P : A × Unit {0} → Type 0) (keys : List A) → All P (with_units keys)
    → All (λ key. P (key, tt)) keys
all_units P [] all = λ k d h. absurd (omega (arith, h))
all_units P (x ∷ xs) all =
    All-cons (λ key. P (key, tt)) x xs (All-head P (x, tt) (with_units xs) all)
    (all_units P xs (All-tail P (x, tt) (with_units xs) all))

-- a set that equals the keys, each with the unit value, equals the std set
pub set_equal_entries : {A : Type 0} (w : Width) (k : ElementSpec) (hash : A → ℕ)
    (fits : A → List ℕ → ℕ → Bool) (b : List ℕ) (p : ℕ) (keys : List A)
    → EntriesEqual w k unit_spec hash fits unit_represents b p (with_units keys)
    → (len_at w b p ≡ length keys)
    × All (λ key. FindsPair w k unit_spec hash fits unit_represents b p (key, tt)) keys
set_equal_entries w k hash fits b p keys h = (
  h.0 ∙ length-map keys (λ key. (key, tt)),
  all_units (FindsPair w k unit_spec hash fits unit_represents b p) keys h.1,
)

-- a std set equals its archived form
pub set_equal_written : {X A R : Type 0} (w : Width) (k s : ElementSpec) (hash : A → ℕ) (fits : A
    → List ℕ
    → ℕ → Bool) (model : X → List A) (f : Format X R)
    → IsFormat s (λ b p x. EntriesEqual w k unit_spec hash fits unit_represents b p
    (with_units (model x))) f
    → IsFormat s (λ b p x. (len_at w b p ≡ length (model x))
    × All (λ key. FindsPair w k unit_spec hash fits unit_represents b p (key, tt)) (model x)) f
set_equal_written w k s hash fits model f law = record {
  size_exact = law.size_exact;
  exclusive = law.exclusive;
  sound = λ x r c p0 p part out h i t o q al.
      let d = law.sound x r c p0 p part out h i t o q al in
      (d.0, d.1, set_equal_entries w k hash fits c p (model x) d.2);
}
