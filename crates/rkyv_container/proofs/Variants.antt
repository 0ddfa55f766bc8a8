-- `==` of an enum is sameness if `==` of each variant's fields is.
use mathlib.Core.Path.{◌≡◌, refl, ap, subst}
use mathlib.Core.Logic.{inl, inr, ◌↔◌}
use mathlib.Core.Bool.{Bool, true, false, ◌&&◌, true≢false}
use mathlib.Core.List.{List, [], ◌∷◌}
use Rattle.std.proofs.Common.{ℕ, sym}
use Rattle.std.specs.Prelude.{nat_eq}
use Rattle.std.proofs.lemmas.Bool.{and_from, and_parts, eq-eqb, eqb-true}
use denote.Struct.Field.{Field}
use denote.Struct.Values.{Values}
use denote.Enum.Bare.{Bare, sameb, same_true, true_same}
use denote.Enum.Compared.{Each, by}
use denote.Enum.Declared.{Choice, Declared, Record, values_one}

-- each entry of `each` is sameness of the variant's fields
abbrev pub Same : (Fss : List (List Field)) → Each Bool Fss → Type 0
Same [] each = Unit {0}
Same (Fs ∷ Fss) each = ((x y : Values Fs) → (each.0 x y ≡ true) ↔ (x ≡ y)) × Same Fss each.1

choices_same : (Fss : List (List Field)) (each : Each Bool Fss) → Same Fss each → (c d : Choice Fss) → by false false Fss each c d ≡ true → c ≡ d
choices_same [] each laws c d is = absurd c
choices_same (Fs ∷ Fss) each laws (inl x) (inl y) is = ap inl ((laws.0 x y).0 is)
choices_same (Fs ∷ Fss) each laws (inl x) (inr d) is = absurd (true≢false (sym is))
choices_same (Fs ∷ Fss) each laws (inr c) (inl y) is = absurd (true≢false (sym is))
choices_same (Fs ∷ Fss) each laws (inr c) (inr d) is = ap inr (choices_same Fss each.1 laws.1 c d is)

choice_itself : (Fss : List (List Field)) (each : Each Bool Fss) → Same Fss each → (c : Choice Fss) → by false false Fss each c c ≡ true
choice_itself [] each laws c = absurd c
choice_itself (Fs ∷ Fss) each laws (inl x) = (laws.0 x x).1 refl
choice_itself (Fs ∷ Fss) each laws (inr c) = choice_itself Fss each.1 laws.1 c

pub variants_same : (N : Record) (each : Each Bool N.parts) → Same N.parts each → (a b : N.D) → (by false false N.parts each (N.as_values a) (N.as_values b) ≡ true) ↔ (a ≡ b)
variants_same N each laws a b = (
  λ is. values_one N a b (choices_same N.parts each laws (N.as_values a) (N.as_values b) is),
  λ is. subst (λ d. by false false N.parts each (N.as_values a) d ≡ true) (ap N.as_values is) (choice_itself N.parts each laws (N.as_values a)),
)

-- a variant with no field, with one and with two
pub none_same : (x y : Unit {0}) → (true ≡ true) ↔ (x ≡ y)
none_same x y = (λ _. refl, λ _. refl)

pub one_same : {A : Type 0} (E : A → A → Bool) → ((x y : A) → (E x y ≡ true) ↔ (x ≡ y)) → (x y : A × Unit {0}) → (E x.0 y.0 ≡ true) ↔ (x ≡ y)
one_same {A} E law x y = (λ is. λ i. ((law x.0 y.0).0 is i, tt), λ is. (law x.0 y.0).1 (ap (λ (p : A × Unit {0}). p.0) is))

pub two_same : {A : Type 0} (E : A → A → Bool) → ((x y : A) → (E x y ≡ true) ↔ (x ≡ y)) → (x y : A × (A × Unit {0})) → ((E x.0 y.0 && E x.1.0 y.1.0) ≡ true) ↔ (x ≡ y)
two_same {A} E law x y = (
  λ is. let parts = and_parts _ _ is in λ i. ((law x.0 y.0).0 parts.0 i, ((law x.1.0 y.1.0).0 parts.1 i, tt)),
  λ is. and_from _ _ ((law x.0 y.0).1 (ap (λ (p : A × (A × Unit {0})). p.0) is)) ((law x.1.0 y.1.0).1 (ap (λ (p : A × (A × Unit {0})). p.1.0) is)),
)

pub number_same : (x y : ℕ) → (nat_eq x y ≡ true) ↔ (x ≡ y)
number_same x y = (eqb-true x y, eq-eqb x y)

pub bare_same : (D : Declared) → Bare D.parts → (x y : D.D) → (sameb D x y ≡ true) ↔ (x ≡ y)
bare_same D bare x y = (same_true D bare x y, true_same D x y)
