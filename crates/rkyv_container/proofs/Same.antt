-- Two values with the same fields are the same.
use Rattle.std.proofs.Common.{◌≡◌, ℕ, true, false, Option, Some, None, refl, ap, subst, ◌∙◌}
use Rattle.std.specs.Prelude.{nat_eq}
use Rattle.std.specs.Option.{option_eq}
use Rattle.std.proofs.lemmas.Bool.{eqb-true, eq-eqb}
use Rattle.rkyv_container.specs.declared.contents.Contents.{Contents}
use Rattle.rkyv_container.specs.declared.contents.Kind.{Kind}
use Rattle.rkyv_container.specs.declared.contents.ItemType.{ItemType}
use Rattle.rkyv_container.specs.declared.contents.Width.{Width}
use Rattle.rkyv_container.specs.declared.header.Header.{Header}

contents_of : Kind → ItemType → ItemType → Width → Contents
contents_of kind key value width = record { kind = kind; key = key; value = value; width = width }

pub contents_same : (a b : Contents) → a.kind ≡ b.kind → a.key ≡ b.key → a.value ≡ b.value → a.width ≡ b.width → a ≡ b
unfolding contents_of
contents_same a b kind key value width =
    ap (λ x. contents_of x a.key a.value a.width) kind ∙ ap (λ x. contents_of b.kind x a.value a.width) key
    ∙ ap (λ x. contents_of b.kind b.key x a.width) value ∙ ap (λ x. contents_of b.kind b.key b.value x) width

header_with : Contents → ℕ → Option ℕ → Header
header_with contents len checksum = record { contents = contents; len = len; checksum = checksum }

pub header_same : (a b : Header) → a.contents ≡ b.contents → a.len ≡ b.len → a.checksum ≡ b.checksum → a ≡ b
unfolding header_with
header_same a b contents len checksum =
    ap (λ x. header_with x a.len a.checksum) contents ∙ ap (λ x. header_with b.contents x a.checksum) len
    ∙ ap (λ x. header_with b.contents b.len x) checksum

pub sums_same : (a b : Option ℕ) → option_eq nat_eq a b ≡ true → a ≡ b
sums_same None None is = refl
sums_same None (Some y) is = absurd (let bad : false ≡ true = is in cc)
sums_same (Some x) None is = absurd (let bad : false ≡ true = is in cc)
sums_same (Some x) (Some y) is = ap Some (eqb-true x y is)

itself : (a : Option ℕ) → option_eq nat_eq a a ≡ true
itself None = refl
itself (Some x) = eq-eqb x x refl

pub same_sums : (a b : Option ℕ) → a ≡ b → option_eq nat_eq a b ≡ true
same_sums a b is = subst (λ x. option_eq nat_eq a x ≡ true) is (itself a)
