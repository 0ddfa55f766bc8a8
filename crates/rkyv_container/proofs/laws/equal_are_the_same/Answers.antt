use denote.Enum.Bare.{sameb, same_true, true_same}
use mathlib.Core.Bool.{true, ◌&&◌}
use Rattle.std.specs.Prelude.{nat_eq}
use Rattle.std.proofs.Common.{ap}
use Rattle.std.proofs.lemmas.Bool.{and_from, and_parts, eq-eqb, eqb-true}
use Rattle.rkyv_container.specs.declared.contents.Contents.{Contents}
use Rattle.rkyv_container.specs.declared.header.Header.{Header}
use Rattle.rkyv_container.specs.contracts.contents.Kind.{the_type as kind_type}
use Rattle.rkyv_container.specs.contracts.contents.ItemType.{the_type as item_type}
use Rattle.rkyv_container.specs.contracts.contents.Width.{the_type as width_type}
use Rattle.rkyv_container.specs.contracts.errors.ContainerError.{enum as error_enum}
use Rattle.rkyv_container.proofs.Variants.{bare_same, none_same, number_same, one_same, two_same, variants_same}
use Rattle.rkyv_container.proofs.Same.{contents_same, header_same, same_sums, sums_same}
use Rattle.rkyv_container.proofs.laws.equal_are_the_same.Goals as goal

pub returns-clause-contents : goal.returns-clause-contents
returns-clause-contents c a b = (
  λ all.
      let kind = and_parts _ _ all in
      let key = and_parts _ _ kind.1 in
      let value = and_parts _ _ key.1 in
      contents_same a b (same_true kind_type tt _ _ kind.0) (same_true item_type tt _ _ key.0) (same_true item_type tt _ _ value.0) (same_true width_type tt _ _ value.1),
  λ is.
      and_from _ _ (true_same kind_type _ _ (ap (λ (x : Contents). x.kind) is))
      (and_from _ _ (true_same item_type _ _ (ap (λ (x : Contents). x.key) is))
      (and_from _ _ (true_same item_type _ _ (ap (λ (x : Contents). x.value) is)) (true_same width_type _ _ (ap (λ (x : Contents). x.width) is)))),
)

pub returns-clause-header : goal.returns-clause-header
returns-clause-header c a b = (
  λ all.
      let contents = and_parts _ _ all in
      let len = and_parts _ _ contents.1 in
      header_same a b ((returns-clause-contents c a.contents b.contents).0 contents.0) (eqb-true _ _ len.0) (sums_same _ _ len.1),
  λ is.
      and_from _ _ ((returns-clause-contents c a.contents b.contents).1 (ap (λ (x : Header). x.contents) is))
      (and_from _ _ (eq-eqb _ _ (ap (λ (x : Header). x.len) is)) (same_sums _ _ (ap (λ (x : Header). x.checksum) is))),
)

pub returns-clause-error : goal.returns-clause-error
returns-clause-error c a b =
    variants_same error_enum
    (λ x y. nat_eq x.0 y.0, (λ x y. true, (λ x y. nat_eq x.0 y.0, (λ x y. nat_eq x.0 y.0, (λ x y. nat_eq x.0 y.0, (λ x y. nat_eq x.0 y.0, (λ x y. nat_eq x.0 y.0, (λ x y. nat_eq x.0 y.0, (λ x y. nat_eq x.0 y.0, (λ x y. nat_eq x.0 y.0, (λ x y. sameb kind_type x.0 y.0 && sameb kind_type x.1.0 y.1.0, (λ x y. sameb item_type x.0 y.0 && sameb item_type x.1.0 y.1.0, (λ x y. sameb item_type x.0 y.0 && sameb item_type x.1.0 y.1.0, (λ x y. sameb width_type x.0 y.0 && sameb width_type x.1.0 y.1.0, (λ x y. nat_eq x.0 y.0 && nat_eq x.1.0 y.1.0, (λ x y. nat_eq x.0 y.0 && nat_eq x.1.0 y.1.0, tt))))))))))))))))
    (one_same nat_eq number_same, (none_same, (one_same nat_eq number_same, (one_same nat_eq number_same, (one_same nat_eq number_same, (one_same nat_eq number_same, (one_same nat_eq number_same, (one_same nat_eq number_same, (one_same nat_eq number_same, (one_same nat_eq number_same, (two_same (sameb kind_type) (bare_same kind_type tt), (two_same (sameb item_type) (bare_same item_type tt), (two_same (sameb item_type) (bare_same item_type tt), (two_same (sameb width_type) (bare_same width_type tt), (two_same nat_eq number_same, (two_same nat_eq number_same, tt))))))))))))))))
    a b
