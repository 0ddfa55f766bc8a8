use Rattle.std.proofs.Common.{ℕ, None, Option, Some, ◌<◌, ◌∙◌, ap}
use Rattle.std.specs.Prelude.{IfSome}
use Rattle.rkyv_table.specs.{len_at}
use Rattle.rkyv_index.specs.{IsStored, index_len}
use Rattle.rkyv_index.proofs.SealedIndex.{as_read}
use Rattle.test_index.proofs.tests.sealed.index_of.Goals as goal

-- the second of two properties of the value in `index`, if there is one
second : (P Q : ℕ → Type 0) (index : Option ℕ) → IfSome index (λ i. P i × Q i) → IfSome index Q
second P Q None both = tt
second P Q (Some i) both = both.1

pub returns : goal.returns
returns g c =
    let bytes = ap (λ v. v.archive.now) c.of.ensures.view ∙ ap (λ a. a.now) c.new.ensures.0 in
    let pos = ap (λ v. v.pos) c.of.ensures.view ∙ c.new.ensures.1 in
    let w = g.W.Word.word in
    as_read c.of.result c.args.bytes.now c.args.root bytes pos (λ d r. IfSome c.get_index_of.result (λ i. i < len_at w d r))
    (second (IsStored c.of.result) (λ i. i < index_len c.of.result) c.get_index_of.result c.get_index_of.ensures.walked)
