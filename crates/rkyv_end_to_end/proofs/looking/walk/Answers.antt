use Rattle.std.proofs.Common.{◌≡◌, ℕ, ◌∙◌, ap, arith, rules, subst, sym, List}
use Rattle.std.proofs.lemmas.Grind.{common_steps}
use Rattle.std.proofs.lemmas.Result.{err_from_is_err_and}
use Rattle.std.specs.List.{All}
use Rattle.rkyv_base.specs.{Viewable}
use Rattle.rkyv_table.specs.{item_positions}
use Rattle.rkyv_end_to_end.proofs.looking.walk.Goals as goal

pub returns-clause-all_valid : goal.returns-clause-all_valid
returns-clause-all_valid g c =
    let s = g.T.HasSpec.spec in
    let b : List ℕ = c.args.bytes.now in
    let raw = c.raw_iter-item-items in
    let bytes = ap (λ v. v.archive.now) c.of.ensures.view ∙ ap (λ v. v.now) c.new.ensures.0 in
    let pos = ap (λ v. v.pos) c.of.ensures.view ∙ c.new.ensures.1 in
    let P = λ (a : List ℕ) (q : ℕ). raw.result.positions ≡ item_positions g.W.Word.word s.size a q in
    let all : P b c.args.pos = subst (P b) pos (subst (λ (a : List ℕ). P a c.of.result.view.pos) bytes raw.ensures.positions) in
    let walked : c.loop-item.walked.items ≡ item_positions g.W.Word.word s.size b c.args.pos = search rules in
    let valid = subst (λ (a : List ℕ). All (Viewable s a) raw.result.positions) (ap (λ a. a.now) raw.ensures.archive ∙ bytes) raw.ensures.all_valid in
    subst (All (Viewable s b)) (all ∙ sym walked) valid

pub loop-item-preserved : goal.loop-item-preserved
loop-item-preserved g c = grind (arith, common_steps)

pub returns-in_err-push-clause-items : goal.returns-in_err-push-clause-items
returns-in_err-push-clause-items g c = let p = err_from_is_err_and c.from_residual.result c.from_residual.ensures.1 in rw p.1 (grind (arith, common_steps))

pub returns-in_err-push-clause-count : goal.returns-in_err-push-clause-count
returns-in_err-push-clause-count g c = let p = err_from_is_err_and c.from_residual.result c.from_residual.ensures.1 in rw p.1 tt

pub returns-in_err-push-clause-all_valid : goal.returns-in_err-push-clause-all_valid
returns-in_err-push-clause-all_valid g c = let p = err_from_is_err_and c.from_residual.result c.from_residual.ensures.1 in rw p.1 tt
