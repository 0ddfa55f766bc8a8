use Rattle.std.proofs.Common.{rules, ◌≡◌, ◌∙◌, sym, subst, List, ℕ, Option, None, Some}
use Rattle.std.specs.Int.{Width}
use Rattle.rkyv_base.specs.{ElementSpec, ModifiesOnly, StaysValid, Viewable}
use Rattle.rkyv_table.specs.{IsItemAt, IsSealIter, StepsAndWrites, table_spec}
use Rattle.rkyv_table.specs.declared.table.raw_iter_seal.RawIterSeal.{RawIterSeal}
use Rattle.rkyv_table.proofs.SealedItems.{cursor_kept}
use Rattle.test_table.proofs.tests.in_place.set_all_by_seals.Goals as goal

module _ {T : Type 0} (w : Width) (s : ElementSpec) (p : ℕ) (Writes : List ℕ → ℕ → List ℕ → Type 0)
    (good : (b c : List ℕ) (q : ℕ) → Writes b q c → ModifiesOnly b q s.size c × StaysValid s b c q) (before after : RawIterSeal T) where
  step_kept : (result : Option ℕ) → StepsAndWrites s Writes before result after → IsSealIter w s p before → IsSealIter w s p after
  step_kept None h is = subst (IsSealIter w s p) (sym h.writes) (h.takes w p is).2
  step_kept (Some q) h is =
      let t = h.takes w p is in
      let item : IsItemAt w s h.stepped.archive.now p t.bucket q = subst (λ (b : List ℕ). IsItemAt w s b p t.bucket q) (sym h.archive.bytes) t.item in
      let k = good _ _ q h.writes.1 in
      (cursor_kept w s p t.bucket q h.stepped after t.iter item h.writes.0 k.0 k.1).1

step_keeps : {T : Type 0} (w : Width) (s : ElementSpec) (p : ℕ) {Writes : List ℕ → ℕ → List ℕ → Type 0} (before after : RawIterSeal T) (result : Option ℕ) → StepsAndWrites s Writes before result after
    → IsSealIter w s p before → ((b c : List ℕ) (q : ℕ) → Writes b q c → ModifiesOnly b q s.size c × StaysValid s b c q) → IsSealIter w s p after
step_keeps w s p before after result h is good = step_kept w s p _ good before after result h is

pub loop-preserved : goal.loop-preserved
loop-preserved g c = (
  c.next_seal_with.ensures.reference ∙ c.loop.invariant.0,
  step_keeps g.W.Word.word g.N.HasSpec.spec c.args.pos _ _ _ c.next_seal_with.ensures.steps c.loop.invariant.1 (λ b d q h. rw (sym h.bytes, sym h.pos, sym (h.leaves h.met.0.same_reference)) h.met.1),
)

pub returns : goal.returns
returns g c =
    let same : c.loop.rest.archive.now ≡ c.archive-1.given.0 = search rules in
    subst (λ (b : List ℕ). Viewable (table_spec g.W.Word.word g.N.HasSpec.spec) b c.args.pos) same c.loop.invariant.1.table
