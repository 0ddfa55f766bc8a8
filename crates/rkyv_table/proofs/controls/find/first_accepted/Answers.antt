use Rattle.std.proofs.Common.{◌≡◌, ℕ, List, ◌+◌, ◌%◌, ◌<◌, sym, ap, ◌∙◌, false, map, drop, length, get_or, Some, arith}
use Rattle.std.proofs.lemmas.Grind.{common_steps}
use Rattle.std.specs.List.{find, slice_get}
use Rattle.std.proofs.lemmas.List.{drop-drop}
use Rattle.rkyv_table.specs.{IsMarked}
use Rattle.rkyv_table.proofs.Marks.{head_at, head_found, head_skipped, none_found}
use Rattle.rkyv_table.proofs.controls.find.first_accepted.Goals as goal

-- the first of the remaining indices, as one of all
at_head : (indices rest : List ℕ) (n j : ℕ) → rest ≡ drop n indices → Some j ≡ slice_get rest 0 → (n < length indices) × (get_or indices n 0 ≡ j)
at_head indices rest n j e h = head_at indices n j (h ∙ ap (λ xs. slice_get xs 0) e)

marked_head : (at cap : ℕ) (indices rest : List ℕ) (n j : ℕ) → rest ≡ drop n indices → Some j ≡ slice_get rest 0 → IsMarked at cap indices ((at + j) % cap)
marked_head at cap indices rest n j e h = let w = at_head indices rest n j e h in (n, w.0, ap (λ z. (at + z) % cap) (sym w.1))

pub returns-then-cmp-clause-first : goal.returns-then-cmp-clause-first
returns-then-cmp-clause-first g c = grind (arith, common_steps, marked_head, head_found)

pub returns-clause-first : goal.returns-clause-first
returns-clause-first g c = grind (arith, common_steps, none_found)

pub loop-j-preserved : goal.loop-j-preserved
loop-j-preserved g c =
    let gone = c.loop-j.invariant.gone in
    record {
      gone = (gone.0 + 1, c.remove_lowest_bit-rest.ensures ∙ ap (drop 1) gone.1 ∙ drop-drop 1 gone.0 (g.M.Marks.indices c.args.marks));
      same = λ accept compares.
          let m = marked_head c.args.at c.args.cap (g.M.Marks.indices c.args.marks) (g.M.Marks.indices c.loop-j.rest) gone.0 c.in-Some.j gone.1 c.in-Some.ensures in
          let e = c.bucket_of-bucket.ensures in
          let m' : IsMarked c.args.at c.args.cap (g.M.Marks.indices c.args.marks) c.bucket_of-bucket.result = rw e m in
          let no : accept ((c.args.at + c.in-Some.j) % c.args.cap) ≡ false = ap accept (sym e) ∙ sym (compares c.bucket_of-bucket.result false m' c.if-cmp.ensures) in
          c.loop-j.invariant.same accept compares
          ∙ head_skipped (λ j. (c.args.at + j) % c.args.cap) accept (g.M.Marks.indices c.loop-j.rest) c.in-Some.j c.in-Some.ensures no
          ∙ ap (λ xs. find accept (map (λ j. (c.args.at + j) % c.args.cap) xs)) (sym c.remove_lowest_bit-rest.ensures);
    }

pub returns-then-cmp-clause-among : goal.returns-then-cmp-clause-among
returns-then-cmp-clause-among g c = grind (arith, common_steps)

pub remove_lowest_bit-rest-requires : goal.remove_lowest_bit-rest-requires
remove_lowest_bit-rest-requires g c = grind (arith, common_steps)
