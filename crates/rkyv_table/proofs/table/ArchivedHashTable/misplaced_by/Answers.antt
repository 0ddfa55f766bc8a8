use Rattle.std.proofs.Common.{◌≡◌, ◌∙◌, arith, sym, ap, subst, zero-add, length, filter}
use Rattle.std.specs.List.{All}
use Rattle.rkyv_scan.specs.{generic_kind}
use Rattle.rkyv_table.specs.{IsWalked, bucket_misplaced, cap_at, table_bytes, table_controls, table_pos, walk}
use Rattle.rkyv_table.proofs.MisplacedIn.{counted_none, counted_one, left_walked, next_walked}
use Rattle.rkyv_table.proofs.RawWalks.{walk_count, walked_all}
use Rattle.rkyv_table.proofs.Walks.{walk_small}
use Rattle.rkyv_table.proofs.table.ArchivedHashTable.misplaced_by.Goals as goal

pub loop-bucket-init : goal.loop-bucket-init
loop-bucket-init g c =
    let w = g.W.Word.word in
    let s = g.T.HasSpec.spec in
    let b = table_bytes c.args.self in
    let p = table_pos c.args.self in
    let e : c.into_iter-bucket-iterator.result ≡ walk (table_controls w b p) (cap_at w b p) =
    c.into_iter-bucket-iterator.ensures.into_iter_gives ∙ c.walk-bucket-items.ensures in
    let l = ap length e in
    let small = walk_small (table_controls w b p) (cap_at w b p) in
    let all = walk_count w s g.T.HasSpec.laws b p c.args.self.valid in
    record {
      walked = subst (All (IsWalked w b p)) (sym e) (walked_all w s g.T.HasSpec.laws b p);
      counted = omega arith;
      few = omega (arith, l, all);
      counting = λ hash_of same hash_as same_as.
          zero-add _ ∙ ap (λ xs. length (filter (bucket_misplaced generic_kind c.args.self hash_of same) xs)) e;
    }

pub item-item-requires : goal.item-item-requires
item-item-requires g c = next_walked c.args.self c.in-Some.bucket c.loop-bucket.bucket-iterator c.next.new.self c.in-Some.ensures.steps c.loop-bucket.invariant.walked

pub loop-bucket-preserved-then-is_misplaced : goal.loop-bucket-preserved-then-is_misplaced
loop-bucket-preserved-then-is_misplaced g c =
    let l = ap length c.in-Some.ensures.steps in
    let counted = c.loop-bucket.invariant.counted in
    record {
      walked = left_walked c.args.self c.in-Some.bucket c.loop-bucket.bucket-iterator c.next.new.self c.in-Some.ensures.steps c.loop-bucket.invariant.walked;
      counted = omega arith;
      few = omega (arith, l, c.loop-bucket.invariant.few);
      counting = counted_one c.args.self _ _ c.loop-bucket.count c.in-Some.bucket c.loop-bucket.bucket-iterator c.next.new.self c.in-Some.ensures.steps c.is_misplaced.result
          c.is_misplaced.ensures.exact c.loop-bucket.invariant.counting c.if-is_misplaced.true;
    }

pub loop-bucket-preserved : goal.loop-bucket-preserved
loop-bucket-preserved g c =
    let l = ap length c.in-Some.ensures.steps in
    let counted = c.loop-bucket.invariant.counted in
    record {
      walked = left_walked c.args.self c.in-Some.bucket c.loop-bucket.bucket-iterator c.next.new.self c.in-Some.ensures.steps c.loop-bucket.invariant.walked;
      counted = omega arith;
      few = omega (arith, l, c.loop-bucket.invariant.few);
      counting = counted_none c.args.self _ _ c.loop-bucket.count c.in-Some.bucket c.loop-bucket.bucket-iterator c.next.new.self c.in-Some.ensures.steps c.is_misplaced.result
          c.is_misplaced.ensures.exact c.loop-bucket.invariant.counting c.if-is_misplaced.false;
    }

pub returns-clause-counts : goal.returns-clause-counts
returns-clause-counts g c = λ hash_of same hash_as same_as.
    let Q = bucket_misplaced generic_kind c.args.self hash_of same in
    let n = ap (λ xs. length (filter Q xs)) c.in-None.ensures.steps.0 in
    let counting = c.loop-bucket.invariant.counting hash_of same hash_as same_as in
    omega (arith, n, counting)
