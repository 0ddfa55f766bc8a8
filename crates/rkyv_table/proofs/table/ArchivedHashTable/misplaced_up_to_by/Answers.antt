use Rattle.std.proofs.lemmas.Grind.{common_steps}
use Rattle.std.proofs.Common.{◌≡◌, ◌∙◌, ◌+◌, ◌-◌, arith, sym, ap, subst, zero-add, length, filter}
use Rattle.std.specs.List.{All, sum_by}
use Rattle.rkyv_scan.specs.{generic_kind}
use Rattle.rkyv_table.specs.{IsWalked, bucket_misplaced, bucket_strides, cap_at, count_after, table_bytes, table_controls, table_pos, walk}
use Rattle.rkyv_table.proofs.Counts.{counted_part, counted_rest, cut_at, not_cut, one_within, passed_limit, spent_on}
use Rattle.rkyv_table.proofs.MisplacedIn.{Spending, counted_none, counted_one, left_walked, next_walked, spent_one}
use Rattle.rkyv_table.proofs.RawWalks.{walk_count, walked_all}
use Rattle.rkyv_table.proofs.Walks.{walk_small}
use Rattle.rkyv_table.proofs.table.ArchivedHashTable.misplaced_up_to_by.Goals as goal
use Rattle.rkyv_table.proofs.table.ArchivedHashTable.misplaced_up_to_by.Goals.{After-is_misplaced-is_misplaced}

pub loop-bucket-init : goal.loop-bucket-init
loop-bucket-init g c =
    let w = g.W.Word.word in
    let s = g.T.HasSpec.spec in
    let b = table_bytes c.args.self in
    let p = table_pos c.args.self in
    let e : c.into_iter-bucket-iterator.result ≡ walk (table_controls w b p) (cap_at w b p) =
    c.into_iter-bucket-iterator.ensures.into_iter_gives ∙ c.walk-bucket-items.ensures in
    let l = ap length e in
    let small = walk_small (table_controls w b p) (cap_at w b p) in
    let all = walk_count w s g.T.HasSpec.laws b p c.args.self.valid in
    record {
      walked = subst (All (IsWalked w b p)) (sym e) (walked_all w s g.T.HasSpec.laws b p);
      counted = omega arith;
      few = omega (arith, l, all);
      counting = λ hash_of same hash_as same_as.
          zero-add _ ∙ ap (λ xs. length (filter (bucket_misplaced generic_kind c.args.self hash_of same) xs)) e;
      spent = grind (arith, common_steps);
      within = omega arith;
      read = grind (arith, common_steps);
    }

-- the strides of the lookup are counted
module _ (g : _) (c : After-is_misplaced-is_misplaced g) where
  spent : Spending c.args.self (goal.H-post g c.args.hash_of) (goal.S-post g c.args.same) (c.args.limit - c.loop-bucket.left + c.is_misplaced-is_misplaced.new.strides) c.next.new.self
  spent = spent_one c.args.self _ _ (c.args.limit - c.loop-bucket.left) c.new-own.result c.is_misplaced-is_misplaced.new.strides c.in-Some.bucket c.loop-bucket.bucket-iterator c.next.new.self
      c.in-Some.ensures.steps c.new-own.ensures c.is_misplaced-is_misplaced.ensures.counts c.loop-bucket.invariant.spent

pub item-item-requires : goal.item-item-requires
item-item-requires g c = next_walked c.args.self c.in-Some.bucket c.loop-bucket.bucket-iterator c.next.new.self c.in-Some.ensures.steps c.loop-bucket.invariant.walked

pub returns-then-read-left-clause-counts : goal.returns-then-read-left-clause-counts
returns-then-read-left-clause-counts g c = λ hash_of same hash_as same_as.
    let at = (goal.at.returns-then-read-left-clause-counts g c).After-is_misplaced-is_misplaced in
    passed_limit c.loop-bucket.invariant.within c.count-read.ensures _ _ (spent g at hash_of same hash_as same_as) c.if-read-left.true

pub returns-then-read-left-clause-counted : goal.returns-then-read-left-clause-counted
returns-then-read-left-clause-counted g c = λ hash_of same hash_as same_as.
    let at = (goal.at.returns-then-read-left-clause-counted g c).After-is_misplaced-is_misplaced in
    counted_part c.args.limit c.loop-bucket.left c.count-read.result c.args.strides.now c.loop-bucket.invariant.within c.loop-bucket.invariant.read c.add.ensures _ _ _ c.count-read.ensures (spent g at hash_of same hash_as same_as)

pub returns-then-read-left-clause-bounded : goal.returns-then-read-left-clause-bounded
returns-then-read-left-clause-bounded g c =
    cut_at c.args.limit c.loop-bucket.left c.count-read.result c.args.strides.now c.loop-bucket.invariant.within c.loop-bucket.invariant.read c.add.ensures _ c.if-read-left.true
    (one_within _ _ _ _ _ c.new-own.ensures c.is_misplaced-is_misplaced.ensures.counts.bounded c.count-read.ensures)

pub loop-bucket-preserved-then-is_misplaced : goal.loop-bucket-preserved-then-is_misplaced
loop-bucket-preserved-then-is_misplaced g c =
    let l = ap length c.in-Some.ensures.steps in
    let counted = c.loop-bucket.invariant.counted in
    let at = goal.at.loop-bucket-preserved-then-is_misplaced g c in
    record {
      walked = left_walked c.args.self c.in-Some.bucket c.loop-bucket.bucket-iterator c.next.new.self c.in-Some.ensures.steps c.loop-bucket.invariant.walked;
      counted = omega arith;
      few = omega (arith, l, c.loop-bucket.invariant.few);
      counting = counted_one c.args.self _ _ c.loop-bucket.misplaced c.in-Some.bucket c.loop-bucket.bucket-iterator c.next.new.self c.in-Some.ensures.steps c.is_misplaced-is_misplaced.result
          c.is_misplaced-is_misplaced.ensures.exact c.loop-bucket.invariant.counting c.if-is_misplaced.true;
      spent = λ hash_of same hash_as same_as. spent_on c.loop-bucket.invariant.within c.count-read.ensures _ _ (spent g at.After-is_misplaced-is_misplaced hash_of same hash_as same_as) c.if-read-left.false;
      within = omega (arith, c.loop-bucket.invariant.within);
      read = counted_rest c.args.limit c.loop-bucket.left c.count-read.result c.args.strides.now c.loop-bucket.invariant.within c.loop-bucket.invariant.read c.add.ensures c.if-read-left.false;
    }

pub loop-bucket-preserved : goal.loop-bucket-preserved
loop-bucket-preserved g c =
    let l = ap length c.in-Some.ensures.steps in
    let counted = c.loop-bucket.invariant.counted in
    let at = goal.at.loop-bucket-preserved g c in
    record {
      walked = left_walked c.args.self c.in-Some.bucket c.loop-bucket.bucket-iterator c.next.new.self c.in-Some.ensures.steps c.loop-bucket.invariant.walked;
      counted = omega arith;
      few = omega (arith, l, c.loop-bucket.invariant.few);
      counting = counted_none c.args.self _ _ c.loop-bucket.misplaced c.in-Some.bucket c.loop-bucket.bucket-iterator c.next.new.self c.in-Some.ensures.steps c.is_misplaced-is_misplaced.result
          c.is_misplaced-is_misplaced.ensures.exact c.loop-bucket.invariant.counting c.if-is_misplaced.false;
      spent = λ hash_of same hash_as same_as. spent_on c.loop-bucket.invariant.within c.count-read.ensures _ _ (spent g at.After-is_misplaced-is_misplaced hash_of same hash_as same_as) c.if-read-left.false;
      within = omega (arith, c.loop-bucket.invariant.within);
      read = counted_rest c.args.limit c.loop-bucket.left c.count-read.result c.args.strides.now c.loop-bucket.invariant.within c.loop-bucket.invariant.read c.add.ensures c.if-read-left.false;
    }

pub returns-clause-counts : goal.returns-clause-counts
returns-clause-counts g c = λ hash_of same hash_as same_as.
    let none = c.in-None.ensures.steps.0 in
    let n = ap (λ xs. length (filter (bucket_misplaced generic_kind c.args.self hash_of same) xs)) none in
    let counting = c.loop-bucket.invariant.counting hash_of same hash_as same_as in
    let rest = ap (sum_by (bucket_strides generic_kind c.args.self hash_of same)) none in
    let spent = c.loop-bucket.invariant.spent hash_of same hash_as same_as in
    let within = c.loop-bucket.invariant.within in
    (omega (arith, rest, spent, within), omega (arith, n, counting))

pub returns-clause-counted : goal.returns-clause-counted
returns-clause-counted g c = λ hash_of same hash_as same_as.
    let none = c.in-None.ensures.steps.0 in
    let rest = ap (sum_by (bucket_strides generic_kind c.args.self hash_of same)) none in
    let spent = c.loop-bucket.invariant.spent hash_of same hash_as same_as in
    c.loop-bucket.invariant.read ∙ ap (count_after c.args.strides.now) (omega (arith, rest, spent))

pub returns-clause-bounded : goal.returns-clause-bounded
returns-clause-bounded g c = not_cut c.args.limit c.loop-bucket.left _ _ _ _ c.loop-bucket.invariant.within c.loop-bucket.invariant.read
