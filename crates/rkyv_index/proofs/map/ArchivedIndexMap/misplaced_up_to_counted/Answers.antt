use Rattle.std.proofs.Common.{◌≡◌, ◌+◌, ◌-◌, ◌<◌, ◌≤◌, ◌∙◌, ap, arith, subst, sym, Bool, ℕ}
use Rattle.std.proofs.lemmas.Grind.{common_steps}
use Rattle.std.specs.List.{range_with_len, sum_by}
use Rattle.rkyv_keys.specs.{ArchivedKeys, hash_at}
use Rattle.rkyv_table.specs.{count_after}
use Rattle.rkyv_table.proofs.Counts.{counted_lookup, counted_part, counted_rest, cut_at, not_cut, one_within, passed_limit, spent_on}
use Rattle.rkyv_index.specs.{ReadsWithinBound, index_cap, index_len, index_of, is_misplaced, keys_strides, own_strides}
use Rattle.rkyv_index.proofs.Counted.{count_is_all, left_first, none_more, one_more, sum_end, sum_first, sum_step}
use Rattle.rkyv_index.proofs.map.ArchivedIndexMap.misplaced_up_to_counted.Goals.{After-is_misplaced-is_misplaced, else-is_misplaced, then-is_misplaced}
use Rattle.rkyv_index.proofs.map.ArchivedIndexMap.misplaced_up_to_counted.Goals as goal

pub loop-index-init : goal.loop-index-init
loop-index-init g c =
    let m = index_of c.args.self in
    let n : ℕ = index_len c.args.self in
    let keys : ArchivedKeys = record { hash = hash_at g.H.KeyHasher.hasher g.K.KeyElement.key_calls; same = g.K.ElementEq.same } in
    let e = left_first (is_misplaced m keys) n in
    let s : sum_by (own_strides m keys) (range_with_len 0 (n - 0)) ≡ keys_strides m keys = sum_first (own_strides m keys) 0 n in
    record { few = omega arith; exact = omega (arith, e); spent = omega (arith, s); within = omega arith; read = grind (arith, common_steps) }

-- the lookup of one key: the key is below the length, and the strides are counted
module _ (g : _) (c : After-is_misplaced-is_misplaced g) where
  below : c.loop-index.index < index_len c.args.self
  below = let end : c.len-index-end.result ≡ index_len c.args.self = c.len-index-end.ensures in omega (arith, c.loop-index-test.true, end)

  own : c.is_misplaced-is_misplaced.new.strides ≡ own_strides (index_of c.args.self) (record { hash = hash_at g.H.KeyHasher.hasher g.K.KeyElement.key_calls; same = g.K.ElementEq.same }) c.loop-index.index
  own =
      let m = c.args.self in
      let read = c.is_misplaced-is_misplaced.new.strides in
      let strides : ℕ = own_strides (index_of m) (record { hash = hash_at g.H.KeyHasher.hasher g.K.KeyElement.key_calls; same = g.K.ElementEq.same }) c.loop-index.index in
      let start = c.new-own.ensures in
      counted_lookup (index_len m) (index_cap m) strides read (rw m.decoded.cap at m.decoded.small) (subst (λ n. ReadsWithinBound m n read) start c.is_misplaced-is_misplaced.ensures.bounded)
      (subst (λ n. read ≡ count_after n strides) start c.is_misplaced-is_misplaced.ensures.counted)

  spent : keys_strides (index_of c.args.self) (record { hash = hash_at g.H.KeyHasher.hasher g.K.KeyElement.key_calls; same = g.K.ElementEq.same })
      ≡ c.args.limit - c.loop-index.left + c.is_misplaced-is_misplaced.new.strides + sum_by (own_strides (index_of c.args.self) (record { hash = hash_at g.H.KeyHasher.hasher g.K.KeyElement.key_calls; same = g.K.ElementEq.same }))
      (range_with_len (c.loop-index.index + 1) (index_len c.args.self - (c.loop-index.index + 1)))
  spent = grind (arith, common_steps, sum_step, below, own)

pub returns-then-read-left-clause-counts : goal.returns-then-read-left-clause-counts
returns-then-read-left-clause-counts g c =
    let at = (goal.at.returns-then-read-left-clause-counts g c).After-is_misplaced-is_misplaced in
    passed_limit c.loop-index.invariant.within c.count-read.ensures _ _ (spent g at) c.if-read-left.true

pub returns-then-read-left-clause-counted : goal.returns-then-read-left-clause-counted
returns-then-read-left-clause-counted g c =
    let at = (goal.at.returns-then-read-left-clause-counted g c).After-is_misplaced-is_misplaced in
    counted_part c.args.limit c.loop-index.left c.count-read.result c.args.strides.now c.loop-index.invariant.within c.loop-index.invariant.read c.add.ensures _ _ _ c.count-read.ensures (spent g at)

pub returns-then-read-left-clause-bounded : goal.returns-then-read-left-clause-bounded
returns-then-read-left-clause-bounded g c =
    cut_at c.args.limit c.loop-index.left c.count-read.result c.args.strides.now c.loop-index.invariant.within c.loop-index.invariant.read c.add.ensures _ c.if-read-left.true
    (one_within _ _ _ _ _ c.new-own.ensures c.is_misplaced-is_misplaced.ensures.bounded c.count-read.ensures)

pub loop-index-preserved : goal.loop-index-preserved
loop-index-preserved g c =
    let n : ℕ = index_len c.args.self in
    let keys : ArchivedKeys = record { hash = hash_at g.H.KeyHasher.hasher g.K.KeyElement.key_calls; same = g.K.ElementEq.same } in
    let P : ℕ → Bool = is_misplaced (index_of c.args.self) keys in
    let i : ℕ = c.loop-index.index in
    let at = (goal.at.loop-index-preserved g c).After-is_misplaced-is_misplaced in
    let lt = below g at in
    let is = c.is_misplaced-is_misplaced.ensures.exact in
    let inv = c.loop-index.invariant in
    let few = inv.few in
    let all = spent_on inv.within c.count-read.ensures _ _ (spent g at) c.if-read-left.false in
    let read = counted_rest c.args.limit c.loop-index.left c.count-read.result c.args.strides.now inv.within inv.read c.add.ensures c.if-read-left.false in
    elim c.if-is_misplaced.branch [
      | then-is_misplaced x ↦
          let e = x.count-is in
          record { few = omega arith; exact = one_more P _ i n _ inv.exact _ lt (sym is ∙ x.if-is_misplaced.true) e; spent = all; within = omega (arith, inv.within); read = read }
      | else-is_misplaced x ↦
          let e = x.count-is in
          record { few = omega arith; exact = none_more P _ i n _ inv.exact _ lt (sym is ∙ x.if-is_misplaced.false) e; spent = all; within = omega (arith, inv.within); read = read }
    ]

pub returns-clause-counts : goal.returns-clause-counts
returns-clause-counts g c =
    let m = index_of c.args.self in
    let keys : ArchivedKeys = record { hash = hash_at g.H.KeyHasher.hasher g.K.KeyElement.key_calls; same = g.K.ElementEq.same } in
    let end : c.len-index-end.result ≡ index_len c.args.self = c.len-index-end.ensures in
    let test = c.loop-index-test.false in
    let above : index_len c.args.self ≤ c.loop-index.index = omega (arith, test, end) in
    let rest = sum_end (own_strides m keys) c.loop-index.index (index_len c.args.self) above in
    let spent = c.loop-index.invariant.spent in
    let within = c.loop-index.invariant.within in
    (omega (arith, rest, spent, within), count_is_all _ _ c.loop-index.index (index_len c.args.self) _ c.loop-index.invariant.exact above)

pub returns-clause-counted : goal.returns-clause-counted
returns-clause-counted g c =
    let m = index_of c.args.self in
    let keys : ArchivedKeys = record { hash = hash_at g.H.KeyHasher.hasher g.K.KeyElement.key_calls; same = g.K.ElementEq.same } in
    let end : c.len-index-end.result ≡ index_len c.args.self = c.len-index-end.ensures in
    let test = c.loop-index-test.false in
    let above : index_len c.args.self ≤ c.loop-index.index = omega (arith, test, end) in
    let rest = sum_end (own_strides m keys) c.loop-index.index (index_len c.args.self) above in
    let spent = c.loop-index.invariant.spent in
    c.loop-index.invariant.read ∙ ap (count_after c.args.strides.now) (omega (arith, rest, spent))

pub returns-clause-bounded : goal.returns-clause-bounded
returns-clause-bounded g c = not_cut c.args.limit c.loop-index.left _ _ _ _ c.loop-index.invariant.within c.loop-index.invariant.read
