use Rattle.std.proofs.Common.{◌≡◌, ◌<◌, ◌∙◌, arith, sym, Bool, ℕ}
use Rattle.std.proofs.lemmas.Grind.{common_steps}
use Rattle.rkyv_keys.specs.{ArchivedKeys, hash_at}
use Rattle.rkyv_index.specs.{index_len, index_of, is_misplaced, is_repeated}
use Rattle.rkyv_index.proofs.Counted.{count_is_all, left_first, none_more, one_more}
use Rattle.rkyv_index.proofs.map.ArchivedIndexMap.misplaced.Goals.{else-is_misplaced, then-is_misplaced}
use Rattle.rkyv_index.proofs.map.ArchivedIndexMap.misplaced.Goals as goal

pub loop-index-init : goal.loop-index-init
loop-index-init g c = grind (arith, common_steps, left_first)

pub loop-index-preserved : goal.loop-index-preserved
loop-index-preserved g c =
    let m = index_of c.args.self in
    let n : ℕ = index_len c.args.self in
    let keys : ArchivedKeys = record { hash = hash_at g.H.KeyHasher.hasher g.K.KeyElement.key_calls; same = g.K.ElementEq.same } in
    let P : ℕ → Bool = is_misplaced m keys in
    let R : ℕ → Bool = is_repeated m keys in
    let i : ℕ = c.loop-index.index in
    let end : c.len-index-end.result ≡ n = c.len-index-end.ensures in
    let test = c.loop-index-test.true in
    let below : i < n = omega (arith, test, end) in
    let is = c.is_misplaced.ensures.exact in
    let inv = c.loop-index.invariant in
    let few = inv.few in
    let exact = inv.exact in
    let repeats = c.is_misplaced.ensures.repeated in
    elim c.if-is_misplaced.branch [
      | then-is_misplaced x ↦
          let e = x.count-is in
          let hit = x.if-is_misplaced.true in
          record { few = omega arith; exact = one_more P _ i n _ exact _ below (sym is ∙ hit) e; repeated = λ homes written. one_more R _ i n _ (inv.repeated homes written) _ below (sym (repeats homes written) ∙ hit) e }
      | else-is_misplaced x ↦
          let e = x.count-is in
          let miss = x.if-is_misplaced.false in
          record { few = omega arith; exact = none_more P _ i n _ exact _ below (sym is ∙ miss) e; repeated = λ homes written. none_more R _ i n _ (inv.repeated homes written) _ below (sym (repeats homes written) ∙ miss) e }
    ]

pub returns-clause-exact : goal.returns-clause-exact
returns-clause-exact g c =
    let end : c.len-index-end.result ≡ index_len c.args.self = c.len-index-end.ensures in
    let test = c.loop-index-test.false in
    count_is_all _ _ c.loop-index.index (index_len c.args.self) _ c.loop-index.invariant.exact (omega (arith, test, end))

pub returns-clause-repeated : goal.returns-clause-repeated
returns-clause-repeated g c = λ homes written.
    let end : c.len-index-end.result ≡ index_len c.args.self = c.len-index-end.ensures in
    let test = c.loop-index-test.false in
    count_is_all _ _ c.loop-index.index (index_len c.args.self) _ (c.loop-index.invariant.repeated homes written) (omega (arith, test, end))
