use Rattle.std.proofs.Common.{◌≡◌, ◌+◌, ◌*◌, ◌∙◌, ℕ, List, ap, arith, length, map, sym}
use Rattle.std.proofs.lemmas.List.Elements.{All-same}
use Rattle.rkyv_scan.specs.{mask_indices}
use Rattle.rkyv_base.specs.{Viewable}
use Rattle.rkyv_table.specs.{IsAhead, buckets_left, cap_at, item_positions, pos_before, positions_left, table_bytes, table_controls, table_pos, walk}
use Rattle.rkyv_table.proofs.ValidTable.{controls_accepted}
use Rattle.rkyv_table.proofs.RawSteps.{some_capacity, start_left}
use Rattle.rkyv_table.proofs.RawWalks.{positions_count, positions_viewable, read_ahead, read_positions, walk_count}
use Rattle.rkyv_table.proofs.table.ArchivedHashTable.raw_iter.Goals as goal
use Rattle.rkyv_table.proofs.table.ArchivedHashTable.raw_iter.Goals.{After-first_marks}

pub first_marks-requires : goal.first_marks-requires
first_marks-requires g c = λ some.
    let w = g.W.Word.word in
    let s = g.T.HasSpec.spec in
    let t = c.args.self in
    let law = g.T.HasSpec.laws in
    let b : List ℕ = table_bytes t in
    let p : ℕ = table_pos t in
    let cap = some_capacity (table_controls w b p) (cap_at w b p) t.header.len (t.decoded.len ∙ sym (walk_count w s law b p t.valid)) some in
    let long = (controls_accepted w s law b p t.valid cap).wrapped.count in
    let e = ap length (c.controls-controls.ensures (rw t.decoded.cap cap)) in
    omega (arith, long, e)

-- the remaining buckets are the buckets of the walk
module _ (g : _) (c : After-first_marks g) where
  abbrev walked : List ℕ
  walked = walk (table_controls g.W.Word.word (table_bytes c.args.self) (table_pos c.args.self)) (cap_at g.W.Word.word (table_bytes c.args.self) (table_pos c.args.self))

  count : c.args.self.header.len ≡ length walked
  count =
      let t = c.args.self in
      t.decoded.len ∙ sym (walk_count g.W.Word.word g.T.HasSpec.spec g.T.HasSpec.laws (table_bytes c.args.self) (table_pos c.args.self) t.valid)

  left : buckets_left c.args.self.header.len c.controls-controls.result.now 0 (mask_indices 8 7 8 c.first_marks.result.bits) ≡ walked
  left = grind (arith, some_capacity, count, start_left, controls_accepted)

pub invariant_of-result : goal.invariant_of-result
invariant_of-result g c =
    let s = g.T.HasSpec.spec in
    let t = c.args.self in
    let after = (goal.at.invariant_of-result g c).After-first_marks in
    let marks : List ℕ = mask_indices 8 7 8 c.first_marks.result.bits in
    let ahead = read_ahead g.W.Word.word s g.T.HasSpec.laws (table_bytes t) (table_pos t) t.valid t.header.controls_pos (λ h. t.decoded.controls_pos (rw t.decoded.cap h)) c.controls-controls.result.now (λ h. c.controls-controls.ensures (rw t.decoded.cap h)) in
    let z : t.header.controls_pos + 0 * s.size ≡ t.header.controls_pos = omega arith in
    record {
      counted = count g after ∙ ap length (sym (left g after));
      ahead = rw (c.size.ensures, z) (All-same (IsAhead t.header.controls_pos s.size c.controls-controls.result.now) (buckets_left t.header.len c.controls-controls.result.now 0 marks) (walked g after) (left g after) ahead);
    }

pub returns-clause-positions : goal.returns-clause-positions
returns-clause-positions g c =
    let w = g.W.Word.word in
    let s = g.T.HasSpec.spec in
    let t = c.args.self in
    let after = (goal.at.returns-clause-positions g c).After-first_marks in
    let marks : List ℕ = mask_indices 8 7 8 c.first_marks.result.bits in
    let z : t.header.controls_pos + 0 * s.size ≡ t.header.controls_pos = omega arith in
    ap (λ n. positions_left t.header.controls_pos n t.header.len c.controls-controls.result.now 0 marks) c.size.ensures
    ∙ ap (λ q. map (pos_before q s.size) (buckets_left t.header.len c.controls-controls.result.now 0 marks)) z
    ∙ ap (map (pos_before t.header.controls_pos s.size)) (left g after)
    ∙ read_positions w s g.T.HasSpec.laws (table_bytes t) (table_pos t) t.header.controls_pos (λ h. t.decoded.controls_pos (rw t.decoded.cap h))

pub returns-clause-count : goal.returns-clause-count
returns-clause-count g c =
    let w = g.W.Word.word in
    let s = g.T.HasSpec.spec in
    let t = c.args.self in
    ap length (returns-clause-positions g c) ∙ positions_count w s g.T.HasSpec.laws (table_bytes t) (table_pos t) c.args.self.valid

pub returns-clause-all_valid : goal.returns-clause-all_valid
returns-clause-all_valid g c =
    let w = g.W.Word.word in
    let s = g.T.HasSpec.spec in
    let t = c.args.self in
    let all = All-same (Viewable s (table_bytes t)) (positions_left t.header.controls_pos c.size.result t.header.len c.controls-controls.result.now 0 (mask_indices 8 7 8 c.first_marks.result.bits)) (item_positions w s.size (table_bytes t) (table_pos t))
    (returns-clause-positions g c) (positions_viewable w s g.T.HasSpec.laws (table_bytes t) (table_pos t) c.args.self.valid) in
    rw c.bytes.ensures all
