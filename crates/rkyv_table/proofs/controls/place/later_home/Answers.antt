use Rattle.std.proofs.lemmas.Grind.{common_steps}
use Rattle.std.proofs.Common.{arith, ◌≡◌, ◌*◌, ◌%◌, ◌<◌, get_or, inr, sym, ap, ◌∙◌, Some}
use Rattle.std.specs.List.{find}
use Rattle.std.proofs.lemmas.Bool.{le-leb}
use Rattle.rkyv_table.specs.{is_empty_at, probed}
use Rattle.rkyv_table.proofs.Coverage.{stride_below}
use Rattle.rkyv_table.proofs.FirstFree.{begun, empty_index_is, first_at, later_started, member_front, member_rest, none_shown, passes_on, runs_out, some_shown}
use Rattle.rkyv_table.proofs.controls.place.later_home.Goals as goal
use Rattle.rkyv_table.proofs.controls.place.later_home.Goals.{In-Some-first_empty}

-- the first empty index belongs to the first probed bucket whose control byte is empty
found_here : (g : _) (c : In-Some-first_empty g)
    → (c.in-Some-first_empty.index < 2 * c.args.cap) × (find (is_empty_at c.args.controls.now) (probed c.args.hash c.args.cap) ≡ Some (c.in-Some-first_empty.index % c.args.cap))
found_here g c =
    let h = c.args.hash in
    let cap' = c.args.cap in
    let inv = c.loop-pos.invariant in
    let more = c.in-Some.ensures.steps in
    let member = inv.members c.in-Some.pos (member_front c.in-Some.pos c.next.new.self c.loop-pos.pos-iterator more) in
    let lp = stride_below h cap' c.in-Some.pos (omega (arith, c.requires.room.1)) member in
    let controls = c.args.controls.now in
    let e = sym (c.in-Some-first_empty.ensures ∙ empty_index_is controls c.in-Some.pos) in
    let w = c.requires.room in
    let s = some_shown h cap' controls c.in-Some.pos c.in-Some-first_empty.index w.0 c.requires.wrapped w.1 (le-leb 128 (get_or controls w.0 0) w.2) member lp
    (begun h cap' c.in-Some.pos (is_empty_at controls) c.next.new.self c.loop-pos.pos-iterator (omega (arith, w.1)) inv.started more) e in
    (s.0, first_at h cap' c.in-Some.pos (c.in-Some-first_empty.index % cap') (is_empty_at controls) c.next.new.self c.loop-pos.pos-iterator more s.1 inv.same)

pub first_empty-requires : goal.first_empty-requires
first_empty-requires g c = grind (arith, common_steps, member_front c.in-Some.pos c.next.new.self c.loop-pos.pos-iterator c.in-Some.ensures.steps, stride_below)

pub bucket_of-requires : goal.bucket_of-requires
bucket_of-requires g c = record { below = (found_here g c).0 }

pub returns-in-Some-first_empty : goal.returns-in-Some-first_empty
returns-in-Some-first_empty g c = (found_here g (goal.at.returns-in-Some-first_empty g c).In-Some-first_empty).1 ∙ ap Some (sym c.bucket_of.ensures)

pub loop-pos-preserved : goal.loop-pos-preserved
loop-pos-preserved g c =
    let h = c.args.hash in
    let cap' = c.args.cap in
    let inv = c.loop-pos.invariant in
    let more = c.in-Some.ensures.steps in
    let lp = stride_below h cap' c.in-Some.pos (omega (arith, c.requires.room.1)) (inv.members c.in-Some.pos (member_front c.in-Some.pos c.next.new.self c.loop-pos.pos-iterator more)) in
    let controls = c.args.controls.now in
    let free = is_empty_at controls in
    let w = c.requires.room in
    let e = sym (c.in_default.ensures ∙ empty_index_is controls c.in-Some.pos) in
    let none = none_shown cap' controls c.in-Some.pos (omega (arith, w.1)) c.requires.wrapped lp e in
    record {
      same = passes_on h cap' c.in-Some.pos free c.next.new.self c.loop-pos.pos-iterator more none inv.same;
      members = λ p m. inv.members p (member_rest c.in-Some.pos p c.next.new.self c.loop-pos.pos-iterator more m);
      started = inr (later_started h cap' c.in-Some.pos free (begun h cap' c.in-Some.pos free c.next.new.self c.loop-pos.pos-iterator (omega (arith, w.1)) inv.started more) none);
    }

pub unreachable-requires : goal.unreachable-requires
unreachable-requires g c =
    let inv = c.loop-pos.invariant in
    let w = c.requires.room in
    runs_out c.args.hash c.args.cap w.0 (is_empty_at c.args.controls.now) c.loop-pos.pos-iterator w.1 (le-leb 128 (get_or c.args.controls.now w.0 0) w.2) c.in-None.ensures.steps.0 inv.same
