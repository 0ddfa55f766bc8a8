use Rattle.std.proofs.Common.{ℕ, ◌%◌, ◌<◌, ◌∙◌, arith, length}
use Rattle.rkyv_table.specs.{is_empty_at, is_free, strides}
use Rattle.rkyv_table.proofs.FirstFree.{first_of_all}
use Rattle.rkyv_table.proofs.WrittenStep.{free_empty, homes_more, probed_agree, room_left}
use Rattle.rkyv_table.proofs.controls.laws.first_empty_is_next_home.Goals as goal

pub returns : goal.returns
returns c = λ hash cap hashes xs controls room fits written.
    let small = λ (j : ℕ) (below : j < length hashes). fits j 0 below in
    let first = first_of_all hash cap controls written.wrapped (room_left cap hashes xs controls written small room) in
    let agree = probed_agree (is_free xs) (is_empty_at controls) cap (strides hash cap) (omega (arith, room)) (λ bucket below. free_empty cap hashes xs controls bucket written small below) in
    (first.0, first.1, first.2, first.3, first.4, homes_more cap hash (first.1 % cap) hashes xs written.placed (agree ∙ first.5))
