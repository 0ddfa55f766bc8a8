use Rattle.std.proofs.Common.{ap, ◌∙◌, subst}
use Rattle.std.specs.Option.{option_copied}
use Rattle.std.proofs.lemmas.Result.{on_err_weaker}
use Rattle.rkyv_dict.specs.{AppendsProperFront, parts_after, state_of}
use Rattle.rkyv_dict.proofs.Running.{progress_line, progress_moved, progress_none, progress_proper}
use Rattle.rkyv_dict.proofs.Writing.{of_error, on_err}
use Rattle.rkyv_dict.proofs.run.write_output.Goals as goal

pub loop-rest-init : goal.loop-rest-init
loop-rest-init g c = record {
  progress = progress_none _ _ _ _ c.new-dict.ensures.state c.new-buffered.ensures.bytes;
  sound = c.new-dict.ensures.sound;
}

pub loop-rest-preserved : goal.loop-rest-preserved
loop-rest-preserved g c =
    let cut = ap (λ r. parts_after 10 (option_copied r)) c.in-Some.is ∙ c.cut.ensures.parts in
    let line = progress_line _ _ _ _ _ _ _ _ (state_of c.loop-rest.dict) (state_of c.execute.new.self) c.loop-rest.invariant.progress cut c.in_ok-execute.ensures.step in
    record {
      progress = progress_moved _ _ _ _ _ _ _ _ line c.in_ok-write_much.ensures.ok;
      sound = c.in_ok-execute.ensures.sound;
    }

pub returns-in_err-write_much-clause-front : goal.returns-in_err-write_much-clause-front
returns-in_err-write_much-clause-front g c =
    let cut = ap (λ r. parts_after 10 (option_copied r)) c.in-Some.is ∙ c.cut.ensures.parts in
    let line = progress_line _ _ _ _ _ _ _ _ (state_of c.loop-rest.dict) (state_of c.execute.new.self) c.loop-rest.invariant.progress cut c.in_ok-execute.ensures.step in
    on_err _ _ (progress_proper _ _ _ _ _ _ _ line c.in_err-write_much.ensures.front).beginning

pub returns-in_err-write_much-clause-write : goal.returns-in_err-write_much-clause-write
returns-in_err-write_much-clause-write g c is =
    let cut = ap (λ r. parts_after 10 (option_copied r)) c.in-Some.is ∙ c.cut.ensures.parts in
    let line = progress_line _ _ _ _ _ _ _ _ (state_of c.loop-rest.dict) (state_of c.execute.new.self) c.loop-rest.invariant.progress cut c.in_ok-execute.ensures.step in
    progress_proper _ _ _ _ _ _ _ line c.in_err-write_much.ensures.front

pub returns-clause-front : goal.returns-clause-front
returns-clause-front g c =
    on_err_weaker _ (λ f. (progress_proper _ _ _ _ _ _ _ c.loop-rest.invariant.progress (subst (AppendsProperFront (g.W.Write.contents c.loop-rest.writer) (g.W.Write.contents c.write_piece.new.writer)) c.as_bytes.ensures.value f)).beginning) c.write_piece.ensures.front

pub returns-clause-write : goal.returns-clause-write
returns-clause-write g c is =
    let front = of_error c.write_piece.result _ _ is c.write_piece.ensures.front in
    progress_proper _ _ _ _ _ _ _ c.loop-rest.invariant.progress (subst (AppendsProperFront (g.W.Write.contents c.loop-rest.writer) (g.W.Write.contents c.write_piece.new.writer)) c.as_bytes.ensures.value front)
