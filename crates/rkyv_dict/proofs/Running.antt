-- Lines are executed in turn, and their output is written or buffered.
use Rattle.std.proofs.Common.{arith, ◌≡◌, ℕ, List, [], ◌∷◌, ◌++◌, Option, refl, sym, ap, ◌∙◌, subst, append_assoc}
use Rattle.std.proofs.lemmas.Grind.{common_steps}
use Rattle.std.proofs.KnownBytes.{Appends-trans}
use Rattle.std.proofs.lemmas.List.{append-nil}
use Rattle.rkyv_dict.specs.{AppendsBeginning, AppendsFront, AppendsProperBeginning, AppendsProperFront, AppendsSome, MovesFront, Progress, RunsTo, State, StepsLine, lines_of, start}

pub runs_none : (s : State) → RunsTo s [] [] s
unfolding RunsTo
runs_none s = (refl, refl)

-- one more line
pub runs_more : (ls : List (List ℕ)) (s : State) (output : List ℕ) (s' : State) (l printed : List ℕ) (s'' : State)
    → RunsTo s ls output s' → StepsLine s' l printed s'' → RunsTo s (ls ++ l ∷ []) (output ++ printed) s''
unfolding RunsTo
runs_more [] s output s' l printed s'' runs does =
    (printed, s'', [], subst (λ (t : State). StepsLine t l printed s'') runs.1 does, (refl, refl), ap (λ o. o ++ printed) runs.0 ∙ sym (append-nil printed))
runs_more (x ∷ ls) s output s' l printed s'' runs does =
    (runs.0, runs.1, runs.2 ++ printed, runs.3, runs_more ls runs.1 runs.2 s' l printed s'' runs.4 does, ap (λ o. o ++ printed) runs.5 ∙ append_assoc runs.0 runs.2 printed)

pub progress_none : (now : Option (List ℕ)) (script buffered : List ℕ) (s : State) → s ≡ start → buffered ≡ [] → Progress now now script buffered (lines_of script) s
progress_none now script buffered s is none = grind (arith, common_steps, runs_none start)

-- a line is executed, and its output is buffered
pub progress_line : (old now : Option (List ℕ)) (script buffered buffered' : List ℕ) (rest more : List (List ℕ)) (line : List ℕ) (s s' : State)
    → Progress old now script buffered rest s → rest ≡ line ∷ more → AppendsSome buffered buffered' (λ printed. StepsLine s line printed s') → Progress old now script buffered' more s'
progress_line old now script buffered buffered' rest more line s s' p cut added = grind (arith, append_assoc, runs_more)

-- a prefix of the buffered output is written
pub progress_moved : (old now next : Option (List ℕ)) (script buffered kept : List ℕ) (rest : List (List ℕ)) (s : State)
    → Progress old now script buffered rest s → MovesFront now next buffered kept → Progress old next script kept rest s
progress_moved old now next script buffered kept rest s p m = record {
  done = p.done;
  lines = p.lines;
  output = p.output;
  runs = p.runs;
  moved = record {
    moved = p.moved.moved ++ m.moved;
    parts = p.moved.parts ∙ ap (λ l. p.moved.moved ++ l) m.parts ∙ sym (append_assoc p.moved.moved m.moved kept);
    appended = Appends-trans old now next p.moved.moved m.moved p.moved.appended m.appended;
  };
}

-- a prefix of the output of the executed lines is written
progress_ends : (old now next : Option (List ℕ)) (script buffered : List ℕ) (rest : List (List ℕ)) (s : State)
    → (p : Progress old now script buffered rest s) → AppendsFront old next p.output → AppendsBeginning old next script
progress_ends old now next script buffered rest s p front = grind (arith, common_steps)

-- the run fails, and the buffered output isn't written
pub progress_stopped : (old now : Option (List ℕ)) (script buffered : List ℕ) (rest : List (List ℕ)) (s : State)
    → Progress old now script buffered rest s → AppendsBeginning old now script
progress_stopped old now script buffered rest s p =
    progress_ends old now now script buffered rest s p (record { front = p.moved.moved; rest = buffered; parts = sym p.moved.parts; appended = p.moved.appended })

-- a proper prefix of the buffered output is written, and the run fails
pub progress_proper : (old now next : Option (List ℕ)) (script buffered : List ℕ) (rest : List (List ℕ)) (s : State)
    → Progress old now script buffered rest s → AppendsProperFront now next buffered → AppendsProperBeginning old next script
unfolding progress_ends
progress_proper old now next script buffered rest s p f = record {
  beginning = progress_ends old now next script buffered rest s p (record {
    front = p.moved.moved ++ f.part.front;
    rest = f.part.rest;
    parts = append_assoc p.moved.moved f.part.front f.part.rest ∙ ap (λ l. p.moved.moved ++ l) f.part.parts ∙ sym p.moved.parts;
    appended = Appends-trans old now next p.moved.moved f.part.front p.moved.appended f.part.appended;
  });
  unwritten = f.unwritten;
}

-- no byte is written
pub nothing_written : (now : Option (List ℕ)) (script : List ℕ) → AppendsBeginning now now script
nothing_written now script = progress_stopped now now script [] (lines_of script) start (progress_none now script [] start refl refl)
