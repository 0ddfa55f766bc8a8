use Rattle.std.proofs.Common.{ℕ, List, ◌∷◌, ◌+◌, ◌-◌, sym, ◌∙◌, ◌==◌, ◌≡◌, take, drop, length, subst, arith, length-drop}
use Rattle.std.proofs.lemmas.List.{take_all}
use Rattle.rkyv_dict.specs.{split_at}
use Rattle.rkyv_dict.proofs.Cuts.{cut_at, cut_none}
use Rattle.rkyv_dict.proofs.words.cut.Goals as goal

pub returns-in-Some-clause-parts : goal.returns-in-Some-clause-parts
returns-in-Some-clause-parts c =
    let xs = c.args.bytes.now in
    let next = c.in-Some.i + 1 in
    let all : take (length xs - next) (drop next xs) ≡ drop next xs = take_all _ _ (omega (arith, length-drop next xs)) in
    subst (λ (r : List ℕ). split_at c.args.separator xs ≡ take c.in-Some.i xs ∷ split_at c.args.separator r) (sym all)
    (cut_at (λ b. b == c.args.separator) xs c.in-Some.i (sym c.pos_of.ensures ∙ c.in-Some.is))

pub returns-in-None-clause-parts : goal.returns-in-None-clause-parts
returns-in-None-clause-parts c = cut_none (λ b. b == c.args.separator) c.args.bytes.now (sym c.pos_of.ensures ∙ c.in-None.is)
