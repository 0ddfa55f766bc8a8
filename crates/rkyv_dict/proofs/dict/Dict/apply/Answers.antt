use Rattle.std.proofs.Common.{refl, ap, ◌∙◌}
use Rattle.std.proofs.lemmas.Result.{on_ok_weaker}
use Rattle.rkyv_dict.specs.{emptied, pairs_of, state_of}
use Rattle.rkyv_dict.proofs.Adding.{adds_as, adds_none}
use Rattle.rkyv_dict.proofs.Putting.{pair_put}
use Rattle.rkyv_dict.proofs.dict.Dict.apply.Goals as goal

pub returns-in-SetKind : goal.returns-in-SetKind
returns-in-SetKind c = adds_as _ _ (state_of c.args.self.now) (state_of c.empty.new.self) _ _ c.in-SetKind.is (adds_none _ _ (refl, c.empty.ensures))

pub returns-in-SetWidth : goal.returns-in-SetWidth
returns-in-SetWidth c =
    adds_as _ _ (state_of c.args.self.now) (state_of c.empty-in-SetWidth.new.self) _ _ c.in-SetWidth.is
    (adds_none _ _ (refl, c.empty-in-SetWidth.ensures ∙ ap (λ kind. emptied kind c.in-SetWidth.bits (state_of c.args.self.now)) c.kind-kind.ensures))

pub returns-in-SetLoadFactor : goal.returns-in-SetLoadFactor
returns-in-SetLoadFactor c = adds_as _ _ (state_of c.args.self.now) _ _ _ c.in-SetLoadFactor.is (adds_none _ _ (refl, refl))

pub returns-in-PutNumbers : goal.returns-in-PutNumbers
returns-in-PutNumbers c =
    let s = c.args.self.now in
    let put = pair_put s.bits s.load_factor (pairs_of s.list) (pairs_of c.put_numbers.new.self) _ _ s.archive s.built_in_list c.put_numbers.ensures.first in
    on_ok_weaker c.put_numbers.result (λ e. adds_as _ _ (state_of s) _ _ _ c.in-PutNumbers.is (adds_none _ _ (refl, put e))) c.put_numbers.ensures.added

pub returns-in-PutTexts : goal.returns-in-PutTexts
returns-in-PutTexts c =
    let s = c.args.self.now in
    let put = pair_put s.bits s.load_factor (pairs_of s.list) (pairs_of c.put_texts.new.self) _ _ s.archive s.built_in_list c.put_texts.ensures.first in
    on_ok_weaker c.put_texts.result (λ e. adds_as _ _ (state_of s) _ _ _ c.in-PutTexts.is (adds_none _ _ (refl, put e))) c.put_texts.ensures.added
