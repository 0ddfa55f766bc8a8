use Rattle.std.proofs.Common.{rules, ◌≡◌, ◌∙◌, ap, arith, sym, subst, subst₂, length, List, ℕ}
use Rattle.rkyv_base.specs.{ModifiesOnly, StaysValid, Viewable, bytes_in, entry_spec, seal_pos, value_pos}
use Rattle.rkyv_base.specs.Lemmas.Entry.{viewable_value}
use Rattle.rkyv_table.specs.{SealedBy}
use Rattle.rkyv_table.proofs.EachItem.{still_iter, turn_taken}
use Rattle.rkyv_collections.proofs.EachValue.{all_turned, own_entry}
use Rattle.rkyv_collections.proofs.map.in_place.for_each.seal_values.Goals as goal

pub value_behind-pos-requires : goal.value_behind-pos-requires
value_behind-pos-requires g c =
    let k = g.K.HasSpec.spec in
    let v = g.V.HasSpec.spec in
    let takes = c.in-Some.ensures.takes g.W.Word.word c.args.root c.loop-key.invariant.iter in
    let there = viewable_value k v g.K.HasSpec.laws g.V.HasSpec.laws c.loop-key.rest.archive.now c.in-Some.key takes.item.viewable in
    omega (arith, there.inside, ap length c.bytes.ensures, ap length c.in-Some.ensures.archive.bytes)

pub seal_with-requires : goal.seal_with-requires
seal_with-requires g c = λ x bytes at.
    let k = g.K.HasSpec.spec in
    let v = g.V.HasSpec.spec in
    let takes = c.in-Some.ensures.takes g.W.Word.word c.args.root c.loop-key.invariant.iter in
    let there = viewable_value k v g.K.HasSpec.laws g.V.HasSpec.laws c.loop-key.rest.archive.now c.in-Some.key takes.item.viewable in
    let same : bytes_in x.now ≡ c.loop-key.rest.archive.now = bytes ∙ c.in-Some.ensures.archive.bytes in
    let place : seal_pos x.now ≡ value_pos k v c.in-Some.key = at ∙ c.value_behind-pos.ensures in
    let viewable : Viewable v (bytes_in x.now) (seal_pos x.now) = subst₂ (Viewable v) (sym same) (sym place) there in
    c.requires.callable x viewable.inside viewable

pub loop-key-preserved : goal.loop-key-preserved
loop-key-preserved g c =
    let w = g.W.Word.word in
    let k = g.K.HasSpec.spec in
    let v = g.V.HasSpec.spec in
    let s = entry_spec k v in
    let writes = λ (x : List ℕ) (n : ℕ) (y : List ℕ). SealedBy (goal.F-post g) c.args.write.now tt x (value_pos k v n) y in
    let inv = c.loop-key.invariant in
    let q = c.in-Some.key in
    let stepped = c.next_pos.new.self in
    let after = c.seal_with.new.self in
    let takes = c.in-Some.ensures.takes w c.args.root inv.iter in
    let viewable : Viewable s stepped.archive.now q = subst (λ (b : List ℕ). Viewable s b q) (sym c.in-Some.ensures.archive.bytes) takes.item.viewable in
    let wrote : writes stepped.archive.now q after.archive.now =
    subst (λ (n : ℕ). SealedBy (goal.F-post g) c.args.write.now tt stepped.archive.now n after.archive.now) c.value_behind-pos.ensures c.seal_with.ensures.written in
    let o : ModifiesOnly stepped.archive.now q s.size after.archive.now × StaysValid s stepped.archive.now after.archive.now q =
    own_entry k v g.K.HasSpec.laws g.V.HasSpec.laws (goal.F-post g) c.args.write.now c.requires.keeps stepped.archive.now q after.archive.now viewable wrote in
    record {
      reference = c.seal_with.ensures.stays.reference ∙ c.in-Some.ensures.archive.reference ∙ inv.reference;
      iter = still_iter w s c.args.root q c.loop-key.rest stepped after takes c.in-Some.ensures.archive c.seal_with.ensures.stays o.0 o.1;
      turns = λ z rest. inv.turns z
          (turn_taken w s c.args.root q c.loop-key.rest stepped after takes c.in-Some.ensures.archive c.seal_with.ensures.stays o.0 o.1 writes z wrote rest);
    }

pub returns : goal.returns
returns g c =
    let w = g.W.Word.word in
    let s = entry_spec g.K.HasSpec.spec g.V.HasSpec.spec in
    let takes = c.in_default.ensures.takes w c.args.root c.loop-key.invariant.iter in
    all_turned _ w s c.args.root c.raw_iter_over-rest.result c.loop-key.rest c.args.archive.now _ c.raw_iter_over-rest.ensures.bytes c.raw_iter_over-rest.ensures.buckets takes.0 (search rules) c.loop-key.invariant.turns
