use Rattle.std.proofs.Common.{arith, ap, inl, inr, refl, subst, sym, ◌∙◌, ℕ, List}
use Rattle.std.proofs.lemmas.Grind.{common_steps}
use Rattle.std.specs.Borrow.{Bor}
use Rattle.std.specs.List.{IsDistinct, find}
use Rattle.std.specs.Map.{keys_of}
use Rattle.std.proofs.lemmas.Result.{err_from_is_err_and}
use Rattle.rkyv_base.specs.{unit_represents, unit_spec}
use Rattle.rkyv_collections.specs.{set_archive, set_len, set_pos}
use Rattle.rkyv_collections.specs.Lemmas.StdSet.{keys_with_units}
use Rattle.rkyv_collections.proofs.StdReading.{found_units, key_inserted, keys_read, none_left, walks_first, walks_last, walks_next, walks_some, walks_split}
use Rattle.rkyv_collections.proofs.set.ArchivedHashSet.deserialize_std.Goals as goal

pub loop-key-init : goal.loop-key-init
loop-key-init g c =
    let keys = c.iter-key-items.ensures in
    let empty = none_left c.reserve.new.self.keys (c.reserve.ensures.keys.1 ∙ c.with_hasher-set.ensures.len) in (
      walks_first g.W.Word.word g.K.HasSpec.spec unit_spec g.K.Represents.represents unit_represents g.A.PartialEq.eq (set_archive c.args.self) (set_pos c.args.self)
          c.into_iter-key-iterator.result c.iter-key-items.result c.into_iter-key-iterator.ensures.into_iter_gives keys.archive keys.positions
          (found_units g.A.PartialEq.eq c.reserve.new.self.keys) c.reserve.new.self.keys (λ q. ap (λ (xs : List g.row.A.Denot). found_units g.A.PartialEq.eq xs q) empty) empty,
      c.reserve.ensures.unique,
      refl,
    )

pub loop-key-preserved : goal.loop-key-preserved
loop-key-preserved g c =
    let on = c.loop-key.invariant in
    let taken = c.in-Some.ensures.steps in
    let made = c.in_ok-insert_read.ensures in (
      walks_next g.W.Word.word g.K.HasSpec.spec unit_spec g.K.Represents.represents unit_represents g.A.PartialEq.eq (set_archive c.args.self) (set_pos c.args.self)
          c.loop-key.key-iterator c.next.new.self c.in-Some.key.pos (found_units g.A.PartialEq.eq c.loop-key.set.keys) c.loop-key.set.keys taken.0 on.0
          (found_units g.A.PartialEq.eq c.insert_read.new.set.keys) c.insert_read.new.set.keys made.0 tt
          (subst (λ (a : Bor (List ℕ)). g.K.Represents.represents a.now c.in-Some.key.pos made.0) (taken.1.at.0 ∙ on.0.same_archive) made.1, tt)
          (key_inserted g.A.PartialEq.eq c.loop-key.set c.insert_read.new.set made.0 made.2) made.3,
      made.4,
      made.5 ∙ on.2,
    )

pub returns-in_err-insert_read : goal.returns-in_err-insert_read
returns-in_err-insert_read g c =
    let on = c.loop-key.invariant in
    let taken = c.in-Some.ensures.steps in
    let split = walks_split g.W.Word.word g.K.HasSpec.spec unit_spec g.K.Represents.represents unit_represents g.A.PartialEq.eq (set_archive c.args.self) (set_pos c.args.self)
    c.loop-key.key-iterator c.next.new.self c.in-Some.key.pos (found_units g.A.PartialEq.eq c.loop-key.set.keys) c.loop-key.set.keys taken.0 on.0 in
    let p = err_from_is_err_and c.from_residual-in_err-insert_read.result c.from_residual-in_err-insert_read.ensures.1 in
    rw (p.1, p.2) (elim c.in_err-insert_read.ensures [
      | inl memory ↦ inl (
        memory,
        walks_some g.W.Word.word g.K.HasSpec.spec unit_spec g.K.Represents.represents unit_represents g.A.PartialEq.eq (set_archive c.args.self) (set_pos c.args.self)
            c.loop-key.key-iterator c.next.new.self c.in-Some.key.pos (found_units g.A.PartialEq.eq c.loop-key.set.keys) c.loop-key.set.keys taken.0 on.0 c.iter-key-items.result.positions (set_len c.args.self) c.iter-key-items.ensures.positions c.iter-key-items.ensures.count,
      )
      | inr part ↦ inr record {
        before = on.0.before;
        pos = c.in-Some.key.pos;
        after = c.next.new.self.positions;
        in_order = split;
        values = keys_of on.0.pairs;
        read = keys_read g.K.HasSpec.spec g.K.Represents.represents c.args.self.map.view.archive.now on.0.before on.0.pairs on.0.read;
        error = subst (λ (a : Bor (List ℕ)). g.K.Deserialize.deserialize_fails a.now c.in-Some.key.pos c.in_err-insert_read.field-0.0) (taken.1.at.0 ∙ on.0.same_archive) part;
      }
    ])

pub returns : goal.returns
returns g c =
    let on = c.loop-key.invariant in
    let read = walks_last g.W.Word.word g.K.HasSpec.spec unit_spec g.K.Represents.represents unit_represents g.A.PartialEq.eq (set_archive c.args.self) (set_pos c.args.self)
    c.loop-key.key-iterator (found_units g.A.PartialEq.eq c.loop-key.set.keys) c.loop-key.set.keys on.0 c.in-None.ensures.steps.none in
    let unique = subst (λ (ks : List g.row.A.Denot). IsDistinct g.A.PartialEq.eq ks) (sym (keys_with_units c.loop-key.set.keys)) on.1 in
    let stored : (q : g.row.A.Denot) → _ = λ q. ap (find (g.A.PartialEq.eq q)) (keys_with_units c.loop-key.set.keys) ∙ on.0.first_kept q in
    (record { pairs = on.0.pairs; read = read; inserted = (on.0.inserted, unique); stored = stored }, on.2 ∙ c.reserve.ensures.hasher ∙ c.with_hasher-set.ensures.hasher)

pub returns-in_err-reserve : goal.returns-in_err-reserve
returns-in_err-reserve g c =
    let p = err_from_is_err_and c.from_residual.result c.from_residual.ensures.1 in
    rw (p.1, p.2) (inl (refl, grind (arith, common_steps)))
