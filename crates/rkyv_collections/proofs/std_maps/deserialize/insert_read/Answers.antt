use Rattle.std.proofs.Common.{subst, ℕ, List}
use Rattle.std.specs.Borrow.{Bor}
use Rattle.rkyv_base.specs.{bytes_of}
use Rattle.rkyv_collections.specs.Lemmas.StoredKeys.{entry_added}
use Rattle.rkyv_collections.proofs.std_maps.deserialize.insert_read.Goals as goal

pub returns : goal.returns
returns g c =
    let at = c.requires.pair in
    let value = c.in_ok-mapped.mapped in (
      (c.in_ok-read.read, value),
      (
        c.in_ok-read.ensures,
        subst (λ (q : ℕ). g.V.Represents.represents (bytes_of c.args.key) q value) at.1
            (subst (λ (a : Bor (List ℕ)). g.V.Represents.represents a.now c.args.value.pos value) at.0 c.in_ok-mapped.ensures),
      ),
      c.in_ok-insert.ensures.updates,
      entry_added g.A.PartialEq.eq g.met.A.Eq.laws c.args.map.now c.insert.new.self c.in_ok-read.read value c.in_ok-insert.field-0 c.in_ok-insert.ensures.old c.in_ok-insert.ensures.unique c.in_ok-insert.ensures.entries c.in_ok-insert.ensures.keys_stay,
      c.in_ok-insert.ensures.unique,
      c.in_ok-insert.ensures.hasher,
    )
