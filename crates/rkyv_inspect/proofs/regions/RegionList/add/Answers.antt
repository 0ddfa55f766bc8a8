use Rattle.std.proofs.Common.{arith, refl, subst, sym}
use Rattle.rkyv_inspect.specs.{Covers}
use Rattle.rkyv_inspect.proofs.Coverings.{covers_more}
use Rattle.rkyv_inspect.proofs.regions.RegionList.add.Goals as goal

pub returns : goal.returns
returns c = record {
  list = record {
    covers = subst (λ regions. Covers 0 regions c.min-end.result) (sym c.in_ok-push.ensures.items)
        (covers_more 0 c.args.self.now.end c.args.self.now.regions.items _ c.requires.covers refl (omega arith));
    within = omega (arith, c.min-end.ensures);
  };
  end_is = omega (arith, c.min-end.ensures);
}
