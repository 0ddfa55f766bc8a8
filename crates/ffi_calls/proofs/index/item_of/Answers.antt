use Rattle.std.proofs.Common.{refl}
use Rattle.ffi_calls.proofs.IndexFound.{key_there, value_there}
use Rattle.ffi_calls.proofs.index.item_of.Goals as goal

pub returns : goal.returns
returns g c =
    let found = c.in_ok-key.ensures in (
      found.0.below,
      (
        refl,
        key_there c.args.map g.K.ToAny.any c.args.index c.in_ok-key.key c.to_any.result c.to_any.ensures found.0,
        value_there c.args.map g.V.ToAny.any c.args.index c.in_ok-key.value c.to_any-2.result c.to_any-2.ensures found.1,
      ),
    )
