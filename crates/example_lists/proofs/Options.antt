-- Lemmas of options.
use Rattle.std.proofs.Common.{◌≡◌, Option, None, Some, refl}
use Rattle.std.specs.Option.{is_some, option_map}

-- there is a value if and only if there is one after a function is applied to it
pub some_either : {A B : Type 0} (f : A → B) (o : Option A) → is_some o ≡ is_some (option_map f o)
some_either f None = refl
some_either f (Some x) = refl
