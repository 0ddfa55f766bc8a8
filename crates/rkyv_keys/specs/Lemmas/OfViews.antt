-- Lemmas: a key in an archive, as a query for keys of other archives.
use Rattle.std.specs.Prelude.{ℕ, List}
use Rattle.std.proofs.Common.{arith}
use Rattle.std.proofs.lemmas.Bool.Decides.{same_from_decides}
use Rattle.std.proofs.lemmas.Grind.{common_steps}
use Rattle.rkyv_scan.specs.{HasherCall}
use Rattle.rkyv_base.specs.declared.element.HasSpec.{Ghosts as Specs}
use Rattle.rkyv_keys.specs.{Comparison, IsEquivalence, IsKey, IsQuery, view_calls, view_fits}
use Rattle.rkyv_keys.specs.declared.views.KeyView.{KeyView}

pub view_query : {K : Type 0} {ks : Specs K} {same : Comparison}
    {calls : List ℕ → ℕ → List HasherCall} → IsEquivalence ks.spec same → IsKey ks.spec same calls
    → IsQuery {Q = KeyView K ks} ks.spec same calls (view_calls calls) (view_fits same)
view_query e k = grind (arith, common_steps, same_from_decides)
