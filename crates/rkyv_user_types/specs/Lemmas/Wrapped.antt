-- Lemmas: values that are archived and looked up as other values.
use Rattle.std.specs.Prelude.{ℕ, Bool, List}
use Rattle.rkyv_scan.specs.{HasherCall}
use Rattle.rkyv_base.specs.{ElementSpec, Format, IsElement, IsFormat, PairRepresents, entry_spec}
use Rattle.rkyv_base.specs.{pair_format, written_as}
use Rattle.rkyv_base.specs.Lemmas.Pairs.{pair_is_format, written_as-format}
use Rattle.rkyv_keys.specs.{Comparison, IsQuery}
use Rattle.rkyv_user_types.specs.{RepresentsAsPair}

-- the format laws of values that are written as the pair `as_value x`
pub pair_as_format : {X A B R Q : Type 0} (as_value : X → A × B) {k v : ElementSpec}
    (kl : IsElement k)
    (vl : IsElement v) {key : List ℕ → ℕ → A → Type 0} {value : List ℕ → ℕ → B → Type 0}
    {kf : Format A R} {vf : Format B Q} → IsFormat k key kf → IsFormat v value vf
    → IsFormat (entry_spec k v) (RepresentsAsPair k v key value as_value)
    (written_as as_value (pair_format k v kf vf))
pair_as_format as_value {k} {v} kl vl {key} {value} {kf} {vf} kw vw =
    written_as-format as_value (entry_spec k v) (PairRepresents k v key value)
    (pair_format k v kf vf)
    (pair_is_format k v kl vl key value kf vf kw vw)

-- the query laws of values that are looked up as `as_value x`
pub query_as : {X Q : Type 0} (as_value : X
    → Q) {s : ElementSpec} {same : Comparison} {key_calls : List ℕ
    → ℕ → List HasherCall}
    {calls : Q → List HasherCall} {fits : Q → List ℕ → ℕ → Bool}
    → IsQuery s same key_calls calls fits
    → IsQuery s same key_calls (λ x. calls (as_value x))
    (λ x. fits (as_value x))
query_as as_value laws = record {
  same_calls = λ x. laws.same_calls (as_value x);
  respects_same = λ x. laws.respects_same (as_value x);
}
