-- A pair in an archive, whose value is sealed.
use Rattle.std.specs.Prelude.{◌≡◌, ℕ, List, drop, take}
use Rattle.rkyv_base.specs.{ElementSpec, IsValidView, bytes_in, bytes_of, pos_of, seal_pos}
use Rattle.rkyv_base.specs.{value_pos}
use Rattle.rkyv_base.specs.declared.seal.Seal.{Seal}
use Rattle.rkyv_base.specs.declared.view.View.{View}

-- `pair`: view of the key and seal of the value. The bytes are split at the begin of the value
pub record LendsPair {K V : Type 0} (k v : ElementSpec) (b : List ℕ) (At : ℕ → Type 0)
    (pair : View K × Seal V) : Type 0 where
  pub at : At (pos_of pair.0)
  pub key : IsValidView k pair.0
  pub front : bytes_of pair.0 ≡ take (value_pos k v (pos_of pair.0)) b
  pub back : bytes_in pair.1 ≡ drop (value_pos k v (pos_of pair.0)) b
  pub begin : seal_pos pair.1 ≡ 0

-- `value`: seal of the value of a pair whose key has a position in `At`
pub record LendsValue {V : Type 0} (k v : ElementSpec) (b : List ℕ) (At : ℕ
    → Type 0) (value : Seal V) :
    Type 0 where
  pub key : ℕ
  pub at : At key
  pub bytes : bytes_in value ≡ b
  pub pos : seal_pos value ≡ value_pos k v key
