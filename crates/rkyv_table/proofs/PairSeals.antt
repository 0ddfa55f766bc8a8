-- A sealed pair, by the position of its key.
use Rattle.std.proofs.Common.{arith, ◌≡◌, ℕ, List, drop, take}
use Rattle.std.proofs.lemmas.Grind.{common_steps}
use Rattle.rkyv_base.specs.{ElementSpec, IsValidView, bytes_in, bytes_of, pos_of, seal_pos, value_pos}
use Rattle.rkyv_base.specs.declared.seal.Seal.{Seal}
use Rattle.rkyv_base.specs.declared.view.View.{View}
use Rattle.rkyv_table.specs.{LendsPair}

pub pair_lent : {K V : Type 0} (k v : ElementSpec) (b : List ℕ) (At : ℕ → Type 0) (q : ℕ) (pair : View K × Seal V) → At q → pos_of pair.0 ≡ q → IsValidView k pair.0
    → bytes_of pair.0 ≡ take (value_pos k v q) b → bytes_in pair.1 ≡ drop (value_pos k v q) b → seal_pos pair.1 ≡ 0 → LendsPair k v b At pair
pair_lent k v b At q pair at pos key front back begin = grind (arith, common_steps)
