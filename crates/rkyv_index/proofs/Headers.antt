-- The header of an index map, by the length and the load factor of its resolver.
use Rattle.std.proofs.Common.{arith, ◌≡◌, ℕ, List}
use Rattle.std.proofs.lemmas.Grind.{common_steps}
use Rattle.std.specs.Int.{Width}
use Rattle.rkyv_table.specs.{capacity}
use Rattle.rkyv_index.specs.{IndexResolver, IsIndexHeader}

module _ (w : Width) (r : IndexResolver) (len : ℕ) (load_factor : ℕ × ℕ) (p : ℕ) (same : (len ≡ r.table.len) × (load_factor ≡ r.table.load_factor)) where
  pub header_of : (out : List ℕ) → IsIndexHeader w len (capacity len load_factor) r p out → IsIndexHeader w r.table.len (capacity r.table.len r.table.load_factor) r p out
  header_of out h = grind (arith, common_steps)
