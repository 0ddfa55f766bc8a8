-- Lemmas: the home buckets of a written table, and the positions of their items.
use Rattle.std.specs.Prelude.{◌≡◌, ℕ, ◌<◌, List, length, slice_index}
use Rattle.std.specs.Int.{Width}
use Rattle.std.proofs.Common.{arith}
use Rattle.std.proofs.lemmas.Grind.{common_steps}
use Rattle.std.proofs.lemmas.List.{get_or-map}
use Rattle.rkyv_table.specs.{WrittenAt, home_positions, item_at}

-- the position of the item with the number `i`
pub home_pos : (w : Width) (size : ℕ) (b : List ℕ) (p : ℕ) (homes : List ℕ) (i : ℕ)
    → i < length homes
    → slice_index (home_positions w size b p homes) i ≡ item_at w size b p (slice_index homes i)
home_pos w size b p homes i h = get_or-map (item_at w size b p) homes i 0 0 h

-- there are as many home buckets as hashes
pub home_count : (w : Width) (b : List ℕ) (p : ℕ) (hashes homes : List ℕ)
    → WrittenAt w b p hashes homes → length homes ≡ length hashes
home_count w b p hashes homes written = grind (arith, common_steps)
