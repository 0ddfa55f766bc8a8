-- The entries at one index of two index maps, compared.
use Rattle.rkyv_base.specs.declared.element.HasSpec.{Ghosts as Specs}
use Rattle.rkyv_base.specs.declared.width.Word.{Ghosts as Words}
use Rattle.std.proofs.Common.{arith, ◌≡◌, Bool, ℕ}
use Rattle.std.proofs.lemmas.Grind.{common_steps}
use Rattle.rkyv_base.specs.{bytes_of, entry_spec, pos_of}
use Rattle.rkyv_base.specs.declared.entry.Entry.{Entry}
use Rattle.rkyv_base.specs.declared.view.View.{View}
use Rattle.rkyv_keys.specs.{Comparison, entry_same}
use Rattle.rkyv_index.specs.{IsEntryOf, index_bytes, index_pos, same_at}
use Rattle.rkyv_index.specs.declared.map.ArchivedIndexMap.{ArchivedIndexMap}

-- the entries at an index of two maps are the same
abbrev pub same_in : {K V H W : Type 0} {ks : Specs K} {vs : Specs V} {wt : Words W} → Comparison → Comparison → ArchivedIndexMap K V H W ks vs wt → ArchivedIndexMap K V H W ks vs wt → ℕ → Bool
same_in {ks = ks} {vs} {wt} key value a o = same_at wt.word (entry_spec ks.spec vs.spec) (entry_same ks.spec vs.spec key value) (index_bytes a) (index_pos a) (index_bytes o) (index_pos o)

module _ {K V H W : Type 0} {ks : Specs K} {vs : Specs V} {wt : Words W} (same : Comparison) where
  pub same_there : (own other : View (Entry K V)) (a o : ArchivedIndexMap K V H W ks vs wt) (i : ℕ) → IsEntryOf a i own → IsEntryOf o i other
      → same (bytes_of own) (pos_of own) (bytes_of other) (pos_of other) ≡ same_at wt.word (entry_spec ks.spec vs.spec) same (index_bytes a) (index_pos a) (index_bytes o) (index_pos o) i
  same_there own other a o i p q = grind (arith, common_steps)
