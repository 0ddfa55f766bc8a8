-- Walks over the keys of a set.
use Rattle.rkyv_base.specs.declared.element.HasSpec.{Ghosts as Specs}
use Rattle.rkyv_base.specs.declared.width.Word.{Ghosts as Words}
use Rattle.rkyv_table.specs.{ItemsLeft}
use Rattle.rkyv_collections.specs.Map.Walking.{WalksAll}
use Rattle.rkyv_collections.specs.declared.set.ArchivedHashSet.{ArchivedHashSet}

-- `left`: all keys of the set `s`, in bucket order
abbrev pub WalksAllKeys : {K H W : Type 0} {ks : Specs K} {wt : Words W}
    → ArchivedHashSet K H W ks wt → ItemsLeft → Type 0
WalksAllKeys s left = WalksAll s.map left
