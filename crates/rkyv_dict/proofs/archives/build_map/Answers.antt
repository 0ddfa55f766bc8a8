use Rattle.rkyv_dict.specs.{ArchiveFails, IsArchiveOf}
use Rattle.rkyv_dict.proofs.archives.build_map.Goals as goal

pub returns : goal.returns
unfolding IsArchiveOf ArchiveFails
returns g c =
    rw c.with_load_factor-list.ensures.load_factor at (rw c.with_load_factor-list.ensures.pairs at c.to_bytes_in.ensures)
