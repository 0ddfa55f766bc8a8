use Rattle.ffi_calls.specs.{ArchiveOfItemsFails, IsArchiveOfItems, collection_of, types_of}
use Rattle.ffi_calls.proofs.StoredArchive.{collection_stored}
use Rattle.ffi_calls.proofs.building.build.Goals as goal

pub returns : goal.returns
returns c =
    let items = c.args.items.now in
    collection_stored (λ of. IsArchiveOfItems (types_of of) items) (λ of. ArchiveOfItemsFails (types_of of) items) (collection_of c.args.codes) c.archive_by.result _ _ _ c.archive_by.ensures c.leak_into.ensures
