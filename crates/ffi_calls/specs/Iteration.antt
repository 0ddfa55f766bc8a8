-- Iteration over the items of any collection.
use Rattle.std.specs.Prelude.{ℕ, Bool, true, false, List}
use Rattle.ffi_calls.specs.Archives.{IsHeaderOf}
use Rattle.ffi_calls.specs.Collections.{IsArchiveOfTypes, collection_at, types_in}
use Rattle.ffi_calls.specs.IndexArchives.{StoresItemsFrom}
use Rattle.ffi_calls.specs.IndexLists.{StoresListed}
use Rattle.ffi_calls.specs.Lists.{fx_pairs}
use Rattle.ffi_calls.specs.TypesOf.{Types, types_of}
use Rattle.ffi_calls.specs.Walking.{StoresNextItems}
use Rattle.ffi_calls.specs.declared.any_value.AnyItem.{AnyItem}
use Rattle.ffi_calls.specs.declared.collection.Handle.{Handle}
use Rattle.ffi_calls.specs.declared.iteration.Iteration.{Iteration}

-- the condition of iteration: the archive is valid, and the header is its own
pub record CanIterate {P : Type 0} (op : Iteration) (before : List AnyItem) (t : Types P) : Type 0
  where
    pub archive : IsArchiveOfTypes t op.archive.now
    pub header : IsHeaderOf (types_in t op.archive.now) op.header.now

module _ {P : Type 0} (t : Types P) (b : List ℕ) (from : ℕ) (before : List AnyItem) (count : ℕ)
    (after : List AnyItem) where
  -- the result in an index map: by index, and in terms of each list that the map represents
  pub record StoresFromIndex : Type 0 where
    pub stores : StoresItemsFrom (types_in t b) t.key.any t.value.any from before count after
    pub listed : StoresListed (types_in t b)
        (fx_pairs t.key.represents t.value.represents t.key.key_calls) t.key.is_of t.value.is_of
        from before count after

  -- the result in an index map if the flag is `true`, and in a hash map if it is `false`
  abbrev pub StoresItemsIn : Bool → Type 0
  StoresItemsIn false = StoresNextItems (types_in t b) t.key.any t.value.any from before count after
  StoresItemsIn true = StoresFromIndex

-- the result of iteration
abbrev pub StoresItems : {P : Type 0} → Iteration → List AnyItem → Types P → ℕ → List AnyItem
    → Type 0
StoresItems op before t count after =
    StoresItemsIn t op.archive.now op.from before count after t.indexed

-- the result of iteration over the collection of the handle
abbrev pub StoresItemsAt : Handle → List ℕ → ℕ → List AnyItem → ℕ → List AnyItem → Type 0
StoresItemsAt handle b from before count after =
    StoresItemsIn (types_of (collection_at handle)) b from before count after handle.indexed
