-- Cursors over the pairs of a map, for writing its values.
use Rattle.std.specs.Prelude.{◌≡◌, ℕ, ◌+◌, ◌≤◌, List, [], ◌∷◌, Option, MatchOption, drop, length}
use Rattle.std.specs.Prelude.{take}
use Rattle.std.specs.Borrow.{MutBor}
use Rattle.std.specs.Int.{Width}
use Rattle.rkyv_base.specs.{ElementSpec, Viewable, bytes_in, bytes_of, entry_spec, pos_of, seal_pos}
use Rattle.rkyv_base.specs.{value_pos}
use Rattle.rkyv_base.specs.declared.entry.Entry.{Entry}
use Rattle.rkyv_base.specs.declared.seal.Seal.{Seal}
use Rattle.rkyv_base.specs.declared.view.View.{View}
use Rattle.rkyv_table.specs.{CountsDown, IsSealIter, KeepsTable, LendsPair, LendsValue, SameArchive}
use Rattle.rkyv_table.specs.{SameValue, StaysThere, cursor_buckets_left, cursor_bytes, cursor_len}
use Rattle.rkyv_table.specs.{full_buckets, len_at}
use Rattle.rkyv_table.specs.declared.table.raw_iter_seal.RawIterSeal.{RawIterSeal}
use Rattle.rkyv_collections.specs.Map.SealedMap.{IsPairPos}
use Rattle.rkyv_collections.specs.declared.map.in_place.iter_seal.IterMut.{IterMut}
use Rattle.rkyv_collections.specs.declared.map.in_place.iter_seal.ValuesMut.{ValuesMut}

module _ {K V H W : Type 0} where
  -- the cursor over the entries of the map's table
  abbrev pub entries_in : IterMut K V H W → RawIterSeal (Entry K V)
  entries_in pairs = pairs.entries

  -- the cursor over entries in a cursor over values
  abbrev pub entries_of : ValuesMut K V H W → RawIterSeal (Entry K V)
  entries_of values = values.pairs.entries

module _ {K V : Type 0} (k v : ElementSpec) where
  -- a cursor over the valid map at `p` of its archive, with the numbers of the map
  abbrev pub IsPairIter : Width → ℕ → RawIterSeal (Entry K V) → Type 0
  IsPairIter w p r = IsSealIter w (entry_spec k v) p r

  -- all pairs of the map at `p` in `b` remain
  pub record HasAllPairs (w : Width) (b : List ℕ) (p : ℕ) (r : RawIterSeal (Entry K V)) : Type 0
    where
      pub iter : IsPairIter w p r
      pub buckets : cursor_buckets_left w p r ≡ full_buckets w b p
      pub count : cursor_len r ≡ len_at w b p

  -- the first remaining pair is taken, and its key is at `q`
  pub record YieldsPairAt (w : Width) (p : ℕ) (before after : RawIterSeal (Entry K V)) (q : ℕ) :
      Type 0 where
    pub bucket : ℕ
    pub first : cursor_buckets_left w p before ≡ bucket ∷ cursor_buckets_left w p after
    pub pair : IsPairPos w k v (cursor_bytes before) p bucket q
    pub iter : IsPairIter w p after

  -- no pair remains, before and after the step
  pub record IsDone (w : Width) (p : ℕ) (before after : RawIterSeal (Entry K V)) : Type 0 where
    pub none : cursor_buckets_left w p before ≡ []
    pub still : cursor_buckets_left w p after ≡ []
    pub iter : IsPairIter w p after

  -- a step over the positions of the keys of a map: none remains, or the first is taken
  abbrev pub YieldsKeyPos : RawIterSeal (Entry K V) → Option ℕ → RawIterSeal (Entry K V) → Type 0
  YieldsKeyPos before result after =
      (w : Width) (p : ℕ) → IsPairIter w p before
      → MatchOption result (IsDone w p before after) (YieldsPairAt w p before after)

  -- a step over the positions of the values of a map: none remains, or the first is taken
  abbrev pub YieldsValuePos : RawIterSeal (Entry K V) → Option ℕ → RawIterSeal (Entry K V) → Type 0
  YieldsValuePos before result after =
      (w : Width) (p : ℕ) → IsPairIter w p before
      → MatchOption result (IsDone w p before after) (λ q. (key : ℕ) × (q ≡ value_pos k v key)
      × YieldsPairAt w p before after key)

  -- `pair`: view of the key and seal of the value. The bytes are split at the start of the value
  pub record IsSplitPair (b : List ℕ) (pair : View K × Seal V) : Type 0 where
    pub front : bytes_of pair.0 ≡ take (value_pos k v (pos_of pair.0)) b
    pub back : bytes_in pair.1 ≡ drop (value_pos k v (pos_of pair.0)) b
    pub begin : seal_pos pair.1 ≡ 0

  -- the key and the seal of the value of the first remaining pair, or `None` if none remains
  abbrev pub LendsFirstPair : RawIterSeal (Entry K V) → Option (View K × Seal V) → Type 0
  LendsFirstPair before result =
      (w : Width) (p : ℕ) → IsPairIter w p before
      → MatchOption result (cursor_buckets_left w p before ≡ [])
      (λ pair. (i : ℕ) × (rest : List ℕ) × (cursor_buckets_left w p before ≡ i ∷ rest)
      × LendsPair k v (cursor_bytes before) (IsPairPos w k v (cursor_bytes before) p i) pair)

  -- the seal of the value of the first remaining pair, or `None` if none remains
  abbrev pub LendsFirstValue : RawIterSeal (Entry K V) → Option (Seal V) → Type 0
  LendsFirstValue before result =
      (w : Width) (p : ℕ) → IsPairIter w p before
      → MatchOption result (cursor_buckets_left w p before ≡ [])
      (λ value. (i : ℕ) × (rest : List ℕ) × (cursor_buckets_left w p before ≡ i ∷ rest)
      × LendsValue k v (cursor_bytes before) (IsPairPos w k v (cursor_bytes before) p i) value)

  -- a cursor over a map whose value behind the key at `q` was written is still one.
  -- The map is kept, and the same pairs remain
  abbrev pub KeepsPairs : RawIterSeal (Entry K V) → ℕ → RawIterSeal (Entry K V) → Type 0
  KeepsPairs before q after =
      (w : Width) (p i : ℕ) → IsPairIter w p before → IsPairPos w k v (cursor_bytes before) p i q
      → KeepsTable w (entry_spec k v) (cursor_bytes before) (cursor_bytes after) p i
      × SameValue k (cursor_bytes before) (cursor_bytes after) q
      × IsPairIter w p after × (cursor_buckets_left w p after ≡ cursor_buckets_left w p before)

  -- the same for a map whose value at `q` was written
  abbrev pub KeepsValues : RawIterSeal (Entry K V) → ℕ → RawIterSeal (Entry K V) → Type 0
  KeepsValues before q after = (key : ℕ) → q ≡ value_pos k v key → KeepsPairs before key after

  -- `q`: position of a valid value in the bytes of the cursor, if it is over a valid map
  abbrev pub IsValueOfMap : RawIterSeal (Entry K V) → ℕ → Type 0
  IsValueOfMap r q = (w : Width) (p : ℕ) → IsPairIter w p r → Viewable v (cursor_bytes r) q

  -- `q`: position of a valid key in the bytes of the cursor, before its valid value, if it is
  -- over a valid map
  abbrev pub IsPairOfMap : RawIterSeal (Entry K V) → ℕ → Type 0
  IsPairOfMap r q = (w : Width) (p : ℕ) → IsPairIter w p r
      → Viewable k (cursor_bytes r) q × Viewable v (cursor_bytes r) (value_pos k v q)

  -- the writer can be called with the bytes of the cursor and each position at which a value fits.
  -- It may rely on a valid value there, if the cursor is over a valid map
  abbrev pub MayWriteValue : {F : Type 0} → (F → MutBor (List ℕ) → ℕ → Type 0)
      → RawIterSeal (Entry K V) → F → Type 0
  MayWriteValue pre before write = (b : MutBor (List ℕ)) (q : ℕ) → b.now ≡ cursor_bytes before
      → q + v.size ≤ length b.now → IsValueOfMap before q → pre write b q

  -- the writer can be called with the bytes of the cursor and each position at which a pair fits.
  -- It may rely on a valid pair there, if the cursor is over a valid map
  abbrev pub MayWritePair : {F : Type 0} → (F → MutBor (List ℕ) → ℕ → Type 0)
      → RawIterSeal (Entry K V) → F → Type 0
  MayWritePair pre before write = (b : MutBor (List ℕ)) (q : ℕ) → b.now ≡ cursor_bytes before
      → value_pos k v q + v.size ≤ length b.now → IsPairOfMap before q → pre write b q

  -- a step over the positions of the keys of a map, and the write to the archive if a pair remained
  pub record StepsAndWritesPair (Writes : List ℕ → ℕ → List ℕ
      → Type 0) (before : RawIterSeal (Entry K V))
      (result : Option ℕ) (after : RawIterSeal (Entry K V)) : Type 0 where
    pub stepped : RawIterSeal (Entry K V)
    pub archive : SameArchive before stepped
    pub counts : CountsDown before result stepped
    pub takes : YieldsKeyPos before result stepped
    pub writes : MatchOption result (after ≡ stepped)
        (λ q. StaysThere stepped after × Writes (cursor_bytes stepped) q (cursor_bytes after))

  -- a step over the positions of the values of a map, and the write to the archive
  -- if a value remained
  pub record StepsAndWritesValue (Writes : List ℕ → ℕ → List ℕ
      → Type 0) (before : RawIterSeal (Entry K V)) (result : Option ℕ)
      (after : RawIterSeal (Entry K V)) : Type 0 where
    pub stepped : RawIterSeal (Entry K V)
    pub archive : SameArchive before stepped
    pub counts : CountsDown before result stepped
    pub takes : YieldsValuePos before result stepped
    pub writes : MatchOption result (after ≡ stepped) (λ q. StaysThere stepped after
        × Writes (cursor_bytes stepped) q (cursor_bytes after))
