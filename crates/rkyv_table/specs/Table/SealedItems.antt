-- The remaining items of a cursor that writes them in place.
use Rattle.std.specs.Prelude.{◌≡◌, ℕ, ◌+◌, ◌<◌, [], ◌∷◌, ◌≤◌, List, Option, length, MatchOption}
use Rattle.std.specs.Borrow.{MutBor}
use Rattle.std.specs.Int.{Width}
use Rattle.rkyv_base.specs.{ElementSpec, LiesIn, Viewable, archive_in, archive_ref, bytes_in}
use Rattle.rkyv_base.specs.{bytes_ref, seal_pos}
use Rattle.rkyv_base.specs.declared.seal.Seal.{Seal}
use Rattle.rkyv_table.specs.Table.Header.{cap_at, controls_pos}
use Rattle.rkyv_table.specs.Table.Positions.{IsWalked, item_at, table_controls}
use Rattle.rkyv_base.specs.declared.seal.ArchiveSeal.{ArchiveSeal}
use Rattle.rkyv_table.specs.Table.SealedTable.{KeepsTable, KeptByWrites}
use Rattle.rkyv_table.specs.Table.Layout.{table_spec}
use Rattle.rkyv_table.specs.Controls.Walking.{full_from}
use Rattle.rkyv_table.specs.declared.table.raw_iter_seal.NextItem.{NextItem}
use Rattle.rkyv_table.specs.declared.table.raw_iter_seal.RawIterSeal.{RawIterSeal}

-- the borrowed archive of a cursor
abbrev pub cursor_archive : {T : Type 0} → RawIterSeal T → MutBor (List ℕ)
cursor_archive r = r.archive

-- the bytes of the archive of a cursor
abbrev pub cursor_bytes : {T : Type 0} → RawIterSeal T → List ℕ
cursor_bytes r = r.archive.now

-- the number of items that remain
abbrev pub cursor_len : {T : Type 0} → RawIterSeal T → ℕ
cursor_len r = r.left

-- the buckets that remain in a cursor over the table at `p`, in ascending order
abbrev pub cursor_buckets_left : {T : Type 0} → Width → ℕ → RawIterSeal T → List ℕ
cursor_buckets_left w p r = full_from (table_controls w r.archive.now p) r.cap r.next

-- a cursor over the valid table at `p` of its archive, with the numbers of the table
pub record IsSealIter {T : Type 0} (w : Width) (s : ElementSpec) (p : ℕ)
    (r : RawIterSeal T) : Type 0
  where
    pub table : Viewable (table_spec w s) r.archive.now p
    pub cap : r.cap ≡ cap_at w r.archive.now p
    pub buckets_end : 0 < r.cap → r.buckets_end ≡ controls_pos w r.archive.now p
    pub left : r.left ≡ length (cursor_buckets_left w p r)

-- both cursors have the same reference and the same bytes
pub record SameArchive {T : Type 0} (before after : RawIterSeal T) : Type 0 where
  pub reference : after.archive.ghost_name ≡ before.archive.ghost_name
  pub bytes : after.archive.now ≡ before.archive.now

-- `q`: position of the item in bucket `i` of the table at `p`. Each write of only the item
-- that keeps it valid keeps the table
pub record IsItemAt (w : Width) (s : ElementSpec) (b : List ℕ) (p i q : ℕ) : Type 0 where
  pub walked : IsWalked w b p i
  pub pos : q ≡ item_at w s.size b p i
  pub viewable : Viewable s b q
  pub kept : KeptByWrites w s b p i

-- the first remaining bucket, with its item at `q`, and the cursor over the others
pub record YieldsBucket {T : Type 0} (w : Width) (s : ElementSpec) (p : ℕ)
    (before after : RawIterSeal T)
    (q : ℕ) : Type 0 where
  pub bucket : ℕ
  pub first : cursor_buckets_left w p before ≡ bucket ∷ cursor_buckets_left w p after
  pub item : IsItemAt w s before.archive.now p bucket q
  pub iter : IsSealIter w s p after

-- a step over the positions of a table's items: none remains, or the first is taken
abbrev pub YieldsPosition : {T : Type 0} → ElementSpec → RawIterSeal T → Option ℕ → RawIterSeal T
    → Type 0
YieldsPosition s before result after =
    (w : Width) (p : ℕ) → IsSealIter w s p before
    → MatchOption result ((cursor_buckets_left w p before ≡ [])
    × (cursor_buckets_left w p after ≡ [])
    × IsSealIter w s p after) (YieldsBucket w s p before after)

-- the number of remaining items decreases by one with each item, and is unchanged at the end
abbrev pub CountsDown : {T : Type 0} → RawIterSeal T → Option ℕ → RawIterSeal T → Type 0
CountsDown before result after =
    MatchOption result (after.left ≡ before.left) (λ _. before.left ≡ after.left + 1)

-- the seal of the first remaining item of a cursor over a table, or `None` if none remains
abbrev pub LendsFirst : {T : Type 0} → ElementSpec → RawIterSeal T → Option (Seal T) → Type 0
LendsFirst s before result =
    (w : Width) (p : ℕ) → IsSealIter w s p before
    → MatchOption result (cursor_buckets_left w p before ≡ [])
    (λ x. (i : ℕ) × (rest : List ℕ) × (cursor_buckets_left w p before ≡ i ∷ rest)
    × IsItemAt w s before.archive.now p i (seal_pos x))

-- the bucket and the position of the first remaining item of a cursor over a table
abbrev pub FindsFirstLeft : {T : Type 0} → ElementSpec → RawIterSeal T → Option NextItem → Type 0
FindsFirstLeft s r result =
    (w : Width) (p : ℕ) → IsSealIter w s p r
    → MatchOption result (cursor_buckets_left w p r ≡ [])
    (λ f. (cursor_buckets_left w p r ≡ f.bucket ∷ full_from (table_controls w r.archive.now p) r.cap
    (f.bucket + 1)) × IsItemAt w s r.archive.now p f.bucket f.at)

-- the cursor has the reference and the bytes of the seal `a`
pub record LendsArchive {T U : Type 0} (a : ArchiveSeal U) (r : RawIterSeal T) : Type 0 where
  pub reference : r.archive.ghost_name ≡ (archive_ref a).ghost_name
  pub bytes : r.archive.now ≡ archive_in a

-- the cursor is at the same bucket, over the same reference, with any bytes
pub record StaysThere {T : Type 0} (before after : RawIterSeal T) : Type 0 where
  pub reference : after.archive.ghost_name ≡ before.archive.ghost_name
  pub buckets_end : after.buckets_end ≡ before.buckets_end
  pub cap : after.cap ≡ before.cap
  pub next : after.next ≡ before.next
  pub left : after.left ≡ before.left

-- a cursor over a table whose item at `q` was written is still one. The table is kept,
-- and the same buckets remain
abbrev pub KeepsCursor : {T : Type 0} → ElementSpec → RawIterSeal T → ℕ → RawIterSeal T → Type 0
KeepsCursor s before q after =
    (w : Width) (p i : ℕ) → IsSealIter w s p before → IsItemAt w s before.archive.now p i q
    → KeepsTable w s before.archive.now after.archive.now p i × IsSealIter w s p after
    × (cursor_buckets_left w p after ≡ cursor_buckets_left w p before)

-- `q`: position of a valid item in the bytes of the cursor, if it is over a valid table
abbrev pub IsItemOfTable : {T : Type 0} → ElementSpec → RawIterSeal T → ℕ → Type 0
IsItemOfTable s r q = (w : Width) (p : ℕ) → IsSealIter w s p r → Viewable s r.archive.now q

-- `write` can be called with the archive and each position at which an item fits. It may rely on
-- a valid item there, if the cursor is over a valid table
abbrev pub MayWriteNext : {F T : Type 0} → (F → MutBor (List ℕ) → ℕ → Type 0) → ElementSpec
    → RawIterSeal T → F → Type 0
MayWriteNext pre s before write = (b : MutBor (List ℕ)) (q : ℕ) → b.now ≡ before.archive.now
    → q + s.size ≤ length b.now → IsItemOfTable s before q → pre write b q

-- `write` can be called with the archive and position `q`
abbrev pub MayWriteAt : {F T : Type 0} → (F → MutBor (List ℕ) → ℕ → Type 0) → RawIterSeal T → ℕ → F
    → Type 0
MayWriteAt pre before q write = (b : MutBor (List ℕ)) → b.now ≡ before.archive.now → pre write b q

-- `c`: bytes after a call of `write` with the bytes `b` and position `q`, and with the result `r`
abbrev pub WrittenBy : {F R : Type 0} → (F → MutBor (List ℕ) → ℕ → R → MutBor (List ℕ) → Type 0) → F
    → R → List ℕ → ℕ → List ℕ → Type 0
WrittenBy post write r b q c =
    (x : MutBor (List ℕ)) × (y : MutBor (List ℕ)) × (x.now ≡ b) × (y.now ≡ c) × post write x q r y

-- a step over the positions of a table's items, and the write of the taken item
pub record StepsAndWrites {T : Type 0} (s : ElementSpec) (Writes : List ℕ → ℕ → List ℕ
    → Type 0) (before : RawIterSeal T) (result : Option ℕ) (after : RawIterSeal T) : Type 0 where
  pub stepped : RawIterSeal T
  pub archive : SameArchive before stepped
  pub counts : CountsDown before result stepped
  pub takes : YieldsPosition s before result stepped
  pub writes : MatchOption result (after ≡ stepped) (λ q. StaysThere stepped after
      × Writes stepped.archive.now q after.archive.now)

-- `write` can be called with a seal at position `q` of the bytes `b`
abbrev pub MaySeal : {F T : Type 0} → (F → MutBor (Seal T) → Type 0) → F → List ℕ → ℕ → Type 0
MaySeal {F} {T} pre write b q = (x : MutBor (Seal T)) → bytes_in x.now ≡ b → seal_pos x.now ≡ q
    → pre write x

-- `write` was called with a seal at position `q` of the bytes `b`, and returned `r`. If the seal
-- still has its reference, `c` are its bytes after the call
pub record SealedBy {F R T : Type 0} (post : F → MutBor (Seal T) → R → MutBor (Seal T)
    → Type 0) (write : F) (r : R) (b : List ℕ) (q : ℕ) (c : List ℕ) : Type 0 where
  pub given : MutBor (Seal T)
  pub left : MutBor (Seal T)
  pub bytes : bytes_in given.now ≡ b
  pub pos : seal_pos given.now ≡ q
  pub met : post write given r left
  pub leaves : (bytes_ref left.now).ghost_name ≡ (bytes_ref given.now).ghost_name
      → bytes_in left.now ≡ c

-- `write` can be called with a seal of each item that fits in the archive. It may rely on
-- a valid item there, if the cursor is over a valid table
abbrev pub MaySealNext : {F T : Type 0} → (F → MutBor (Seal T) → Type 0) → ElementSpec
    → RawIterSeal T → F
    → Type 0
MaySealNext {F} {T} pre s before write = (x : MutBor (Seal T)) → bytes_in x.now ≡ before.archive.now
    → LiesIn s x.now → IsItemOfTable s before (seal_pos x.now) → pre write x

-- `write` can be called with a seal of each valid value of the bytes
abbrev pub MaySealIn : {F T : Type 0} → (F → MutBor (Seal T) → Type 0) → ElementSpec → F → List ℕ
    → Type 0
MaySealIn {F} {T} pre s write b = (x : MutBor (Seal T)) → bytes_in x.now ≡ b → LiesIn s x.now
    → Viewable s b (seal_pos x.now) → pre write x
