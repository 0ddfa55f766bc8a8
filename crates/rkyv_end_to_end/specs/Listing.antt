-- A list that is written as a table followed by its header, and the result of its lookup.
use Rattle.std.specs.Prelude.{◌≡◌, ℕ, ◌+◌, ◌*◌, ◌%◌, ◌^◌, ◌<◌, ◌≤◌, ◌⊎◌, Bool, List, ◌++◌, length}
use Rattle.std.specs.Prelude.{MatchResult, Option, Result, Some, slice_get, slice_index, slice_set}
use Rattle.std.specs.Int.{Width, byte_len}
use Rattle.std.specs.declared.iter.Iterator.{Ghosts as Iterators}
use Rattle.rkyv_base.specs.{Appended, ElementMembers, ElementSpec, Format, IsValidView}
use Rattle.rkyv_base.specs.{ModifiesOnly, OccursAt, Output, RepresentsAs, StaysValid, Step}
use Rattle.rkyv_base.specs.{ValueStep, WidthMembers, WriteFails}
use Rattle.rkyv_base.specs.{end_of, padding, piece, round_up, vec_output, written_as, zeros}
use Rattle.rkyv_base.specs.declared.archive.Archive.{Ghosts as Archives}
use Rattle.rkyv_base.specs.declared.element.PartRange.{PartRange}
use Rattle.rkyv_base.specs.declared.errors.WriteError.{WriteError}
use Rattle.rkyv_base.specs.declared.lend.Lend.{Ghosts as Lends}
use Rattle.rkyv_base.specs.declared.view.View.{View}
use Rattle.rkyv_table.specs.{AgreesAt, AreUnder, ComparesByOf, HasCapacity, Input, IsFirstOf}
use Rattle.rkyv_table.specs.{IsValidAround, OwnCause, TableIn, TableRepresents, TableResolver}
use Rattle.rkyv_table.specs.{VisitsHomes, WrittenAt, YieldsExactly, cap_at, from_both, hashes_of}
use Rattle.rkyv_table.specs.{first_pos, home_positions, items_of, table_controls, table_format}
use Rattle.rkyv_table.specs.{table_spec}
use Rattle.rkyv_end_to_end.specs.Report.{LooksOver, ReportsTable}
use Rattle.rkyv_end_to_end.specs.declared.looking.LookError.{LookError}
use Rattle.rkyv_end_to_end.specs.declared.looking.LookError.TheVariants.{Memory, Verify}
use Rattle.rkyv_end_to_end.specs.declared.looking.TableReport.{TableReport}
use Rattle.rkyv_end_to_end.specs.declared.whole.ListError.{ListError}
use Rattle.rkyv_end_to_end.specs.declared.whole.ListError.TheVariants.{Look, Write}
use Rattle.rkyv_end_to_end.specs.declared.writing.WrittenList.{WrittenList}

-- the comparison can be called on each valid item, at any position
abbrev pub CanCompareAny : {T : Type 0} → (View T → Type 0) → ElementSpec → Type 0
CanCompareAny {T} pre s = (v : View T) → IsValidView s v → pre v

-- the encoding of an item. `spec`: spec of its element, `represents`: bytes at a position
-- represent the item, `format`: its format
pub record Encoding (X R : Type 0) : Type 1 where
  pub spec : ElementSpec
  pub represents : List ℕ → ℕ → X → Type 0
  pub format : Format X R

-- the encoding of items `X` that lend values `V`
abbrev pub encoding : {X V W A R P : Type 0} → ElementMembers V → Archives V W A R P → Lends X V
    → Encoding X R
encoding e a l = record {
  spec = e.spec;
  represents = RepresentsAs l.lent e.represents;
  format = written_as l.lent a.format;
}

-- the input pairs: each item of `items` with the next hash of `hashes`
abbrev pub pairs_of : {S A T : Type 0} → Iterators S A → Iterators T ℕ → S → T → Input (ℕ × A)
pairs_of i j items hashes = from_both i.next_gives j.next_gives items hashes

-- a list to be written. `width`: width of the archive, `items`: encoding of the items,
-- `input`: input pairs of hash and item, `len`: their number, `load_factor`: its load factor
pub record ListInput (X R : Type 0) : Type 1 where
  pub width : WidthMembers
  pub items : Encoding X R
  pub input : Input (ℕ × X)
  pub len : ℕ
  pub load_factor : ℕ × ℕ

-- the list of `len` items of the input
abbrev pub list_of : {X R : Type 0} → WidthMembers → Encoding X R → Input (ℕ × X) → ℕ → ℕ × ℕ
    → ListInput X R
list_of width items input len load_factor = record {
  width = width;
  items = items;
  input = input;
  len = len;
  load_factor = load_factor;
}

-- the format of the list, in pairs of hash and item
abbrev pub list_format : {X R : Type 0} → ListInput X R → Format (List (ℕ × X)) TableResolver
list_format list =
    table_format list.width.word list.items.spec list.items.format list.load_factor

-- `bytes`: bytes of a list written from `begin` on. They are the table, which ends at `end`,
-- zeros up to the header's alignment, and the header at `p`
pub record ListBytes {X : Type 0} (align : ℕ) (f : Format (List (ℕ × X)) TableResolver)
    (pairs : List (ℕ × X)) (begin end p : ℕ) (bytes : List ℕ) : Type 0 where
  pub part : List ℕ
  pub resolver : TableResolver
  pub header : List ℕ
  pub parts : f.parts pairs begin part resolver
  pub image : f.image pairs resolver p header
  pub ends : end ≡ begin + length part
  pub at : p ≡ round_up end align
  pub is : bytes ≡ part ++ (zeros (padding align end) ++ header)

-- the archive `c` has the bytes of a list. They are the table from `begin` to `end`, and behind it
-- the header at `p`, which is aligned. There may be any bytes in between
pub record HasListBytes {X : Type 0} (align : ℕ) (f : Format (List (ℕ × X)) TableResolver)
    (pairs : List (ℕ × X)) (begin end p : ℕ) (c : List ℕ) : Type 0 where
  pub part : List ℕ
  pub resolver : TableResolver
  pub header : List ℕ
  pub parts : f.parts pairs begin part resolver
  pub image : f.image pairs resolver p header
  pub ends : end ≡ begin + length part
  pub behind : end ≤ p
  pub aligned : p % align ≡ 0
  pub has_table : OccursAt c begin part
  pub has_header : OccursAt c p header

module _ {X : Type 0} (align : ℕ) (f : Format (List (ℕ × X)) TableResolver)
    (pairs : List (ℕ × X)) (begin : ℕ) where
  -- `step`: next step of writing the list from `begin` on, after `front`. It is a step
  -- of the table, the zeros, or the header
  abbrev pub ListNext : List ℕ → Step → Type 0
  ListNext front step =
      f.next pairs begin front step
      ⊎ ((r : TableResolver) × f.parts pairs begin front r
      × (step ≡ piece (zeros (padding align (begin + length front)))))
      ⊎ ((part : List ℕ) × (r : TableResolver) × f.parts pairs begin part r
      × (front ≡ part ++ zeros (padding align (begin + length part)))
      × ValueStep align f pairs begin part r step)

module _ {X R : Type 0} (list : ListInput X R) (o o' : Output) where
  -- `pairs`: the input pairs, `bytes`: the appended bytes. They are those of the list,
  -- whose table ends at `end`, and whose header is at `p`
  abbrev pub AppendsList : List (ℕ × X) → List ℕ → ℕ → ℕ → Type 0
  AppendsList pairs bytes end p = YieldsExactly list.input.yields list.len pairs
      × Appended list.width.LIMIT bytes o o'
      × ListBytes (byte_len list.width.word) (list_format list) pairs (end_of o) end p bytes

  -- the input pairs were written as a table, followed by its header
  abbrev pub WroteList : ℕ → ℕ → Type 0
  WroteList end p = HasCapacity list.len list.load_factor list.width.MAX_CAPACITY
      × (pairs : List (ℕ × X)) × (bytes : List ℕ) × AppendsList pairs bytes end p

  -- writing `pairs`, the zeros or the header failed with `e`. No memory is allocated for the zeros
  -- and the header
  abbrev pub ListStepFails : {F : Type 0} → List (ℕ × X) → WriteError F → Type 0
  ListStepFails pairs e = WriteFails list.width.LIMIT
      (ListNext (byte_len list.width.word) (list_format list) pairs (end_of o)) o o' e

  -- `e`: error of the call itself, before it wrote anything, or error
  -- of writing the pairs, the zeros or the header
  abbrev pub WriteListFails : {F : Type 0} → WriteError F → Type 0
  WriteListFails e =
      (OwnCause list.len list.load_factor list.width.MAX_CAPACITY
      (list.input.yields_other_count list.len) e × (o' ≡ o))
      ⊎ (HasCapacity list.len list.load_factor list.width.MAX_CAPACITY
      × (pairs : List (ℕ × X)) × YieldsExactly list.input.yields list.len pairs
      × ListStepFails pairs e)

-- `result`: the positions of the list that was written as a table with its header, or the error
abbrev pub WritesList : {X R F : Type 0} → ListInput X R → Output → Output
    → Result WrittenList (WriteError F) → Type 0
WritesList list o o' result = MatchResult result
    (λ at. WroteList list o o' at.end at.pos)
    (WriteListFails list o o')

-- the walk over the table visits each item's home bucket once, in bucket order, and no other
-- bucket. A home bucket is the first in the probe order of the item's hash that no earlier item has
pub record VisitsItems {X : Type 0} (t : TableIn) (represents : List ℕ → ℕ → X → Type 0)
    (pairs : List (ℕ × X)) : Type 0 where
  pub homes : List ℕ
  pub written : WrittenAt t.word t.bytes t.pos (hashes_of pairs) homes
  pub at : (i : ℕ) (x : X) → slice_get (items_of pairs) i ≡ Some x → represents t.bytes
      (slice_index (home_positions t.word t.spec.size t.bytes t.pos homes) i) x
  pub visits : VisitsHomes (cap_at t.word t.bytes t.pos) homes
      (table_controls t.word t.bytes t.pos)

-- the positions of the items, first inserted first
abbrev pub positions_of : {X : Type 0} {t : TableIn} {represents : List ℕ → ℕ → X → Type 0}
    {pairs : List (ℕ × X)} → VisitsItems t represents pairs → List ℕ
positions_of {t = t} visits =
    home_positions t.word t.spec.size t.bytes t.pos visits.homes

-- a list in a table that lies from `begin` to `end`, before its header. The table is valid
-- in each range around it, each item is in its home bucket, and the walk visits these alone
pub record HoldsList {X : Type 0} (t : TableIn) (represents : List ℕ → ℕ → X → Type 0)
    (begin end : ℕ) (pairs : List (ℕ × X)) : Type 0 where
  pub behind : (begin ≤ end) × (end ≤ t.pos)
  pub inside : t.pos + 3 * byte_len t.word ≤ length t.bytes
  pub aligned : t.pos % byte_len t.word ≡ 0
  pub passes : IsValidAround (table_spec t.word t.spec) t.bytes t.pos begin end
  pub items : VisitsItems t represents pairs

-- a list that was written as a table from `begin` to `end`, with the buckets of its load factor
pub record IsWrittenList {X : Type 0} (t : TableIn) (represents : List ℕ → ℕ → X → Type 0)
    (load_factor : ℕ × ℕ) (begin end : ℕ) (pairs : List (ℕ × X)) : Type 0 where
  pub holds : HoldsList t represents begin end pairs
  pub table_represents : TableRepresents t.word t.spec represents load_factor t.bytes t.pos pairs

-- the table of encoded items in the bytes, with its header at `pos`
abbrev pub table_with : {X R : Type 0} → Width → Encoding X R → List ℕ → ℕ → TableIn
table_with w items bytes pos = record { word = w; spec = items.spec; bytes = bytes; pos = pos }

-- each written list is valid, in each archive that has its bytes
abbrev pub ListsAreValid : {X R : Type 0} → Width → Encoding X R → ℕ × ℕ → Type 0
ListsAreValid {X} w items load_factor =
    (pairs : List (ℕ × X)) (begin end p : ℕ) (bytes c : List ℕ)
    → ListBytes (byte_len w) (table_format w items.spec items.format load_factor) pairs begin
    end p bytes → OccursAt c begin bytes
    → IsWrittenList (table_with w items c p) items.represents load_factor begin end pairs
    × (p + 3 * byte_len w ≡ begin + length bytes)

-- after a write of the `n`th item alone, which keeps it valid, the table holds the list with
-- the new item in its place. Its hash is that of the old item
abbrev pub ItemsAreReplaced : {X R : Type 0} → Width → Encoding X R → Type 0
ItemsAreReplaced {X} w items =
    (b c : List ℕ) (p begin end n hash : ℕ) (pairs : List (ℕ × X)) (old new : X)
    → (list : HoldsList (table_with w items b p) items.represents begin end pairs)
    → slice_get pairs n ≡ Some (hash, old)
    → ModifiesOnly b (slice_index (positions_of list.items) n) items.spec.size c
    → StaysValid items.spec b c (slice_index (positions_of list.items) n)
    → items.represents c (slice_index (positions_of list.items) n) new
    → HoldsList (table_with w items c p) items.represents begin end (slice_set pairs n (hash, new))

-- the lookup finds the first accepted item at its position, or none if no item is accepted.
-- The comparison must be a function of the position, agree with `accept` at the position of each
-- item, and accept only items with the hash `hash`
abbrev pub FindsFirstItem : {T X : Type 0} {t : TableIn} {represents : List ℕ → ℕ → X → Type 0}
    {pairs : List (ℕ × X)} → VisitsItems t represents pairs → (View T → Bool → Type 0) → ℕ
    → Option ℕ → Type 0
FindsFirstItem {X = X} {t = t} {represents = represents} {pairs = pairs} visits post hash found =
    (accept : X → Bool) (accept_at : ℕ → Bool)
    → ComparesByOf post t.word t.spec t.bytes t.pos accept_at
    → AgreesAt (positions_of visits) (items_of pairs) accept accept_at → AreUnder hash accept pairs
    → IsFirstOf represents t.bytes accept (items_of pairs) found
    × (found ≡ first_pos (positions_of visits) accept (items_of pairs))

-- the lookup of each report on a table that holds a list finds the first accepted item
abbrev pub LookupsFindListed : {T X R : Type 0} → Width → Encoding X R
    → (View T → Bool → Type 0) → Type 0
LookupsFindListed {X = X} w items post =
    (b : List ℕ) (p begin end hash : ℕ) (pairs : List (ℕ × X)) (report : TableReport)
    → (list : HoldsList (table_with w items b p) items.represents begin end pairs)
    → hash < 2 ^ 64 → ReportsTable (table_with w items b p) post hash report
    → FindsFirstItem list.items post hash report.found

-- `result`: the items and one lookup of a list that was written as a table, or memory could not be
-- allocated for the positions of its items. The lookup finds the first accepted item
abbrev pub LooksOverList : {T X : Type 0} {t : TableIn} {represents : List ℕ → ℕ → X → Type 0}
    {load_factor : ℕ × ℕ} {begin end : ℕ} {pairs : List (ℕ × X)}
    → IsWrittenList t represents load_factor begin end pairs → (View T → Bool → Type 0) → ℕ
    → Result TableReport LookError → Type 0
LooksOverList {t = t} {pairs = pairs} written post hash result = MatchResult result
    (λ report. ReportsTable t post hash report
    × FindsFirstItem written.holds.items post hash report.found)
    (λ e. (e ≡ Memory) × (0 < length pairs))

-- each list that was written as a table, with its header anywhere behind it, is valid in each
-- archive that has their bytes. The lookup of each call of `look_over`, with a range around
-- the table, finds the first accepted item
abbrev pub ListsAreFound : {T X R : Type 0} → Width → Encoding X R → ℕ × ℕ
    → (View T → Bool → Type 0) → Type 0
ListsAreFound {X = X} w items load_factor post =
    (pairs : List (ℕ × X)) (begin end p : ℕ) (c : List ℕ)
    → HasListBytes (byte_len w) (table_format w items.spec items.format load_factor) pairs begin
    end p c
    → (written : IsWrittenList (table_with w items c p) items.represents load_factor begin end
    pairs)
    × ((range : PartRange) (hash : ℕ) (result : Result TableReport LookError)
    → range.lo ≤ begin → end ≤ range.hi → hash < 2 ^ 64
    → LooksOver (table_with w items c p) range post hash result
    → LooksOverList written post hash result)

-- the table of the list in the output `o`, with its header at `p`
abbrev pub table_of : {X R : Type 0} → ListInput X R → Output → ℕ → TableIn
table_of list o p = table_with list.width.word list.items o.bytes p

-- `report`: the items and the lookup of a written list. The earlier bytes are unchanged, and the
-- appended bytes are those of the list. Its table ends at `end`, and the header at `p` ends the
-- output. The list is valid, the walk visits its items alone, and the lookup finds the first
-- accepted one
pub record ReportsList {T X R : Type 0} (list : ListInput X R) (post : View T → Bool → Type 0)
    (hash : ℕ) (o o' : Output) (report : TableReport) : Type 0 where
  pub fits : HasCapacity list.len list.load_factor list.width.MAX_CAPACITY
  pub pairs : List (ℕ × X)
  pub bytes : List ℕ
  pub end : ℕ
  pub p : ℕ
  pub appends : AppendsList list o o' pairs bytes end p
  pub ends : p + 3 * byte_len list.width.word ≡ end_of o'
  pub written : IsWrittenList (table_of list o' p) list.items.represents list.load_factor
      (end_of o) end pairs
  pub first : FindsFirstItem written.holds.items post hash report.found
  pub reports : ReportsTable (table_of list o' p) post hash report

-- the list was not written, or it has items, and memory for their positions could not be
-- allocated. The bytes of a written list are always valid
abbrev pub WriteAndFindFails : {X R : Type 0} → ListInput X R → Output → Output → ListError
    → Type 0
WriteAndFindFails list o o' (Write e) = WriteListFails list o o' e
WriteAndFindFails list o o' (Look (Verify e)) = ⊥
WriteAndFindFails list o o' (Look Memory) =
    (0 < list.len) × (end : ℕ) × (p : ℕ) × WroteList list o o' end p

-- `result`: the items and one lookup of the list, which was written, or the error.
-- `old`, `new`: bytes and count of failed writes of the writer to memory, before and after
abbrev pub WritesAndFinds : {T X R : Type 0} → ListInput X R → (View T → Bool → Type 0) → ℕ
    → List ℕ × ℕ → List ℕ × ℕ → Result TableReport ListError → Type 0
WritesAndFinds list post hash old new result = MatchResult result
    (ReportsList list post hash (vec_output old) (vec_output new))
    (WriteAndFindFails list (vec_output old) (vec_output new))
