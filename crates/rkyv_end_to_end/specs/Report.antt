-- A table in bytes, its items, and the result of one lookup.
use Rattle.std.specs.Prelude.{◌≡◌, ℕ, ◌+◌, ◌/◌, ◌<◌, Bool, List, length, IfSome, MatchResult}
use Rattle.std.specs.Prelude.{Option, Result}
use Rattle.std.specs.Int.{Width}
use Rattle.std.specs.List.{All, Contains}
use Rattle.rkyv_base.specs.{Fails, Passes, Viewable}
use Rattle.rkyv_base.specs.declared.element.PartRange.{PartRange}
use Rattle.rkyv_base.specs.declared.view.View.{View}
use Rattle.rkyv_scan.specs.{generic_kind}
use Rattle.rkyv_table.specs.{CanCompareOf, LooksUp, ReadsExactly, ReadsWithin, TableIn, cap_at}
use Rattle.rkyv_table.specs.{item_positions, len_at, table_spec}
use Rattle.rkyv_end_to_end.specs.declared.looking.LookError.{LookError}
use Rattle.rkyv_end_to_end.specs.declared.looking.LookError.TheVariants.{Memory, Verify}
use Rattle.rkyv_end_to_end.specs.declared.looking.TableReport.{TableReport}

-- the comparison can be called on each item of the table
abbrev pub CanCompareItems : {T : Type 0} → TableIn → (View T → Type 0) → Type 0
CanCompareItems t pre = CanCompareOf pre t.word t.spec t.bytes t.pos

-- `cap / 16`, rounded up
abbrev pub per_sixteen : ℕ → ℕ
per_sixteen cap = (cap + 15) / 16

-- a lookup in the table at `p` reads no stride if it has no items. Else it reads at least one,
-- and at most ceil(buckets / 16)
abbrev pub ReadsWithinBound : Width → List ℕ → ℕ → ℕ → Type 0
ReadsWithinBound w b p strides = ReadsWithin (len_at w b p) (per_sixteen (cap_at w b p)) 0 strides

-- `found`: position of the item that a lookup of `hash` in the table finds
abbrev pub LooksUpIn : {T : Type 0} → TableIn → (View T → Bool → Type 0) → ℕ → Option ℕ → Type 0
LooksUpIn t post hash found = LooksUp post generic_kind t.word t.spec t.bytes t.pos hash found

-- `count`: number of strides that a lookup of `hash` in the table reads, if the comparison depends
-- only on positions
abbrev pub ReadsExactlyIn : {T : Type 0} → TableIn → (View T → Bool → Type 0) → ℕ → ℕ → Type 0
ReadsExactlyIn t post hash count =
    ReadsExactly post generic_kind t.word t.spec t.bytes t.pos hash count

-- the items of the table, and one lookup. The walk visits each item once, in bucket order,
-- and each is valid. The lookup finds no item or an accepted one, within the bound.
-- If the comparison is a function of the position, the number of strides is exact
pub record ReportsTable {T : Type 0} (t : TableIn) (post : View T → Bool → Type 0) (hash : ℕ)
    (report : TableReport) : Type 0 where
  pub walks : report.walked.items ≡ item_positions t.word t.spec.size t.bytes t.pos
  pub count : length report.walked.items ≡ len_at t.word t.bytes t.pos
  pub checked : All (Viewable t.spec t.bytes) report.walked.items
  pub among : IfSome report.found (Contains report.walked.items)
  pub looks : LooksUpIn t post hash report.found
  pub reads : ReadsWithinBound t.word t.bytes t.pos report.strides
  pub exact : ReadsExactlyIn t post hash report.strides

-- the bytes are not a valid table, or memory could not be allocated for the items of a valid one
abbrev pub LookOverFails : TableIn → PartRange → LookError → Type 0
LookOverFails t range (Verify e) = Fails (table_spec t.word t.spec) t.bytes t.pos range e
LookOverFails t range Memory = (0 < len_at t.word t.bytes t.pos)
    × (rest : PartRange) × Passes (table_spec t.word t.spec) t.bytes t.pos range rest

-- `result`: the items of the table, which is valid, and one lookup, or the error
abbrev pub LooksOver : {T : Type 0} → TableIn → PartRange → (View T → Bool → Type 0) → ℕ
    → Result TableReport LookError → Type 0
LooksOver t range post hash result = MatchResult result
    (λ report. (rest : PartRange) × Passes (table_spec t.word t.spec) t.bytes t.pos range rest
    × ReportsTable t post hash report)
    (LookOverFails t range)
