-- Lookups in a table in bare bytes.
use Rattle.std.specs.Prelude.{◌≡◌, ℕ, Bool, true, List, Option, None, Some, IfSome, MatchOption}
use Rattle.std.specs.Int.{Width}
use Rattle.std.specs.List.{find}
use Rattle.rkyv_base.specs.{ElementSpec, Viewable, bytes_of, pos_of}
use Rattle.rkyv_base.specs.declared.element.HasSpec.{Ghosts as Specs}
use Rattle.rkyv_base.specs.declared.view.View.{View}
use Rattle.rkyv_base.specs.declared.width.Word.{Ghosts as Words}
use Rattle.rkyv_scan.specs.{Kind, generic_kind}
use Rattle.rkyv_table.specs.Controls.Laws.{IsUnderHash}
use Rattle.rkyv_table.specs.Table.Positions.{IsWalked, WrittenAt, home_positions, item_at}
use Rattle.rkyv_table.specs.Table.Positions.{probe_length_at}
use Rattle.rkyv_table.specs.Table.Positions.{pos_found}
use Rattle.rkyv_table.specs.Table.SealedItems.{IsItemAt}

-- a table in bytes. `word`: width of the archive, `spec`: spec of the items,
-- `bytes`: the archive, `pos`: position of the header
pub record TableIn : Type 1 where
  pub word : Width
  pub spec : ElementSpec
  pub bytes : List ℕ
  pub pos : ℕ

-- the table of elements `t` in the width `w` whose header is at `pos`
abbrev pub table_in : {W T : Type 0} → Words W → Specs T → List ℕ → ℕ → TableIn
table_in w t bytes pos = record { word = w.word; spec = t.spec; bytes = bytes; pos = pos }

-- `v`: view of an item of the table whose header is at `p` in `b`
pub record IsItemOf {T : Type 0} (w : Width) (s : ElementSpec) (b : List ℕ) (p : ℕ)
    (v : View T) : Type 0 where
  pub archive : bytes_of v ≡ b
  pub bucket : ℕ
  pub walked : IsWalked w b p bucket
  pub pos : pos_of v ≡ item_at w s.size b p bucket
  pub viewable : Viewable s b (pos_of v)

-- the comparison can be called with each item
abbrev pub CanCompareOf : {T : Type 0} → (View T → Type 0) → Width → ElementSpec → List ℕ → ℕ
    → Type 0
CanCompareOf {T} pre w s b p = (v : View T) → IsItemOf w s b p v → pre v

-- the comparison returns `accept q` for the item at each position `q`
abbrev pub ComparesByOf : {T : Type 0} → (View T → Bool → Type 0) → Width → ElementSpec → List ℕ → ℕ
    → (ℕ → Bool) → Type 0
ComparesByOf {T} post w s b p accept =
    (v : View T) (r : Bool) → IsItemOf w s b p v → post v r → r ≡ accept (pos_of v)

-- `q`: position of an item for which the comparison returned `true`
abbrev pub AcceptedOf : {T : Type 0} → (View T → Bool → Type 0) → Width → ElementSpec → List ℕ → ℕ
    → ℕ → Type 0
AcceptedOf {T} post w s b p q = (v : View T) × IsItemOf w s b p v × (pos_of v ≡ q) × post v true

-- `found`: position of the item that a lookup under `hash` finds. The comparison returned `true`
-- for it. If the comparison depends only on positions, the control bytes decide which one it is.
-- In a written table whose accepted items are under `hash`, it is the first of them
pub record LooksUp {T : Type 0} (post : View T → Bool → Type 0) (kind : Kind) (w : Width)
    (s : ElementSpec) (b : List ℕ) (p hash : ℕ) (found : Option ℕ) : Type 0 where
  pub accepted : IfSome found (AcceptedOf post w s b p)
  pub finds : (accept : ℕ → Bool) → ComparesByOf post w s b p accept
      → found ≡ pos_found kind w s.size b p hash accept
  pub first : (hashes homes : List ℕ) (accept : ℕ → Bool) → WrittenAt w b p hashes homes
      → ComparesByOf post w s b p accept
      → IsUnderHash hash hashes (home_positions w s.size b p homes) accept
      → found ≡ find accept (home_positions w s.size b p homes)

-- `count`: number of strides that a lookup reads, if the comparison depends only on positions
abbrev pub ReadsExactly : {T : Type 0} → (View T → Bool → Type 0) → Kind → Width → ElementSpec
    → List ℕ
    → ℕ → ℕ → ℕ → Type 0
ReadsExactly post kind w s b p hash count =
    (accept : ℕ → Bool) → ComparesByOf post w s b p accept
    → count ≡ probe_length_at kind w s.size b p hash accept

-- `Writes` changed `b` to `c` at the found position, and returned the result; or nothing
-- was found, and `c` is `b`
abbrev pub WritesFound : {R : Type 0} → (R → List ℕ → ℕ → List ℕ → Type 0) → List ℕ → Option ℕ
    → Option R → List ℕ → Type 0
WritesFound {R} Writes b found result c =
    MatchOption found ((result ≡ None) × (c ≡ b))
    (λ q. (r : R) × (result ≡ Some r) × Writes r b q c)

-- a writer was called with the item that a lookup under `hash` finds in the table `t`. A write
-- of only the item that keeps it valid keeps the table. If nothing is found, the bytes `c`
-- afterwards are the bytes of the table
pub record LendsFound {T R : Type 0} (t : TableIn) (post : View T → Bool → Type 0)
    (Writes : R → List ℕ → ℕ → List ℕ → Type 0) (hash : ℕ) (result : Option R)
    (c : List ℕ) : Type 0 where
  pub found : Option ℕ
  pub looks : LooksUp post generic_kind t.word t.spec t.bytes t.pos hash found
  pub item : IfSome found (λ q. (i : ℕ) × IsItemAt t.word t.spec t.bytes t.pos i q)
  pub writes : WritesFound Writes t.bytes found result c
