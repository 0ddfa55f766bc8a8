-- Writes of all items of a table in place, one after the other.
use Rattle.std.specs.Prelude.{◌≡◌, ℕ, ◌+◌, ◌*◌, List, [], ◌∷◌}
use Rattle.std.specs.Borrow.{MutBor}
use Rattle.std.specs.Int.{Width, byte_len}
use Rattle.rkyv_base.specs.{AgreeOn, ElementSpec, Encoding, LiesIn, ModifiesOnly, SealStays}
use Rattle.rkyv_base.specs.{StaysValid, Viewable, bytes_in, seal_pos, value_at}
use Rattle.rkyv_base.specs.declared.seal.Seal.{Seal}
use Rattle.rkyv_table.specs.Table.Positions.{IsWalked, item_at, table_controls}
use Rattle.rkyv_table.specs.Table.Layout.{table_spec}
use Rattle.rkyv_table.specs.Table.SealedItems.{SealedBy}
use Rattle.rkyv_table.specs.Table.SealedTable.{SameLookups, SameValue}

-- `write` can be called with a seal of each valid value of any bytes
abbrev pub MaySealAny : {F T : Type 0} → (F → MutBor (Seal T) → Type 0) → ElementSpec → F → Type 0
MaySealAny {F} {T} pre s write = (x : MutBor (Seal T)) → LiesIn s x.now
    → Viewable s (bytes_in x.now) (seal_pos x.now) → pre write x

-- the seal `y` is the seal `x` after a write of only its value that keeps the value valid
pub record KeepsSeal {T : Type 0} (s : ElementSpec) (x y : Seal T) : Type 0 where
  pub stays : SealStays x y
  pub sealed : ModifiesOnly (bytes_in x) (seal_pos x) s.size (bytes_in y)
  pub is_valid : StaysValid s (bytes_in x) (bytes_in y) (seal_pos x)

-- a call of `write` with a seal of a valid value writes only the value, and keeps it valid
abbrev pub KeepsSeals : {F T : Type 0} → (F → MutBor (Seal T) → Unit {0} → MutBor (Seal T) → Type 0)
    → ElementSpec → F → Type 0
KeepsSeals {F} {T} post s write = (x y : MutBor (Seal T)) → LiesIn s x.now
    → Viewable s (bytes_in x.now) (seal_pos x.now) → post write x tt y → KeepsSeal s x.now y.now

-- `write` can be called with a seal of each valid value of any bytes. Each of these calls
-- writes only the value, and keeps it valid
pub record WritesValues {F T : Type 0} (pre : F → MutBor (Seal T) → Type 0)
    (post : F → MutBor (Seal T) → Unit {0} → MutBor (Seal T) → Type 0) (s : ElementSpec)
    (write : F) : Type 0 where
  pub callable : MaySealAny pre s write
  pub keeps : KeepsSeals post s write

-- writes at the positions, one after the other, lead from the bytes `b` to the bytes `c`
abbrev pub WritesInTurn : (List ℕ → ℕ → List ℕ → Type 0) → List ℕ → List ℕ → List ℕ → Type 0
WritesInTurn Writes [] b c = c ≡ b
WritesInTurn Writes (q ∷ qs) b c = (d : List ℕ) × Writes b q d × WritesInTurn Writes qs d c

-- The value at `q` is written once between the bytes `b` and `c`. The write begins
-- with the bytes `before`, which have the value of `b`, and ends with the bytes `after`,
-- which have the value of `c`
pub record WritesOnce (s : ElementSpec) (Writes : List ℕ → ℕ → List ℕ → Type 0) (b : List ℕ)
    (q : ℕ) (c : List ℕ) : Type 0 where
  pub before : List ℕ
  pub after : List ℕ
  pub first : SameValue s b before q
  pub viewable : Viewable s before q
  pub writes : Writes before q after
  pub last : SameValue s after c q

-- each item of the table at `p` is written once between the bytes `b` and `c`
abbrev pub WritesEachOnce : Width → ElementSpec → (List ℕ → ℕ → List ℕ → Type 0) → List ℕ → ℕ
    → List ℕ → Type 0
WritesEachOnce w s Writes b p c = (i : ℕ) → IsWalked w b p i
    → WritesOnce s Writes b (item_at w s.size b p i) c

-- The table at `p` in `b` is valid in `c`. It has the same header, the same control bytes
-- and the same positions of items
pub record KeepsItems (w : Width) (s : ElementSpec) (b c : List ℕ) (p : ℕ) : Type 0 where
  pub viewable : Viewable (table_spec w s) c p
  pub is_valid : StaysValid (table_spec w s) b c p
  pub header : AgreeOn b c p (p + 3 * byte_len w)
  pub controls : table_controls w c p ≡ table_controls w b p
  pub lookups : SameLookups w s b c p

-- each call of `write` with a seal of a scalar writes the value that `f` computes of the old one
abbrev pub Computes : {F N : Type 0} → (F → MutBor (Seal N) → Unit {0} → MutBor (Seal N) → Type 0)
    → Encoding N → F → (N → N) → Type 0
Computes {F} {N} post e write f = (x y : MutBor (Seal N)) → post write x tt y
    → SealStays x.now y.now × (value_at e (bytes_in y.now) (seal_pos x.now)
    ≡ f (value_at e (bytes_in x.now) (seal_pos x.now)))

-- a scalar that is written once has the value that `f` computes of the old one
abbrev pub OnceComputes : {F N : Type 0} → ElementSpec → Encoding N
    → (F → MutBor (Seal N) → Unit {0} → MutBor (Seal N) → Type 0) → Type 0
OnceComputes {F} {N} s e post =
    (write : F) (f : N → N) (b c : List ℕ) (q : ℕ) → Computes post e write f
    → WritesOnce s (SealedBy post write tt) b q c → value_at e c q ≡ f (value_at e b q)
