-- Validity of a written table in the ranges around it.
use Rattle.std.specs.Prelude.{◌≡◌, ℕ, ◌+◌, ◌%◌, ◌≤◌, List, length}
use Rattle.std.specs.Int.{Width, byte_len}
use Rattle.rkyv_base.specs.{ElementSpec, Format, OccursAt}
use Rattle.rkyv_table.specs.Table.Layout.{table_spec}
use Rattle.rkyv_table.specs.Table.TableFormat.{TableResolver, table_format}

-- the value at `p` is valid in each range around `begin` and `end`, and the next part can begin
-- at `end` at the latest
abbrev pub IsValidAround : ElementSpec → List ℕ → ℕ → ℕ → ℕ → Type 0
IsValidAround s c p begin end =
    (lo hi : ℕ) → lo ≤ begin → end ≤ hi → (l : ℕ) × s.is_valid c p lo hi l × (lo ≤ l) × (l ≤ end)

-- in every archive with the written bytes of a table and its header, the table is
-- valid in each range around the written bytes
abbrev pub WrittenTablesPass : {X R : Type 0} → Width → ElementSpec → Format X R → ℕ × ℕ → Type 0
WrittenTablesPass {X} w s f load_factor =
    (pairs : List (ℕ × X)) (r : TableResolver) (c : List ℕ) (begin p : ℕ) (part out : List ℕ)
    → (table_format w s f load_factor).parts pairs begin part r
    → (table_format w s f load_factor).image pairs r p out
    → OccursAt c begin part → OccursAt c p out → begin + length part ≤ p → p % byte_len w ≡ 0
    → IsValidAround (table_spec w s) c p begin (begin + length part)
