-- A written table is valid in each range around it.
use Rattle.std.proofs.lemmas.Grind.{common_steps}
use Rattle.std.proofs.Common.{ℕ, ◌+◌, ◌≤◌, arith, length, List}
use Rattle.std.specs.Int.{Width}
use Rattle.rkyv_base.specs.{ElementSpec, Format, IsArchiveWord, IsElement, IsFormat}
use Rattle.rkyv_table.specs.Lemmas.TableLaws.{table_element}
use Rattle.rkyv_table.specs.Lemmas.TableSound.{table_is_format}
use Rattle.rkyv_table.specs.{IsValidAround, WrittenTablesPass}

-- a value that is valid in a range is valid in each range around it
pub is_valid_around : (s : ElementSpec) → IsElement s → (c : List ℕ) (p begin end l : ℕ) → begin ≤ end → s.is_valid c p begin end l → IsValidAround s c p begin end
is_valid_around s law c p begin end l o h lo hi below above =
    let d = law.lower_lo c p begin lo end l below o h in
    grind (arith, common_steps)

pub tables_pass : {X R : Type 0} (w : Width) → IsArchiveWord w → (s : ElementSpec) → IsElement s → (represents : List ℕ → ℕ → X → Type 0) (f : Format X R) → IsFormat s represents f
    → (factor : ℕ × ℕ) → WrittenTablesPass w s f factor
tables_pass w kind s law represents f fl factor pairs r c begin p part out made image sits head behind aligned =
    let d = (table_is_format w kind s law represents f fl factor).sound pairs r c begin p part out made image sits head behind aligned in
    is_valid_around _ (table_element w kind s law) c p begin (begin + length part) d.0 (omega arith) d.1
