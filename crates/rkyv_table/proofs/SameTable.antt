-- Two archives with the same bytes of a table have the same table.
use Rattle.std.proofs.lemmas.Grind.{common_steps}
use Rattle.std.proofs.Common.{◌≡◌, ℕ, ◌+◌, ◌*◌, ◌<◌, ◌≤◌, ◌∙◌, ap, inl, inr, arith, List}
use Rattle.std.specs.Int.{Width, byte_len}
use Rattle.std.proofs.lemmas.Bool.{cases_eq}
use Rattle.rkyv_base.specs.{AgreeOn, ElementSpec, IsElement}
use Rattle.rkyv_table.specs.{IsValidTable, WrittenAt, cap_at, table_controls, walk}
use Rattle.rkyv_table.specs.Lemmas.SameControls.{same_controls}
use Rattle.rkyv_table.specs.Lemmas.SameHeader.{cap_same, len_same}
use Rattle.rkyv_table.proofs.Walks.{walk_none}

-- a table that was written under some hashes is so in bytes with the same header and control bytes
pub written_there : (w : Width) (b c : List ℕ) (p : ℕ) → AgreeOn b c p (p + 3 * byte_len w) → (0 < cap_at w b p → table_controls w b p ≡ table_controls w c p)
    → (hashes homes : List ℕ) → WrittenAt w b p hashes homes → WrittenAt w c p hashes homes
written_there w b c p fixed controls hashes homes written = grind (arith, len_same, cap_same)

-- a walk of a valid table has the same buckets in an archive with the same bytes
pub same_walk : (w : Width) (s : ElementSpec) → IsElement s → (b c : List ℕ) (p lo hi l : ℕ) → lo ≤ hi → IsValidTable w s b p lo hi l
    → AgreeOn b c p (p + 3 * byte_len w) → AgreeOn b c lo l
    → walk (table_controls w b p) (cap_at w b p) ≡ walk (table_controls w c p) (cap_at w c p)
same_walk w s law b c p lo hi l o valid fixed part = elim (cases_eq (cap_at w b p) 0) [
  | inl none ↦ grind (arith, common_steps, walk_none, cap_same)
  | inr some ↦
      ap (λ (xs : List ℕ). walk xs (cap_at w b p)) (same_controls w s law b c p lo hi l o valid fixed part (omega arith))
      ∙ ap (walk (table_controls w c p)) (cap_same w b c p fixed)
]
