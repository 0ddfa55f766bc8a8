-- The archive of a list is written, or its write fails with an error that isn't an allocation failure.
use Rattle.std.proofs.Common.{◌≡◌, ℕ, refl, sym, arith, inl, inr, false, List, [], length, append-nil}
use Rattle.std.proofs.lemmas.Grind.{common_steps}
use Rattle.std.specs.Prelude.{◌⊎◌}
use Rattle.std.proofs.lemmas.Bool.{cases_lt}
use Rattle.rkyv_base.specs.declared.errors.WriteError.{WriteError}
use Rattle.rkyv_base.specs.declared.errors.WriteError.TheVariants.{CapacityTooLarge, DistanceTooLarge, InvalidLoadFactor}
use Rattle.rkyv_base.specs.declared.writer.NoMemory.{NoMemory}
use Rattle.rkyv_base.specs.{Appended, Appends, ArchiveOf, ElementSpec, Format, IsElement, IsFormat, Output, RootNext, ToBytesFails, Within, WriteRootFails, end_of, fresh, load_factor, padding, zeros}
use Rattle.rkyv_base.specs.{capacity as too_large}
use Rattle.rkyv_base.proofs.RootWriting.{archive_made, root_align_fails, root_append_fails, root_overflow_fails, root_wrote}
use Rattle.rkyv_base.specs.Lemmas.Writing.{fails_under}
use Rattle.rkyv_table.specs.{HasCapacity, IsLoadFactor, capacity, listed}
use Rattle.rkyv_dict.specs.{is_allocation_failure}
use Rattle.rkyv_dict.proofs.WriteOutcomes.{CanResolve, CanSerialize, Fails, after_part, append_outcome, capacity_reported, distance_reported, factor_reported}

load_factor_or_not : (factor : ℕ × ℕ) → IsLoadFactor factor ⊎ (IsLoadFactor factor → ⊥)
load_factor_or_not factor = grind (arith, common_steps)

-- the list is serialized if it has a capacity for which it is
pub listed_serialized : {X R : Type 0} (limit most : ℕ) (factor : ℕ × ℕ) (f : Format (List X) R) (xs : List X) → (HasCapacity (length xs) factor most → CanSerialize limit f xs) → CanSerialize limit (listed most factor f) xs
listed_serialized limit most factor f xs inner o =
    let n = length xs in
    elim (load_factor_or_not factor) [
      | inr invalid ↦ inr (
        o,
        InvalidLoadFactor factor.0 factor.1,
        factor_reported factor.0 factor.1,
        record {
          front = [];
          kept = record { start = refl; bytes = sym (append-nil o.bytes) };
          cause = (inl refl, refl, inl (load_factor factor.0 factor.1, inl (refl, invalid), (refl, refl)));
        },
      )
      | inl valid ↦ elim (cases_lt most (capacity n factor)) [
        | inl large ↦ inr (
          o,
          CapacityTooLarge n,
          capacity_reported n,
          record {
            front = [];
            kept = record { start = refl; bytes = sym (append-nil o.bytes) };
            cause = (inl refl, refl, inl (too_large n, inr (inl (refl, valid, large)), (refl, refl)));
          },
        )
        | inr small ↦
            after_part (inner (valid, small) o) (λ o' e h. fails_under limit ((listed most factor f).next xs (end_of o)) (f.next xs (end_of o)) o o' e (λ front step n. inr ((valid, small), n)) h)
            (λ done. inl (done.0, done.1, (done.2.0, done.2.1, ((valid, small), done.2.2), done.2.3)))
      ]
    ]

-- ---- roots

module _ {V R : Type 0} (limit : ℕ) (s : ElementSpec) (laws : IsElement s) (represents : List ℕ → ℕ → V → Type 0) (f : Format V R) (law : IsFormat s represents f) (v : V)
    (serialize : CanSerialize limit f v) (resolve : CanResolve f v) where
  abbrev RootOutcome : Type 0
  RootOutcome = ((b : List ℕ) × ArchiveOf limit s represents f v b) ⊎ Fails (λ o e. WriteRootFails limit s f v fresh o e)

  module _ (o1 : Output) (r : R) (part : List ℕ) (a : Appends fresh o1 part) (made : f.parts v (end_of fresh) part r) (inside : Within limit o1 part) where
    after_zeros : (o2 : Output) → Appended limit (zeros (padding s.align (end_of o1))) o1 o2 → RootOutcome
    after_zeros o2 b = elim (resolve r (end_of o2)) [
      | inr overflow ↦ inr (o2, DistanceTooLarge, distance_reported, root_overflow_fails NoMemory limit s f v fresh o1 o2 o2 part r a made inside b overflow)
      | inl one ↦
          after_part (append_outcome limit one.0 o2) (λ o' e h. root_append_fails NoMemory limit s f v fresh o1 o2 o' part r a made inside one.0 e b one.1 h)
          (λ c. let wrote = root_wrote NoMemory limit s f v fresh o1 o2 c.0 part r a made inside one.0 b.0 one.1 c.1.0 c.1.1 in
          inl (c.0.bytes, archive_made limit s laws represents f law v c.0 c.0.bytes (end_of o2) wrote refl))
    ]

    after_parts : RootOutcome
    after_parts =
        after_part (append_outcome limit (zeros (padding s.align (end_of o1))) o1) (λ o' e h. root_align_fails NoMemory limit s f v fresh o1 o' o' part r a made inside e h) (λ b. after_zeros b.0 b.1)

  written_or_not : RootOutcome
  written_or_not =
      after_part (serialize fresh) (λ o' e h. fails_under limit (RootNext s f v (end_of fresh)) (f.next v (end_of fresh)) fresh o' e (λ front step n. inr (inl n)) h)
      (λ w. after_parts w.0 w.1 w.2.0 w.2.1 w.2.2 w.2.3)

  pub root_outcome : ((b : List ℕ) × ArchiveOf limit s represents f v b) ⊎ ((e : WriteError NoMemory) × ToBytesFails limit s f v e × (is_allocation_failure e ≡ false))
  root_outcome = elim written_or_not [
    | inl written ↦ inl written
    | inr fault ↦ inr (fault.1, (fault.0, fault.3), fault.2)
  ]
