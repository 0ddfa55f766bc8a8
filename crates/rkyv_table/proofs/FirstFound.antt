-- A lookup in a written table.
use Rattle.std.proofs.lemmas.Grind.{common_steps}
use Rattle.std.proofs.Common.{◌≡◌, ℕ, ◌∙◌, ◌<◌, ◌^◌, inl, inr, refl, ap, arith, Bool, List}
use Rattle.std.specs.Int.{Width}
use Rattle.std.specs.List.{find}
use Rattle.std.specs.Option.{option_map}
use Rattle.std.proofs.lemmas.List.{get_or-map}
use Rattle.rkyv_scan.specs.{IsKind, Kind}
use Rattle.rkyv_table.specs.{IsUnderHash, WrittenAt, cap_at, found, home_positions, item_at, pos_found, table_controls}
use Rattle.rkyv_table.proofs.Written.{found_first}

module _ (kind : Kind) (law : IsKind kind) (w : Width) (size : ℕ) (b : List ℕ) (p hash : ℕ) where
  -- if only items under the hash are accepted, the result is the first accepted
  -- one in insertion order
  pub first_found : hash < 2 ^ 64 → (hashes homes : List ℕ) (accept : ℕ → Bool) → WrittenAt w b p hashes homes
      → IsUnderHash hash hashes (home_positions w size b p homes) accept → pos_found kind w size b p hash accept ≡ find accept (home_positions w size b p homes)
  first_found fits hashes homes accept written under = elim written.placed [
    | inl none ↦ grind (arith, common_steps)
    | inr placed ↦
        let at : ℕ → ℕ = item_at w size b p in
        let n = placed.1.placed.count in
        ap (λ len. option_map at (found kind (table_controls w b p) (cap_at w b p) len hash (λ i. accept (at i)))) written.count
        ∙ found_first (cap_at w b p) hash hashes homes (table_controls w b p) kind (home_positions w size b p homes) at accept placed.0 fits law placed.1 (λ j l. written.fit j 0 l) refl
        (λ j l yes. under j l (ap accept (get_or-map at homes j 0 0 (omega arith)) ∙ yes))
  ]
