-- The home buckets of the pairs of a written map.
use Rattle.std.proofs.lemmas.Grind.{common_steps}
use Rattle.std.proofs.Common.{◌≡◌, ℕ, ◌∙◌, sym, inl, inr, List, map, length, arith}
use Rattle.std.specs.Int.{Width}
use Rattle.rkyv_base.specs.{ElementSpec, entry_spec}
use Rattle.rkyv_table.specs.{VisitsHomes, cap_at, home_positions, table_controls}
use Rattle.rkyv_table.proofs.WalkedHomes.{none_visits, walked_homes}
use Rattle.rkyv_table.proofs.WrittenTables.{home_count}
use Rattle.rkyv_collections.specs.{MapRepresents}

module _ {A B : Type 0} {w : Width} {k v : ElementSpec} {key : List ℕ → ℕ → A → Type 0}
    {value : List ℕ → ℕ → B → Type 0} {hash : List ℕ → ℕ → ℕ} {factor : ℕ × ℕ} {b : List ℕ} {p : ℕ}
    {pairs : List (A × B)} (st : MapRepresents w k v key value hash factor b p pairs) where
  abbrev hashes : List ℕ
  hashes = map (hash b) (home_positions w (entry_spec k v).size b p st.homes)

  -- there are as many home buckets as pairs
  pub homes_count : length st.homes ≡ length pairs
  homes_count = home_count w b p hashes st.homes st.written ∙ sym st.written.count ∙ st.len

  -- a walk visits each home bucket once, and no other
  pub homes_visited : VisitsHomes (cap_at w b p) st.homes (table_controls w b p)
  homes_visited =
      let controls = table_controls w b p in
      elim st.written.placed [
        | inl none ↦ grind (arith, common_steps, none_visits controls, homes_count)
        | inr some ↦
            walked_homes (cap_at w b p) hashes st.homes controls some.0 st.written.fit some.1
      ]
