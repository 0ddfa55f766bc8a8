-- A property of each map that was written from entries with distinct keys.
-- Each archive with the written bytes has it.
use Rattle.std.proofs.Common.{ℕ, ◌+◌, arith, Bool, List, length}
use Rattle.std.specs.Int.{Width}
use Rattle.std.specs.List.{IsDistinct}
use Rattle.std.specs.Map.{keys_of}
use Rattle.rkyv_base.specs.{ElementSpec, Format, IsArchiveWord, IsElement, IsFormat, Viewable}
use Rattle.rkyv_base.specs.{entry_spec}
use Rattle.rkyv_base.specs.Lemmas.Entry.{entry_element}
use Rattle.rkyv_base.specs.Lemmas.ElementSpec.{valid_at}
use Rattle.rkyv_table.specs.Lemmas.TableLaws.{table_element}
use Rattle.rkyv_collections.specs.{MapRepresents, map_spec, of_entries}

pub of_entries-format : (w : Width) → IsArchiveWord w → {k v : ElementSpec} → IsElement k
    → IsElement v
    → {A B R : Type 0} {key : List ℕ → ℕ → A → Type 0} {value : List ℕ → ℕ → B → Type 0}
    {hash : List ℕ → ℕ → ℕ} (factor : ℕ × ℕ) (equal : A → A → Bool)
    (P : List ℕ → ℕ → List (A × B) → Type 0)
    → ((b : List ℕ) (p : ℕ) → Viewable (map_spec w k v) b p → (es : List (A × B))
    → MapRepresents w k v key value hash factor b p es → IsDistinct equal (keys_of es) → P b p es)
    → (f : Format (List (A × B)) R)
    → IsFormat (map_spec w k v) (MapRepresents w k v key value hash factor) f
    → IsFormat (map_spec w k v) P (of_entries equal f)
of_entries-format w kind {k} {v} kl vl factor equal P tells f base = record {
  size_exact = λ es. base.size_exact es;
  exclusive = λ es. base.exclusive es;
  sound = λ es r c p0 p part out h i s t o al.
      let d = base.sound es r c p0 p part out h.1 i s t o al in
      let whole = base.size_exact es r p out i in
      let inside = t.inside in
      let view : Viewable (map_spec w k v) c p = record {
        inside = omega (arith, inside, whole);
        aligned = al;
        valid = valid_at (map_spec w k v)
            (table_element w kind (entry_spec k v) (entry_element k v kl vl)) c p p0
            (p0 + length part) d.0 (omega arith) o d.1;
      } in
      (d.0, d.1, tells c p view es d.2 h.0);
}
