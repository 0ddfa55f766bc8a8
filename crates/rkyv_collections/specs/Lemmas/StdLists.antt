-- Lemmas: archives that were written from a std map or set represent the list of its entries.
use Rattle.std.proofs.Common.{ℕ, Bool, List, true, ◌≡◌}
use Rattle.std.specs.Int.{Width}
use Rattle.rkyv_scan.specs.{Hasher, HasherCall}
use Rattle.rkyv_base.specs.{ElementSpec, Format, IsArchiveWord, IsElement, IsFormat, written_as}
use Rattle.rkyv_base.specs.Lemmas.Pairs.{written_as-format}
use Rattle.rkyv_keys.specs.{Comparison, FitsItsEqual, IsQuery, hash_at, hash_of}
use Rattle.rkyv_table.specs.{listed}
use Rattle.rkyv_collections.specs.Lemmas.DistinctEntries.{of_entries-format}
use Rattle.rkyv_collections.specs.Lemmas.MapSound.{listed_map_sound}
use Rattle.rkyv_collections.specs.{MapRepresents, map_format, map_spec, of_entries}

pub entries_listed : {State : Type 0} (hasher : Hasher State) (w : Width) (kind : IsArchiveWord w)
    (max : ℕ) {k v : ElementSpec} (kl : IsElement k) (vl : IsElement v) {A B X R S : Type 0}
    {key : List ℕ → ℕ → A → Type 0} {value : List ℕ → ℕ → B → Type 0} {same : Comparison}
    {key_calls : List ℕ → ℕ → List HasherCall} {own_calls : A → List HasherCall}
    {own_fits : A → List ℕ → ℕ → Bool}
    (own : IsQuery k same key_calls own_calls own_fits) {equal : A → A → Bool}
    (native : FitsItsEqual k key equal own_fits) (itself : (a : A) → equal a a ≡ true)
    {key_format : Format A R} {value_format : Format B S}
    (key_law : IsFormat k key key_format) (value_law : IsFormat v value value_format)
    (entries : X → List (A × B))
    → IsFormat (map_spec w k v) (λ b p x. MapRepresents w k v key value (hash_at hasher key_calls)
    (7, 8) b p (entries x))
    (written_as entries (of_entries equal (listed max (7, 8) (map_format w k v key_format
    value_format (hash_of hasher own_calls) (7, 8)))))
entries_listed hasher w kind max {k} {v} kl vl {key = key} {value = value} {key_calls = key_calls}
    {own_calls = own_calls} own {equal} native itself {key_format} {value_format} key_law value_law
    entries =
    let f = listed max (7, 8) (map_format w k v key_format value_format (hash_of hasher own_calls)
    (7, 8)) in
    let keeps = MapRepresents w k v key value (hash_at hasher key_calls) (7, 8) in
    written_as-format entries (map_spec w k v) keeps (of_entries equal f)
    (of_entries-format w kind kl vl (7, 8) equal keeps (λ b p view es represents distinct.
    represents) f (listed_map_sound hasher w kl vl (7, 8) max kind own native itself key_law
    value_law))
