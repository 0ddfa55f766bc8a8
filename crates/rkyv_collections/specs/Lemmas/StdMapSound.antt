-- The laws of the format of std maps and sets.
use Rattle.std.proofs.Common.{ℕ, Bool, List}
use Rattle.std.specs.Cmp.{IsEquivalence}
use Rattle.std.specs.Int.{Width}
use Rattle.rkyv_scan.specs.{Hasher, HasherCall}
use Rattle.rkyv_base.specs.{ElementSpec, Format, IsArchiveWord, IsElement, IsFormat, RepresentsAs}
use Rattle.rkyv_base.specs.{written_as}
use Rattle.rkyv_base.specs.Lemmas.Pairs.{written_as-format}
use Rattle.rkyv_keys.specs.{Comparison, FitsItsEqual, IsQuery, hash_at, hash_of}
use Rattle.rkyv_table.specs.{listed}
use Rattle.rkyv_collections.specs.{EntriesEqual, EntriesRepresent, map_format, map_spec, of_entries}
use Rattle.rkyv_collections.specs.Lemmas.MapSound.{listed_map_sound}
use Rattle.rkyv_collections.specs.Lemmas.StdEqualLaws.{entries_equal}
use Rattle.rkyv_collections.specs.Lemmas.StdMapLaws.{entries_sound}

-- written bytes of a std map represent its entries. `entries`: entries of a value
pub std_map_sound : {X A B State R Q : Type 0} (entries : X → List (A × B)) (hasher : Hasher State)
    (w : Width) {k v : ElementSpec} (kl : IsElement k) (vl : IsElement v)
    {key : List ℕ → ℕ → A → Type 0} {value : List ℕ → ℕ → B → Type 0} {same : Comparison}
    {key_calls : List ℕ → ℕ → List HasherCall} (max : ℕ) → IsArchiveWord w
    → {calls : A → List HasherCall} {fits : A → List ℕ → ℕ → Bool} {equal : A → A → Bool}
    {kf : Format A R} {vf : Format B Q}
    → IsQuery k same key_calls calls fits → FitsItsEqual k key equal fits
    → IsEquivalence equal → IsFormat k key kf → IsFormat v value vf
    → IsFormat (map_spec w k v) (RepresentsAs entries (EntriesRepresent k v key value w equal))
    (written_as entries (of_entries equal (listed max (7, 8)
    (map_format w k v kf vf (hash_of hasher calls) (7, 8)))))
std_map_sound entries hasher w {k} {v} kl vl {key} {value} {same} {key_calls} max kind {calls}
    {fits} {equal} {kf} {vf} query native laws kw vw =
    let whole = listed max (7, 8) (map_format w k v kf vf (hash_of hasher calls) (7, 8)) in
    written_as-format entries (map_spec w k v) (EntriesRepresent k v key value w equal)
    (of_entries equal whole)
    (entries_sound k v kl vl w equal laws (hash_at hasher key_calls) (7, 8) kind whole
    (listed_map_sound hasher w kl vl (7, 8) max kind query native laws.refl kw vw))

-- the map there equals its entries too. `equals`: whether a value equals a std value
pub std_map_equal : {X A B State R Q : Type 0} (entries : X → List (A × B)) (hasher : Hasher State)
    (w : Width) {k v : ElementSpec} (kl : IsElement k) (vl : IsElement v)
    {key : List ℕ → ℕ → A → Type 0} {equals : List ℕ → ℕ → B → Type 0} {same : Comparison}
    {key_calls : List ℕ → ℕ → List HasherCall} (max : ℕ) → IsArchiveWord w
    → {calls : A → List HasherCall} {fits : A → List ℕ → ℕ → Bool} {equal : A → A → Bool}
    {kf : Format A R} {vf : Format B Q}
    → IsQuery k same key_calls calls fits → FitsItsEqual k key equal fits
    → IsEquivalence equal → IsFormat k key kf → IsFormat v equals vf
    → IsFormat (map_spec w k v)
    (RepresentsAs entries (EntriesEqual w k v (hash_of hasher calls) fits equals))
    (written_as entries (of_entries equal (listed max (7, 8)
    (map_format w k v kf vf (hash_of hasher calls) (7, 8)))))
std_map_equal entries hasher w {k} {v} kl vl {key} {equals} {same} {key_calls} max kind {calls}
    {fits} {equal} {kf} {vf} query native laws kw vw =
    let whole = listed max (7, 8) (map_format w k v kf vf (hash_of hasher calls) (7, 8)) in
    written_as-format entries (map_spec w k v)
    (EntriesEqual w k v (hash_of hasher calls) fits equals) (of_entries equal whole)
    (entries_equal hasher w kind kl vl (7, 8) query native laws whole
    (listed_map_sound hasher w kl vl (7, 8) max kind query native laws.refl kw vw))
