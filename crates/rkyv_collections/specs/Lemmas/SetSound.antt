-- The laws of an archived list of keys as a set.
use Rattle.std.specs.Prelude.{◌≡◌, ℕ, Bool, true, List}
use Rattle.std.specs.Int.{Width}
use Rattle.rkyv_base.specs.{ElementSpec, Format, IsArchiveWord, IsElement, IsFormat}
use Rattle.rkyv_base.specs.{RepresentsLocally, unit_format, unit_represents, unit_spec}
use Rattle.rkyv_base.specs.Lemmas.Empty.{unit_element, unit_is_format, unit_local}
use Rattle.rkyv_base.specs.Lemmas.Pairs.{written_as-format}
use Rattle.rkyv_scan.specs.{Hasher, HasherCall}
use Rattle.rkyv_keys.specs.{Comparison, FitsItsEqual, IsKey, IsQuery, hash_at, hash_of}
use Rattle.rkyv_collections.specs.{MapRepresents, SetRepresents, map_format, set_format, set_spec}
use Rattle.rkyv_collections.specs.Lemmas.MapSound.{map_local, map_sound}
use Rattle.rkyv_table.specs.{with_units}

module _ {State : Type 0} (hasher : Hasher State) (w : Width) {k : ElementSpec} (kl : IsElement k)
    {A : Type 0} {key : List ℕ → ℕ → A → Type 0} {same : Comparison} {key_calls : List ℕ → ℕ
    → List HasherCall} (factor : ℕ × ℕ) where
  -- the represented keys depend only on the bytes on which the validity of the set depends
  pub set_local : IsKey k same key_calls → RepresentsLocally k key
      → RepresentsLocally (set_spec w k) (SetRepresents w k key (hash_at hasher key_calls) factor)
  set_local law kn keys =
      map_local hasher w kl unit_element factor law kn unit_local (with_units keys)

  -- in any archive with the written bytes of a set and its header, the set is valid and represents
  -- the keys
  pub set_sound : IsArchiveWord w
      → {calls : A → List HasherCall} {fits : A → List ℕ → ℕ → Bool} {equal : A → A → Bool}
      {R : Type 0} {kf : Format A R}
      → IsQuery k same key_calls calls fits → FitsItsEqual k key equal fits
      → ((a : A) → equal a a ≡ true) → IsFormat k key kf
      → IsFormat (set_spec w k) (SetRepresents w k key (hash_at hasher key_calls) factor)
      (set_format w k kf (hash_of hasher calls) factor)
  set_sound kind {calls} {fits} {equal} {R} {kf} query native itself kw =
      written_as-format with_units (set_spec w k)
      (MapRepresents w k unit_spec key unit_represents (hash_at hasher key_calls) factor)
      (map_format w k unit_spec kf unit_format (hash_of hasher calls) factor)
      (map_sound hasher w kl unit_element factor kind query native itself kw unit_is_format)
