-- The laws of an archived list of keys as an index set.
use Rattle.std.specs.Prelude.{◌≡◌, ℕ, Bool, true, List}
use Rattle.std.specs.Int.{Width}
use Rattle.rkyv_base.specs.{ElementSpec, Encoding, Format, IsArchiveWord, IsElement, IsFormat}
use Rattle.rkyv_base.specs.{IsIndexEncoding, IsScalar, RepresentsLocally, unit_format}
use Rattle.rkyv_base.specs.{unit_represents, unit_spec}
use Rattle.rkyv_base.specs.Lemmas.Empty.{unit_element, unit_is_format, unit_local}
use Rattle.rkyv_base.specs.Lemmas.Pairs.{written_as-format}
use Rattle.rkyv_keys.specs.{Comparison, FitsItsEqual, IsKey, IsQuery, hash_at, hash_of}
use Rattle.rkyv_scan.specs.{Hasher, HasherCall}
use Rattle.rkyv_index.specs.{CodesReadBack, IndexRepresents, IndexSetRepresents, index_format}
use Rattle.rkyv_index.specs.{index_set_format, index_set_spec}
use Rattle.rkyv_index.specs.Lemmas.IndexLocal.{index_represents_local}
use Rattle.rkyv_index.specs.Lemmas.IndexSound.{index_sound}
use Rattle.rkyv_table.specs.{with_units}

module _ {State : Type 0} (hasher : Hasher State)
    (w : Width) (kind : IsArchiveWord w) {k : ElementSpec} (kl : IsElement k)
    {A : Type 0} {key : List ℕ → ℕ → A → Type 0} {same : Comparison} {key_calls : List ℕ → ℕ
    → List HasherCall} (factor : ℕ × ℕ) where
  -- the list that an index set represents depends only on the bytes of its header and its parts
  pub index_set_local : IsKey k same key_calls → RepresentsLocally k key
      → RepresentsLocally (index_set_spec w k)
      (IndexSetRepresents w k key (hash_at hasher key_calls) factor)
  index_set_local law kn keys =
      index_represents_local hasher w kind kl unit_element factor law kn unit_local
      (with_units keys)

  -- written bytes of an index set and its header are a valid index set that represents the keys,
  -- in any archive that has them
  pub index_set_sound : {P : Type 0} (ps : ElementSpec) (e : Encoding P) → IsElement ps
      → IsScalar ps e → IsIndexEncoding w e → CodesReadBack e
      → {calls : A → List HasherCall} {fits : A → List ℕ → ℕ → Bool}
      {equal : A → A → Bool} {R : Type 0} {kf : Format A R}
      → IsQuery k same key_calls calls fits → FitsItsEqual k key equal fits
      → ((a : A) → equal a a ≡ true) → IsFormat k key kf
      → IsFormat (index_set_spec w k) (IndexSetRepresents w k key (hash_at hasher key_calls) factor)
      (index_set_format w ps e k kf (hash_of hasher calls) factor)
  index_set_sound ps e pe pk index back {calls} {fits} {equal} {R} {kf} query native
      itself kw =
      written_as-format with_units (index_set_spec w k)
      (IndexRepresents w k unit_spec key unit_represents (hash_at hasher key_calls) factor)
      (index_format w ps e k unit_spec kf unit_format (hash_of hasher calls) factor)
      (index_sound hasher w kind ps e pe pk index back kl unit_element factor query native
      itself kw unit_is_format)
