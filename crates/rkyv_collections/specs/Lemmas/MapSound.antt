-- The laws of an archived list of pairs as a map.
use Rattle.std.proofs.lemmas.Grind.{common_steps}
use Rattle.std.specs.Prelude.{◌≡◌, ℕ, Bool, true, List}
use Rattle.std.proofs.Common.{ap, arith, rules}
use Rattle.std.specs.Int.{Width}
use Rattle.rkyv_base.specs.{ElementSpec, Format, IsArchiveWord, IsElement, IsFormat}
use Rattle.rkyv_base.specs.{RepresentsLocally}
use Rattle.rkyv_scan.specs.{Hasher, HasherCall, hash_of_calls}
use Rattle.rkyv_keys.specs.Lemmas.QueryLaws.{hashes_as_written}
use Rattle.rkyv_keys.specs.{Comparison, FitsItsEqual, IsKey, IsQuery, hash_at, hash_of}
use Rattle.rkyv_collections.specs.{MapRepresents, map_format, map_spec}
use Rattle.rkyv_collections.specs.Lemmas.MapLaws.{map_is_format, represents_again}
use Rattle.rkyv_table.specs.{listed}
use Rattle.rkyv_table.specs.Lemmas.Listed.{listed-format}

module _ {State : Type 0} (hasher : Hasher State) (w : Width) {k v : ElementSpec} (kl : IsElement k)
    (vl : IsElement v)
    {A B : Type 0} {key : List ℕ → ℕ → A → Type 0} {value : List ℕ → ℕ → B
    → Type 0} {same : Comparison} {key_calls : List ℕ → ℕ
    → List HasherCall} (factor : ℕ × ℕ) where
  -- the represented pairs depend only on the bytes on which the validity of the map depends
  pub map_local : IsKey k same key_calls → RepresentsLocally k key → RepresentsLocally v value
      → RepresentsLocally (map_spec w k v) (MapRepresents w k v key value
      (hash_at hasher key_calls) factor)
  map_local law kn vn pairs b c p lo hi l o h fixed part st =
      represents_again k v kl vl w key value (hash_at hasher key_calls) factor
      (λ b' c' q lo' hi' l' o' h' fixed' part'.
      ap (hash_of_calls hasher) (law.local b' c' q lo' hi' l' o' h' fixed' part')) kn vn pairs b
      c p lo hi l o h fixed part st

  -- in any archive with the written bytes of a map and its header, the map is valid and represents
  -- the pairs
  pub map_sound : IsArchiveWord w
      → {calls : A → List HasherCall} {fits : A → List ℕ → ℕ → Bool} {equal : A → A → Bool}
      {R Q : Type 0} {kf : Format A R} {vf : Format B Q}
      → IsQuery k same key_calls calls fits → FitsItsEqual k key equal fits
      → ((a : A) → equal a a ≡ true) → IsFormat k key kf → IsFormat v value vf
      → IsFormat (map_spec w k v) (MapRepresents w k v key value (hash_at hasher key_calls) factor)
      (map_format w k v kf vf (hash_of hasher calls) factor)
  map_sound kind {calls} {fits} {equal} {R} {Q} {kf} {vf} query native itself kw vw =
      map_is_format k v kl vl w key value (hash_at hasher key_calls) factor (hash_of hasher calls)
      (λ a b q valid there. grind (
        arith,
        common_steps,
        hashes_as_written k same key_calls calls fits key equal itself query native a b q valid
            there,
      ))
      kind kf vf kw vw

  -- the same for a list, written by a call that takes exactly its pairs
  pub listed_map_sound : (max : ℕ) → IsArchiveWord w
      → {calls : A → List HasherCall} {fits : A → List ℕ → ℕ → Bool} {equal : A → A → Bool}
      {R Q : Type 0} {kf : Format A R} {vf : Format B Q}
      → IsQuery k same key_calls calls fits → FitsItsEqual k key equal fits
      → ((a : A) → equal a a ≡ true) → IsFormat k key kf → IsFormat v value vf
      → IsFormat (map_spec w k v) (MapRepresents w k v key value (hash_at hasher key_calls) factor)
      (listed max factor (map_format w k v kf vf (hash_of hasher calls) factor))
  listed_map_sound max kind {calls} {fits} {equal} {R} {Q} {kf} {vf} query native itself kw vw =
      search (rules, listed-format, map_sound)
