-- Values in a row: the parts of all values, and then the own bytes of all values.
use Rattle.std.specs.Prelude.{◌≡◌, ℕ, ◌+◌, ◌⊎◌, List, [], ◌∷◌, ◌++◌, length, take, slice_get, Some}
use Rattle.std.specs.Prelude.{MatchResult, Result}
use Rattle.rkyv_base.specs.declared.errors.WriteError.{WriteError}
use Rattle.rkyv_base.specs.{Appended, Appends, Format, Output, Step, Within, WriteFails, distance}
use Rattle.rkyv_base.specs.{end_of, failure, piece}

module _ {X R : Type 0} (f : Format X R) where
  -- `part`: parts of the values in order, from position `p` on. `rs`: their resolvers
  abbrev pub RowParts : List X → ℕ → List ℕ → List R → Type 0
  RowParts [] p part rs = (part ≡ []) × (rs ≡ [])
  RowParts (x ∷ xs) p part rs = (a : List ℕ) × (r : R) × (b : List ℕ) × (qs : List R)
      × f.parts x p a r × RowParts xs (p + length a) b qs × (part ≡ a ++ b) × (rs ≡ r ∷ qs)

  module _ (xs : List X) (p : ℕ) where
    -- `step`: next step after `front` when the values are serialized
    abbrev pub RowPartsNext : List ℕ → Step → Type 0
    RowPartsNext front step = (i : ℕ) × (x : X) × (a : List ℕ) × (rs : List R) × (rest : List ℕ)
        × (slice_get xs i ≡ Some x) × RowParts (take i xs) p a rs
        × f.next x (p + length a) rest step × (front ≡ a ++ rest)

  -- `out`: own bytes of the values in order, from position `p` on. `rs`: their resolvers
  abbrev pub RowImages : List X → List R → ℕ → List ℕ → Type 0
  RowImages [] rs p out = (rs ≡ []) × (out ≡ [])
  RowImages (x ∷ xs) rs p out = (r : R) × (qs : List R) × (one : List ℕ) × (rest : List ℕ)
      × (rs ≡ r ∷ qs) × f.image x r p one × RowImages xs qs (p + length one) rest
      × (out ≡ one ++ rest)

  -- `step`: own bytes of the value `x` at position `p`, or the error that a distance doesn't fit
  abbrev pub ValueStep : X → R → ℕ → Step → Type 0
  ValueStep x r p step = ((out : List ℕ) × f.image x r p out × (step ≡ piece out))
      ⊎ (f.overflow x r p × (step ≡ failure distance))

  module _ (xs : List X) (rs : List R) (p : ℕ) where
    -- `front`: own bytes of the values before `x`, the value at index `i`. `r`: its resolver
    pub record Before (i : ℕ) (x : X) (r : R) (front : List ℕ) : Type 0 where
      pub value : slice_get xs i ≡ Some x
      pub resolver : slice_get rs i ≡ Some r
      pub images : RowImages (take i xs) (take i rs) p front

    -- `step`: next step after `front` when the own bytes of the values are written
    abbrev pub RowNext : List ℕ → Step → Type 0
    RowNext front step =
        (i : ℕ) × (x : X) × (r : R) × Before i x r front × ValueStep x r (p + length front) step

  -- the own bytes of the values are appended within the limit
  abbrev pub WroteRow : ℕ → List X → List R → Output → Output → Type 0
  WroteRow limit xs rs o o' =
      (out : List ℕ) × Appended limit out o o' × RowImages xs rs (end_of o) out

-- values that are written in a row by a format, at positions up to a limit
pub record RowInput (X R : Type 0) : Type 1 where
  pub format : Format X R
  pub limit : ℕ
  pub values : List X

-- the values, in order
abbrev pub row_of : {X R : Type 0} → Format X R → ℕ → List X → RowInput X R
row_of format limit values = record { format = format; limit = limit; values = values }

module _ {F X R : Type 0} (row : RowInput X R) (rs : List R) (o o' : Output) where
  -- `result`: the parts of the values are appended, and `rs` are their resolvers; or the error
  -- of serializing one of them
  abbrev pub SerializesRow : Result (Unit {0}) (WriteError F) → Type 0
  SerializesRow result = MatchResult result
      (λ _. (part : List ℕ) × Appends o o' part × RowParts row.format row.values (end_of o) part rs
      × Within row.limit o' part)
      (WriteFails row.limit (RowPartsNext row.format row.values (end_of o)) o o')

  -- `result`: the own bytes of the values are appended within the limit, or the error
  -- of writing one of them
  abbrev pub WritesRow : Result (Unit {0}) (WriteError F) → Type 0
  WritesRow result = MatchResult result (λ _. WroteRow row.format row.limit row.values rs o o')
      (WriteFails row.limit (RowNext row.format row.values rs (end_of o)) o o')
