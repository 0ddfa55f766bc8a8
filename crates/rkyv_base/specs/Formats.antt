-- The format of values: the bytes that serializing appends, and the fixed bytes.
use Rattle.std.specs.Prelude.{◌≡◌, ℕ, ◌+◌, ◌%◌, ◌≤◌, List, length, MatchResult, Result}
use Rattle.rkyv_base.specs.declared.errors.WriteError.{WriteError}
use Rattle.rkyv_base.specs.Bytes.{AgreeOn, OccursAt}
use Rattle.rkyv_base.specs.ElementSpecs.{ElementSpec}
use Rattle.rkyv_base.specs.Writing.{Appends, Output, Step, Within, WriteFails, end_of}

-- The format of the values `V`, with resolvers `R`.
-- - `parts v p part r`: serialized at `p`, the value appends `part` and returns `r`.
-- - `next v p front step`: after `front` was appended, serializing at `p` has the step `step`.
-- - `image v r p out`: resolved at `p`, the value has the fixed bytes `out`.
-- - `overflow v r p`: a distance from `p` to a part doesn't fit.
pub record Format (V R : Type 0) : Type 1 where
  pub parts : V → ℕ → List ℕ → R → Type 0
  pub next : V → ℕ → List ℕ → Step → Type 0
  pub image : V → R → ℕ → List ℕ → Type 0
  pub overflow : V → R → ℕ → Type 0

-- The laws of a format. A value has the size of its element.
-- It has no fixed bytes if a distance doesn't fit. Its parts, followed by its aligned fixed bytes,
-- are valid in an archive and represent it.
pub record IsFormat {V R : Type 0} (s : ElementSpec) (represents : List ℕ → ℕ → V → Type 0)
    (f : Format V R) : Type 0 where
  pub size_exact : (v : V) (r : R) (p : ℕ) (out : List ℕ) → f.image v r p out → length out ≡ s.size
  pub exclusive : (v : V) (r : R) (p : ℕ) (out : List ℕ) → f.image v r p out → f.overflow v r p → ⊥
  pub sound : (v : V) (r : R) (c : List ℕ) (p0 p : ℕ) (part out : List ℕ) → f.parts v p0 part r
      → f.image v r p out
      → OccursAt c p0 part → OccursAt c p out → p0 + length part ≤ p → p % s.align ≡ 0
      → (l : ℕ) × s.is_valid c p p0 (p0 + length part) l × represents c p v

-- the represented value depends only on the bytes on which validity depends
abbrev pub RepresentsLocally : {V : Type 0} → ElementSpec → (List ℕ → ℕ → V → Type 0) → Type 0
RepresentsLocally {V = V} s represents = (v : V) (b c : List ℕ) (p lo hi l : ℕ) → lo ≤ hi
    → s.is_valid b p lo hi l
    → AgreeOn b c p (p + s.size) → AgreeOn b c lo l → represents b p v → represents c p v

-- the value was serialized: its parts were appended, within the limit
abbrev pub Serialized : {V R : Type 0} → ℕ → Format V R → V → Output → Output → R → Type 0
Serialized limit f v o o' r = (part : List ℕ) × Appends o o' part × f.parts v (end_of o) part r
    × Within limit o' part

-- serializing failed with `e`: the earlier bytes are unchanged, and the condition of `e` is met
abbrev pub SerializeFails : {F V R : Type 0} → ℕ → Format V R → V → Output → Output → WriteError F
    → Type 0
SerializeFails limit f v o o' e = WriteFails limit (f.next v (end_of o)) o o' e

-- `result`: the resolver of the serialized value, or the error
abbrev pub Serializes : {F V R : Type 0} → ℕ → Format V R → V → Output → Output
    → Result R (WriteError F) → Type 0
Serializes limit f v o o' result =
    MatchResult result (Serialized limit f v o o') (SerializeFails limit f v o o')

-- a format without steps
abbrev pub nothing_next : {V : Type 0} → V → ℕ → List ℕ → Step → Type 0
nothing_next v p front step = ⊥

-- no distance overflows
abbrev pub no_overflow : {V R : Type 0} → V → R → ℕ → Type 0
no_overflow v r p = ⊥

-- the value `x` is represented as the value `as_value x` of another type
abbrev pub RepresentsAs : {X V : Type 0} → (X → V) → (List ℕ → ℕ → V → Type 0)
    → List ℕ → ℕ → X → Type 0
RepresentsAs as_value represents b p x = represents b p (as_value x)

-- the format `f` for values of another type, which `as_value` maps to the values `V`
abbrev pub written_as : {X V R : Type 0} → (X → V) → Format V R → Format X R
written_as as_value f = record {
  parts = λ x. f.parts (as_value x);
  next = λ x. f.next (as_value x);
  image = λ x. f.image (as_value x);
  overflow = λ x. f.overflow (as_value x);
}
