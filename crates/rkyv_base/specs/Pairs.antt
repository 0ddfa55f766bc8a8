-- The format of pairs: the key's parts and the value's parts, followed by the key,
-- zeros, the value and zeros.
use Rattle.std.specs.Prelude.{◌≡◌, ℕ, ◌+◌, ◌-◌, ◌<◌, ◌⊎◌, List, [], ◌++◌, length}
use Rattle.rkyv_base.specs.declared.pairs.EntryResolver.{EntryResolver}
use Rattle.rkyv_base.specs.Writing.{Step, failure, refused, zeros}
use Rattle.rkyv_base.specs.ElementSpecs.{ElementSpec}
use Rattle.rkyv_base.specs.Entries.{IsSmall, value_offset, whole_size}
use Rattle.rkyv_base.specs.Formats.{Format}

-- a value at the front of its `n` bytes, followed by zeros
abbrev pub Padded : ℕ → (List ℕ → Type 0) → List ℕ → Type 0
Padded n good out = (a : List ℕ) × good a × (out ≡ a ++ zeros (n - length a))

-- the bytes of a pair whose value begins at `off`
abbrev pub pair_bytes : ℕ → ℕ → List ℕ → List ℕ → List ℕ
pair_bytes off size key value =
    (key ++ zeros (off - length key)) ++ (value ++ zeros ((size - off) - length value))

-- the bytes at `p` represent the key, and those at the value's offset represent the value
abbrev pub PairRepresents : {V W : Type 0} → ElementSpec → ElementSpec → (List ℕ → ℕ → V → Type 0)
    → (List ℕ → ℕ → W → Type 0) → List ℕ → ℕ → V × W → Type 0
PairRepresents k v key value b p pair = key b p pair.0 × value b (p + value_offset k v) pair.1

module _ {V W R Q : Type 0} (k v : ElementSpec) (kf : Format V R) (vf : Format W Q) where
  -- `part`: parts of the key, followed by the value's parts
  abbrev pub PairParts : V × W → ℕ → List ℕ → EntryResolver R Q → Type 0
  PairParts pair p part r =
      IsSmall k v × (a : List ℕ) × (b : List ℕ) × kf.parts pair.0 p a r.key
      × vf.parts pair.1 (p + length a) b r.value × (part ≡ a ++ b)

  -- `step`: failure of an entry that is too large, or next step of the key or the value
  abbrev pub PairNext : V × W → ℕ → List ℕ → Step → Type 0
  PairNext pair p front step =
      ((1073741824 < whole_size k v) × (front ≡ []) × (step ≡ failure (refused 0)))
      ⊎ (IsSmall k v × (kf.next pair.0 p front step
      ⊎ ((a : List ℕ) × (r : R) × (rest : List ℕ) × kf.parts pair.0 p a r
      × vf.next pair.1 (p + length a) rest step × (front ≡ a ++ rest))))

  -- `out`: bytes of the entry, or none if it is too large
  abbrev pub PairImage : V × W → EntryResolver R Q → ℕ → List ℕ → Type 0
  PairImage pair r p out =
      ((1073741824 < whole_size k v) × (out ≡ []))
      ⊎ (IsSmall k v × (a : List ℕ) × (b : List ℕ) × kf.image pair.0 r.key p a
      × vf.image pair.1 r.value (p + value_offset k v) b
      × (out ≡ pair_bytes (value_offset k v) (whole_size k v) a b))

  -- a distance of the key or the value doesn't fit
  abbrev pub PairOverflows : V × W → EntryResolver R Q → ℕ → Type 0
  PairOverflows pair r p = IsSmall k v × (kf.overflow pair.0 r.key p
      ⊎ vf.overflow pair.1 r.value (p + value_offset k v))

  -- the format of a pair: the parts of both, and then one entry
  abbrev pub pair_format : Format (V × W) (EntryResolver R Q)
  pair_format = record {
    parts = PairParts;
    next = PairNext;
    image = PairImage;
    overflow = PairOverflows;
  }
