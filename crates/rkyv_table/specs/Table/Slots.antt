-- The bytes of a table whose items are in slots, one for each bucket.
use Rattle.std.specs.Prelude.{◌≡◌, ℕ, suc, ◌+◌, ◌-◌, ◌*◌, ◌⊎◌, List, [], ◌∷◌, ◌++◌, length, take}
use Rattle.std.specs.Prelude.{MatchResult, None, Option, Result, Some, drop, slice_get}
use Rattle.rkyv_base.specs.{Appended, Appends, ElementSpec, Format, Output, Step, Within}
use Rattle.rkyv_base.specs.{WriteFails, distance, end_of, failure, padding, piece, round_up}
use Rattle.rkyv_base.specs.{written_as, zeros}
use Rattle.rkyv_base.specs.declared.errors.WriteError.{WriteError}

-- the number of slots with an item
abbrev pub filled : {X : Type 0} → List (Option X) → ℕ
filled [] = 0
filled (None ∷ ss) = filled ss
filled (Some x ∷ ss) = suc (filled ss)

-- the buckets from `b` on whose slots have an item
abbrev pub filled_from : {X : Type 0} → ℕ → List (Option X) → List ℕ
filled_from b [] = []
filled_from b (None ∷ ss) = filled_from (b + 1) ss
filled_from b (Some x ∷ ss) = b ∷ filled_from (b + 1) ss

-- how items are written. `spec`: spec of their elements, `format`: their format
pub record ItemFormat (X R : Type 0) : Type 1 where
  pub spec : ElementSpec
  pub format : Format X R

-- the format of items from which values are borrowed in the format `f`, as `lent` says
abbrev pub item_format : {X V R : Type 0} → ElementSpec → (X → V) → Format V R → ItemFormat X R
item_format s lent f = record { spec = s; format = written_as lent f }

-- `slots`: a slot for each bucket, `resolvers`: resolvers of their items, in bucket order
pub record ResolvedSlots (X R : Type 0) : Type 0 where
  pub slots : List (Option X)
  pub resolvers : List R

-- the slots with the resolvers of their items
abbrev pub slots_with : {X R : Type 0} → List (Option X) → List R → ResolvedSlots X R
slots_with slots resolvers = record { slots = slots; resolvers = resolvers }

-- `slots`: a slot for each bucket, `controls`: control bytes of the buckets
pub record PlacedSlots (X : Type 0) : Type 0 where
  pub slots : List (Option X)
  pub controls : List ℕ

-- the slots with their control bytes
abbrev pub placed_slots : {X : Type 0} → List (Option X) → List ℕ → PlacedSlots X
placed_slots slots controls = record { slots = slots; controls = controls }

module _ {X R : Type 0} (f : Format X R) where
  -- `part`: parts of the items in bucket order, serialized at `p`, `rs`: their resolvers
  abbrev pub SlotParts : List (Option X) → ℕ → List ℕ → List R → Type 0
  SlotParts [] p part rs = (part ≡ []) × (rs ≡ [])
  SlotParts (None ∷ ss) p part rs = SlotParts ss p part rs
  SlotParts (Some x ∷ ss) p part rs = (a : List ℕ) × (r : R) × (b : List ℕ) × (qs : List R)
      × f.parts x p a r × SlotParts ss (p + length a) b qs × (part ≡ a ++ b) × (rs ≡ r ∷ qs)

  module _ (slots : List (Option X)) (p : ℕ) where
    -- `step`: next step of serializing the items at `p`, after `front`
    abbrev pub PartsNext : List ℕ → Step → Type 0
    PartsNext front step = (i : ℕ) × (x : X) × (a : List ℕ) × (rs : List R) × (rest : List ℕ)
        × (slice_get slots i ≡ Some (Some x)) × SlotParts (take i slots) p a rs
        × f.next x (p + length a) rest step × (front ≡ a ++ rest)

-- the parts of the items in the slots `x` are written in bucket order, with their resolvers;
-- or writing failed
abbrev pub WritesParts : {X R U F : Type 0} → ℕ → Format X R → ResolvedSlots X R → Output
    → Output → Result U (WriteError F) → Type 0
WritesParts limit f x o o' result = MatchResult result
    (λ _. (part : List ℕ) × Appends o o' part × SlotParts f x.slots (end_of o) part x.resolvers
    × Within limit o' part)
    (WriteFails limit (PartsNext f x.slots (end_of o)) o o')

module _ {X R : Type 0} (size : ℕ) (f : Format X R) where
  -- `out`: buckets before position `z`, from the highest to bucket 0
  abbrev pub SlotImages : List (Option X) → List R → ℕ → List ℕ → Type 0
  SlotImages [] rs z out = (rs ≡ []) × (out ≡ [])
  SlotImages (None ∷ ss) rs z out =
      (rest : List ℕ) × SlotImages ss rs (z - size) rest × (out ≡ rest ++ zeros size)
  SlotImages (Some x ∷ ss) rs z out = (r : R) × (qs : List R) × (rest : List ℕ) × (one : List ℕ)
      × (rs ≡ r ∷ qs) × f.image x r (z - size) one × SlotImages ss qs (z - size) rest
      × (out ≡ rest ++ one)

  -- `out`: one bucket at position `p`, of zeros or of the item by the last resolver
  abbrev pub Filled : Option X → List R → List R → ℕ → List ℕ → Type 0
  Filled None left more p out = (left ≡ more) × (out ≡ zeros size)
  Filled (Some x) left more p out = (r : R) × (left ≡ more ++ r ∷ []) × f.image x r p out

  -- a distance of the item by the last resolver is too large
  abbrev pub BucketOverflows : Option X → List R → ℕ → Type 0
  BucketOverflows None left p = ⊥
  BucketOverflows (Some x) left p = (r : R) × (more : List R) × (left ≡ more ++ r ∷ [])
      × f.overflow x r p

  -- `step`: step of writing one bucket at position `p`, its bytes or the error for its distance
  abbrev pub BucketStep : Option X → List R → ℕ → Step → Type 0
  BucketStep s left p step =
      ((more : List R) × (out : List ℕ) × Filled s left more p out × (step ≡ piece out))
      ⊎ (BucketOverflows s left p × (step ≡ failure distance))

  module _ (slots : List (Option X)) (rs : List R) (p : ℕ) where
    -- `front`: buckets above `i`, written from `p` on, `left`: resolvers of the other items
    abbrev pub Above : ℕ → List R → List ℕ → Type 0
    Above i left front = (done : List R) × (rs ≡ left ++ done)
        × SlotImages (drop (i + 1) slots) done (p + length front) front

    -- `step`: next step of writing the buckets from `p` on, after `front`
    abbrev pub BucketNext : List ℕ → Step → Type 0
    BucketNext front step = (i : ℕ) × (left : List R) × Above i left front
        × (s : Option X) × (slice_get slots i ≡ Some s) × BucketStep s left (p + length front) step

  -- the buckets were appended within the limit
  abbrev pub WroteBuckets : ℕ → List (Option X) → List R → Output → Output → Type 0
  WroteBuckets limit slots rs o o' =
      (out : List ℕ) × Appended limit out o o' × SlotImages slots rs (end_of o') out

-- a bucket. `pos`: its position, `bytes`: its bytes
pub record Bucket : Type 0 where
  pub pos : ℕ
  pub bytes : List ℕ

-- the bucket at `pos` with these bytes
abbrev pub bucket_with : ℕ → List ℕ → Bucket
bucket_with pos bytes = record { pos = pos; bytes = bytes }

-- the bucket `b` is filled for the slot `s`: with zeros, or with the item by the last resolver
-- of `left`. Or a distance of the item is too large. `more`: the resolvers that remain
abbrev pub FillsBucket : {X R U E : Type 0} → ItemFormat X R → Option X → List R → List R → Bucket
    → Result U E → Type 0
FillsBucket items s left more b result = MatchResult result
    (λ _. Filled items.spec.size items.format s left more b.pos b.bytes)
    (λ _. BucketOverflows items.spec.size items.format s left b.pos)

-- the buckets of the slots `x` are written within the limit, or writing failed
abbrev pub WritesBuckets : {X R U F : Type 0} → ℕ → ItemFormat X R → ResolvedSlots X R → Output
    → Output → Result U (WriteError F) → Type 0
WritesBuckets limit items x o o' result = MatchResult result
    (λ _. WroteBuckets items.spec.size items.format limit x.slots x.resolvers o o')
    (WriteFails limit (BucketNext items.spec.size items.format x.slots x.resolvers (end_of o)) o o')

module _ {X R : Type 0} (s : ElementSpec) (f : Format X R) (slots : List (Option X))
    (controls : List ℕ)
    (p : ℕ) where
  -- `bytes`: bytes of a table written from position `p` on, `z`: position of
  -- its first control byte. They are the parts of the items, zeros, the buckets
  -- and the control bytes
  pub record TableBytes (z : ℕ) (bytes : List ℕ) : Type 0 where
    pub part : List ℕ
    pub resolvers : List R
    pub buckets : List ℕ
    pub made : SlotParts f slots p part resolvers
    pub images : SlotImages s.size f slots resolvers z buckets
    pub at : z ≡ round_up (p + length part) s.align + length slots * s.size
    pub is : bytes ≡ part ++ (zeros (padding s.align (p + length part)) ++ (buckets ++ controls))

  -- `front`: bytes before the buckets
  abbrev pub BeforeBuckets : List ℕ → List R → List ℕ → Type 0
  BeforeBuckets a rs front = SlotParts f slots p a rs
      × (front ≡ a ++ zeros (padding s.align (p + length a)))

  -- `step`: next step of writing the table, after `front`. It is the step of a part, the zeros,
  -- the step of a bucket, or the control bytes
  abbrev pub TableNext : List ℕ → Step → Type 0
  TableNext front step = PartsNext f slots p front step
      ⊎ ((rs : List R) × SlotParts f slots p front rs
      × (step ≡ piece (zeros (padding s.align (p + length front)))))
      ⊎ ((a : List ℕ) × (rs : List R) × (b : List ℕ) × (g : List ℕ) × BeforeBuckets a rs b
      × BucketNext s.size f slots rs (p + length b) g step × (front ≡ b ++ g))
      ⊎ ((a : List ℕ) × (rs : List R) × (b : List ℕ) × (g : List ℕ) × BeforeBuckets a rs b
      × SlotImages s.size f slots rs (p + length front) g × (front ≡ b ++ g)
      × (step ≡ piece controls))

-- the parts, the buckets and the control bytes of the slots `x` are written. The result is
-- the position of the first control byte, or an error
abbrev pub WritesSlots : {X R F : Type 0} → ℕ → ItemFormat X R → PlacedSlots X → Output → Output
    → Result ℕ (WriteError F) → Type 0
WritesSlots limit items x o o' result = MatchResult result
    (λ z. (bytes : List ℕ) × Appended limit bytes o o'
    × TableBytes items.spec items.format x.slots x.controls (end_of o) z bytes)
    (WriteFails limit (TableNext items.spec items.format x.slots x.controls (end_of o)) o o')
