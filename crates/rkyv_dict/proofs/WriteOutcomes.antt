-- Each value is written, or its write fails with an error that isn't an allocation failure.
use Rattle.std.proofs.Common.{◌≡◌, ℕ, ℤ, pos, ◌-ℤ◌, ◌+◌, ◌<◌, ◌^◌, refl, sym, arith, inl, inr, false, List, [], ◌++◌, length, append-nil, length-append}
use Rattle.std.proofs.lemmas.Grind.{common_steps}
use Rattle.std.specs.Prelude.{◌⊎◌, FitsSigned}
use Rattle.std.specs.Int.{Width, to_le_bytes}
use Rattle.std.specs.Str.{IsUtf8}
use Rattle.std.proofs.lemmas.Bool.{cases_lt}
use Rattle.std.proofs.lemmas.List.{length-replicate}
use mir.Val.{bits}
use Rattle.rkyv_base.specs.declared.errors.WriteError.{WriteError}
use Rattle.rkyv_base.specs.declared.errors.WriteError.TheVariants.{CapacityTooLarge, DistanceTooLarge, InvalidLoadFactor, PositionTooLarge, TextTooLong}
use Rattle.rkyv_base.specs.declared.pairs.EntryResolver.{EntryResolver}
use Rattle.rkyv_base.specs.declared.writer.NoMemory.{NoMemory}
use Rattle.rkyv_base.specs.{AppendFails, Appended, ElementSpec, Encoding, Format, IsSmall, Only, Output, SerializeFails, Serialized, TextNext, end_of, inline_bytes, out_of_line_bytes, pair_bytes, pair_format, piece, scalar_format, text_format, text_limit, text_size, value_offset, whole_size, zeros}
use Rattle.rkyv_base.proofs.PairWriting.{key_fails, pair_serialized, value_fails}
use Rattle.rkyv_base.specs.Lemmas.Writing.{fails_under, none_appended}
use Rattle.rkyv_dict.specs.{is_allocation_failure}

-- `fails o e`: a write fails with `e` and leaves the output `o`. The error isn't an allocation failure
abbrev pub Fails : (Output → WriteError NoMemory → Type 0) → Type 0
Fails fails = (o : Output) × (e : WriteError NoMemory) × (is_allocation_failure e ≡ false) × fails o e

-- a write goes on by `next`, or fails as its first part
pub after_part : {A B : Type 0} {fails fails' : Output → WriteError NoMemory → Type 0} → A ⊎ Fails fails → ((o : Output) (e : WriteError NoMemory) → fails o e → fails' o e) → (A → B ⊎ Fails fails') → B ⊎ Fails fails'
after_part (inr fault) because next = inr (fault.0, fault.1, fault.2, because fault.0 fault.1 fault.3)
after_part (inl part) because next = next part

pub position_reported : is_allocation_failure {F = NoMemory} PositionTooLarge ≡ false
unfolding is_allocation_failure
position_reported = refl

pub distance_reported : is_allocation_failure {F = NoMemory} DistanceTooLarge ≡ false
unfolding is_allocation_failure
distance_reported = refl

text_reported : is_allocation_failure {F = NoMemory} TextTooLong ≡ false
unfolding is_allocation_failure
text_reported = refl

pub factor_reported : (n d : ℕ) → is_allocation_failure {F = NoMemory} (InvalidLoadFactor n d) ≡ false
unfolding is_allocation_failure
factor_reported n d = refl

pub capacity_reported : (n : ℕ) → is_allocation_failure {F = NoMemory} (CapacityTooLarge n) ≡ false
unfolding is_allocation_failure
capacity_reported n = refl

-- a piece is appended, or it ends after the limit
pub append_outcome : (limit : ℕ) (bytes : List ℕ) (o : Output) → ((o' : Output) × Appended limit bytes o o') ⊎ Fails (λ o' e. AppendFails limit bytes o o' e)
append_outcome limit bytes o = elim (cases_lt limit (end_of o + length bytes)) [
  | inl after ↦ inr (
    o,
    PositionTooLarge,
    position_reported,
    record {
      front = [];
      kept = record { start = refl; bytes = sym (append-nil o.bytes) };
      cause = (bytes, (inl refl, refl, (refl, refl)), after);
    },
  )
  | inr fits ↦ inl (record { start = o.start; bytes = o.bytes ++ bytes; failures = o.failures }, (record { start = refl; bytes = refl; failures = refl }, omega (arith, fits, length-append o.bytes bytes)))
]

pub fits_or_not : (w : Width) (z : ℤ) → FitsSigned w z ⊎ (FitsSigned w z → ⊥)
fits_or_not w z = grind (arith, common_steps)

-- ---- values

-- the value is serialized, or its serialization fails
abbrev pub CanSerialize : {V R : Type 0} → ℕ → Format V R → V → Type 0
CanSerialize {V} {R} limit f v = (o : Output) → ((o' : Output) × (r : R) × Serialized limit f v o o' r) ⊎ Fails (λ o' e. SerializeFails limit f v o o' e)

-- the value has fixed bytes, or a distance doesn't fit
abbrev pub CanResolve : {V R : Type 0} → Format V R → V → Type 0
CanResolve {V} {R} f v = (r : R) (p : ℕ) → ((out : List ℕ) × f.image v r p out) ⊎ f.overflow v r p

-- the value is written, or its write fails
pub record IsWritable {V R : Type 0} (limit : ℕ) (f : Format V R) (v : V) : Type 0 where
  pub serialize : CanSerialize limit f v
  pub resolve : CanResolve f v

pub scalar_writable : {V : Type 0} (limit : ℕ) (e : Encoding V) (v : V) → e.code v < 2 ^ bits e.word → e.IsCode (e.code v) → e.value (e.code v) ≡ v → IsWritable limit (scalar_format e) v
scalar_writable limit e v fits code reads = record {
  serialize = λ o. inl (o, tt, ([], none_appended o, refl, inl refl));
  resolve = λ r p. inl (to_le_bytes e.word (e.code v), record { bytes = refl; fits = fits; is_code = code; reads_back = reads });
}

module _ (limit : ℕ) (w : Width) (t : List ℕ) (u : IsUtf8 t) where
  text_serialized : CanSerialize limit (text_format w) t
  text_serialized o = elim (cases_lt (text_size w) (length t)) [
    | inr short ↦ inl (o, record { pos = 0 }, ([], none_appended o, (u, inl (short, refl, refl)), inl refl))
    | inl long ↦ elim (cases_lt (length t) (text_limit w)) [
      | inr large ↦ inr (
        o,
        TextTooLong,
        text_reported,
        record {
          front = [];
          kept = record { start = refl; bytes = sym (append-nil o.bytes) };
          cause = (inl refl, refl, inr (large, (refl, refl)));
        },
      )
      | inl small ↦
          after_part (append_outcome limit t o) (λ o' e h. fails_under limit (TextNext w t (end_of o)) (Only (piece t)) o o' e (λ front step n. inl ((long, small), n)) h)
          (λ done. inl (done.0, record { pos = end_of o }, (t, done.1.0, (u, inr ((long, small), refl, refl)), inr done.1.1)))
    ]
  ]

  text_resolved : CanResolve (text_format w) t
  text_resolved r p = elim (cases_lt (text_size w) (length t)) [
    | inr short ↦ inl (inline_bytes (text_size w) t, inl (short, refl))
    | inl long ↦ elim (cases_lt (length t) (text_limit w)) [
      | inr large ↦ inl (zeros (text_size w), inr (inr (large, length-replicate (text_size w) 0)))
      | inl small ↦ elim (fits_or_not w (pos r.pos -ℤ pos p)) [
        | inl fits ↦ inl (out_of_line_bytes w (length t) (pos r.pos -ℤ pos p), inr (inl ((long, small), fits, refl)))
        | inr unfit ↦ inr ((long, small), unfit)
      ]
    ]
  ]

  pub text_writable : IsWritable limit (text_format w) t
  text_writable = record { serialize = text_serialized; resolve = text_resolved }

module _ {V W R Q : Type 0} (limit : ℕ) (k v : ElementSpec) (kf : Format V R) (vf : Format W Q) (small : IsSmall k v) (pair : V × W)
    (key : IsWritable limit kf pair.0) (value : IsWritable limit vf pair.1) where
  pair_serializes : CanSerialize limit (pair_format k v kf vf) pair
  pair_serializes o =
      after_part (key.serialize o) (λ o' e h. key_fails limit k v kf vf pair o o' e small h)
      (λ first. after_part (value.serialize first.0) (λ o' e h. value_fails limit k v kf vf pair o first.0 o' first.2.0 first.1 e small first.2.1 first.2.2 first.2.3 h)
      (λ second. let r : EntryResolver R Q = record { key = first.1; value = second.1 } in
      inl (second.0, r, pair_serialized limit k v kf vf pair o first.0 second.0 r small first.2 second.2)))

  pair_resolves : CanResolve (pair_format k v kf vf) pair
  pair_resolves r p = elim (key.resolve r.key p) [
    | inr overflow ↦ inr (small, inl overflow)
    | inl first ↦ elim (value.resolve r.value (p + value_offset k v)) [
      | inr overflow ↦ inr (small, inr overflow)
      | inl second ↦ inl (pair_bytes (value_offset k v) (whole_size k v) first.0 second.0, inr (small, first.0, second.0, first.1, second.1, refl))
    ]
  ]

  pub pair_writable : IsWritable limit (pair_format k v kf vf) pair
  pair_writable = record { serialize = pair_serializes; resolve = pair_resolves }
