-- Values in a chunk that is appended as one piece: a failure of it is one of the values in turn.
use Rattle.std.proofs.Common.{◌≡◌, ℕ, zero, suc, min, ◌^◌, ◌+◌, ◌-◌, ◌<◌, ◌≤◌, refl, sym, ap, ◌∙◌, arith, inl, inr, List, [], ◌∷◌, ◌++◌, length, take, drop, append_assoc, length-append}
use Rattle.std.proofs.lemmas.Grind.{common_steps}
use Rattle.std.proofs.lemmas.List.{drop-take, length-drop, length-take-le, take-append-drop, take-append-le, take-take}
use Rattle.std.proofs.lemmas.Bool.{cases_lt}
use Rattle.rkyv_base.specs.declared.errors.WriteError.{WriteError}
use Rattle.rkyv_base.specs.declared.errors.WriteError.TheVariants.{CapacityTooLarge, DistanceTooLarge, InvalidLoadFactor, IteratorLengthMismatch, Memory, PositionTooLarge, Refused, TextTooLong, Writer}
use Rattle.rkyv_base.specs.{AppendFails, Appends, Output, Step, WriteFails, WriteFailure, end_of, failure, piece}
use Rattle.rkyv_base.specs.Lemmas.Writing.{end-grows}

-- the output `o`, followed by `bytes`
abbrev pub followed_by : Output → List ℕ → Output
followed_by o bytes = record { start = o.start; bytes = o.bytes ++ bytes; failures = o.failures }

pub followed_more : (o : Output) (a b : List ℕ) → Appends (followed_by o a) (followed_by o (a ++ b)) b
followed_more o a b = record { start = refl; bytes = sym (append_assoc o.bytes a b); failures = refl }

pub end_followed : (o : Output) (a : List ℕ) → end_of (followed_by o a) ≡ end_of o + length a
end_followed o a = grind (arith, common_steps, length-append)

-- the bytes after a front of two lists
take_past : (k : ℕ) (xs ys : List ℕ) → length xs ≤ k → take k (xs ++ ys) ≡ xs ++ take (k - length xs) ys
take_past k [] ys h = let e : k - 0 ≡ k = omega arith in rw e refl
take_past zero (x ∷ xs) ys h = absurd (omega (arith, h))
take_past (suc k) (x ∷ xs) ys h =
    let e : suc k - length (x ∷ xs) ≡ k - length xs = omega arith in
    rw e (ap (λ z. x ∷ z) (take_past k xs ys (omega (arith, h))))

-- the bytes of a piece
abbrev step_bytes : Step → List ℕ
step_bytes (piece bytes) = bytes
step_bytes (failure e) = []

abbrev is_failure : Step → ℕ
is_failure (piece bytes) = 0
is_failure (failure e) = 1

not_failure : {T : Type 0} (e : WriteFailure) (bytes : List ℕ) → failure e ≡ piece bytes → T
not_failure e bytes h = absurd (omega (arith, ap is_failure h))

-- the chunk's front with one more value
pub front_more : (at size : ℕ) (chunk chunk' : List ℕ) → take at chunk' ≡ take at chunk → take (at + size) chunk' ≡ take at chunk ++ take size (drop at chunk')
front_more at size chunk chunk' front =
    sym (take-append-drop at (take (at + size) chunk'))
    ∙ ap (λ z. z ++ drop at (take (at + size) chunk')) (take-take at (at + size) chunk' (omega arith) ∙ front)
    ∙ ap (λ z. take at chunk ++ z) (drop-take at size chunk')

pub one_length : (at size : ℕ) (chunk chunk' : List ℕ) → at + size ≤ length chunk → length chunk' ≡ length chunk → length (take size (drop at chunk')) ≡ size
one_length at size chunk chunk' room kept = length-take-le size (drop at chunk') (omega (arith, room, kept, length-drop at chunk'))

module _ (limit : ℕ) (Next : List ℕ → Step → Type 0) (o : Output) where
  -- a write that stops after `k` bytes of the chunk stops inside a value
  pub record FaultPoint (o1 : Output) (chunk : List ℕ) (k : ℕ) : Type 0 where
    pub before : List ℕ
    pub bytes : List ℕ
    pub count : ℕ
    pub is_next : Next before (piece bytes)
    pub is : o1.bytes ++ take k chunk ≡ o.bytes ++ (before ++ take count bytes)
    pub fits : end_of o + length before + length bytes ≤ limit

  -- the chunk has values that are pieces in turn
  abbrev pub Torn : Output → List ℕ → Type 0
  Torn o1 chunk = 0 < length chunk → (k : ℕ) → FaultPoint o1 chunk k

  pub torn_none : (o1 : Output) → Torn o1 []
  torn_none o1 h k = absurd (omega (arith, h))

  -- one more value in the chunk
  pub torn_more : (o1 : Output) (chunk one out : List ℕ) → Torn o1 chunk → Appends o (followed_by o1 chunk) out → Next out (piece one) → end_of o1 + length (chunk ++ one) ≤ limit → Torn o1 (chunk ++ one)
  torn_more o1 chunk one out torn a next fits some k = elim (cases_lt k (length chunk)) [
    | inl l ↦
        let t = torn (omega (arith, l)) k in
        record {
          before = t.before;
          bytes = t.bytes;
          count = t.count;
          is_next = t.is_next;
          is = ap (λ z. o1.bytes ++ z) (take-append-le k chunk one (omega (arith, l))) ∙ t.is;
          fits = t.fits;
        }
    | inr g ↦ record {
      before = out;
      bytes = one;
      count = k - length chunk;
      is_next = next;
      is = grind (arith, common_steps, take_past, append_assoc, a.bytes);
      fits = omega (arith, fits, ap length a.bytes, length-append o1.bytes chunk, length-append o.bytes out, length-append chunk one, a.start);
    }
  ]

  -- the chunk could not be appended
  pub torn_fails : {F : Type 0} (o1 o2 : Output) (chunk out : List ℕ) (e : WriteError F) → Torn o1 chunk → Appends o (followed_by o1 chunk) out → 0 < length chunk → end_of o1 + length chunk ≤ limit
      → AppendFails limit chunk o1 o2 e → WriteFails limit Next o o2 e
  torn_fails o1 o2 chunk out (InvalidLoadFactor n d) torn a some fits t = not_failure _ chunk t.cause.2.1
  torn_fails o1 o2 chunk out (IteratorLengthMismatch m) torn a some fits t = not_failure _ chunk t.cause.2.1
  torn_fails o1 o2 chunk out (CapacityTooLarge n) torn a some fits t = not_failure _ chunk t.cause.2.1
  torn_fails o1 o2 chunk out PositionTooLarge torn a some fits t =
      let h = t.cause in
      let same : h.0 ≡ chunk = ap step_bytes h.1.2.1 in
      let none : length t.front ≡ 0 = ap length h.1.2.0 in
      absurd (omega (arith, end-grows o1 o2 t.front t.kept, none, ap length same, fits, h.2))
  torn_fails o1 o2 chunk out DistanceTooLarge torn a some fits t = not_failure _ chunk t.cause.0.2.1
  torn_fails o1 o2 chunk out TextTooLong torn a some fits t = not_failure _ chunk t.cause.2.1
  torn_fails o1 o2 chunk out (Writer fault) torn a some fits t =
      let h = t.cause in
      let p = torn some h.written_len in
      let same : h.bytes ≡ chunk = ap step_bytes h.is_next.1 in
      let all : t.front ≡ take h.written_len chunk = h.is ∙ ap (λ z. z ++ take h.written_len h.bytes) h.is_next.0 ∙ ap (λ z. take h.written_len z) same in
      record {
        front = p.before ++ take p.count p.bytes;
        kept = record {
          start = t.kept.start ∙ a.start;
          bytes = t.kept.bytes ∙ ap (λ z. o1.bytes ++ z) all ∙ p.is;
        };
        cause = record {
          before = p.before;
          bytes = p.bytes;
          is_next = p.is_next;
          fits = p.fits;
          written_len = p.count;
          is = refl;
          counted = h.counted ∙ ap (λ n. min (n + 1) (2 ^ 64 - 1)) a.failures;
        };
      }
  torn_fails o1 o2 chunk out Memory torn a some fits t = not_failure _ chunk t.cause.2.1
  torn_fails o1 o2 chunk out (Refused n) torn a some fits t = not_failure _ chunk t.cause.2.1
