-- The error of a root whose write fails.
use Rattle.std.proofs.Common.{◌≡◌, ℕ, ◌+◌, ◌<◌, ◌≤◌, ap, arith, inl, inr, List, length, false}
use Rattle.std.specs.Prelude.{◌⊎◌, codes}
use Rattle.rkyv_base.specs.{CauseApplies, Extends, Output, Reached, Step, Within, WriteFailure, capacity, distance, end_of, failure, fresh, load_factor, long_text, mismatch, no_memory, piece, refused}
use Rattle.rkyv_base.specs.declared.errors.WriteError.{WriteError}
use Rattle.rkyv_dict.specs.{write_error_text, is_allocation_failure}
use Rattle.rkyv_dict.proofs.Ends.{Ends, IsKnown, Run}

-- the number and the name of an error
abbrev error_text : WriteFailure → List ℕ
error_text (load_factor n d) = codes "1 InvalidLoadFactor"
error_text (mismatch n m) = codes "2 IteratorLengthMismatch"
error_text (capacity n) = codes "3 CapacityTooLarge"
error_text distance = codes "5 DistanceTooLarge"
error_text long_text = codes "6 TextTooLong"
error_text no_memory = codes "8 Memory"
error_text (refused n) = codes "9 Refused"

module _ (limit : ℕ) (next : List ℕ → Step → Type 0) where
  -- the error of a step within the limit, or of a piece that passes the limit
  abbrev pub IsErrorText : List ℕ → Type 0
  IsErrorText text =
      ((c : WriteFailure) × IsKnown c × (front : List ℕ) × (length front ≤ limit) × next front (failure c) × (text ≡ error_text c))
      ⊎ ((front : List ℕ) × (bytes : List ℕ) × next front (piece bytes) × (limit < length front + length bytes) × (text ≡ codes "4 PositionTooLarge"))

  module _ (o : Output) (front : List ℕ) (kept : Extends fresh o front) where
    ends_at : end_of o ≡ length front
    ends_at = omega (arith, kept.start, ap length kept.bytes)

    within : Within limit o front → length front ≤ limit
    within (inl e) = omega (arith, ap length e)
    within (inr h) = omega (arith, h, ends_at)

    text_of_reached : (c : WriteFailure) (text : List ℕ) → IsKnown c → Reached limit next fresh o front (failure c) → text ≡ error_text c → IsErrorText text
    text_of_reached c text known h e = inl (c, known, front, within h.0, h.2, e)

    pub text_of_cause : {F : Type 0} (e : WriteError F) → is_allocation_failure e ≡ false → CauseApplies limit next fresh o front e → IsErrorText (write_error_text e)
    unfolding is_allocation_failure write_error_text
    text_of_cause e m h = grind (arith, text_of_reached, ends_at)

module _ (limit : ℕ) (run : Run (Unit {0})) (ends : Ends run) where
  pub error_text_unique : (text told' : List ℕ) → IsErrorText limit run.next text → IsErrorText limit run.next told' → text ≡ told'
  error_text_unique text told' x y = grind arith

  pub error_text_exclusive : (text b : List ℕ) → IsErrorText limit run.next text → run.writes b tt → length b ≤ limit → ⊥
  error_text_exclusive text b (inl x) m h = ends.exclusive x.2 b tt x.0 x.1 x.4 m
  error_text_exclusive text b (inr x) m h = omega (arith, x.3, h, ends.inside x.0 x.1 b tt x.2 m)
