-- A write fails with one error, except for allocation failures, and doesn't succeed as well.
use Rattle.std.proofs.Common.{◌≡◌, ℕ, ◌+◌, ◌≤◌, ◌∙◌, ap, arith, inl, inr, List, ◌++◌, length, length-append}
use Rattle.std.proofs.lemmas.Grind.{common_steps}
use Rattle.std.specs.Prelude.{◌⊎◌}
use Rattle.rkyv_base.specs.{Format, Only, Step, WriteFailure, failure, no_memory, piece}

-- an error that isn't an allocation failure
abbrev pub IsKnown : WriteFailure → Type 0
IsKnown c = c ≡ no_memory → ⊥

-- a write. `next front step`: `step` follows the pieces `front`,
-- `writes part r`: the write ends with the pieces `part` and the result `r`
pub record Run (R : Type 0) : Type 1 where
  pub next : List ℕ → Step → Type 0
  pub writes : List ℕ → R → Type 0

-- There is one error, all pieces lie before it, and with an error no write is complete.
-- All complete writes have one length and one result.
pub record Ends {R : Type 0} (run : Run R) : Type 0 where
  pub same_length : (a b : List ℕ) (r q : R) → run.writes a r → run.writes b q → length a ≡ length b
  pub same_result : (a b : List ℕ) (r q : R) → run.writes a r → run.writes b q → r ≡ q
  pub unique : (front front' : List ℕ) (c c' : WriteFailure) → IsKnown c → IsKnown c' → run.next front (failure c) → run.next front' (failure c') → c ≡ c'
  pub before : (front front' bytes : List ℕ) (c : WriteFailure) → IsKnown c → run.next front (piece bytes) → run.next front' (failure c) → length front + length bytes ≤ length front'
  pub inside : (front bytes part : List ℕ) (r : R) → run.next front (piece bytes) → run.writes part r → length front + length bytes ≤ length part
  pub exclusive : (front part : List ℕ) (r : R) (c : WriteFailure) → IsKnown c → run.next front (failure c) → run.writes part r → ⊥

-- the serialization of `v` at `p`
abbrev pub serialization : {V R : Type 0} → Format V R → V → ℕ → Run R
serialization f v p = record { next = f.next v p; writes = f.parts v p }

-- a write without steps, which doesn't end
abbrev pub no_run : {R : Type 0} → Run R
no_run = record { next = λ front step. ⊥; writes = λ part r. ⊥ }

-- a write of one piece
abbrev pub piece_run : List ℕ → Run (Unit {0})
piece_run whole = record { next = Only (piece whole); writes = λ part r. part ≡ whole }

-- a write that fails
abbrev pub failure_run : {R : Type 0} → WriteFailure → Run R
failure_run c = record { next = Only (failure c); writes = λ part r. ⊥ }

-- one of two writes: `a` if `P`, and `b` if `Q`
abbrev pub either_run : {R : Type 0} → Type 0 → Type 0 → Run R → Run R → Run R
either_run P Q a b = record {
  next = λ front step. (P × a.next front step) ⊎ (Q × b.next front step);
  writes = λ part r. (P × a.writes part r) ⊎ (Q × b.writes part r);
}

-- two writes in turn, the second with the length and the result of the first
abbrev pub then_run : {R Q : Type 0} → Run R → (ℕ → R → Run Q) → Run (R × Q)
then_run {R} {Q} first second = record {
  next = λ front step. first.next front step ⊎ ((a : List ℕ) × (r : R) × (rest : List ℕ) × first.writes a r × (second (length a) r).next rest step × (front ≡ a ++ rest));
  writes = λ part x. (a : List ℕ) × (b : List ℕ) × first.writes a x.0 × (second (length a) x.0).writes b x.1 × (part ≡ a ++ b);
}

pub no_ends : {R : Type 0} → Ends (no_run {R = R})
no_ends {R} = grind (arith, common_steps)

pub piece_ends : (whole : List ℕ) → Ends (piece_run whole)
piece_ends whole = grind (arith, common_steps)

pub failure_ends : {R : Type 0} (c : WriteFailure) → Ends (failure_run {R = R} c)
failure_ends c = grind (arith, common_steps)

-- a write with the same steps, and the same pieces at its end
pub ends_as : {R Q : Type 0} (run : Run R) (run' : Run Q) (result : R → Q) → Ends run
    → ((front : List ℕ) (step : Step) → (step ≡ failure no_memory → ⊥) → run'.next front step → run.next front step)
    → ((part : List ℕ) (q : Q) → run'.writes part q → (r : R) × run.writes part r × (q ≡ result r)) → Ends run'
ends_as run run' result ends into done = grind (arith, common_steps)

pub ends_if : {R : Type 0} (P Q : Type 0) (a b : Run R) → (P → Q → ⊥) → (P → Ends a) → (Q → Ends b) → Ends (either_run P Q a b)
ends_if P Q a b apart one other = grind (arith, common_steps)

module _ {R Q : Type 0} (one : Run R) (two : ℕ → R → Run Q) (first : Ends one) (second : (a : List ℕ) (r : R) → one.writes a r → Ends (two (length a) r)) where
  next_there : (a b : List ℕ) (r q : R) (rest : List ℕ) (step : Step) → one.writes a r → one.writes b q → (two (length b) q).next rest step → (two (length a) r).next rest step
  next_there a b r q rest step m m' h = grind (arith, common_steps)

  writes_there : (a b : List ℕ) (r q : R) (rest : List ℕ) (x : Q) → one.writes a r → one.writes b q → (two (length b) q).writes rest x → (two (length a) r).writes rest x
  writes_there a b r q rest x m m' h = grind (arith, common_steps)

  then_length : (a b : List ℕ) (r q : R × Q) → (then_run one two).writes a r → (then_run one two).writes b q → length a ≡ length b
  then_length a b r q x y =
      let g = (second x.0 r.0 x.2).same_length x.1 y.1 r.1 q.1 x.3 (writes_there x.0 y.0 r.0 q.0 y.1 q.1 x.2 y.2 y.3) in
      omega (arith, first.same_length x.0 y.0 r.0 q.0 x.2 y.2, g, ap length x.4, length-append x.0 x.1, ap length y.4, length-append y.0 y.1)

  then_result : (a b : List ℕ) (r q : R × Q) → (then_run one two).writes a r → (then_run one two).writes b q → r ≡ q
  then_result a b r q x y =
      let g = (second x.0 r.0 x.2).same_result x.1 y.1 r.1 q.1 x.3 (writes_there x.0 y.0 r.0 q.0 y.1 q.1 x.2 y.2 y.3) in
      ap (λ z. (z, r.1)) (first.same_result x.0 y.0 r.0 q.0 x.2 y.2) ∙ ap (λ z. (q.0, z)) g

  then_unique : (front front' : List ℕ) (c c' : WriteFailure) → IsKnown c → IsKnown c' → (then_run one two).next front (failure c) → (then_run one two).next front' (failure c') → c ≡ c'
  then_unique front front' c c' k k' x y = grind arith

  then_before : (front front' bytes : List ℕ) (c : WriteFailure) → IsKnown c → (then_run one two).next front (piece bytes) → (then_run one two).next front' (failure c) → length front + length bytes ≤ length front'
  then_before front front' bytes c k (inl x) (inl y) = first.before front front' bytes c k x y
  then_before front front' bytes c k (inl x) (inr y) = omega (arith, first.inside front bytes y.0 y.1 x y.3, ap length y.5, length-append y.0 y.2)
  then_before front front' bytes c k (inr x) (inl y) = absurd (first.exclusive front' x.0 x.1 c k y x.3)
  then_before front front' bytes c k (inr x) (inr y) =
      let g = (second x.0 x.1 x.3).before x.2 y.2 bytes c k x.4 (next_there x.0 y.0 x.1 y.1 y.2 (failure c) x.3 y.3 y.4) in
      omega (arith, g, first.same_length x.0 y.0 x.1 y.1 x.3 y.3, ap length x.5, length-append x.0 x.2, ap length y.5, length-append y.0 y.2)

  then_inside : (front bytes part : List ℕ) (r : R × Q) → (then_run one two).next front (piece bytes) → (then_run one two).writes part r → length front + length bytes ≤ length part
  then_inside front bytes part r (inl x) y = omega (arith, first.inside front bytes y.0 r.0 x y.2, ap length y.4, length-append y.0 y.1)
  then_inside front bytes part r (inr x) y =
      let g = (second x.0 x.1 x.3).inside x.2 bytes y.1 r.1 x.4 (writes_there x.0 y.0 x.1 r.0 y.1 r.1 x.3 y.2 y.3) in
      omega (arith, g, first.same_length x.0 y.0 x.1 r.0 x.3 y.2, ap length x.5, length-append x.0 x.2, ap length y.4, length-append y.0 y.1)

  then_exclusive : (front part : List ℕ) (r : R × Q) (c : WriteFailure) → IsKnown c → (then_run one two).next front (failure c) → (then_run one two).writes part r → ⊥
  then_exclusive front part r c k (inl x) y = first.exclusive front y.0 r.0 c k x y.2
  then_exclusive front part r c k (inr x) y = (second x.0 x.1 x.3).exclusive x.2 y.1 r.1 c k x.4 (writes_there x.0 y.0 x.1 r.0 y.1 r.1 x.3 y.2 y.3)

  pub then_ends : Ends (then_run one two)
  then_ends = record { same_length = then_length; same_result = then_result; unique = then_unique; before = then_before; inside = then_inside; exclusive = then_exclusive }
