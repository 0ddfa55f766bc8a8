-- Lemmas: writes in a row, their appended bytes, and the error of a later write.
use Rattle.std.specs.Prelude.{◌≡◌, ℕ, ◌+◌, List, [], ◌++◌, length}
use Rattle.std.proofs.Common.{arith, refl, sym, ◌∙◌, ap, inl, append_assoc, append-nil}
use Rattle.std.proofs.Common.{length-append}
use Rattle.std.proofs.lemmas.Grind.{common_steps}
use Rattle.rkyv_base.specs.declared.errors.WriteError.{WriteError}
use Rattle.rkyv_base.specs.{Appends, CauseApplies, Extends, FaultsDuring, Output, Reached, Step}
use Rattle.rkyv_base.specs.{Within, WriteFails, end_of}

-- the appended bytes follow the earlier bytes
pub grows : (o o1 : Output) (p : List ℕ) → Appends o o1 p → Extends o o1 p
grows o o1 p a = record { start = a.start; bytes = a.bytes }

-- two parts in a row are one
pub grows_after : (o o1 o2 : Output) (p q : List ℕ) → Extends o o1 p → Extends o1 o2 q
    → Extends o o2 (p ++ q)
grows_after o o1 o2 p q a b = grind (arith, common_steps, append_assoc)

pub appends_after : (o o1 o2 : Output) (p q : List ℕ) → Appends o o1 p → Appends o1 o2 q
    → Appends o o2 (p ++ q)
appends_after o o1 o2 p q a b = grind (arith, common_steps, grows_after, grows)

-- the end moves by the length of the part
pub end-grows : (o o1 : Output) (a : List ℕ) → Extends o o1 a → end_of o1 ≡ end_of o + length a
end-grows o o1 a h = omega (arith, h.start, ap length h.bytes, length-append o.bytes a)

pub end-appends : (o o1 : Output) (a : List ℕ) → Appends o o1 a
    → end_of o1 ≡ end_of o + length a
end-appends o o1 a h = end-grows o o1 a (grows o o1 a h)

-- two parts in a row that end within the limit do so together
pub within_after : (limit : ℕ) (o1 o2 : Output) (p q : List ℕ) → Extends o1 o2 q
    → Within limit o1 p → Within limit o2 q → Within limit o2 (p ++ q)
within_after limit o1 o2 p q g a h = grind (arith, common_steps, end-grows)

module _ (limit : ℕ) (next next' : List ℕ → Step → Type 0) (o o1 o2 : Output) (p : List ℕ)
    (a : Appends o o1 p) (inside : Within limit o1 p)
    (hn : (f : List ℕ) (step : Step) → next' f step → next (p ++ f) step) where
  reached_after : (f : List ℕ) (step : Step) → Extends o1 o2 f → Reached limit next' o1 o2 f step
      → Reached limit next o o2 (p ++ f) step
  reached_after f step g r =
      (within_after limit o1 o2 p f g inside r.0, r.1 ∙ a.failures, hn f step r.2)

  faults_after : (f : List ℕ) → FaultsDuring limit next' o1 o2 f
      → FaultsDuring limit next o o2 (p ++ f)
  faults_after f h = grind (arith, common_steps, end-appends, length-append, append_assoc)

  cause_after : {F : Type 0} (e : WriteError F) (f : List ℕ) → Extends o1 o2 f
      → CauseApplies limit next' o1 o2 f e → CauseApplies limit next o o2 (p ++ f) e
  cause_after e f g c = grind (arith, common_steps, reached_after, faults_after)

-- the error of a later part is an error of the whole
pub fails_after : {F : Type 0} (limit : ℕ) (next next' : List ℕ → Step → Type 0)
    (o o1 o2 : Output) (p : List ℕ) (e : WriteError F)
    → Appends o o1 p → Within limit o1 p
    → ((f : List ℕ) (step : Step) → next' f step → next (p ++ f) step)
    → WriteFails limit next' o1 o2 e → WriteFails limit next o o2 e
fails_after limit next next' o o1 o2 p e a inside hn t =
    grind (arith, common_steps, grows_after, grows, cause_after)

-- nothing was appended
pub none_appended : (o : Output) → Appends o o []
none_appended o = record { start = refl; bytes = sym (append-nil o.bytes); failures = refl }

-- an error under one rule for the next step is an error under a wider one
pub fails_under : {F : Type 0} (limit : ℕ) (next next' : List ℕ → Step → Type 0) (o o' : Output)
    (e : WriteError F) → ((f : List ℕ) (step : Step) → next' f step → next f step)
    → WriteFails limit next' o o' e → WriteFails limit next o o' e
fails_under limit next next' o o' e hn t =
    fails_after limit next next' o o o' [] e (none_appended o) (inl refl) hn t
