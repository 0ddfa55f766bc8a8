-- Bytes that are written, buffered and still to be read.
use Rattle.std.proofs.Common.{◌≡◌, ℕ, ◌<◌, List, [], ◌++◌, take, drop, length, Option, sym, ap, ◌∙◌, append_assoc, take-append-drop, subst}
use Rattle.std.specs.Prelude.{Err, IfSome, None, Ok, OnErr, Result, Some}
use Rattle.std.specs.Io.KnownBytes.{Appends, Consumes, Keeps}
use Rattle.std.proofs.KnownBytes.{Appends-trans, Consumes-trans}
use Rattle.std.proofs.lemmas.List.{append-nil}
use Rattle.std.proofs.lemmas.Result.{IfErr-at_err}
use Rattle.rkyv_dict.specs.{AppendsProperFront, Gathers, MovesFront}

-- a prefix of the buffered output is written
pub moves_more : (a b c : Option (List ℕ)) (whole buffered : List ℕ) (n : ℕ) → MovesFront a b whole buffered → Appends b c (take n buffered) → MovesFront a c whole (drop n buffered)
moves_more a b c whole buffered n m taken = record {
  moved = m.moved ++ take n buffered;
  parts = m.parts ∙ ap (λ l. m.moved ++ l) (sym (take-append-drop n buffered)) ∙ sym (append_assoc m.moved (take n buffered) (drop n buffered));
  appended = Appends-trans a b c m.moved (take n buffered) m.appended taken;
}

stops_at : (a b c : Option (List ℕ)) (whole rest : List ℕ) → MovesFront a b whole rest → Appends b c [] → 0 < length rest → AppendsProperFront a c whole
stops_at a b c whole rest m taken some = record {
  part = record {
    front = m.moved;
    rest = rest;
    parts = sym m.parts;
    appended = subst (Appends a c) (append-nil m.moved) (Appends-trans a b c m.moved [] m.appended taken);
  };
  unwritten = some;
}

-- known bytes that are kept grow by no byte
kept_appends : (b c : Option (List ℕ)) → Keeps b c → Appends b c []
kept_appends None c h = tt
kept_appends (Some x) None h = absurd h
kept_appends (Some x) (Some y) h = h ∙ sym (append-nil x)

-- a writer that keeps its bytes leaves the rest unwritten
pub stops_at_failure : (a b c : Option (List ℕ)) (whole rest : List ℕ) → MovesFront a b whole rest → Keeps b c → 0 < length rest → AppendsProperFront a c whole
stops_at_failure a b c whole rest m kept some = stops_at a b c whole rest m (kept_appends b c kept) some

-- a write that takes no byte leaves the rest unwritten
pub stops_at_none : (a b c : Option (List ℕ)) (whole rest : List ℕ) (n : ℕ) → MovesFront a b whole rest → Appends b c (take n rest) → n ≡ 0 → 0 < length rest → AppendsProperFront a c whole
stops_at_none a b c whole rest n m taken none some =
    stops_at a b c whole rest m (subst (λ (k : ℕ). Appends b c (take k rest)) none taken) some

pub gathers_more : (a b c : Option (List ℕ)) (before after : List ℕ) → Consumes a b before → Gathers b c before after → Consumes a c after
gathers_more a b c before after first second =
    subst (Consumes a c) (sym second.added) (Consumes-trans a b c before second.bytes first second.consumed)

pub on_err : {T E : Type 0} (r : Result T E) (P : Type 0) → P → OnErr r P
on_err (Ok x) P p = tt
on_err (Err e) P p = p

pub if_some : {A : Type 0} (o : Option A) (P : A → Type 0) → ((x : A) → P x) → IfSome o P
if_some None P h = tt
if_some (Some x) P h = h x

pub of_error : {T E : Type 0} (r : Result T E) (e : E) (P : Type 0) → r ≡ Err e → OnErr r P → P
of_error r e P is h = IfErr-at_err (λ _. P) is h
