-- The formats of numbers, texts and pairs end in one way.
use Rattle.std.proofs.Common.{◌≡◌, ℕ, ◌+◌, ◌<◌, refl, arith, inl, inr, List, [], length}
use Rattle.std.specs.Prelude.{◌⊎◌}
use Rattle.std.proofs.lemmas.Grind.{common_steps}
use Rattle.std.specs.Int.{Width}
use Rattle.rkyv_base.specs.{ElementSpec, Encoding, Format, IsArchiveWord, IsSmall, Step, distance, failure, pair_format, piece, refused, scalar_format, text_format, text_limit, text_size, whole_size}
use Rattle.rkyv_base.specs.Lemmas.Text.{by_archive_word}
use Rattle.rkyv_dict.proofs.Ends.{Ends, Run, either_run, ends_as, ends_if, failure_ends, failure_run, serialization, then_ends, then_run}

-- serialization ends in one way
pub record EndsOneWay {V R : Type 0} (f : Format V R) : Type 0 where
  pub ends : (v : V) (p : ℕ) → Ends (serialization f v p)

pub scalars_end : {V : Type 0} (e : Encoding V) → EndsOneWay (scalar_format e)
scalars_end e = record { ends = λ v p. grind (arith, common_steps) }

module _ (w : Width) (kind : IsArchiveWord w) (t : List ℕ) (p : ℕ) where
  limit_above : text_size w < text_limit w
  limit_above = by_archive_word (λ v. text_size v < text_limit v) (omega arith) (omega arith) w kind

  text_ends : Ends (serialization (text_format w) t p)
  text_ends = grind (arith, common_steps, limit_above)

pub texts_end : (w : Width) → IsArchiveWord w → EndsOneWay (text_format w)
texts_end w kind = record { ends = text_ends w kind }

-- ---- pairs

module _ {V W R Q : Type 0} (k v : ElementSpec) (kf : Format V R) (vf : Format W Q) (ke : EndsOneWay kf) (ve : EndsOneWay vf) (pair : V × W) (p : ℕ) where
  abbrev both : Run (R × Q)
  both = then_run (serialization kf pair.0 p) (λ n r. serialization vf pair.1 (p + n))

  abbrev one_of_both : Run (R × Q)
  one_of_both = either_run (1073741824 < whole_size k v) (IsSmall k v) (failure_run (refused 0)) both

  one_of_both_ends : Ends one_of_both
  one_of_both_ends =
      ends_if (1073741824 < whole_size k v) (IsSmall k v) (failure_run (refused 0)) both (λ large small. omega (arith, large, small))
      (λ large. failure_ends (refused 0)) (λ small. then_ends (serialization kf pair.0 p) (λ n r. serialization vf pair.1 (p + n)) (ke.ends pair.0 p) (λ a r m. ve.ends pair.1 (p + length a)))

  pair_next : (front : List ℕ) (step : Step) → (pair_format k v kf vf).next pair p front step → one_of_both.next front step
  pair_next front step (inl h) = inl (h.0, (h.1, h.2))
  pair_next front step (inr h) = inr h

  pair_ends : Ends (serialization (pair_format k v kf vf) pair p)
  pair_ends = ends_as _ _ (λ x. record { key = x.0; value = x.1 }) one_of_both_ends (λ front step known h. pair_next front step h) (λ part r h. ((r.key, r.value), inr (h.0, (h.1, h.2, h.3, h.4, h.5)), refl))

pub pairs_end : {V W R Q : Type 0} (k v : ElementSpec) (kf : Format V R) (vf : Format W Q) → EndsOneWay kf → EndsOneWay vf → EndsOneWay (pair_format k v kf vf)
pairs_end k v kf vf ke ve = record { ends = pair_ends k v kf vf ke ve }

-- ---- fixed bytes

-- the fixed bytes are of one size, and there are none if a distance is too large
pub record IsSized {V R : Type 0} (size : ℕ) (f : Format V R) : Type 0 where
  pub size_exact : (v : V) (r : R) (p : ℕ) (out : List ℕ) → f.image v r p out → length out ≡ size
  pub exclusive : (v : V) (r : R) (p : ℕ) (out : List ℕ) → f.image v r p out → f.overflow v r p → ⊥

-- the write of the fixed bytes of a value in one piece, or of the error that a distance is too large
abbrev pub image_run : {V R : Type 0} → Format V R → V → R → ℕ → Run (Unit {0})
image_run f v r p = record {
  next = λ front step. (front ≡ []) × (((out : List ℕ) × f.image v r p out × (step ≡ piece out)) ⊎ (f.overflow v r p × (step ≡ failure distance)));
  writes = λ out u. f.image v r p out;
}

pub image_ends : {V R : Type 0} (size : ℕ) (f : Format V R) → IsSized size f → (v : V) (r : R) (p : ℕ) → Ends (image_run f v r p)
image_ends size f sized v r p = grind (arith, common_steps, sized.size_exact, sized.exclusive)
