-- Lemmas: the number of bytes of the buckets of a table.
use Rattle.std.proofs.Common.{arith, ◌∙◌, ap, length-append}
use Rattle.std.proofs.lemmas.List.{length-replicate}
use Rattle.std.specs.Prelude.{◌≡◌, ℕ, suc, ◌+◌, ◌-◌, ◌*◌, List, [], ◌∷◌, length, Option, Some, None}
use Rattle.rkyv_base.specs.{Format, zeros}
use Rattle.rkyv_table.specs.{SlotImages}

times_suc : (n size : ℕ) → n * size + size ≡ suc n * size
times_suc n size = omega arith

module _ {X R : Type 0} (size : ℕ) (f : Format X R) (sized : (x : X) (r : R) (p : ℕ) (out : List ℕ)
    → f.image x r p out → length out ≡ size) where
  -- the buckets have `size` bytes each
  pub images_length : (ss : List (Option X)) (rs : List R) (z : ℕ) (out : List ℕ)
      → SlotImages size f ss rs z out → length out ≡ length ss * size
  images_length [] rs z out h = ap length h.1 ∙ omega arith
  images_length (None ∷ ss) rs z out h =
      let n = images_length ss rs (z - size) h.0 h.1 in
      ap length h.2 ∙ length-append h.0 (zeros size)
      ∙ ap (λ k. length h.0 + k) (length-replicate {A = ℕ} size 0) ∙ ap (λ k. k + size) n
      ∙ times_suc (length ss) size
  images_length (Some x ∷ ss) rs z out h =
      let n = images_length ss h.1 (z - size) h.2 h.6 in
      ap length h.7 ∙ length-append h.2 h.3
      ∙ ap (λ k. length h.2 + k) (sized x h.0 (z - size) h.3 h.5) ∙ ap (λ k. k + size) n
      ∙ times_suc (length ss) size
