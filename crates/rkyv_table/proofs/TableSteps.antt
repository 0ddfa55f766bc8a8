-- The parts of a table, in order.
use Rattle.std.proofs.Common.{◌≡◌, ℕ, ◌+◌, refl, ap, ◌∙◌, subst, arith, List, ◌++◌, length, Option, append_assoc, inl, inr, rules}
use Rattle.std.proofs.lemmas.Grind.{common_steps}
use Rattle.std.proofs.lemmas.List.{length-replicate}
use Rattle.rkyv_base.specs.declared.errors.WriteError.{WriteError}
use Rattle.rkyv_base.specs.{Appended, Appends, ElementSpec, Format, Only, Output, Step, Within, WriteFails, end_of, padding, piece, zeros}
use Rattle.rkyv_base.specs.Lemmas.Writing.{appends_after, end-appends, fails_after, fails_under}
use Rattle.rkyv_table.specs.Lemmas.Buckets.{images_length}
use Rattle.rkyv_table.specs.{BucketNext, PartsNext, SlotParts, TableBytes, TableNext, WroteBuckets}

-- the zeros after the appended bytes, by the position at which these begin
pub zeros_behind : (align : ℕ) (o o1 : Output) (a : List ℕ) → Appends o o1 a → zeros (padding align (end_of o1)) ≡ zeros (padding align (end_of o + length a))
zeros_behind align o o1 a appended = ap (λ (n : ℕ). zeros (padding align n)) (end-appends o o1 a appended)

-- one piece after the appended bytes. If it is the next step, a failure of it is one of the whole
pub piece_fails : {F : Type 0} (limit : ℕ) (Next : List ℕ → Step → Type 0) (o o1 o2 : Output) (a bytes : List ℕ) (e : WriteError F) → Appends o o1 a → Within limit o1 a
    → ((step : Step) → step ≡ piece bytes → Next a step) → WriteFails limit (Only (piece bytes)) o1 o2 e → WriteFails limit Next o o2 e
piece_fails limit Next o o1 o2 a bytes e appended inside next t = grind (arith, common_steps)

module _ (F : Type 0) {X R : Type 0} (s : ElementSpec) (limit : ℕ) (f : Format X R) (sized : (x : X) (r : R) (p : ℕ) (out : List ℕ) → f.image x r p out → length out ≡ s.size)
    (slots : List (Option X)) (controls : List ℕ) (o : Output) where
  abbrev Next : List ℕ → Step → Type 0
  Next = TableNext s f slots controls (end_of o)

  abbrev Stopped : Output → WriteError F → Type 0
  Stopped o' e = WriteFails limit Next o o' e

  pub stopped_parts : (o1 : Output) (e : WriteError F) → WriteFails limit (PartsNext f slots (end_of o)) o o1 e → Stopped o1 e
  stopped_parts o1 e t = fails_under limit Next (PartsNext f slots (end_of o)) o o1 e (λ g step h. inl h) t

  module _ (o1 : Output) (a : List ℕ) (rs : List R) (aa : Appends o o1 a) (made : SlotParts f slots (end_of o) a rs) (inside : Within limit o1 a) where
    abbrev pad : List ℕ
    pad = zeros (padding s.align (end_of o1))

    pub stopped_zeros : (o2 : Output) (e : WriteError F) → WriteFails limit (Only (piece pad)) o1 o2 e → Stopped o2 e
    stopped_zeros o2 e t =
        piece_fails limit Next o o1 o2 a pad e aa inside (λ step is. inr (inl (rs, made, is ∙ ap piece (zeros_behind s.align o o1 a aa)))) t

    module _ (o2 : Output) (bb : Appended limit pad o1 o2) where
      abbrev front : List ℕ
      front = a ++ pad

      table_front : Appends o o2 front
      table_front = appends_after o o1 o2 a pad aa bb.0

      front_is : front ≡ a ++ zeros (padding s.align (end_of o + length a))
      front_is = ap (λ (y : List ℕ). a ++ y) (zeros_behind s.align o o1 a aa)

      pub stopped_buckets : (o3 : Output) (e : WriteError F) → WriteFails limit (BucketNext s.size f slots rs (end_of o2)) o2 o3 e → Stopped o3 e
      stopped_buckets o3 e t =
          let at : end_of o2 ≡ end_of o + length front = end-appends o o2 front table_front in
          fails_after limit Next (BucketNext s.size f slots rs (end_of o2)) o o2 o3 front e table_front (inr bb.1)
          (λ g step h. inr (inr (inl (a, rs, front, g, (made, front_is), subst (λ n. BucketNext s.size f slots rs n g step) at h, refl))))
          t

      module _ (o3 : Output) (w : WroteBuckets s.size f limit slots rs o2 o3) where
        pub stopped_controls : (o4 : Output) (e : WriteError F) → WriteFails limit (Only (piece controls)) o3 o4 e → Stopped o4 e
        stopped_controls o4 e t =
            let whole : Appends o o3 (front ++ w.0) = appends_after o o2 o3 front w.0 table_front w.1.0 in
            search (rules, end-appends, piece_fails, front_is)

        pub table_wrote : (o4 : Output) → Appended limit controls o3 o4 → (bytes : List ℕ) × Appended limit bytes o o4 × TableBytes s f slots controls (end_of o) (end_of o3) bytes
        table_wrote o4 d = grind (arith, common_steps, end-appends, length-replicate, images_length, appends_after, table_front, front_is, append_assoc)
