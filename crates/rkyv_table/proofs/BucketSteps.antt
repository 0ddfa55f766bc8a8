-- One bucket more written.
use Rattle.std.proofs.Common.{◌≡◌, ℕ, ◌+◌, ◌-◌, ◌<◌, ◌≤◌, refl, sym, ap, ◌∙◌, subst, arith, inl, inr, List, [], ◌∷◌, ◌++◌, length, get_or, take, drop, Option, Some, None, append-nil, append_assoc}
use Rattle.std.proofs.lemmas.Grind.{common_steps}
use Rattle.std.specs.Prelude.{IfSome, slice_get}
use Rattle.std.proofs.lemmas.List.{drop_all, drop_more, get_or_default, length-replicate, length_push, take_all, take_more}
use Rattle.std.proofs.lemmas.Option.{slice_get-get_or}
use Rattle.rkyv_base.specs.declared.errors.WriteError.{WriteError}
use Rattle.rkyv_base.specs.declared.errors.WriteError.TheVariants.{DistanceTooLarge}
use Rattle.rkyv_base.specs.{Appends, Format, Only, Output, WriteFails, end_of, piece, zeros}
use Rattle.rkyv_base.specs.Lemmas.Writing.{appends_after, end-appends, fails_after, grows, none_appended}
use Rattle.rkyv_table.specs.{BucketNext, BucketOverflows, Filled, SlotImages, WroteBuckets, filled}
use Rattle.rkyv_table.proofs.PartSteps.{filled-append}

module _ {X R : Type 0} (size limit : ℕ) (f : Format X R) (slots : List (Option X)) (rs : List R) (o : Output) where
  -- the buckets from `i` on are written, and `left` are the resolvers of the other items
  pub record BucketsWritten (i : ℕ) (left : List R) (o1 : Output) : Type 0 where
    pub out : List ℕ
    pub done : List R
    pub inside : i ≤ length slots
    pub appended : Appends o o1 out
    pub images : SlotImages size f (drop i slots) done (end_of o1) out
    pub all : rs ≡ left ++ done
    pub count : length left ≡ filled (take i slots)
    pub within : end_of o1 ≤ limit

  module _ (i : ℕ) (left : List R) (o1 o2 : Output) (d : BucketsWritten (i + 1) left o1) where
    here : end_of o1 ≡ end_of o + length d.out
    here = end-appends o o1 d.out d.appended

    read_at : (s : Option X) → get_or slots i None ≡ s → slice_get slots i ≡ Some s
    read_at s e = slice_get-get_or slots i None (omega (arith, d.inside)) ∙ ap Some e

    shown_here : SlotImages size f (drop (i + 1) slots) d.done (end_of o + length d.out) d.out
    shown_here = subst (λ n. SlotImages size f (drop (i + 1) slots) d.done n d.out) here d.images

    pub down_none : get_or slots i None ≡ None → Appends o1 o2 (zeros size) → end_of o2 ≤ limit → BucketsWritten i left o2
    down_none e a lim = grind (arith, common_steps, end-appends o1 o2 (zeros size) a, length-replicate {A = ℕ} size 0, appends_after o o1 o2 d.out (zeros size) d.appended a, filled-append (take i slots) (None ∷ []), drop_more, take_more)

    -- a resolver is left for the item
    pub down_room : (x : X) → get_or slots i None ≡ Some x → 0 < length left
    down_room x e = grind (arith, common_steps, take_more, filled-append)

    pub down_rooms : (s : Option X) → get_or slots i None ≡ s → IfSome s (λ _. 0 < length left)
    down_rooms slot e = grind (arith, common_steps, down_room)

    pub down_read : (s : Option X) → s ≡ get_or slots i s → get_or slots i None ≡ s
    down_read s e = get_or_default slots i None s (omega (arith, d.inside)) ∙ sym e

    pub down_some : (x : X) (r : R) (more : List R) (one : List ℕ) → get_or slots i None ≡ Some x → left ≡ more ++ r ∷ [] → f.image x r (end_of o1) one → length one ≡ size
        → Appends o1 o2 one → end_of o2 ≤ limit → BucketsWritten i more o2
    down_some x r more one e l im len a lim =
        let q : i < length slots = omega (arith, d.inside) in
        let n : end_of o2 - size ≡ end_of o1 = omega (arith, end-appends o1 o2 one a, len) in
        record {
          out = d.out ++ one;
          done = r ∷ d.done;
          inside = omega arith;
          appended = appends_after o o1 o2 d.out one d.appended a;
          images = rw (drop_more slots i None q, e) (
            r,
            d.done,
            d.out,
            one,
            refl,
            subst (λ k. f.image x r k one) (sym n) im,
            subst (λ k. SlotImages size f (drop (i + 1) slots) d.done k d.out) (sym n) d.images,
            refl,
          );
          all = d.all ∙ ap (λ (y : List R). y ++ d.done) l ∙ append_assoc more (r ∷ []) d.done;
          count = grind (arith, common_steps, take_more, filled-append, length_push);
          within = lim;
        }

    pub down_step : (s : Option X) (more : List R) (one : List ℕ) → get_or slots i None ≡ s → Filled size f s left more (end_of o1) one → length one ≡ size
        → Appends o1 o2 one → end_of o2 ≤ limit → BucketsWritten i more o2
    down_step slot more one e h len a lim = grind (arith, common_steps, down_none, down_some)

    -- the bucket is the next piece
    pub bucket_next : (s : Option X) → get_or slots i None ≡ s → (more : List R) (one : List ℕ) → Filled size f s left more (end_of o1) one → BucketNext size f slots rs (end_of o) d.out (piece one)
    bucket_next slot e more one im =
        (i, left, (d.done, d.all, shown_here), slot, read_at slot e, inl (more, one, subst (λ n. Filled size f slot left more n one) here im, refl))

    module _ {F : Type 0} (s : Option X) (e : get_or slots i None ≡ s) where
      abbrev BucketsFail : Output → WriteError F → Type 0
      BucketsFail o' err = WriteFails limit (BucketNext size f slots rs (end_of o)) o o' err

      pub bucket_fails : (more : List R) (one : List ℕ) (err : WriteError F) → Filled size f s left more (end_of o1) one
          → WriteFails limit (Only (piece one)) o1 o2 err → BucketsFail o2 err
      bucket_fails more one err im t =
          fails_after limit (BucketNext size f slots rs (end_of o)) (Only (piece one)) o o1 o2 d.out err d.appended (inr d.within)
          (λ g step h.
          let k : d.out ++ g ≡ d.out = ap (λ (y : List ℕ). d.out ++ y) h.0 ∙ append-nil d.out in
          rw k (i, left, (d.done, d.all, shown_here), s, read_at s e, inl (more, one, subst (λ n. Filled size f s left more n one) here im, h.1)))
          t

      pub overflow_fails : BucketOverflows size f s left (end_of o1) → BucketsFail o1 DistanceTooLarge
      overflow_fails h = record {
        front = d.out;
        kept = grows o o1 d.out d.appended;
        cause = ((inr d.within, d.appended.failures, (i, left, (d.done, d.all, shown_here), s, read_at s e, inr (subst (λ n. BucketOverflows size f s left n) here h, refl))), d.within);
      }

  pub down_init : length rs ≡ filled slots → end_of o ≤ limit → BucketsWritten (length slots) rs o
  down_init c lim = grind (arith, common_steps, none_appended o, drop_all (length slots) slots (omega arith), append-nil rs, take_all (length slots) slots (omega arith))

  pub down_end : (left : List R) (o1 : Output) → BucketsWritten 0 left o1 → WroteBuckets size f limit slots rs o o1
  down_end left o1 d = grind (arith, common_steps)
