-- A table is written, or its write fails with an error that isn't an allocation failure.
use Rattle.std.proofs.Common.{◌≡◌, ℕ, zero, suc, pos, ◌-ℤ◌, ◌+◌, ◌<◌, ◌≤◌, ◌^◌, ◌%◌, ◌∙◌, refl, sym, ap, subst, arith, inl, inr, List, [], ◌∷◌, ◌++◌, length, take, get_or, set, replicate, Option, Some, None, add-one, append-nil, append_assoc, slice_get}
use Rattle.std.specs.Prelude.{◌⊎◌, FitsSigned}
use Rattle.std.specs.Int.{Width}
use Rattle.std.proofs.lemmas.Bool.{cases_eq}
use Rattle.std.proofs.lemmas.List.{length_push, take_all}
use Rattle.std.proofs.lemmas.Option.{same_Some, slice_get-get_or}
use mir.Val.{bits}
use Rattle.rkyv_base.specs.declared.errors.WriteError.TheVariants.{DistanceTooLarge}
use Rattle.rkyv_base.specs.declared.writer.NoMemory.{NoMemory}
use Rattle.rkyv_base.specs.Lemmas.Text.{by_archive_word}
use Rattle.rkyv_base.specs.{Appended, Appends, ElementSpec, Format, IsArchiveWord, Output, Within, WriteFails, end_of, padding, zeros}
use Rattle.rkyv_base.specs.Lemmas.Writing.{appends_after, fails_under, grows, none_appended, within_after}
use Rattle.rkyv_table.specs.{ArePlaced, BucketNext, PairsNext, PartsNext, SlotParts, TableBytes, TableNext, WroteBuckets, capacity, fresh_controls, header_bytes, resolved_capacity, resolver_of, table_format, tag, with_control}
use Rattle.rkyv_table.proofs.BucketSteps.{BucketsWritten, bucket_fails, down_end, down_init, down_none, down_room, down_some, overflow_fails}
use Rattle.rkyv_table.proofs.FirstFree.{first_of_all}
use Rattle.rkyv_table.proofs.PartSteps.{parts_filled, step_fails, step_none, step_some}
use Rattle.rkyv_table.proofs.PlacingSteps.{placed_more, placed_none, placed_room}
use Rattle.rkyv_table.proofs.TableSteps.{stopped_buckets, stopped_controls, stopped_parts, stopped_zeros, table_wrote}
use Rattle.rkyv_dict.proofs.WriteOutcomes.{CanResolve, CanSerialize, Fails, IsWritable, after_part, append_outcome, distance_reported, fits_or_not}

-- ---- parts of the items

module _ {X R : Type 0} (limit : ℕ) (f : Format X R) (slots : List (Option X)) where
  -- each item in the slots is written
  abbrev pub AreWritable : Type 0
  AreWritable = (i : ℕ) (x : X) → slice_get slots i ≡ Some (Some x) → IsWritable limit f x

  module _ (items : AreWritable) (o : Output) where
    -- the parts of the items in the first `n` slots are written
    abbrev PartsWritten : ℕ → Output → Type 0
    PartsWritten n o1 = (rs : List R) × (part : List ℕ) × Appends o o1 part × SlotParts f (take n slots) (end_of o) part rs × Within limit o1 part

    abbrev PartsOutcome : ℕ → Type 0
    PartsOutcome n = ((o1 : Output) × PartsWritten n o1) ⊎ Fails (λ o1 e. WriteFails limit (PartsNext f slots (end_of o)) o o1 e)

    parts_step : (n : ℕ) → n < length slots → (o1 : Output) → PartsWritten n o1 → (s : Option X) → get_or slots n None ≡ s → PartsOutcome (n + 1)
    parts_step n inside o1 w None e = inl (o1, (w.0, w.1, w.2, step_none f slots n inside o o1 w.1 w.0 w.2 w.3 e, w.4))
    parts_step n inside o1 w (Some x) e =
        after_part ((items n x (slice_get-get_or slots n None inside ∙ ap Some e)).serialize o1) (λ o' err h. step_fails f slots n inside o o1 w.1 w.0 w.2 w.3 x e limit o' err w.4 h)
        (λ s. let within = within_after limit o1 s.0 w.1 s.2.0 (grows o1 s.0 s.2.0 s.2.1) w.4 s.2.3 in
        inl (s.0, (w.0 ++ (s.1 ∷ []), w.1 ++ s.2.0, appends_after o o1 s.0 w.1 s.2.0 w.2 s.2.1, step_some f slots n inside o o1 w.1 w.0 w.2 w.3 x e s.2.0 s.1 s.2.2, within)))

    parts_to : (n : ℕ) → n ≤ length slots → PartsOutcome n
    parts_to zero h = inl (o, ([], [], none_appended o, (refl, refl), inl refl))
    parts_to (suc n) h = after_part (parts_to n (omega arith)) (λ o' e h. h) (λ w. subst PartsOutcome (add-one n) (parts_step n (omega arith) w.0 w.1 (get_or slots n None) refl))

    parts_outcome : ((o1 : Output) × (rs : List R) × (part : List ℕ) × Appends o o1 part × SlotParts f slots (end_of o) part rs × Within limit o1 part)
        ⊎ Fails (λ o1 e. WriteFails limit (PartsNext f slots (end_of o)) o o1 e)
    parts_outcome =
        after_part (parts_to (length slots) (omega arith)) (λ o' e h. h)
        (λ w. inl (w.0, w.1.0, w.1.1, w.1.2, subst (λ (l : List (Option X)). SlotParts f l (end_of o) w.1.1 w.1.0) (take_all (length slots) slots (omega arith)) w.1.3, w.1.4))

-- ---- buckets

last_of : {A : Type 0} (xs : List A) → 0 < length xs → (front : List A) × (x : A) × (xs ≡ front ++ (x ∷ []))
last_of [] h = absurd (omega arith)
last_of (x ∷ []) h = ([], x, refl)
last_of {A} (x ∷ (y ∷ ys)) h = let l = last_of (y ∷ ys) (omega arith) in (x ∷ l.0, l.1, ap (λ (t : List A). x ∷ t) l.2)

module _ {X R : Type 0} (size limit : ℕ) (f : Format X R) (sized : (x : X) (r : R) (p : ℕ) (out : List ℕ) → f.image x r p out → length out ≡ size)
    (slots : List (Option X)) (items : AreWritable limit f slots) (rs : List R) (o : Output) where
  abbrev BucketsOutcome : Type 0
  BucketsOutcome = ((o' : Output) × WroteBuckets size f limit slots rs o o') ⊎ Fails (λ o' e. WriteFails limit (BucketNext size f slots rs (end_of o)) o o' e)

  bucket_step : (i : ℕ) (left : List R) (o1 : Output) → BucketsWritten size limit f slots rs o (i + 1) left o1 → (s : Option X) → get_or slots i None ≡ s
      → ((more : List R) (o2 : Output) → BucketsWritten size limit f slots rs o i more o2 → BucketsOutcome) → BucketsOutcome
  bucket_step i left o1 d None e others =
      after_part (append_outcome limit (zeros size) o1) (λ o' err h. bucket_fails size limit f slots rs o i left o1 o' d None e left (zeros size) err (refl, refl) h)
      (λ a. others left a.0 (down_none size limit f slots rs o i left o1 a.0 d e a.1.0 a.1.1))
  bucket_step i left o1 d (Some x) e others =
      let l = last_of left (down_room size limit f slots rs o i left o1 o1 d x e) in
      let inside : i < length slots = omega (arith, d.inside) in
      elim ((items i x (slice_get-get_or slots i None inside ∙ ap Some e)).resolve l.1 (end_of o1)) [
        | inr overflow ↦ inr (o1, DistanceTooLarge, distance_reported, overflow_fails size limit f slots rs o i left o1 o1 d (Some x) e (l.1, l.0, l.2, overflow))
        | inl one ↦
            after_part (append_outcome limit one.0 o1) (λ o' err h. bucket_fails size limit f slots rs o i left o1 o' d (Some x) e l.0 one.0 err (l.1, l.2, one.1) h)
            (λ a. others l.0 a.0 (down_some size limit f slots rs o i left o1 a.0 d x l.1 l.0 one.0 e l.2 one.1 (sized x l.1 (end_of o1) one.0 one.1) a.1.0 a.1.1))
      ]

  buckets_from : (i : ℕ) (left : List R) (o1 : Output) → BucketsWritten size limit f slots rs o i left o1 → BucketsOutcome
  buckets_from zero left o1 d = inl (o1, down_end size limit f slots rs o left o1 d)
  buckets_from (suc i) left o1 d =
      bucket_step i left o1 (subst (λ n. BucketsWritten size limit f slots rs o n left o1) (sym (add-one i)) d) (get_or slots i None) refl (λ more o2 h. buckets_from i more o2 h)

-- ---- tables

module _ {X R : Type 0} (limit : ℕ) (s : ElementSpec) (f : Format X R) (sized : (x : X) (r : R) (p : ℕ) (out : List ℕ) → f.image x r p out → length out ≡ s.size)
    (slots : List (Option X)) (controls : List ℕ) (items : AreWritable limit f slots) (o : Output) where
  abbrev SlotsOutcome : Type 0
  SlotsOutcome = ((o' : Output) × (z : ℕ) × (bytes : List ℕ) × Appended limit bytes o o' × TableBytes s f slots controls (end_of o) z bytes)
      ⊎ Fails (λ o' e. WriteFails limit (TableNext s f slots controls (end_of o)) o o' e)

  module _ (o1 : Output) (a : List ℕ) (rs : List R) (aa : Appends o o1 a) (made : SlotParts f slots (end_of o) a rs) (inside : Within limit o1 a) where
    module _ (o2 : Output) (bb : Appended limit (zeros (padding s.align (end_of o1))) o1 o2) where
      after_buckets : (o3 : Output) → WroteBuckets s.size f limit slots rs o2 o3 → SlotsOutcome
      after_buckets o3 w =
          after_part (append_outcome limit controls o3) (stopped_controls NoMemory s limit f sized slots controls o o1 a rs aa made inside o2 bb o3 w)
          (λ d. let t = table_wrote NoMemory s limit f sized slots controls o o1 a rs aa made inside o2 bb o3 w d.0 d.1 in
          inl (d.0, end_of o3, t.0, t.1, t.2))

      after_zeros : SlotsOutcome
      after_zeros =
          let start = down_init s.size limit f slots rs o2 (parts_filled f slots (end_of o) a rs made) bb.1 in
          after_part (buckets_from s.size limit f sized slots items rs o2 (length slots) rs o2 start) (stopped_buckets NoMemory s limit f sized slots controls o o1 a rs aa made inside o2 bb)
          (λ w. after_buckets w.0 w.1)

    after_parts : SlotsOutcome
    after_parts =
        after_part (append_outcome limit (zeros (padding s.align (end_of o1))) o1) (stopped_zeros NoMemory s limit f sized slots controls o o1 a rs aa made inside)
        (λ bb. after_zeros bb.0 bb.1)

  slots_outcome : SlotsOutcome
  slots_outcome = after_part (parts_outcome limit f slots items o) (stopped_parts NoMemory s limit f sized slots controls o) (λ w. after_parts w.0 w.2 w.1 w.3 w.4 w.5)

-- ---- placing

get_set : {A : Type 0} (xs : List A) (i j : ℕ) (x y : A) → slice_get (set xs i x) j ≡ Some y → (x ≡ y) ⊎ (slice_get xs j ≡ Some y)
get_set [] i j x y h = inr h
get_set (z ∷ zs) zero zero x y h = inl (same_Some x y h)
get_set (z ∷ zs) zero (suc j) x y h = inr h
get_set (z ∷ zs) (suc i) zero x y h = inr h
get_set (z ∷ zs) (suc i) (suc j) x y h = get_set zs i j x y h

get_none : {A : Type 0} (n i : ℕ) (x : A) → slice_get (replicate n None) i ≡ Some (Some x) → ⊥
get_none zero i x h = absurd cc
get_none (suc n) zero x h = absurd cc
get_none (suc n) (suc i) x h = get_none n i x h

capacity_above : (n : ℕ) (factor : ℕ × ℕ) → 0 < n → n < capacity n factor
capacity_above n factor h = grind arith

-- each hash is of 64 bits, and each item has the property
abbrev pub AllPlaceable : {X : Type 0} → (X → Type 0) → List (ℕ × X) → Type 0
AllPlaceable P [] = Unit {0}
AllPlaceable P (y ∷ ys) = (y.0 < 2 ^ 64) × P y.1 × AllPlaceable P ys

module _ {X : Type 0} (P : X → Type 0) (cap : ℕ) (some : 0 < cap) where
  -- each item in the slots has the property
  abbrev AllIn : List (Option X) → Type 0
  AllIn slots = (i : ℕ) (x : X) → slice_get slots i ≡ Some (Some x) → P x

  place_all : (done others : List (ℕ × X)) (slots : List (Option X)) (controls : List ℕ) → ArePlaced cap done slots controls → AllIn slots → AllPlaceable P others → length done + length others < cap
      → (slots' : List (Option X)) × (controls' : List ℕ) × ArePlaced cap (done ++ others) slots' controls' × AllIn slots'
  place_all done [] slots controls placed items all room = (slots, controls, subst (λ (l : List (ℕ × X)). ArePlaced cap l slots controls) (sym (append-nil done)) placed, items)
  place_all done (y ∷ ys) slots controls placed items all room =
      let first = first_of_all y.0 cap controls placed.written.wrapped (placed_room cap done slots controls placed (omega arith)) in
      let b = first.1 % cap in
      let more = placed_more cap done slots controls y.0 b y.1 some placed all.0 first.5 in
      let items' : AllIn (set slots b (Some y.1)) = λ i x h. elim (get_set slots b i (Some y.1) (Some x) h) [
        | inl e ↦ subst P (same_Some y.1 x e) all.1
        | inr e ↦ items i x e
      ] in
      let r = place_all (done ++ (y ∷ [])) ys (set slots b (Some y.1)) (with_control controls cap b (tag y.0)) more items' all.2 (omega (arith, room, length_push done y)) in
      (r.0, r.1, subst (λ (l : List (ℕ × X)). ArePlaced cap l r.0 r.1) (append_assoc done (y ∷ []) ys) r.2, r.3)

  pub placed_from : (pairs : List (ℕ × X)) → AllPlaceable P pairs → length pairs < cap
      → (slots : List (Option X)) × (controls : List ℕ) × ArePlaced cap pairs slots controls × AllIn slots
  placed_from pairs all room = place_all [] pairs (replicate cap None) (fresh_controls cap) (placed_none cap some) (λ i x h. absurd (get_none cap i x h)) all (omega arith)

-- ---- lists of pairs

module _ {X R : Type 0} (limit : ℕ) (w : Width) (kind : IsArchiveWord w) (s : ElementSpec) (f : Format X R) (sized : (x : X) (r : R) (p : ℕ) (out : List ℕ) → f.image x r p out → length out ≡ s.size) (factor : ℕ × ℕ) where
  pub table_serialized : (pairs : List (ℕ × X)) → capacity (length pairs) factor < 2 ^ bits w → AllPlaceable (IsWritable limit f) pairs → CanSerialize limit (table_format w s f factor) pairs
  table_serialized [] fits all o =
      inl (o, resolver_of 0 factor 0, ([], none_appended o, record { len = refl; factor = refl; fits = fits; written = inl (refl, refl, refl) }, inl refl))
  table_serialized (y ∷ ys) fits all o =
      let pairs = y ∷ ys in
      let some : 0 < length pairs = omega arith in
      let room = capacity_above (length pairs) factor some in
      let p = placed_from (IsWritable limit f) (capacity (length pairs) factor) (omega (arith, room)) pairs all room in
      after_part (slots_outcome limit s f sized p.0 p.1 p.3 o)
      (λ o' e h. fails_under limit (PairsNext w s f factor pairs (end_of o)) (TableNext s f p.0 p.1 (end_of o)) o o' e (λ front step n. (p.0, p.1, (some, p.2), n)) h)
      (λ t. inl (t.0, resolver_of (length pairs) factor t.1, (t.2, t.3.0, record { len = refl; factor = refl; fits = fits; written = inr (p.0, p.1, (some, p.2), t.4) }, inr t.3.1)))

  one_fits : FitsSigned w (pos 1)
  one_fits = by_archive_word (λ v. FitsSigned v (pos 1)) (record { sfits = omega arith }) (record { sfits = omega arith }) w kind

  pub table_resolved : (pairs : List (ℕ × X)) → CanResolve (table_format w s f factor) pairs
  table_resolved pairs r p = elim (cases_eq r.len 0) [
    | inl none ↦ inl (header_bytes w (pos 1) r.len (resolved_capacity r), record { distance = pos 1; fits = one_fits; distance_value = inl (none, refl); is = refl })
    | inr some ↦ elim (fits_or_not w (pos r.pos -ℤ pos p)) [
      | inl fits ↦ inl (header_bytes w (pos r.pos -ℤ pos p) r.len (resolved_capacity r), record { distance = pos r.pos -ℤ pos p; fits = fits; distance_value = inr (omega arith, refl); is = refl })
      | inr unfit ↦ inr (omega arith, unfit)
    ]
  ]
