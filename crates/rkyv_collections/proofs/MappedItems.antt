-- A table that is written from items is the table of the values that `model` returns for them.
use Rattle.std.proofs.Common.{◌≡◌, ℕ, suc, ◌+◌, ◌-◌, refl, ap, sym, subst, ◌∙◌, inl, inr, List, [], ◌∷◌, map, take, drop, length, slice_get, Option, Some, None, arith, rules}
use Rattle.std.proofs.lemmas.Grind.{common_steps}
use Rattle.std.specs.List.{drop-map, take-map}
use Rattle.std.specs.Option.{option_map}
use Rattle.std.specs.Int.{Width}
use Rattle.std.proofs.lemmas.List.{length-map}
use Rattle.std.proofs.lemmas.Option.{slice_get-map}
use Rattle.rkyv_base.specs.declared.errors.WriteError.{WriteError}
use Rattle.rkyv_base.specs.{ElementSpec, Format, Output, SerializeFails, Serialized, Step, end_of, written_as}
use Rattle.rkyv_base.specs.Lemmas.Writing.{fails_under}
use Rattle.rkyv_table.specs.{Above, AreInSlots, ArePlaced, BeforeBuckets, BucketNext, BucketOverflows, BucketStep, Filled, InBuckets, PairsNext, PartsNext, SlotImages, SlotParts, TableBytes, TableNext, TableParts, TableResolver, TableWritten, filled, hashes_of, items_of, table_format}
use Rattle.rkyv_table.proofs.Lists.{option_map_some}

-- the value of each item, under the hash of the item
abbrev pub mapped_pairs : {X Y : Type 0} → (X → Y) → List (ℕ × X) → List (ℕ × Y)
mapped_pairs model pairs = map (λ pair. (pair.0, model pair.1)) pairs

abbrev mapped_slots : {X Y : Type 0} → (X → Y) → List (Option X) → List (Option Y)
mapped_slots model slots = map (option_map model) slots

module _ {X Y : Type 0} (model : X → Y) where
  mapped_hashes : (pairs : List (ℕ × X)) → hashes_of (mapped_pairs model pairs) ≡ hashes_of pairs
  mapped_hashes [] = refl
  mapped_hashes (x ∷ xs) = ap (λ (t : List ℕ). x.0 ∷ t) (mapped_hashes xs)

  mapped_items : (pairs : List (ℕ × X)) → items_of (mapped_pairs model pairs) ≡ map model (items_of pairs)
  mapped_items [] = refl
  mapped_items (x ∷ xs) = ap (λ (t : List Y). model x.1 ∷ t) (mapped_items xs)

  mapped_filled : (slots : List (Option X)) → filled (mapped_slots model slots) ≡ filled slots
  mapped_filled [] = refl
  mapped_filled (None ∷ slots) = mapped_filled slots
  mapped_filled (Some x ∷ slots) = ap suc (mapped_filled slots)

  mapped_at : (slots : List (Option X)) (i : ℕ) (s : Option X) → slice_get slots i ≡ Some s → slice_get (mapped_slots model slots) i ≡ Some (option_map model s)
  mapped_at slots i s e = slice_get-map (option_map model) slots i ∙ ap (option_map (option_map model)) e

  module _ (cap : ℕ) (homes : List ℕ) where
    mapped_slotted : (items : List X) (slots : List (Option X)) → AreInSlots cap homes items slots → AreInSlots cap homes (map model items) (mapped_slots model slots)
    mapped_slotted items slots h = grind (arith, common_steps, length-map, mapped_filled, option_map_some, slice_get-map, mapped_at)

  mapped_placed : (cap : ℕ) (pairs : List (ℕ × X)) (slots : List (Option X)) (controls : List ℕ) → ArePlaced cap pairs slots controls
      → ArePlaced cap (mapped_pairs model pairs) (mapped_slots model slots) controls
  mapped_placed cap pairs slots controls h = grind (arith, common_steps, mapped_hashes pairs, mapped_items pairs, mapped_slotted cap h.homes (items_of pairs) slots h.slotted)

  mapped_inside : (factor : ℕ × ℕ) (pairs : List (ℕ × X)) (slots : List (Option X)) (controls : List ℕ) → InBuckets factor pairs slots controls
      → InBuckets factor (mapped_pairs model pairs) (mapped_slots model slots) controls
  mapped_inside factor pairs slots controls h = grind (arith, common_steps, length-map, mapped_placed)

module _ {X Y R : Type 0} (model : X → Y) (f : Format Y R) where
  mapped_parts : (slots : List (Option X)) (p : ℕ) (part : List ℕ) (rs : List R) → SlotParts (written_as model f) slots p part rs → SlotParts f (mapped_slots model slots) p part rs
  mapped_parts [] p part rs h = h
  mapped_parts (None ∷ slots) p part rs h = mapped_parts slots p part rs h
  mapped_parts (Some x ∷ slots) p part rs h = (h.0, h.1, h.2, h.3, h.4, mapped_parts slots (p + length h.0) h.2 h.3 h.5, h.6, h.7)

  front_parts : (slots : List (Option X)) (i p : ℕ) (part : List ℕ) (rs : List R) → SlotParts (written_as model f) (take i slots) p part rs
      → SlotParts f (take i (mapped_slots model slots)) p part rs
  front_parts slots i p part rs h =
      subst (λ (t : List (Option Y)). SlotParts f t p part rs) (sym (take-map (option_map model) i slots)) (mapped_parts (take i slots) p part rs h)

  module _ (slots : List (Option X)) (p : ℕ) where
    parts_next : (front : List ℕ) (step : Step) → PartsNext (written_as model f) slots p front step → PartsNext f (mapped_slots model slots) p front step
    parts_next front step h =
        (h.0, model h.1, h.2, h.3, h.4, mapped_at model slots h.0 (Some h.1) h.5, front_parts slots h.0 p h.2 h.3 h.6, h.7, h.8)

  module _ (size : ℕ) where
    mapped_images : (slots : List (Option X)) (rs : List R) (z : ℕ) (out : List ℕ) → SlotImages size (written_as model f) slots rs z out
        → SlotImages size f (mapped_slots model slots) rs z out
    mapped_images [] rs z out h = h
    mapped_images (None ∷ slots) rs z out h = (h.0, mapped_images slots rs (z - size) h.0 h.1, h.2)
    mapped_images (Some x ∷ slots) rs z out h = (h.0, h.1, h.2, h.3, h.4, h.5, mapped_images slots h.1 (z - size) h.2 h.6, h.7)

    mapped_bucket : (s : Option X) (left more : List R) (p : ℕ) (out : List ℕ) → Filled size (written_as model f) s left more p out
        → Filled size f (option_map model s) left more p out
    mapped_bucket found left more p out h = grind (arith, common_steps)

    mapped_overflows : (s : Option X) (left : List R) (p : ℕ) → BucketOverflows size (written_as model f) s left p → BucketOverflows size f (option_map model s) left p
    mapped_overflows found left p h = grind (arith, common_steps)

    mapped_step : (s : Option X) (left : List R) (p : ℕ) (step : Step) → BucketStep size (written_as model f) s left p step
        → BucketStep size f (option_map model s) left p step
    mapped_step s left p step h = grind (arith, common_steps, mapped_bucket, mapped_overflows)

    module _ (slots : List (Option X)) (rs : List R) (p : ℕ) where
      mapped_above : (i : ℕ) (left : List R) (front : List ℕ) → Above size (written_as model f) slots rs p i left front
          → Above size f (mapped_slots model slots) rs p i left front
      mapped_above i left front h = (
        h.0,
        h.1,
        subst (λ (t : List (Option Y)). SlotImages size f t h.0 (p + length front) front) (sym (drop-map (option_map model) (i + 1) slots))
            (mapped_images (drop (i + 1) slots) h.0 (p + length front) front h.2),
      )

      bucket_next : (front : List ℕ) (step : Step) → BucketNext size (written_as model f) slots rs p front step → BucketNext size f (mapped_slots model slots) rs p front step
      bucket_next front step h =
          (h.0, h.1, mapped_above h.0 h.1 front h.2, option_map model h.3, mapped_at model slots h.0 h.3 h.4, mapped_step h.3 h.1 (p + length front) step h.5)

  module _ (s : ElementSpec) (slots : List (Option X)) (controls : List ℕ) (p : ℕ) where
    mapped_bytes : (z : ℕ) (bytes : List ℕ) → TableBytes s (written_as model f) slots controls p z bytes → TableBytes s f (mapped_slots model slots) controls p z bytes
    mapped_bytes z bytes h = grind (arith, common_steps, mapped_parts, mapped_images, length-map)

    mapped_before : (a : List ℕ) (rs : List R) (front : List ℕ) → BeforeBuckets s (written_as model f) slots controls p a rs front
        → BeforeBuckets s f (mapped_slots model slots) controls p a rs front
    mapped_before a rs front h = (mapped_parts slots p a rs h.0, h.1)

    mapped_next : (front : List ℕ) (step : Step) → TableNext s (written_as model f) slots controls p front step → TableNext s f (mapped_slots model slots) controls p front step
    mapped_next front step (inl h) = inl (parts_next slots p front step h)
    mapped_next front step (inr (inl h)) = inr (inl (h.0, mapped_parts slots p front h.0 h.1, h.2))
    mapped_next front step (inr (inr (inl h))) =
        inr (inr (inl (h.0, h.1, h.2, h.3, mapped_before h.0 h.1 h.2 h.4, bucket_next s.size slots h.1 (p + length h.2) h.3 step h.5, h.6)))
    mapped_next front step (inr (inr (inr h))) =
        inr (inr (inr (h.0, h.1, h.2, h.3, mapped_before h.0 h.1 h.2 h.4, mapped_images s.size slots h.1 (p + length front) h.3 h.5, h.6, h.7)))

  module _ (w : Width) (s : ElementSpec) (factor : ℕ × ℕ) (pairs : List (ℕ × X)) (p : ℕ) where
    mapped_written : (z : ℕ) (part : List ℕ) → TableWritten w s (written_as model f) factor pairs p z part → TableWritten w s f factor (mapped_pairs model pairs) p z part
    mapped_written z part (inl h) = inl (ap (mapped_pairs model) h.0, h.1, h.2)
    mapped_written z part (inr h) = inr (mapped_slots model h.0, h.1, mapped_inside model factor pairs h.0 h.1 h.2, mapped_bytes s h.0 h.1 p z part h.3)

    pub mapped_table : (part : List ℕ) (r : TableResolver) → TableParts w s (written_as model f) factor pairs p part r → TableParts w s f factor (mapped_pairs model pairs) p part r
    mapped_table part r h = grind (arith, common_steps, mapped_written r.pos part h.written, length-map)

    pub mapped_pairs_next : (front : List ℕ) (step : Step) → PairsNext w s (written_as model f) factor pairs p front step → PairsNext w s f factor (mapped_pairs model pairs) p front step
    mapped_pairs_next front step h = (mapped_slots model h.0, h.1, mapped_inside model factor pairs h.0 h.1 h.2, mapped_next s h.0 h.1 p front step h.3)

  module _ (w : Width) (s : ElementSpec) (factor : ℕ × ℕ) (pairs : List (ℕ × X)) (o o' : Output) (limit : ℕ) where
    pub mapped_serialized : (r : TableResolver) → Serialized limit (table_format w s (written_as model f) factor) pairs o o' r
        → Serialized limit (table_format w s f factor) (mapped_pairs model pairs) o o' r
    mapped_serialized r h = (h.0, h.1, mapped_table w s factor pairs (end_of o) h.0 r h.2, h.3)

    pub mapped_fails : {F : Type 0} (e : WriteError F) → SerializeFails limit (table_format w s (written_as model f) factor) pairs o o' e
        → SerializeFails limit (table_format w s f factor) (mapped_pairs model pairs) o o' e
    mapped_fails e h = search (rules, fails_under, mapped_pairs_next)
