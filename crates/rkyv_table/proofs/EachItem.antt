-- Writes of all items of a table in place, one after the other.
use Rattle.std.proofs.Common.{◌≡◌, ℕ, ◌+◌, ◌-◌, ◌*◌, ◌∙◌, sym, ap, subst, subst₂, List, ◌∷◌, map}
use Rattle.std.specs.Borrow.{MutBor}
use Rattle.std.specs.Int.{Width, byte_len, from_le_bytes}
use Rattle.rkyv_base.specs.{AgreeOn, ElementSpec, Encoding, IsScalar, ModifiesOnly, StaysValid, Viewable, bytes_in, seal_pos, value_at}
use Rattle.rkyv_base.specs.declared.seal.Seal.{Seal}
use Rattle.rkyv_table.specs.{Computes, IsItemAt, IsSealIter, KeepsSeal, KeepsSeals, SameArchive, SealedBy, StaysThere, WritesInTurn, WritesOnce, YieldsBucket, cursor_buckets_left, item_at}
use Rattle.rkyv_table.specs.Lemmas.SameHeader.{pos_same}
use Rattle.rkyv_table.specs.declared.table.raw_iter_seal.RawIterSeal.{RawIterSeal}
use Rattle.rkyv_table.proofs.SealedItems.{cursor_kept}

-- the positions of the items that remain in a cursor
abbrev pub positions_left : {T : Type 0} → Width → ElementSpec → ℕ → RawIterSeal T → List ℕ
positions_left w s p r = map (item_at w s.size r.archive.now p) (cursor_buckets_left w p r)

-- a call with a seal of a valid value writes only the value, and keeps it valid
pub sealed_keeps : {F T : Type 0} (post : F → MutBor (Seal T) → Unit {0} → MutBor (Seal T) → Type 0) (s : ElementSpec) (write : F) (b c : List ℕ) (q : ℕ) → KeepsSeals post s write → Viewable s b q → SealedBy post write tt b q c
    → ModifiesOnly b q s.size c × StaysValid s b c q
sealed_keeps {F} {T} post s write b c q keeps viewable by =
    let x = by.given in
    let y = by.left in
    let at : Viewable s (bytes_in x.now) (seal_pos x.now) = subst₂ (Viewable s) (sym by.bytes) (sym by.pos) viewable in
    let k : KeepsSeal s x.now y.now = keeps x y at.inside at by.met in
    let same : bytes_in y.now ≡ c = by.leaves k.stays.same_reference in (
      subst₂ (λ n d. ModifiesOnly b n s.size d) by.pos same (subst (λ a. ModifiesOnly a (seal_pos x.now) s.size (bytes_in y.now)) by.bytes k.sealed),
      subst₂ (λ n d. StaysValid s b d n) by.pos same (subst (λ a. StaysValid s a (bytes_in y.now) (seal_pos x.now)) by.bytes k.is_valid),
    )

-- a step of a cursor that writes the item
module _ {T : Type 0} (w : Width) (s : ElementSpec) (p q : ℕ) (before stepped after : RawIterSeal T) (takes : YieldsBucket w s p before stepped q) (archive : SameArchive before stepped)
    (there : StaysThere stepped after) (sealed : ModifiesOnly stepped.archive.now q s.size after.archive.now) (keeps : StaysValid s stepped.archive.now after.archive.now q) where
  item : IsItemAt w s stepped.archive.now p takes.bucket q
  item = subst (λ (b : List ℕ). IsItemAt w s b p takes.bucket q) (sym archive.bytes) takes.item

  pub still_iter : IsSealIter w s p after
  still_iter = (cursor_kept w s p takes.bucket q stepped after takes.iter item there sealed keeps).1

  rest_same : positions_left w s p after ≡ map (item_at w s.size before.archive.now p) (cursor_buckets_left w p stepped)
  rest_same =
      let kept = cursor_kept w s p takes.bucket q stepped after takes.iter item there sealed keeps in
      ap (map (item_at w s.size after.archive.now p)) kept.2
      ∙ ap (λ n. map (λ i. n - (i + 1) * s.size) (cursor_buckets_left w p stepped)) (sym (pos_same w stepped.archive.now after.archive.now p kept.0.header))
      ∙ ap (λ b. map (item_at w s.size b p) (cursor_buckets_left w p stepped)) archive.bytes

  first_same : positions_left w s p before ≡ q ∷ map (item_at w s.size before.archive.now p) (cursor_buckets_left w p stepped)
  first_same =
      ap (map (item_at w s.size before.archive.now p)) takes.first
      ∙ ap (λ n. n ∷ map (item_at w s.size before.archive.now p) (cursor_buckets_left w p stepped)) (sym takes.item.pos)

  pub turn_taken : (Writes : List ℕ → ℕ → List ℕ → Type 0) (c : List ℕ) → Writes stepped.archive.now q after.archive.now → WritesInTurn Writes (positions_left w s p after) after.archive.now c → WritesInTurn Writes (positions_left w s p before) before.archive.now c
  turn_taken Writes c one rest =
      subst (λ (qs : List ℕ). WritesInTurn Writes qs before.archive.now c) (sym first_same)
      (after.archive.now, subst (λ (b : List ℕ). Writes b q after.archive.now) archive.bytes one, subst (λ (qs : List ℕ). WritesInTurn Writes qs after.archive.now c) rest_same rest)

-- a scalar that is written once has the value that the closure computes of the old one
module _ {N : Type 0} (s : ElementSpec) (e : Encoding N) (laws : IsScalar s e) where
  same_scalar : (b c : List ℕ) (q : ℕ) → AgreeOn b c q (q + s.size) → value_at e b q ≡ value_at e c q
  same_scalar b c q same =
      let fixed : AgreeOn b c q (q + byte_len e.word) = subst (λ n. AgreeOn b c q (q + n)) laws.size same in
      ap (λ xs. e.value (from_le_bytes e.word xs)) fixed

  pub once_computed : {F : Type 0} (post : F → MutBor (Seal N) → Unit {0} → MutBor (Seal N) → Type 0) (write : F) (f : N → N) (b c : List ℕ) (q : ℕ) → Computes post e write f
      → WritesOnce s (SealedBy post write tt) b q c → value_at e c q ≡ f (value_at e b q)
  once_computed post write f b c q computes once =
      let by = once.writes in
      let m = computes by.given by.left by.met in
      let done : bytes_in by.left.now ≡ once.after = by.leaves m.0.same_reference in
      sym (same_scalar once.after c q once.last.fixed)
      ∙ ap (λ d. value_at e d q) (sym done)
      ∙ ap (value_at e (bytes_in by.left.now)) (sym by.pos)
      ∙ m.1
      ∙ ap (λ n. f (value_at e (bytes_in by.given.now) n)) by.pos
      ∙ ap (λ d. f (value_at e d q)) by.bytes
      ∙ ap f (sym (same_scalar b once.before q once.first.fixed))
