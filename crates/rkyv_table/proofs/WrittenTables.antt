-- A table that represents items was written from them.
use Rattle.std.proofs.Common.{◌≡◌, ◌≢◌, ℕ, ◌^◌, ◌<◌, ap, refl, sym, subst, ◌∙◌, arith, inl, inr, List, [], ◌∷◌, length, slice_get, slice_index, Some, pos}
use Rattle.std.specs.Int.{Width}
use Rattle.std.proofs.lemmas.Bool.{cases_lt}
use Rattle.std.proofs.lemmas.List.{length-map}
use Rattle.std.proofs.lemmas.Option.{slice_get_within}
use Rattle.rkyv_base.specs.{ElementSpec}
use Rattle.rkyv_table.specs.{BucketsRepresent, IsWalked, IsWrittenOf, RepresentedWereWritten, TableRepresents, WrittenAt, bucket_at, cap_at, capacity, decode_begin, hashes_of, home_positions, items_of, table_controls}
pub use Rattle.rkyv_table.specs.Lemmas.Homes.{home_count, home_pos}
use Rattle.rkyv_table.specs.Lemmas.ItemPositions.{decoded_controls, decoded_item}
use Rattle.rkyv_table.specs.Lemmas.TableSound.{capacity_above}
use Rattle.rkyv_table.proofs.WrittenAccepted.{homes_apart}
use Rattle.rkyv_table.proofs.WrittenStep.{home_below}

module _ (w : Width) (b : List ℕ) (p : ℕ) (hashes homes : List ℕ) (written : WrittenAt w b p hashes homes) where
  -- no two items have one home bucket
  pub homes_differ : (i j : ℕ) → i < length homes → j < length homes → i ≢ j → slice_index homes i ≢ slice_index homes j
  homes_differ i j inside below ne e = elim written.placed [
    | inl none ↦ absurd (omega (arith, below, ap length none.1))
    | inr some ↦ elim (cases_lt i j) [
      | inl less ↦ homes_apart (cap_at w b p) hashes homes some.1.placed i j less below e
      | inr more ↦ homes_apart (cap_at w b p) hashes homes some.1.placed j i (omega (arith, ne)) inside (sym e)
    ]
  ]

  -- each home bucket has an item
  pub home_walked : (i : ℕ) → i < length homes → IsWalked w b p (slice_index homes i)
  home_walked i below = elim written.placed [
    | inl none ↦ absurd (omega (arith, below, ap length none.1))
    | inr some ↦
        let n : i < length hashes = omega (arith, below, home_count w b p hashes homes written) in
        let tag = some.1.tags i n in
        let small : slice_index hashes i < 2 ^ 64 = written.fit i 0 n in
        (home_below (cap_at w b p) hashes homes (table_controls w b p) i (omega (arith, some.0)) some.1 n, omega (arith, tag, small))
  ]

module _ {X : Type 0} (w : Width) (s : ElementSpec) (represents : List ℕ → ℕ → X → Type 0) (factor : ℕ × ℕ) (c : List ℕ) (p : ℕ) where
  none_written : TableRepresents w s represents factor c p [] → IsWrittenOf w s.size represents c p []
  none_written t = record {
    homes = [];
    written = record { count = t.len; fit = λ i d below. absurd (omega (arith, below)); placed = inl (refl, refl) };
    at = λ i x e. absurd cc;
  }

  module _ (pairs : List (ℕ × X)) (t : TableRepresents w s represents factor c p pairs) (some : 0 < length pairs) where
    buckets : (begin : ℕ) × (pos begin ≡ decode_begin w s.size c p) × BucketsRepresent s.size represents c (capacity (length pairs) factor) begin pairs
    buckets = t.buckets some

    abbrev homes : List ℕ
    homes = buckets.2.homes

    written : WrittenAt w c p (hashes_of pairs) homes
    written = grind (arith, capacity_above, length-map, buckets, decoded_controls)

    item_there : (i : ℕ) (x : X) → slice_get (items_of pairs) i ≡ Some x → represents c (slice_index (home_positions w s.size c p homes) i) x
    item_there i x e =
        let inside = slice_get_within (items_of pairs) i x e in
        let hashes = length-map pairs (λ (y : ℕ × X). y.0) in
        let items = length-map pairs (λ (y : ℕ × X). y.1) in
        let below : i < length homes = omega (arith, inside, hashes, items, home_count w c p (hashes_of pairs) homes written) in
        let walked = home_walked w c p (hashes_of pairs) homes written i below in
        let at = decoded_item w s.size c p buckets.0 buckets.1 (slice_index homes i) walked.0 in
        subst (λ q. represents c q x)
        (ap (λ n. bucket_at s.size buckets.0 n (slice_index homes i)) (sym t.cap) ∙ sym at ∙ sym (home_pos w s.size c p homes i below)) (buckets.2.items i x e)

    some_written : IsWrittenOf w s.size represents c p pairs
    some_written = record { homes = homes; written = written; at = item_there }

-- a table that represents items was written from them
pub table_written : {X : Type 0} (w : Width) (s : ElementSpec) (represents : List ℕ → ℕ → X → Type 0) (factor : ℕ × ℕ) → RepresentedWereWritten w s represents factor
table_written w s represents factor c p [] t = none_written w s represents factor c p t
table_written w s represents factor c p (x ∷ xs) t = some_written w s represents factor c p (x ∷ xs) t (omega arith)
