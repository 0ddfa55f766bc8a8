-- Several steps of a walk, whose items are stored one behind the other.
use Rattle.std.proofs.Common.{◌≡◌, ◌∙◌, ℕ, ◌+◌, ◌<◌, ◌≤◌, ◌++◌, ◌⊎◌, List, [], ◌∷◌, ap, arith, drop, inl, inr, length, refl, subst, sym, take, slice_set}
use Rattle.std.proofs.lemmas.List.{append-nil, append_assoc, drop-set-lt, length-set, length_push, take_all, take_at, take_more_set}
use Rattle.std.proofs.lemmas.Grind.{drop_more_same}
use Rattle.rkyv_collections.specs.{MapAt}
use Rattle.ffi_calls.specs.{AreItemsIn, IsItemIn, StoresNextItems, buckets_from}
use Rattle.ffi_calls.specs.declared.any_value.AnyItem.{AnyItem}
use Rattle.ffi_calls.specs.declared.any_value.AnyValue.{AnyValue}

module _ (m : MapAt) (key value : List ℕ → ℕ → AnyValue → Type 0) where
  -- after `n` steps from the bucket `from` on: the walk continues at `next`, and `now` begins with the items
  pub record Stepped (from : ℕ) (before : List AnyItem) (n next : ℕ) (now : List AnyItem) : Type 0 where
    pub same : length now ≡ length before
    pub visited : List ℕ
    pub left : buckets_from m from ≡ visited ++ buckets_from m next
    pub count : length visited ≡ n
    pub items : AreItemsIn m key value visited (take n now)
    pub rest : drop n now ≡ drop n before

  pub none_stepped : (from : ℕ) (before : List AnyItem) → Stepped from before 0 from before
  none_stepped from before = record { same = refl; visited = []; left = refl; count = refl; items = refl; rest = refl }

  one_more : (visited : List ℕ) (items : List AnyItem) (bucket : ℕ) (item : AnyItem) → AreItemsIn m key value visited items → IsItemIn m key value bucket item
      → AreItemsIn m key value (visited ++ (bucket ∷ [])) (items ++ (item ∷ []))
  one_more [] items bucket item e is = subst (λ xs. AreItemsIn m key value (bucket ∷ []) (xs ++ (item ∷ []))) (sym e) (is, refl)
  one_more (i ∷ visited) [] bucket item h is = absurd h
  one_more (i ∷ visited) (x ∷ items) bucket item h is = (h.0, one_more visited items bucket item h.1 is)

  pub one_stepped : (from : ℕ) (before : List AnyItem) (n next : ℕ) (item : AnyItem) (now : List AnyItem) (bucket : ℕ) → n < length before → Stepped from before n next now
      → buckets_from m next ≡ bucket ∷ buckets_from m (bucket + 1) → IsItemIn m key value bucket item → Stepped from before (n + 1) item.next (slice_set now n item)
  one_stepped from before n next item now bucket small s found is =
      let same = s.same in
      let fits : n < length now = omega arith in
      record {
        same = length-set now n item ∙ s.same;
        visited = s.visited ++ (bucket ∷ []);
        left = s.left ∙ ap (λ bs. s.visited ++ bs) (found ∙ ap (λ j. bucket ∷ buckets_from m j) (sym is.0)) ∙ sym (append_assoc s.visited (bucket ∷ []) (buckets_from m item.next));
        count = length_push s.visited bucket ∙ ap (λ k. k + 1) s.count;
        items = subst (AreItemsIn m key value (s.visited ++ (bucket ∷ []))) (sym (take_more_set now n item fits)) (one_more s.visited (take n now) bucket item s.items is);
        rest = drop-set-lt (n + 1) now n item (omega arith) ∙ drop_more_same now before n s.rest;
      }

  -- the buckets that were seen are the first ones, as many as there is room for
  reached_all : (from : ℕ) (before : List AnyItem) (n next : ℕ) (now : List AnyItem) → n ≤ length before → (s : Stepped from before n next now) → (buckets_from m next ≡ []) ⊎ (n ≡ length before)
      → take (length before) (buckets_from m from) ≡ s.visited
  reached_all from before n next now few s (inl none) =
      let all : buckets_from m from ≡ s.visited = s.left ∙ ap (λ bs. s.visited ++ bs) none ∙ append-nil s.visited in
      let count = s.count in
      subst (λ bs. take (length before) bs ≡ s.visited) (sym all) (take_all (length before) s.visited (omega arith))
  reached_all from before n next now few s (inr full) = subst (λ bs. take (length before) bs ≡ s.visited) (sym s.left) (take_at s.visited (buckets_from m next) (length before) (s.count ∙ full))

  pub all_stepped : (from : ℕ) (before : List AnyItem) (n next : ℕ) (now : List AnyItem) → n ≤ length before → Stepped from before n next now → (buckets_from m next ≡ []) ⊎ (n ≡ length before)
      → StoresNextItems m key value from before n now
  all_stepped from before n next now few s end =
      let reached : take (length before) (buckets_from m from) ≡ s.visited = reached_all from before n next now few s end in
      (sym s.count ∙ ap length (sym reached), subst (λ bs. AreItemsIn m key value bs (take n now)) (sym reached) s.items, s.rest)
