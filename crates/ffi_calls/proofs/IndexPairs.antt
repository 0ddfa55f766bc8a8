-- The items of an index map at their indices, and the items of the list that it represents.
use Rattle.std.proofs.Common.{◌≡◌, ◌∙◌, ℕ, ◌+◌, ◌-◌, ◌<◌, List, Some, ap, arith, drop, length, min, refl, slice_set}
use Rattle.std.specs.Prelude.{slice_get}
use Rattle.std.proofs.lemmas.Grind.{drop_more_same}
use Rattle.std.proofs.lemmas.List.{drop-set-lt, length-set}
use Rattle.rkyv_table.proofs.Lists.{set_each}
use Rattle.rkyv_keys.specs.{NativePairs}
use Rattle.rkyv_collections.specs.{MapAt}
use Rattle.ffi_calls.specs.{Agrees, IsIndexItem, StoresItemsFrom, StoresListed, pair_pos_at, value_pos_at}
use Rattle.ffi_calls.specs.declared.any_value.AnyItem.{AnyItem}
use Rattle.ffi_calls.specs.declared.any_value.AnyValue.{AnyValue}

module _ (m : MapAt) (key value : List ℕ → ℕ → AnyValue → Type 0) where
  -- the first `n` items of `now` are the map's from index `from` on, and the others are as in `before`
  pub record Stored (from : ℕ) (before : List AnyItem) (n : ℕ) (now : List AnyItem) : Type 0 where
    pub same : length now ≡ length before
    pub items : (i : ℕ) (item : AnyItem) → i < n → slice_get now i ≡ Some item → IsIndexItem m key value (from + i) item
    pub rest : drop n now ≡ drop n before

  pub none_stored : (from : ℕ) (before : List AnyItem) → Stored from before 0 before
  none_stored from before = record { same = refl; items = λ i item small e. absurd (omega (arith, small)); rest = refl }

  pub one_stored : (from : ℕ) (before : List AnyItem) (n : ℕ) (now : List AnyItem) (item : AnyItem) → n < length before → Stored from before n now → IsIndexItem m key value (from + n) item
      → Stored from before (n + 1) (slice_set now n item)
  one_stored from before n now item small s is =
      let same = s.same in
      let fits : n < length now = omega (arith, small, same) in
      let IsStored : ℕ → AnyItem → Type 0 = λ j x. j < n + 1 → IsIndexItem m key value (from + j) x in
      record {
        same = length-set now n item ∙ s.same;
        items = λ i x few e. set_each IsStored now n item fits (λ _. is) (λ j y there other some. s.items j y (omega (arith, some, other)) there) i x e few;
        rest = drop-set-lt (n + 1) now n item (omega arith) ∙ drop_more_same now before n s.rest;
      }

-- items that are read from an index on are the items of the list that the map represents
module _ {A B : Type 0} (m : MapAt) (native : NativePairs A B) (key value : List ℕ → ℕ → AnyValue → Type 0) (is_key : AnyValue → A → Type 0) (is_value : AnyValue → B → Type 0)
    (keys : Agrees key native.key is_key) (values : Agrees value native.value is_value) where
  pub stores_listed : (from : ℕ) (before : List AnyItem) (count : ℕ) (after : List AnyItem) → StoresItemsFrom m key value from before count after
      → StoresListed m native is_key is_value from before count after
  stores_listed from before count after stores factor pairs represents = (
    stores.number ∙ ap (λ n. min (length before) (n - from)) represents.len,
    (λ i pair item few there listed.
        let read = stores.items i item few there in
        let native_there = represents.at (from + i) pair listed in
        let b = m.bytes in
        (keys b (pair_pos_at m (from + i)) item.key pair.0 read.1 native_there.0, values b (value_pos_at m (from + i)) item.value pair.1 read.2 native_there.1)),
  )
