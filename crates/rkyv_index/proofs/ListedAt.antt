-- The pair at an index of an index map that represents a list, and the key at an index of an index set.
use Rattle.std.proofs.Common.{◌≡◌, ◌∙◌, ◌≤◌, ℕ, List, None, Option, Some, ap, arith, length, sym}
use Rattle.std.specs.Option.{option_map}
use Rattle.std.specs.Prelude.{MatchOption, slice_get}
use Rattle.std.proofs.lemmas.List.{length-map}
use Rattle.std.proofs.lemmas.Option.{slice_get-map, slice_get_past}
use Rattle.rkyv_base.specs.{AtView, unit_represents, unit_spec}
use Rattle.rkyv_base.specs.declared.element.HasSpec.{Ghosts as Specs}
use Rattle.rkyv_base.specs.declared.view.View.{View}
use Rattle.rkyv_base.specs.declared.width.Word.{Ghosts as Words}
use Rattle.rkyv_keys.specs.{NativePairs}
use Rattle.rkyv_table.specs.{with_units}
use Rattle.rkyv_table.proofs.Moved.{moved}
use Rattle.rkyv_table.specs.Lemmas.SlotWalk.{item_below}
use Rattle.rkyv_index.specs.{IndexRepresents, IsKeyOf, IsPairOf, IsValueOf, ItemsAtAreListed, PairsAtAreListed, index_bytes, index_len, index_pos, keys_of}
use Rattle.rkyv_index.specs.declared.map.ArchivedIndexMap.{ArchivedIndexMap}

module _ {A B K V H W : Type 0} {ks : Specs K} {vs : Specs V} {wt : Words W} (m : ArchivedIndexMap K V H W ks vs wt) (key : List ℕ → ℕ → A → Type 0) (value : List ℕ → ℕ → B → Type 0) (hash : List ℕ → ℕ → ℕ) (factor : ℕ × ℕ) (pairs : List (A × B))
    (represents : IndexRepresents wt.word ks.spec vs.spec key value hash factor (index_bytes m) (index_pos m) pairs) (index : ℕ) where
  key_at_index : (view : View K) (pair : A × B) → IsKeyOf m index view → slice_get pairs index ≡ Some pair → AtView key view pair.0
  key_at_index view pair is at = moved (λ b q. key b q pair.0) _ _ _ _ (sym (ap (λ a. a.now) is.at.0)) (sym is.at.1) (represents.at index pair at).0

  value_at_index : (view : View V) (pair : A × B) → IsValueOf m index view → slice_get pairs index ≡ Some pair → AtView value view pair.1
  value_at_index view pair is at = moved (λ b q. value b q pair.1) _ _ _ _ (sym (ap (λ a. a.now) is.at.0)) (sym is.at.1) (represents.at index pair at).1

  pair_at_index : (found : Option (View K × View V)) → MatchOption found (index_len m ≤ index) (IsPairOf m index)
      → MatchOption found (slice_get pairs index ≡ None) (λ views. (pair : A × B) × (slice_get pairs index ≡ Some pair) × AtView key views.0 pair.0 × AtView value views.1 pair.1)
  pair_at_index None past = slice_get_past pairs index (omega (arith, past, represents.len))
  pair_at_index (Some views) is =
      let x = item_below pairs index (omega (arith, is.0.below, represents.len)) in
      (x.0, x.1, key_at_index views.0 x.0 is.0 x.1, value_at_index views.1 x.0 is.1 x.1)

-- the keys of an index map to the unit value
module _ {A K U H W : Type 0} {ks : Specs K} {us : Specs U} {wt : Words W} (m : ArchivedIndexMap K U H W ks us wt) (key : List ℕ → ℕ → A → Type 0) (hash : List ℕ → ℕ → ℕ) (factor : ℕ × ℕ) (items : List A)
    (represents : IndexRepresents wt.word ks.spec us.spec key unit_represents hash factor (index_bytes m) (index_pos m) (with_units items)) (index : ℕ) where
  abbrev paired : A → A × Unit {0}
  paired x = (x, tt)

  item_len : index_len m ≡ length items
  item_len = represents.len ∙ length-map items paired

  unit_at_index : (x : A) → slice_get items index ≡ Some x → slice_get (with_units items) index ≡ Some (x, tt)
  unit_at_index x at = slice_get-map paired items index ∙ ap (option_map paired) at

  item_at_index : (found : Option (View K)) → MatchOption found (index_len m ≤ index) (IsKeyOf m index)
      → MatchOption found (slice_get items index ≡ None) (λ view. (item : A) × (slice_get items index ≡ Some item) × AtView key view item)
  item_at_index None past = slice_get_past items index (omega (arith, past, item_len))
  item_at_index (Some view) is =
      let x = item_below items index (omega (arith, is.below, item_len)) in
      (x.0, x.1, key_at_index m key unit_represents hash factor (with_units items) represents index view (x.0, tt) is (unit_at_index x.0 x.1))

pub pairs_at : {A B K V W : Type 0} (H : Type 0) (wt : Words W) (ks : Specs K) (vs : Specs V) (native : NativePairs A B) → PairsAtAreListed H wt ks vs native
pairs_at H wt ks vs native = λ map header archive p factor pairs index found view at is.
    let bytes : index_bytes map ≡ archive.now = ap (λ a. a.now) (ap (λ (v : View _). v.archive) view ∙ at.0) in
    let pos : index_pos map ≡ p = ap (λ (v : View _). v.pos) view ∙ at.1 in
    let represents = moved (λ b q. IndexRepresents wt.word ks.spec vs.spec native.key native.value native.key_hash factor b q pairs) _ _ _ _ (sym bytes) (sym pos) is in
    pair_at_index map native.key native.value native.key_hash factor pairs represents index found

pub items_at : {A K W : Type 0} (H : Type 0) (wt : Words W) (ks : Specs K) (key : List ℕ → ℕ → A → Type 0) (key_hash : List ℕ → ℕ → ℕ) → ItemsAtAreListed H wt ks key key_hash
items_at H wt ks key key_hash = λ set header archive p factor items index found there at is.
    let m = keys_of set in
    let bytes : index_bytes m ≡ archive.now = ap (λ a. a.now) (there.0 ∙ at.0) in
    let pos : index_pos m ≡ p = there.1 ∙ at.1 in
    let represents = moved (λ b q. IndexRepresents wt.word ks.spec unit_spec key unit_represents key_hash factor b q (with_units items)) _ _ _ _ (sym bytes) (sym pos) is in
    item_at_index m key key_hash factor items represents index found
