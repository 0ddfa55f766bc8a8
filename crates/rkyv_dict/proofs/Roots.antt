-- The root of an archive of a map, and its values.
use Rattle.std.proofs.Common.{arith, ◌≡◌, ℕ, ◌+◌, List, Option, IfSome}
use Rattle.std.proofs.lemmas.Grind.{common_steps}
use Rattle.std.specs.Borrow.{Bor}
use Rattle.std.specs.Option.{option_map}
use Rattle.rkyv_base.specs.{IsAt, IsValidArchive, Viewable, bytes_of, pos_of, pos_of_found}
use Rattle.rkyv_base.specs.Lemmas.Access.{root_viewable}
use Rattle.rkyv_base.specs.declared.view.View.{View}
use Rattle.rkyv_keys.specs.{at_view}
use Rattle.rkyv_dict.specs.{IsMapArchive, MapTypes, header_spec, root}

module _ (k : MapTypes) (b : List ℕ) where
  pub accepted : IsMapArchive k b → IsValidArchive k.limit (header_spec k) b
  unfolding IsMapArchive
  accepted h = h

  pub map_root_viewable : IsMapArchive k b → Viewable (header_spec k) b (root k b)
  map_root_viewable h = root_viewable k.limit (header_spec k) b (accepted h)

-- the text of a value that may be found, by the position of the map's view
pub text_read : {T V : Type 0} (text : List ℕ → ℕ → List ℕ) (off : ℕ) (v : View T) (archive : Bor (List ℕ)) (p : ℕ) → IsAt v archive p
    → (value : Option (View V)) → IfSome value (λ x. x.archive ≡ v.archive) → (key_pos : List ℕ → ℕ → Option ℕ)
    → pos_of_found value ≡ option_map (λ q. q + off) (key_pos (bytes_of v) (pos_of v)) → option_map (at_view text) value ≡ option_map (λ q. text archive.now (q + off)) (key_pos archive.now p)
text_read text off v archive p at value same key_pos e = grind (arith, common_steps)
