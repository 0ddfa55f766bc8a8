-- A key in an archive, as a query for keys of other archives, and the view of a shown value.
use Rattle.std.specs.Prelude.{◌≡◌, ℕ, Bool, List}
use Rattle.rkyv_scan.specs.{HasherCall}
use Rattle.rkyv_base.specs.{bytes_of, pos_of}
use Rattle.rkyv_base.specs.declared.element.HasSpec.{Ghosts as Specs}
use Rattle.rkyv_base.specs.declared.view.View.{View}
use Rattle.rkyv_keys.specs.AtViews.{at_view}
use Rattle.rkyv_keys.specs.Equality.{Comparison}
use Rattle.rkyv_keys.specs.declared.debug.Shown.{Shown}
use Rattle.rkyv_keys.specs.declared.views.KeyView.{KeyView}

-- the view of the value that is shown
abbrev pub shown_view : {T : Type 0} → Shown T → View T
shown_view shown = shown.view

module _ {K : Type 0} {ks : Specs K} where
  -- the view of the key
  abbrev pub key_view : KeyView K ks → View K
  key_view key = key.view

  -- the hasher calls of the key
  abbrev pub view_calls : (List ℕ → ℕ → List HasherCall) → KeyView K ks → List HasherCall
  view_calls calls key = at_view calls key.view

  -- the key at position `p` is the same as `key`
  abbrev pub view_fits : Comparison → KeyView K ks → List ℕ → ℕ → Bool
  view_fits same key b p = same (bytes_of key.view) (pos_of key.view) b p

  -- a key matches, by `fits`, the keys that are the same
  abbrev pub FitsSameKeys : Comparison → (KeyView K ks → List ℕ → ℕ → Bool) → Type 0
  FitsSameKeys same fits = (key : KeyView K ks) (b : List ℕ) (p : ℕ)
      → fits key b p ≡ view_fits same key b p
