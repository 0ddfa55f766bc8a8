-- Functions of a position, at the position of a view.
use Rattle.std.specs.Prelude.{ℕ, List}
use Rattle.rkyv_base.specs.declared.view.View.{View}
use Rattle.rkyv_base.specs.{bytes_of, pos_of}

-- the function `f` at the bytes and the position of the view `v`
abbrev pub at_view : {T X : Type 0} → (List ℕ → ℕ → X) → View T → X
at_view f v = f (bytes_of v) (pos_of v)

-- the function `f` at the bytes and the positions of two views
abbrev pub at_views : {T X : Type 0} → (List ℕ → ℕ → List ℕ → ℕ → X) → View T → View T → X
at_views f v w = f (bytes_of v) (pos_of v) (bytes_of w) (pos_of w)
