-- Lemmas: a value found at a view is the one that the bytes there represent.
use Rattle.std.specs.Prelude.{◌≡◌, ℕ, List, None, Some}
use Rattle.std.proofs.Common.{ap, refl, arith}
use Rattle.std.proofs.lemmas.Grind.{common_steps}
use Rattle.std.specs.Borrow.{Bor}
use Rattle.std.specs.Int.{Width}
use Rattle.rkyv_base.specs.{AtView, Encoding, IsAt, ScalarRepresents}
use Rattle.rkyv_base.specs.declared.view.View.{View}
use Rattle.rkyv_keys.specs.{FindsByView, found_scalars, found_texts, found_views}

pub view_by_view : {V B : Type 0} (represents : List ℕ → ℕ → B → Type 0)
    → FindsByView (found_views {V = V} represents)
view_by_view represents None None h = refl
view_by_view represents (Some view) (Some value) h = (value, refl, h)
view_by_view represents None (Some value) h = absurd h
view_by_view represents (Some view) None h = absurd h

pub scalar_by_view : {N : Type 0} (e : Encoding N) → FindsByView (found_scalars e)
scalar_by_view e None None h = refl
scalar_by_view e (Some view) (Some value) h = ap Some h
scalar_by_view e None (Some value) h = absurd h
scalar_by_view e (Some view) None h = absurd h

pub text_by_view : {T : Type 0} (w : Width) → FindsByView (found_texts {T = T} w)
text_by_view w None None h = refl
text_by_view w (Some view) (Some value) h = ap Some h
text_by_view w None (Some value) h = absurd h
text_by_view w (Some view) None h = absurd h

-- a scalar that is read at a view is the one that the bytes there represent
pub scalar_read : {N : Type 0} (e : Encoding N) (view : View N) (archive : Bor (List ℕ)) (p : ℕ)
    (read value : N) → IsAt view archive p → AtView (ScalarRepresents e) view read
    → ScalarRepresents e archive.now p value → read ≡ value
scalar_read e view archive p read value at is represents = grind (arith, common_steps)
