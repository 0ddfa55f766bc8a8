-- Calls of a closure with the bytes of an archive and a position.
use Rattle.std.specs.Prelude.{◌≡◌, ℕ, List}
use Rattle.std.specs.Borrow.{MutBor}

-- the closure `write` can be called with the bytes `b` and the position `p`
abbrev pub MayWrite : {F : Type 0} → (F → MutBor (List ℕ) → ℕ → Type 0) → F → List ℕ → ℕ → Type 0
MayWrite pre write b p = (argument : MutBor (List ℕ)) → argument.now ≡ b → pre write argument p

-- `c`: bytes that the closure `write` leaves after a call with the bytes `b` and the position `p`
pub record Wrote {F R : Type 0} (post : F → MutBor (List ℕ) → ℕ → R → MutBor (List ℕ) → Type 0)
    (write : F) (result : R) (b : List ℕ) (p : ℕ) (c : List ℕ) : Type 0 where
  pub argument : MutBor (List ℕ)
  pub left : MutBor (List ℕ)
  pub bytes : argument.now ≡ b
  pub leaves : left.now ≡ c
  pub returned : post write argument p result left
