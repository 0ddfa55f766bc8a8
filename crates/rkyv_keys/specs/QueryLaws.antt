-- Laws of native keys and queries on written keys.
use Rattle.std.specs.Prelude.{◌≡◌, ℕ, ◌+◌, ◌≤◌, Bool, List}
use Rattle.rkyv_scan.specs.{HasherCall}
use Rattle.rkyv_base.specs.{AgreeOn, ElementSpec, ValidAt}

-- a native key makes the calls of each archived key that represents it
abbrev pub HashesAsWritten : {V : Type 0} → ElementSpec → (List ℕ → ℕ → V → Type 0)
    → (List ℕ → ℕ → List HasherCall) → (V → List HasherCall) → Type 0
HashesAsWritten {V = V} s represents key_calls calls =
    (v : V) (b : List ℕ) (p : ℕ) → ValidAt s b p → represents b p v
    → calls v ≡ key_calls b p

-- a query fits both of two keys that represent one value, or neither
abbrev pub FitsByValue : {V Q : Type 0} → ElementSpec → (List ℕ → ℕ → V → Type 0)
    → (Q → List ℕ → ℕ → Bool) → Type 0
FitsByValue {V = V} {Q = Q} s represents fits =
    (q : Q) (v : V) (b c : List ℕ) (p r : ℕ) → ValidAt s b p
    → ValidAt s c r → represents b p v → represents c r v → fits q b p ≡ fits q c r

-- whether a query fits a key depends only on the bytes of the key and on those of its parts
abbrev pub RestsOnKeys : {Q : Type 0} → ElementSpec → (Q → List ℕ → ℕ → Bool) → Type 0
RestsOnKeys {Q = Q} s fits =
    (q : Q) (b c : List ℕ) (p lo hi l : ℕ) → lo ≤ hi → hi ≤ p
    → s.is_valid b p lo hi l
    → AgreeOn b c p (p + s.size)
    → AgreeOn b c lo l → fits q c p ≡ fits q b p

-- the hash of a key depends only on the bytes on which the validity of the key depends
abbrev pub HashLocal : ElementSpec → (List ℕ → ℕ → ℕ) → Type 0
HashLocal k hash = (b c : List ℕ) (q lo hi l : ℕ) → lo ≤ hi → k.is_valid b q lo hi l
    → AgreeOn b c q (q + k.size) → AgreeOn b c lo l → hash b q ≡ hash c q

-- a valid key that represents a value has the hash of the value
abbrev pub HashesAlike : {A : Type 0} → ElementSpec → (List ℕ → ℕ → A → Type 0) → (List ℕ → ℕ → ℕ)
    → (A → ℕ) → Type 0
HashesAlike {A = A} k key hash own =
    (a : A) (b : List ℕ) (q : ℕ) → ValidAt k b q → key b q a → own a ≡ hash b q
