-- Lemmas: laws of native keys and queries on written keys.
use Rattle.std.specs.Prelude.{◌≡◌, ℕ, ◌≤◌, Bool, true, List}
use Rattle.std.proofs.Common.{sym, ◌∙◌, arith}
use Rattle.std.proofs.lemmas.Grind.{common_steps}
use Rattle.std.proofs.lemmas.Bool.Decides.{same_from_decides}
use Rattle.rkyv_scan.specs.{Hasher, HasherCall}
use Rattle.rkyv_base.specs.{ElementSpec, IsElement, ValidAt}
use Rattle.rkyv_keys.specs.{Comparison, FitsByValue, FitsItsEqual, HashLocal, HashesAsWritten}
use Rattle.rkyv_keys.specs.{IsEquivalence, IsKey, IsQuery, RepresentsUniquely, RestsOnKeys, hash_at}

-- the hash of a key depends only on the bytes on which the validity of the key depends
pub hash_local : {State : Type 0} (hasher : Hasher State) {k : ElementSpec} {same : Comparison}
    {calls : List ℕ → ℕ → List HasherCall} → IsKey k same calls → HashLocal k (hash_at hasher calls)
hash_local hasher key b c q lo hi l o is_valid fixed part = grind (arith, common_steps)

module _ {V : Type 0} (s : ElementSpec) (same : Comparison) (key_calls : List ℕ → ℕ
    → List HasherCall)
    (calls : V → List HasherCall) (fits : V → List ℕ → ℕ → Bool)
    (represents : List ℕ → ℕ → V → Type 0) (equal : V → V → Bool) (itself : (v : V)
    → equal v v ≡ true)
    (query : IsQuery s same key_calls calls fits)
    (native : FitsItsEqual s represents equal fits) where
  fits_written : (v : V) (b : List ℕ) (p : ℕ) → ValidAt s b p → represents b p v → fits v b p ≡ true
  fits_written v b p h st = native v v b p h st ∙ itself v

  pub hashes_as_written : HashesAsWritten s represents key_calls calls
  hashes_as_written v b p h st = query.same_calls v b p h (fits_written v b p h st)

  -- two keys that represent one value are the same
  pub same_written : (v : V) (b c : List ℕ) (p r : ℕ) → ValidAt s b p → ValidAt s c r
      → represents b p v → represents c r v → same b p c r ≡ true
  same_written v b c p r h g st tt' = grind (arith, common_steps, fits_written)

  module _ {Q : Type 0} (q_calls : Q → List HasherCall) (q_fits : Q → List ℕ
      → ℕ → Bool)
      (laws : IsQuery s same key_calls q_calls q_fits)
      (equivalence : IsEquivalence s same) where
    pub fits_by_value : FitsByValue s represents q_fits
    fits_by_value q v b c p r h g st st' =
        grind (arith, common_steps, same_written, same_from_decides)

-- the native values that one key represents are equal
pub native_once : {V : Type 0} (s : ElementSpec) (represents : List ℕ → ℕ → V → Type 0)
    (equal : V → V → Bool) (fits : V → List ℕ → ℕ → Bool) → FitsItsEqual s represents equal fits
    → ((v : V) → equal v v ≡ true) → RepresentsUniquely s represents equal
native_once s represents equal fits native itself v x b p h st st' = sym (native v x b p h st')
    ∙ native v v b p h st ∙ itself v

-- a value whose parts are in a range before it is valid
valid_before : {s : ElementSpec} → IsElement s → (b : List ℕ) (p lo hi l : ℕ) → lo ≤ hi → hi ≤ p
    → s.is_valid b p lo hi l → ValidAt s b p
valid_before laws b p lo hi l o before h =
    let t = laws.lower_lo b p lo 0 p l (omega arith) (omega arith)
    (laws.widen_hi b p lo hi p l before h) in
    (t.0, t.1)

-- a query depends on the keys alone, since a copy of a key is the same as the key
pub rests_on_keys : {Q : Type 0} {s : ElementSpec} {same : Comparison}
    {key_calls : List ℕ → ℕ → List HasherCall} {calls : Q → List HasherCall}
    {fits : Q → List ℕ → ℕ → Bool} → IsElement s → IsEquivalence s same → IsKey s same key_calls
    → IsQuery s same key_calls calls fits → RestsOnKeys s fits
rests_on_keys {s = s} {same = same} {fits = fits} laws equivalence key query q b c p lo hi l o
    before h fixed part =
    let st : ValidAt s b p = valid_before laws b p lo hi l o before h in
    let st' : ValidAt s c p = valid_before laws c p lo hi l o before
    (laws.local b c p lo hi l o fixed part h) in
    let there : same b p c p ≡ true = key.copied b c p lo hi l o h fixed part in
    let back : same c p b p ≡ true = equivalence.symmetric b c p p st st' there in
    same_from_decides (fits q c p) (fits q b p) (
      λ x. query.respects_same q c b p p st' st x ∙ back,
      λ x. query.respects_same q b c p p st st' x ∙ there,
    )
    (λ x. x, λ x. x)
