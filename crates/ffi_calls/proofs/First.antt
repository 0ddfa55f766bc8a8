-- The results for the first pair of a list whose key passes the test.
use Rattle.rkyv_base.specs.declared.element.HasSpec.{Ghosts as Specs}
use Rattle.rkyv_base.specs.declared.width.Word.{Ghosts as Words}
use mir.Val.{bits}
use Rattle.std.proofs.Common.{◌≡◌, ◌∙◌, ℕ, ◌-◌, ◌<◌, ◌^◌, Bool, List, None, Option, Some, ap, false, inr, length, refl, subst, sym, true}
use Rattle.std.specs.Option.{is_some}
use Rattle.std.specs.Borrow.{Bor}
use Rattle.std.specs.Prelude.{IfSome, MatchOption}
use Rattle.std.proofs.lemmas.Option.{same_Some}
use Rattle.rkyv_base.specs.{Encoding, pos_of_found}
use Rattle.rkyv_base.specs.declared.view.View.{View}
use Rattle.rkyv_collections.specs.{IsValueIn, map_bytes}
use Rattle.rkyv_collections.specs.declared.map.ArchivedHashMap.{ArchivedHashMap}
use Rattle.rkyv_keys.specs.{IsFoundValue, first_pair, with_first}
use Rattle.ffi_calls.specs.{SetsFirstPair}

-- the value is at the position `target`
abbrev RepresentsIn : {B : Type 0} → (List ℕ → ℕ → B → Type 0) → List ℕ → Option ℕ → B → Type 0
RepresentsIn represents b target x = (q : ℕ) × (target ≡ Some q) × represents b q x

-- the position of a value that is found in a map over the bytes `b`
module _ {K V H W : Type 0} {ks : Specs K} {vs : Specs V} {wt : Words W} (m : ArchivedHashMap K V H W ks vs wt) (b : List ℕ) (same : map_bytes m ≡ b) where
  pub found_placed : {B : Type 0} (represents : List ℕ → ℕ → B → Type 0) (found : Option (View V)) (target : Option ℕ) (o : Option B) → target ≡ pos_of_found found → IfSome found (IsValueIn m)
      → IsFoundValue represents found o → MatchOption o (target ≡ None) (RepresentsIn represents b target)
  found_placed represents None target None e within h = e
  found_placed represents None target (Some x) e within h = absurd h
  found_placed represents (Some value) target None e within h = absurd h
  found_placed represents (Some value) target (Some x) e within h = (value.pos, e, subst (λ d. represents d value.pos x) (ap (λ (a : Bor (List ℕ)). a.now) within.at.0 ∙ same) h)

-- the first pair's value, by its position `target`. `At`: the value at a position
module _ {B : Type 0} (At : ℕ → B → Type 0) (target : Option ℕ) where
  abbrev IsAtTarget : Option B → Type 0
  IsAtTarget o = MatchOption o (target ≡ None) (λ x. (q : ℕ) × (target ≡ Some q) × At q x)

  pub first_found : {X : Type 0} (IsValue : X → B → Type 0) (pos : ℕ) (stored : X) (o : Option B) → target ≡ Some pos → ((x : B) → At pos x → IsValue stored x) → IsAtTarget o
      → (x : B) × (o ≡ Some x) × IsValue stored x
  first_found IsValue pos stored None p shows h = absurd cc
  first_found IsValue pos stored (Some x) p shows h = (x, refl, shows x (subst (λ q. At q x) (sym (same_Some pos h.0 (sym p ∙ h.1))) h.2))

  pub none_found : (o : Option B) → target ≡ None → IsAtTarget o → o ≡ None
  none_found None p h = refl
  none_found (Some x) p h = absurd (let wrong = h.1 in cc)

-- the status of an overwrite, by the pair that it changes
pub first_set : {P : Type 0} (o : Option P) (found : Bool) (status : ℕ) → found ≡ is_some o → (found ≡ true → status ≡ 0) → (found ≡ false → status ≡ 1) → MatchOption o (status ≡ 1) (λ pair. status ≡ 0)
first_set None found status e if_found missed = missed e
first_set (Some p) found status e if_found missed = if_found e

-- After an overwrite of `value` in `b`, the map at the root of `c` represents the list with `value` in the first pair.
-- `Represents d p`: the map at `p` in `d` represents a list; `size`: size of its fixed bytes
pub first_pair_set : {A N : Type 0} (accepts : A → Bool) (e : Encoding N) (Represents : List ℕ → ℕ → ℕ × ℕ → List (A × N) → Type 0) (size : ℕ) (b c : List ℕ) (root number : ℕ) (value : N) (found : Bool) (status : ℕ)
    → root ≡ length b - size → length c ≡ length b → number < 2 ^ bits e.word → e.code value ≡ number
    → ((factor : ℕ × ℕ) (pairs : List (A × N)) → Represents b root factor pairs → (found ≡ is_some (first_pair accepts pairs)) × Represents c root factor (with_first accepts value pairs))
    → (found ≡ true → status ≡ 0) → (found ≡ false → status ≡ 1)
    → SetsFirstPair accepts e (Represents b (length b - size)) (Represents c (length c - size)) number status
first_pair_set accepts e Represents size b c root number value found status at same small code sets if_found missed factor pairs represents =
    let after = sets factor pairs (subst (λ p. Represents b p factor pairs) (sym at) represents) in
    let root_after = at ∙ ap (λ n. n - size) (sym same) in
    let shown = subst (λ p. Represents c p factor (with_first accepts value pairs)) root_after after.1 in
    inr (small, (value, code, first_set (first_pair accepts pairs) found status after.0 if_found missed, shown))
