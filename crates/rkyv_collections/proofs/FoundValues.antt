-- Helpers for callers: the bytes of a map at a view, numbers of a list, the `Ok` of a result.
use Rattle.rkyv_base.specs.declared.element.HasSpec.{Ghosts as Specs}
use Rattle.rkyv_base.specs.declared.width.Word.{Ghosts as Words}
use Rattle.std.proofs.Common.{◌≡◌, ℕ, List, Option, None, Some, Result, MatchResult, IfOk, ap, ◌∙◌, arith}
use Rattle.std.proofs.lemmas.Grind.{common_steps}
use Rattle.std.specs.Borrow.{Bor}
use Rattle.rkyv_base.specs.{IsAt}
use Rattle.rkyv_base.specs.declared.view.View.{View}
use Rattle.rkyv_keys.specs.{IsFoundValue}
use Rattle.rkyv_collections.specs.{map_bytes, map_pos}
use Rattle.rkyv_collections.specs.declared.map.ArchivedHashMap.{ArchivedHashMap}
use Rattle.rkyv_collections.specs.declared.map.HashMapOf.{HashMapOf}

-- a map that is read at a view has the bytes and the position of the view
pub read_at : {K V H W : Type 0} {ks : Specs K} {vs : Specs V} {wt : Words W} (m : ArchivedHashMap K V H W ks vs wt) (v : View (HashMapOf K V H W)) (b : Bor (List ℕ)) (p : ℕ) → m.view ≡ v → IsAt v b p → (map_bytes m ≡ b.now) × (map_pos m ≡ p)
read_at {K} {V} {H} {W} m v b p e at =
    (ap (λ (x : View (HashMapOf K V H W)). x.archive.now) e ∙ ap (λ (a : Bor (List ℕ)). a.now) at.0, ap (λ (x : View (HashMapOf K V H W)). x.pos) e ∙ at.1)

-- a found number is the list's, and the list has none if none is found
pub number_listed : {V : Type 0} (num : List ℕ → ℕ → ℕ) (view : View V) (n : ℕ) (o : Option ℕ) → num view.archive.now view.pos ≡ n → IsFoundValue (λ b p v. num b p ≡ v) (Some view) o → Some n ≡ o
number_listed num view n found e h = grind (arith, common_steps)

pub none_listed : {B : Type 0} (represents : List ℕ → ℕ → B → Type 0) (o : Option B) → IsFoundValue {V = ℕ} represents None o → None ≡ o
none_listed represents found h = grind (arith, common_steps)

-- a property of the `Ok` of a result
pub on_ok : {T E : Type 0} (P R : T → Type 0) (Q : E → Type 0) (r : Result T E) → ((x : T) → P x → R x) → MatchResult r P Q → IfOk r R
on_ok P R Q result f h = grind (arith, common_steps)
