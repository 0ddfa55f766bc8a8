-- A property of the bytes and the position of a map, for those of its view.
use Rattle.std.proofs.Common.{◌≡◌, ℕ, ◌∙◌, List, ap}
use Rattle.std.specs.Borrow.{Bor}
use Rattle.rkyv_base.specs.declared.view.View.{View}
use Rattle.rkyv_base.specs.declared.element.HasSpec.{Ghosts as Specs}
use Rattle.rkyv_base.specs.declared.width.Word.{Ghosts as Words}
use Rattle.rkyv_collections.proofs.SealedMap.{as_read}
use Rattle.rkyv_collections.specs.{map_bytes, map_pos}
use Rattle.rkyv_collections.specs.declared.map.ArchivedHashMap.{ArchivedHashMap}
use Rattle.rkyv_collections.specs.declared.map.HashMapOf.{HashMapOf}

pub view_transport : {K V H W : Type 0} {ks : Specs K} {vs : Specs V} {wt : Words W} (m : ArchivedHashMap K V H W ks vs wt) (view : View (HashMapOf K V H W)) (b : Bor (List ℕ)) (p : ℕ)
    → m.view ≡ view → view.archive ≡ b → view.pos ≡ p → (F : List ℕ → ℕ → Type 0) → F (map_bytes m) (map_pos m) → F b.now p
view_transport m view b p of archive key_pos F x =
    as_read m b.now p (ap (λ v. v.archive.now) of ∙ ap (λ a. a.now) archive) (ap (λ v. v.pos) of ∙ key_pos) F x
