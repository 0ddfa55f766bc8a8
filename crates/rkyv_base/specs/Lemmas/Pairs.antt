-- Lemmas: the format of pairs: the key's parts and the value's parts, followed by the key,
-- zeros, the value and zeros.
use Rattle.std.specs.Prelude.{◌≡◌, ℕ, ◌+◌, ◌-◌, ◌%◌, ◌≤◌, max, List, ◌++◌, length}
use Rattle.std.proofs.Common.{arith, subst, ◌∙◌, ap, inl, inr, length-append, rules}
use Rattle.std.proofs.lemmas.Grind.{common_steps}
use Rattle.std.proofs.lemmas.List.{length-replicate}
use Rattle.rkyv_base.specs.declared.pairs.EntryResolver.{EntryResolver}
use Rattle.rkyv_base.specs.{ElementSpec, Format, IsElement, IsFormat, IsValidEntry, OccursAt}
use Rattle.rkyv_base.specs.{PairImage, PairOverflows, PairParts, PairRepresents, RepresentsAs}
use Rattle.rkyv_base.specs.{RepresentsLocally, entry_spec, pair_bytes, pair_format, size_of_whole}
use Rattle.rkyv_base.specs.{value_offset, whole_size, written_as, zeros}
use Rattle.rkyv_base.specs.Lemmas.Bytes.{occurs_back, occurs_front, occurs_third}
use Rattle.rkyv_base.specs.Lemmas.ElementSpec.{multiple_of_max, sum_multiple}
use Rattle.rkyv_base.specs.Lemmas.Entry.{size_of_small, round_up-multiple, size_of_large}
use Rattle.rkyv_base.specs.Lemmas.Entry.{key_and_value_inside, same_parts}

pub written_as-format : {X V R : Type 0} (as_value : X → V) (s : ElementSpec)
    (represents : List ℕ → ℕ → V → Type 0) (f : Format V R) → IsFormat s represents f
    → IsFormat s (RepresentsAs as_value represents) (written_as as_value f)
written_as-format as_value s represents f laws = grind arith

length_pair : (off size : ℕ) (a b : List ℕ) → length a ≤ off → off + length b ≤ size
    → length (pair_bytes off size a b) ≡ size
length_pair off size a b h g = simp (length-append, length-replicate) (omega arith)

module _ {V W : Type 0} (k v : ElementSpec) (kl : IsElement k) (vl : IsElement v)
    (key : List ℕ → ℕ → V → Type 0) (value : List ℕ → ℕ → W → Type 0) where
  pub pair_local : RepresentsLocally k key → RepresentsLocally v value
      → RepresentsLocally (entry_spec k v) (PairRepresents k v key value)
  pair_local kn vn pair b c p lo hi l o h fixed part st =
      let s = same_parts k v kl vl b c p lo hi l o h fixed part in grind arith

module _ {V W R Q : Type 0} (k v : ElementSpec) (kl : IsElement k) (vl : IsElement v)
    (key : List ℕ → ℕ → V → Type 0) (value : List ℕ → ℕ → W → Type 0) (kf : Format V R)
    (vf : Format W Q) (kw : IsFormat k key kf) (vw : IsFormat v value vf) where
  pair_whole : (pair : V × W) (r : EntryResolver R Q) (p : ℕ) (out : List ℕ)
      → PairImage k v kf vf pair r p out → length out ≡ size_of_whole (whole_size k v)
  pair_whole pair r p out h =
      grind (arith, common_steps, size_of_large, key_and_value_inside, length_pair, size_of_small)

  pair_exclusive : (pair : V × W) (r : EntryResolver R Q) (p : ℕ) (out : List ℕ)
      → PairImage k v kf vf pair r p out → PairOverflows k v kf vf pair r p → ⊥
  pair_exclusive pair r p out h f = grind (arith, common_steps)

  pair_sound : (pair : V × W) (r : EntryResolver R Q) (c : List ℕ) (p0 p : ℕ) (part out : List ℕ)
      → PairParts k v kf vf pair p0 part r → PairImage k v kf vf pair r p out
      → OccursAt c p0 part → OccursAt c p out → p0 + length part ≤ p → p % max k.align v.align ≡ 0
      → (l : ℕ) × IsValidEntry k v c p p0 (p0 + length part) l
      × PairRepresents k v key value c p pair
  pair_sound pair r c p0 p part out h (inl g) s t o al = absurd (omega (arith, h.0, g.0))
  pair_sound pair r c p0 p part out h (inr g) s t o al =
      let off : ℕ = value_offset k v in
      let whole : ℕ = whole_size k v in
      let i = key_and_value_inside k v in
      let na : length g.1 ≡ k.size = kw.size_exact pair.0 r.key p g.1 g.3 in
      let nb : length g.2 ≡ v.size = vw.size_exact pair.1 r.value (p + off) g.2 g.4 in
      let sp : OccursAt c p0 (h.1 ++ h.2) = subst (OccursAt c p0) h.5 s in
      let np : length part ≡ length h.1 + length h.2 = ap length h.5 ∙ length-append h.1 h.2 in
      let tp : OccursAt c p (pair_bytes off whole g.1 g.2) = subst (OccursAt c p) g.5 t in
      let n1 : length (g.1 ++ zeros (off - length g.1)) ≡ off =
      simp (length-append, length-replicate) (omega (arith, i.0)) in
      let als : (p % k.align ≡ 0) × (p % v.align ≡ 0) =
      multiple_of_max p k.align v.align kl.align_is vl.align_is al in
      let alv : (p + off) % v.align ≡ 0 = search (rules, sum_multiple, round_up-multiple) in
      let tk : OccursAt c p g.1 = grind (arith, common_steps, occurs_front) in
      let tv : OccursAt c (p + off) g.2 = grind (arith, common_steps, occurs_third) in
      let dk = kw.sound pair.0 r.key c p0 p h.1 g.1 h.3 g.3 (occurs_front c p0 h.1 h.2 sp) tk
      (omega arith) als.0 in
      let dv = vw.sound pair.1 r.value c (p0 + length h.1) (p + off) h.2 g.2 h.4 g.4
      (occurs_back c p0 h.1 h.2 sp) tv (omega arith) alv in
      let bk : (p0 ≤ dk.0) × (dk.0 ≤ p0 + length h.1) =
      kl.rest_in_range c p p0 (p0 + length h.1) dk.0 (omega arith) dk.1 in
      let hk : k.is_valid c p p0 (p0 + length part) dk.0 =
      kl.widen_hi c p p0 (p0 + length h.1) (p0 + length part) dk.0 (omega arith) dk.1 in
      let hv : v.is_valid c (p + off) (p0 + length h.1) (p0 + length part) dv.0 = grind arith in
      let lv = vl.lower_lo c (p + off) (p0 + length h.1) dk.0 (p0 + length part) dv.0 bk.1
      (omega arith) hv in
      (lv.0, (h.0, dk.0, hk, lv.1), (dk.2, dv.2))

  pub pair_is_format : IsFormat (entry_spec k v) (PairRepresents k v key value)
      (pair_format k v kf vf)
  pair_is_format = search (arith, pair_whole, pair_exclusive, pair_sound)
