-- Writing a root, step by step: the parts, the zeros and the value.
use Rattle.std.specs.Prelude.{◌≡◌, ℕ, ◌+◌, ◌-◌, ◌%◌, ◌≤◌, List, [], ◌++◌, length}
use Rattle.std.proofs.Common.{arith, subst, ◌∙◌, ap, inl, inr, length-append, append_assoc, rules}
use Rattle.std.proofs.lemmas.Grind.{common_steps}
use Rattle.std.proofs.lemmas.List.{append-nil, length-replicate, take_all}
use Rattle.rkyv_base.specs.declared.errors.WriteError.{WriteError}
use Rattle.rkyv_base.specs.declared.errors.WriteError.TheVariants.{DistanceTooLarge}
use Rattle.rkyv_base.specs.{Appends, ArchiveOf, ElementSpec, Format, IsElement, IsFormat, IsValidArchive, OccursAt, Only, Output, RootBytes, RootNext, Within, WriteFails, WriteRootFails, WroteRoot, end_of, fresh, padding, piece, round_up, zeros}
use Rattle.rkyv_base.specs.Lemmas.Bytes.{occurs_back, occurs_front}
use Rattle.rkyv_base.specs.Lemmas.ElementSpec.{valid_at}
use Rattle.rkyv_base.specs.Lemmas.Entry.{round_up-multiple}
use Rattle.rkyv_base.specs.Lemmas.Writing.{appends_after, end-appends, fails_after, grows}

module _ (F : Type 0) {V R : Type 0} (limit : ℕ) (s : ElementSpec) (f : Format V R) (v : V) (o o1 o2 o3 : Output)
    (part : List ℕ) (r : R) (a : Appends o o1 part) (made : f.parts v (end_of o) part r) (inside : Within limit o1 part) where
  root_at : Appends o1 o2 (zeros (padding s.align (end_of o1))) → end_of o2 ≡ round_up (end_of o + length part) s.align
  root_at b = grind (arith, common_steps, end-appends, length-replicate)

  same_zeros : zeros (padding s.align (end_of o1)) ≡ zeros (padding s.align (end_of o + length part))
  same_zeros = ap (λ (n : ℕ). zeros (padding s.align n)) (end-appends o o1 part a)

  -- the bytes appended before the value
  abbrev before : List ℕ
  before = part ++ zeros (padding s.align (end_of o1))

  abbrev ZerosAppended : Type 0
  ZerosAppended = Appends o1 o2 (zeros (padding s.align (end_of o1))) × (end_of o2 ≤ limit)

  front_is : (x : List ℕ) → x ≡ [] → before ++ x ≡ part ++ zeros (padding s.align (end_of o + length part))
  front_is x e = ap (λ (y : List ℕ). before ++ y) e ∙ append-nil before ∙ ap (λ (y : List ℕ). part ++ y) same_zeros

  pub root_align_fails : (e : WriteError F) → WriteFails limit (Only (piece (zeros (padding s.align (end_of o1))))) o1 o2 e → WriteRootFails limit s f v o o2 e
  root_align_fails e t =
      fails_after limit (RootNext s f v (end_of o)) (Only (piece (zeros (padding s.align (end_of o1))))) o o1 o2 part e a inside
      (λ front step h. grind (arith, common_steps, append-nil, same_zeros)) t

  pub root_append_fails : (out : List ℕ) (e : WriteError F) → ZerosAppended → f.image v r (end_of o2) out
      → WriteFails limit (Only (piece out)) o2 o3 e → WriteRootFails limit s f v o o3 e
  root_append_fails out e b i t =
      fails_after limit (RootNext s f v (end_of o)) (Only (piece out)) o o2 o3 before e (appends_after o o1 o2 part _ a b.0) (inr b.1)
      (λ front step h. inr (inr (inr (part, r, made, front_is front h.0, inl (out, subst (λ n. f.image v r n out) (root_at b.0) i, h.1))))) t

  pub root_overflow_fails : ZerosAppended → f.overflow v r (end_of o2) → WriteRootFails {F = F} limit s f v o o2 DistanceTooLarge
  root_overflow_fails b overflow = grind (arith, common_steps, appends_after, grows, same_zeros, root_at)

  pub root_wrote : (out : List ℕ) → Appends o1 o2 (zeros (padding s.align (end_of o1))) → f.image v r (end_of o2) out → Appends o2 o3 out → end_of o3 ≤ limit
      → WroteRoot limit s f v o o3 (end_of o2)
  root_wrote out b i c small = grind (arith, common_steps, appends_after, root_at, append_assoc, same_zeros)

module _ {V R : Type 0} (limit : ℕ) (s : ElementSpec) (laws : IsElement s) (represents : List ℕ → ℕ → V → Type 0) (f : Format V R) (format : IsFormat s represents f) where
  -- a written root is valid and represents the value, in any archive that has its bytes
  pub root_sound : (v : V) (c : List ℕ) (p root : ℕ) (bytes : List ℕ) → RootBytes s.align f v p bytes root → OccursAt c p bytes
      → (hi l : ℕ) × s.is_valid c root p hi l × (p ≤ hi) × (hi ≤ root) × (root + s.size ≡ p + length bytes) × (root % s.align ≡ 0) × represents c root v
  root_sound v c p root bytes b sits = search (rules, length-replicate, occurs_front, occurs_back, round_up-multiple, length-append)

  root_accepted : (v : V) (bytes : List ℕ) (root : ℕ) → RootBytes s.align f v 0 bytes root → length bytes ≤ limit
      → IsValidArchive limit s bytes × represents bytes (length bytes - s.size) v × (root ≡ length bytes - s.size)
  root_accepted v bytes root b small =
      let k : 0 + length bytes - 0 ≡ length bytes = omega arith in
      let all : OccursAt bytes 0 bytes = record { inside = omega arith; there = rw k (take_all (length bytes) bytes (omega arith)) } in
      let d = root_sound v bytes 0 root bytes b all in
      grind (arith, valid_at)

  -- the archive of one value, written from position 0
  pub archive_made : (v : V) (o' : Output) (b : List ℕ) (root : ℕ) → WroteRoot limit s f v fresh o' root → b ≡ o'.bytes → ArchiveOf limit s represents f v b
  archive_made v o' b root w e =
      let same : b ≡ w.0 = e ∙ w.1.bytes in
      let small : length w.0 ≤ limit = omega (arith, w.3, w.1.start, ap length w.1.bytes) in
      grind (arith, common_steps, root_accepted v w.0 root w.2 small)
