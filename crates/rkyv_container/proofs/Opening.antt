-- Containers from their checks, and the uniqueness of the result of opening.
use Rattle.std.proofs.Common.{◌≡◌, ℕ, ◌⊎◌, ◌↔◌, List, drop, Result, Ok, Err, MatchResult, IsOk, IsOkAnd, refl, sym, ◌∙◌, subst, inl, inr, arith}
use Rattle.std.proofs.lemmas.Grind.{common_steps}
use Rattle.std.proofs.lemmas.List.{drop_at, take-append-drop, take_at}
use Rattle.rkyv_container.specs.declared.contents.Contents.{Contents}
use Rattle.rkyv_container.specs.declared.header.Header.{Header}
use Rattle.rkyv_container.specs.declared.errors.ContainerError.{ContainerError}
use Rattle.rkyv_container.specs.declared.errors.ContainerError.TheVariants.{WrongValueType, WrongWidth}
use Rattle.rkyv_container.specs.{AllPass, Checks, FirstFails, IsContainer, IsContainerOf, IsHeader, IsSplit, OpenAsFails, OpenFails, archive_checks, contents_checks, followed_by, header_bytes, header_checks}
use Rattle.rkyv_container.proofs.Checking.{first_unique, pass_excludes}
use Rattle.rkyv_container.proofs.HeaderBytes.{contents_equal, header_unique}
use Rattle.rkyv_container.proofs.HeaderChecks.{header_passes}

-- the value type, or the width, is the first difference
pub value_fails : (x f : Contents) → f.kind ≡ x.kind → f.key ≡ x.key → ¬ (f.value ≡ x.value)
    → FirstFails (contents_checks x f) (WrongValueType x.value f.value)
value_fails x f k s n = inr (k, inr (s, inl (n, refl)))

pub width_differs : (x f : Contents) → f.kind ≡ x.kind → f.key ≡ x.key → f.value ≡ x.value
    → ¬ (f.width ≡ x.width) → FirstFails (contents_checks x f) (WrongWidth x.width f.width)
width_differs x f k s t n = inr (k, inr (s, inr (t, inl (n, refl))))

-- a header, and an archive that passes its checks, are a container
pub container_from : (h : Header) (a b : List ℕ) → IsSplit h a b → AllPass (archive_checks h a)
    → IsContainer h a b
container_from h a b s p = grind (arith, common_steps, take-append-drop 32 b, header_bytes h)

-- the parts of a container
pub container_split : (h : Header) (a b : List ℕ) → IsContainer h a b → IsSplit h a b
container_split h a b s = grind (arith, common_steps, header_bytes, take_at, drop_at)

pub container_passes : (h : Header) (a b : List ℕ) → IsContainer h a b
    → AllPass (archive_checks h a)
container_passes h a b s = (sym s.len, (s.checksum, tt))

-- a container has one header and one archive
pub container_unique : (b : List ℕ) (h k : Header) (a c : List ℕ) → IsContainer h a b
    → IsContainer k c b → (h ≡ k) × (a ≡ c)
container_unique b h k a c s t =
    let p = container_split h a b s in
    let q = container_split k c b t in
    (header_unique b h k p.0 q.0, p.1 ∙ sym q.1)

-- faults behind one header are unique, and exclude that the checks pass
behind_unique : (C : Header → Checks) (b : List ℕ) (e o : ContainerError)
    → FirstFails (header_checks b) e ⊎ ((h : Header) × (IsHeader h b × FirstFails (C h) e))
    → FirstFails (header_checks b) o ⊎ ((h : Header) × (IsHeader h b × FirstFails (C h) o))
    → e ≡ o
behind_unique C b e o (inl f) (inl g) = first_unique (header_checks b) e o f g
behind_unique C b e o (inl f) (inr g) = grind (arith, common_steps, header_checks b, header_passes g.0 b g.1.0)
behind_unique C b e o (inr f) (inl g) = grind (arith, common_steps, header_checks b, header_passes f.0 b f.1.0)
behind_unique C b e o (inr f) (inr g) =
    let s : f.0 ≡ g.0 = header_unique b f.0 g.0 f.1.0 g.1.0 in
    let k : FirstFails (C g.0) e = subst (λ (h : Header). FirstFails (C h) e) s f.1.1 in
    first_unique (C g.0) e o k g.1.1

behind_excludes : (C : Header → Checks) (b : List ℕ) (h : Header) (e : ContainerError)
    → IsHeader h b → AllPass (C h)
    → FirstFails (header_checks b) e ⊎ ((k : Header) × (IsHeader k b × FirstFails (C k) e)) → ⊥
behind_excludes C b h e s p (inl f) = pass_excludes (header_checks b) e (header_passes h b s) f
behind_excludes C b h e s p (inr f) =
    let t : f.0 ≡ h = header_unique b f.0 h f.1.0 s in
    pass_excludes (C h) e p (subst (λ (k : Header). FirstFails (C k) e) t f.1.1)

pub open_unique : (b : List ℕ) (e o : ContainerError) → OpenFails b e → OpenFails b o → e ≡ o
open_unique b e o f g = behind_unique (λ h. archive_checks h (drop 32 b)) b e o f g

pub open_as_unique : (x : Contents) (b : List ℕ) (e o : ContainerError) → OpenAsFails x b e
    → OpenAsFails x b o → e ≡ o
open_as_unique x b e o f g = behind_unique
    (λ h. followed_by (contents_checks x h.contents) (archive_checks h (drop 32 b))) b e o f g

-- the checks of the bytes behind the header of a container
rest_passes : (h : Header) (a b : List ℕ) → IsContainer h a b
    → AllPass (archive_checks h (drop 32 b))
rest_passes h a b s = grind (arith, common_steps, archive_checks, container_split, container_passes)

-- a container has no fault
pub container_excludes : (b : List ℕ) (h : Header) (a : List ℕ) (e : ContainerError)
    → IsContainer h a b → OpenFails b e → ⊥
container_excludes b h a e s f =
    behind_excludes (λ k. archive_checks k (drop 32 b)) b h e (container_split h a b s).0
    (rest_passes h a b s) f

same_contents : (x f : Contents) → f ≡ x → AllPass (contents_checks x f)
same_contents x f e = grind (arith, common_steps)

pub contents_from : (x f : Contents) → AllPass (contents_checks x f) → f ≡ x
contents_from x f p = contents_equal f x p.0 p.1.0 p.1.1.0 p.1.1.1.0

pub container_of_excludes : (x : Contents) (b a : List ℕ) (e : ContainerError)
    → IsContainerOf x a b → OpenAsFails x b e → ⊥
container_of_excludes x b a e s f = grind (arith, common_steps, behind_excludes, container_split, same_contents, rest_passes)

-- the header and the archive that opening returns
pub opens_exact : {X : Type 0} (r : Result X ContainerError) (head : X → Header)
    (rest : X → List ℕ) (b : List ℕ)
    → MatchResult r (λ x. IsContainer (head x) (rest x) b) (OpenFails b) → (h : Header)
    (a : List ℕ) → IsContainer h a b → IsOkAnd r (λ x. (head x ≡ h) × (rest x ≡ a))
opens_exact (Ok x) head rest b m h a s = grind (arith, common_steps, container_unique b (head x) h (rest x) a m s)
opens_exact (Err e) head rest b m h a s = absurd (container_excludes b h a e s m)

-- a container is opened as its own contents, and as no others
pub opens_as_exact : {X : Type 0} (r : Result X ContainerError) (rest : X → List ℕ)
    (x : Contents) (b : List ℕ)
    → MatchResult r (λ y. IsContainerOf x (rest y) b) (OpenAsFails x b) → (c : Contents)
    (a : List ℕ) → IsContainerOf c a b → IsOk r ↔ (c ≡ x)
opens_as_exact (Ok y) rest x b m c a s = grind (arith, common_steps, container_unique b s.0 m.0 a (rest y) s.1.1 m.1.1)
opens_as_exact (Err e) rest x b m c a s = (
  λ o. absurd (cc),
  λ (k : c ≡ x). absurd (container_of_excludes x b a e
      (subst (λ (y : Contents). IsContainerOf y a b) k s) m),
)
