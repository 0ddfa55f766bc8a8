-- One more value of a row.
use Rattle.std.proofs.Common.{◌≡◌, ℕ, suc, ◌+◌, ◌≤◌, refl, sym, ap, ◌∙◌, subst, arith, inl, List, [], ◌∷◌, ◌++◌, length, take, drop, Some, append-nil, append_assoc, length-append}
use Rattle.std.proofs.lemmas.Grind.{common_steps}
use Rattle.std.specs.Prelude.{slice_get}
use Rattle.std.proofs.lemmas.List.{drop-drop, get_or-drop, length-drop, take_more}
use Rattle.std.proofs.lemmas.Option.{get_or_from_slice_get, slice_get_read, slice_get_within}
use Rattle.rkyv_base.specs.declared.errors.WriteError.{WriteError}
use Rattle.rkyv_base.specs.declared.errors.WriteError.TheVariants.{DistanceTooLarge}
use Rattle.rkyv_base.specs.{Appends, Format, Only, Output, Within, WriteFails, end_of, piece}
use Rattle.rkyv_base.specs.Lemmas.Writing.{appends_after, end-appends, fails_after, grows}
use Rattle.rkyv_table.proofs.PartSteps.{part_last, part_longer}
use Rattle.rkyv_index.specs.{Before, RowImages, RowNext, RowParts, RowPartsNext}

plus_zero : (p : ℕ) → p + 0 ≡ p
plus_zero p = omega arith

-- one more value at the end of a front
pub take_one : {A : Type 0} (xs : List A) (i : ℕ) (x : A) → slice_get xs i ≡ Some x → take (i + 1) xs ≡ take i xs ++ x ∷ []
take_one xs i x e = take_more xs i x (slice_get_within xs i x e) ∙ ap (λ y. take i xs ++ y ∷ []) (get_or_from_slice_get xs i x x e)

-- the first value that remains is the one at index `i`
head_dropped : {A : Type 0} (xs : List A) (i : ℕ) (x : A) (rest : List A) → drop i xs ≡ x ∷ rest → slice_get xs i ≡ Some x
head_dropped {A = A} xs i x rest e = grind (arith, common_steps, length-drop i xs, get_or-drop i xs 0 x, slice_get_read)

tail_dropped : {A : Type 0} (xs : List A) (i : ℕ) (x : A) (rest : List A) → drop i xs ≡ x ∷ rest → rest ≡ drop (i + 1) xs
tail_dropped xs i x rest e = sym (ap (λ l. drop 1 l) e) ∙ drop-drop 1 i xs ∙ ap (λ n. drop n xs) (omega arith)

module _ {X R : Type 0} (f : Format X R) where
  pub parts_more : (xs : List X) (p : ℕ) (part : List ℕ) (rs : List R) (x : X) (a : List ℕ) (r : R)
      → RowParts f xs p part rs → f.parts x (p + length part) a r → RowParts f (xs ++ x ∷ []) p (part ++ a) (rs ++ r ∷ [])
  parts_more [] p part rs x a r h g = part_last f (RowParts f []) p part rs x a r h (λ q. (refl, refl)) g
  parts_more (y ∷ ys) p part rs x a r h g =
      part_longer f (RowParts f ys) (RowParts f (ys ++ x ∷ [])) y p part rs x a r h (λ q b qs k. parts_more ys q b qs x a r k) g

  -- there are as many resolvers as values
  pub parts_count : (xs : List X) (p : ℕ) (part : List ℕ) (rs : List R) → RowParts f xs p part rs → length rs ≡ length xs
  parts_count [] p part rs h = ap length h.1
  parts_count (x ∷ xs) p part rs h = ap length h.7 ∙ ap (λ n. suc n) (parts_count xs (p + length h.0) h.2 h.3 h.5)

  module _ (xs : List X) (i : ℕ) (x : X) (there : slice_get xs i ≡ Some x) (o o1 : Output) (part : List ℕ) (rs : List R) (a1 : Appends o o1 part)
      (h : RowParts f (take i xs) (end_of o) part rs) where
    pub step_part : (a : List ℕ) (r : R) → f.parts x (end_of o1) a r → RowParts f (take (i + 1) xs) (end_of o) (part ++ a) (rs ++ r ∷ [])
    step_part a r g = rw (take_one xs i x there) (parts_more (take i xs) (end_of o) part rs x a r h (subst (λ n. f.parts x n a r) (end-appends o o1 part a1) g))

    pub step_fails : {F : Type 0} (limit : ℕ) (o2 : Output) (err : WriteError F) → Within limit o1 part
        → WriteFails limit (f.next x (end_of o1)) o1 o2 err
        → WriteFails limit (RowPartsNext f xs (end_of o)) o o2 err
    step_fails limit o2 err within t =
        let at : end_of o1 ≡ end_of o + length part = end-appends o o1 part a1 in
        fails_after limit (RowPartsNext f xs (end_of o)) (f.next x (end_of o1)) o o1 o2 part err a1 within
        (λ g step n. (i, x, part, rs, g, there, h, subst (λ k. f.next x k g step) at n, refl))
        t

  pub images_more : (xs : List X) (rs : List R) (p : ℕ) (out : List ℕ) (x : X) (r : R) (one : List ℕ)
      → RowImages f xs rs p out → f.image x r (p + length out) one → RowImages f (xs ++ x ∷ []) (rs ++ r ∷ []) p (out ++ one)
  images_more [] rs p out x r one h g = grind (arith, common_steps, plus_zero p, append-nil one)
  images_more (y ∷ ys) rs p out x r one h g =
      let n : p + length out ≡ p + length h.2 + length h.3 = ap (λ (l : List ℕ). p + length l) h.7 ∙ omega (arith, length-append h.2 h.3) in (
        h.0,
        h.1 ++ r ∷ [],
        h.2,
        h.3 ++ one,
        ap (λ l. l ++ r ∷ []) h.4,
        h.5,
        images_more ys h.1 (p + length h.2) h.3 x r one h.6 (subst (λ k. f.image x r k one) n g),
        ap (λ l. l ++ one) h.7 ∙ append_assoc h.2 h.3 one,
      )

module _ {X R : Type 0} (f : Format X R) (limit : ℕ) (xs : List X) (rs : List R) (o : Output) where
  -- the values before index `i` were written, and `others` are the resolvers of the other values
  pub record ValuesWritten (i : ℕ) (others : List R) (o1 : Output) : Type 0 where
    pub out : List ℕ
    pub appended : Appends o o1 out
    pub images : RowImages f (take i xs) (take i rs) (end_of o) out
    pub left : others ≡ drop i rs
    pub within : end_of o1 ≤ limit

  module _ (i : ℕ) (x : X) (r : R) (left more : List R) (o1 : Output) (w : ValuesWritten i left o1) (value : slice_get xs i ≡ Some x) (first : left ≡ r ∷ more) where
    dropped : drop i rs ≡ r ∷ more
    dropped = sym w.left ∙ first

    next_resolver : slice_get rs i ≡ Some r
    next_resolver = head_dropped rs i r more dropped

    here : end_of o1 ≡ end_of o + length w.out
    here = end-appends o o1 w.out w.appended

    before : Before f xs rs (end_of o) i x r w.out
    before = record { value = value; resolver = next_resolver; images = w.images }

    pub written_more : (one : List ℕ) (o2 : Output) → f.image x r (end_of o1) one → Appends o1 o2 one → end_of o2 ≤ limit → ValuesWritten (i + 1) more o2
    written_more one o2 im a lim = record {
      out = w.out ++ one;
      appended = appends_after o o1 o2 w.out one w.appended a;
      images = rw (take_one xs i x value, take_one rs i r next_resolver) (images_more f (take i xs) (take i rs) (end_of o) w.out x r one w.images (subst (λ n. f.image x r n one) here im));
      left = tail_dropped rs i r more dropped;
      within = lim;
    }

    -- the own bytes of the value are the next piece
    pub row_next : (one : List ℕ) → f.image x r (end_of o1) one → RowNext f xs rs (end_of o) w.out (piece one)
    row_next one im = (i, x, r, before, inl (one, subst (λ n. f.image x r n one) here im, refl))

    module _ {F : Type 0} where
      abbrev RowFails : Output → WriteError F → Type 0
      RowFails o' err = WriteFails limit (RowNext f xs rs (end_of o)) o o' err

      pub piece_fails : (one : List ℕ) (o2 : Output) (err : WriteError F) → f.image x r (end_of o1) one → WriteFails limit (Only (piece one)) o1 o2 err → RowFails o2 err
      piece_fails one o2 err im t = grind (arith, common_steps, fails_after, append-nil, before, here)

      pub overflow_fails : f.overflow x r (end_of o1) → RowFails o1 DistanceTooLarge
      overflow_fails h = grind (arith, common_steps, grows, before, here)
