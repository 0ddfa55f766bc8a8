-- The errors of writing a list, step by step: the table, the zeros and the header.
use Rattle.std.proofs.Common.{◌≡◌, ℕ, ◌+◌, ◌≤◌, ◌∙◌, inl, inr, arith, refl, ap, subst, append-nil, List, [], ◌++◌, length}
use Rattle.std.specs.Int.{byte_len}
use Rattle.std.proofs.lemmas.List.{length-replicate}
use Rattle.rkyv_base.specs.{Appends, Format, Only, Output, Step, Within, WriteFails, end_of, padding, piece, round_up, zeros}
use Rattle.rkyv_base.specs.declared.errors.WriteError.{WriteError}
use Rattle.rkyv_base.specs.declared.errors.WriteError.TheVariants.{DistanceTooLarge}
use Rattle.rkyv_base.specs.Lemmas.Writing.{appends_after, end-appends, fails_after, fails_under, grows}
use Rattle.rkyv_table.specs.{TableResolver, WriteItemsFails}
use Rattle.rkyv_end_to_end.specs.{ListInput, ListNext, WriteListFails, list_format}

-- an error of writing the table is an error of writing the list
pub list_fails : {X R F : Type 0} (list : ListInput X R) (o o' : Output) (e : WriteError F)
    → WriteItemsFails list.input.yields list.len list.load_factor list.width.MAX_CAPACITY (list_format list) o o' list.width.LIMIT (list.input.yields_other_count list.len) e → WriteListFails list o o' e
list_fails list o o' e (inl h) = inl h
list_fails list o o' e (inr h) =
    let f = list_format list in
    inr (h.0, h.1, h.2, fails_under list.width.LIMIT (ListNext (byte_len list.width.word) f h.1 (end_of o)) (f.next h.1 (end_of o)) o o' e (λ front step n. inl n) h.3)

module _ (F : Type 0) {X : Type 0} (limit align : ℕ) (f : Format (List (ℕ × X)) TableResolver) (pairs : List (ℕ × X)) (o o1 o2 o3 : Output)
    (part : List ℕ) (r : TableResolver) (a : Appends o o1 part) (made : f.parts pairs (end_of o) part r) (inside : Within limit o1 part) where
  -- the next steps of the list
  abbrev next : List ℕ → Step → Type 0
  next = ListNext align f pairs (end_of o)

  -- the zeros up to the alignment
  abbrev z : List ℕ
  z = zeros (padding align (end_of o1))

  header_at : Appends o1 o2 z → end_of o2 ≡ round_up (end_of o + length part) align
  header_at b =
      let start : end_of o1 ≡ end_of o + length part = end-appends o o1 part a in
      let count : length z ≡ padding align (end_of o1) = length-replicate (padding align (end_of o1)) 0 in
      let same : padding align (end_of o1) ≡ padding align (end_of o + length part) = ap (padding align) start in
      end-appends o1 o2 z b ∙ omega (arith, start, count, same)

  same_zeros : z ≡ zeros (padding align (end_of o + length part))
  same_zeros = ap (λ n. zeros (padding align n)) (end-appends o o1 part a)

  -- an error of appending the zeros
  pub zeros_fail : (e : WriteError F) → WriteFails limit (Only (piece z)) o1 o2 e → WriteFails limit next o o2 e
  zeros_fail e t =
      fails_after limit next (Only (piece z)) o o1 o2 part e a inside
      (λ front step h.
      let k : part ++ front ≡ part = ap (λ (x : List ℕ). part ++ x) h.0 ∙ append-nil part in
      rw k (inr (inl (r, made, h.1 ∙ ap piece same_zeros)))) t

  front_is : (x : List ℕ) → x ≡ [] → (part ++ z) ++ x ≡ part ++ zeros (padding align (end_of o + length part))
  front_is x e = ap (λ (y : List ℕ). (part ++ z) ++ y) e ∙ append-nil (part ++ z) ∙ ap (λ (y : List ℕ). part ++ y) same_zeros

  -- an error of appending the header
  pub header_fails : (out : List ℕ) (e : WriteError F) → Appends o1 o2 z → end_of o2 ≤ limit → f.image pairs r (end_of o2) out
      → WriteFails limit (Only (piece out)) o2 o3 e → WriteFails limit next o o3 e
  header_fails out e b fits image t =
      fails_after limit next (Only (piece out)) o o2 o3 (part ++ z) e (appends_after o o1 o2 part z a b) (inr fits)
      (λ front step h. inr (inr (part, r, made, front_is front h.0, inl (out, subst (λ n. f.image pairs r n out) (header_at b) image, h.1)))) t

  -- the distance to the table doesn't fit
  pub distance_fails : Appends o1 o2 z → end_of o2 ≤ limit → f.overflow pairs r (end_of o2) → WriteFails {F = F} limit next o o2 DistanceTooLarge
  distance_fails b fits overflow =
      let all : Appends o o2 (part ++ z) = appends_after o o1 o2 part z a b in
      record {
        front = part ++ z;
        kept = grows o o2 (part ++ z) all;
        cause = ((inr fits, all.failures, inr (inr (part, r, made, ap (λ (x : List ℕ). part ++ x) same_zeros, inr (subst (λ n. f.overflow pairs r n) (header_at b) overflow, refl)))), fits);
      }
