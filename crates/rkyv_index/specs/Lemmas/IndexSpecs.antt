-- A table of the indices of a width is a table of words.
use Rattle.std.specs.Prelude.{◌≡◌, ℕ, ℤ, List, [], ◌∷◌}
use Rattle.std.specs.Int.{Width, byte_len}
use Rattle.std.proofs.Common.{inl, inr, subst, sym, arith, rules}
use Rattle.std.proofs.lemmas.Grind.{common_steps}
use Rattle.rkyv_base.specs.declared.errors.VerifyError.{VerifyError}
use Rattle.rkyv_base.specs.{ElementSpec, Encoding, IsIndexEncoding, IsScalar, Viewable}
use Rattle.rkyv_table.specs.{AreValidAt, FailsInside, FirstFails, IsPart, IsValidTable, TableAt}
use Rattle.rkyv_table.specs.{TableFails, TableFailsAt, cap_at, decode_begin, len_at, table_spec}
use Rattle.rkyv_index.specs.{stored_index_spec}

-- specs of one size and alignment
module _ (size align : ℕ) (is_valid holds' : List ℕ → ℕ → ℕ → ℕ → ℕ → Type 0) (fails fails' : List ℕ
    → ℕ → ℕ → ℕ → VerifyError → Type 0)
    (to : (b : List ℕ) (p lo hi l : ℕ) → is_valid b p lo hi l → holds' b p lo hi l)
    (fail : (b : List ℕ) (p lo hi : ℕ) (e : VerifyError) → fails b p lo hi e → fails' b p lo hi e)
  where
    abbrev from : ElementSpec
    from = record { size = size; align = align; is_valid = is_valid; fails = fails }

    abbrev onto : ElementSpec
    onto = record { size = size; align = align; is_valid = holds'; fails = fails' }

    all_as : (at : ℕ → ℕ) (b : List ℕ) (hi : ℕ) (is : List ℕ) (lo l : ℕ)
        → AreValidAt from at b hi is lo l → AreValidAt onto at b hi is lo l
    all_as at b hi [] lo l h = h
    all_as at b hi (i ∷ is) lo l h = (h.0, to b (at i) lo hi h.0 h.1, all_as at b hi is h.0 l h.2)

    first_as : (at : ℕ → ℕ) (b : List ℕ) (hi : ℕ) (is : List ℕ) (lo : ℕ) (e : VerifyError)
        → FirstFails from at b hi is lo e → FirstFails onto at b hi is lo e
    first_as at b hi [] lo e f = f
    first_as at b hi (i ∷ is) lo e (inl f) = inl (fail b (at i) lo hi e f)
    first_as at b hi (i ∷ is) lo e (inr f) =
        grind (arith, common_steps, first_as at b hi is f.0 e f.2)

    part_as : (b : List ℕ) (cap len lo begin : ℕ) → IsPart from b cap len lo begin
        → IsPart onto b cap len lo begin
    part_as b cap len lo begin is = grind (arith, common_steps, all_as)

    inside_as : (b : List ℕ) (cap len lo begin : ℕ) (e : VerifyError)
        → FailsInside from b cap len lo begin e → FailsInside onto b cap len lo begin e
    inside_as b cap len lo begin e h = grind (arith, common_steps, first_as, all_as)

    at_as : (b : List ℕ) (decoded : ℤ) (cap len lo hi l : ℕ)
        → TableAt from b decoded cap len lo hi l
        → TableAt onto b decoded cap len lo hi l
    at_as b decoded cap len lo hi l h = grind (arith, common_steps, part_as)

    fails_at_as : (b : List ℕ) (decoded : ℤ) (cap len lo hi : ℕ) (e : VerifyError)
        → TableFailsAt from b decoded cap len lo hi e → TableFailsAt onto b decoded cap len lo hi e
    fails_at_as b decoded cap len lo hi e (inl f) = inl f
    fails_at_as b decoded cap len lo hi e (inr (inl f)) = inr (inl f)
    fails_at_as b decoded cap len lo hi e (inr (inr (room, n, part, f))) =
        inr (inr (room, n, part, inside_as b cap len lo n e f))

    pub is_valid_as : (w : Width) (b : List ℕ) (p lo hi l : ℕ) → IsValidTable w from b p lo hi l
        → IsValidTable w onto b p lo hi l
    is_valid_as w b p lo hi l h =
        at_as b (decode_begin w size b p) (cap_at w b p) (len_at w b p) lo hi l h

    pub fails_as : (w : Width) (b : List ℕ) (p lo hi : ℕ) (e : VerifyError)
        → TableFails w from b p lo hi e → TableFails w onto b p lo hi e
    fails_as w b p lo hi e f =
        fails_at_as b (decode_begin w size b p) (cap_at w b p) (len_at w b p) lo hi e f

module _ {V : Type 0} (w : Width) (s : ElementSpec) (e : Encoding V) (laws : IsScalar s e)
    (is : IsIndexEncoding w e) where
  abbrev n : ℕ
  n = byte_len e.word

  -- the spec of the numbers, with this size and alignment
  abbrev sized : ℕ → ℕ → ElementSpec
  sized size align = record { size = size; align = align; is_valid = s.is_valid; fails = s.fails }

  to_word : (b : List ℕ) (p lo hi l : ℕ) → s.is_valid b p lo hi l → l ≡ lo
  to_word b p lo hi l h = ((laws.is_valid b p lo hi l).0 h).0

  never : (b : List ℕ) (p lo hi : ℕ) (x : VerifyError) → s.fails b p lo hi x → ⊥
  never b p lo hi x f = ((laws.fails b p lo hi x).0 f).1 (is.any _)

  -- a table of the width's numbers is valid as a table of words
  pub index_table_is_valid : (b : List ℕ) (p lo hi l : ℕ) → IsValidTable w s b p lo hi l
      → IsValidTable w
      (stored_index_spec w) b p lo hi l
  index_table_is_valid b p lo hi l h =
      let there : IsValidTable w (sized n n) b p lo hi l =
      subst (λ a. IsValidTable w (sized n a) b p lo hi l) laws.align
      (subst (λ k. IsValidTable w (sized k s.align) b p lo hi l) laws.size h) in
      subst (λ v. IsValidTable w (stored_index_spec v) b p lo hi l) is.word
      (is_valid_as n n s.is_valid (λ b p lo hi l. l ≡ lo) s.fails (λ b p lo hi e. ⊥) to_word
      never w b p lo hi l there)

  pub index_table_fails : (b : List ℕ) (p lo hi : ℕ) (x : VerifyError) → TableFails w s b p lo hi x
      → TableFails w (stored_index_spec w) b p lo hi x
  index_table_fails b p lo hi x f =
      let there : TableFails w (sized n n) b p lo hi x =
      subst (λ a. TableFails w (sized n a) b p lo hi x) laws.align
      (subst (λ k. TableFails w (sized k s.align) b p lo hi x) laws.size f) in
      subst (λ v. TableFails w (stored_index_spec v) b p lo hi x) is.word
      (fails_as n n s.is_valid (λ b p lo hi l. l ≡ lo) s.fails (λ b p lo hi e. ⊥) to_word never
      w b p lo hi x there)

  -- a table of words is valid as a table of the width's numbers
  pub number_table_is_valid : (b : List ℕ) (p lo hi l : ℕ)
      → IsValidTable w (stored_index_spec w) b p lo hi l
      → IsValidTable w s b p lo hi l
  number_table_is_valid b p lo hi l h =
      let there : IsValidTable w (sized n n) b p lo hi l =
      is_valid_as n n (λ b p lo hi l. l ≡ lo) s.is_valid (λ b p lo hi e. ⊥) s.fails
      (λ b p lo hi l h. (laws.is_valid b p lo hi l).1 (h, is.any _))
      (λ b p lo hi x f. absurd f) w b p lo hi l
      (subst (λ v. IsValidTable w (stored_index_spec v) b p lo hi l) (sym is.word) h) in
      subst (λ k. IsValidTable w (sized k s.align) b p lo hi l) (sym laws.size)
      (subst (λ a. IsValidTable w (sized n a) b p lo hi l) (sym laws.align) there)

  -- a table of words at `p` is also a table of the width's numbers
  pub number_table_viewable : (b : List ℕ) (p : ℕ)
      → Viewable (table_spec w (stored_index_spec w)) b p → Viewable (table_spec w s) b p
  number_table_viewable b p v = search (rules, number_table_is_valid)
