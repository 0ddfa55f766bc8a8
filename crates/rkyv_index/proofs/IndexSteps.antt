-- Steps of writing an index map, part by part.
use Rattle.std.proofs.Common.{◌≡◌, ℕ, ◌+◌, refl, sym, ap, ◌∙◌, subst, arith, ◌≤◌, List, [], ◌∷◌, ◌++◌, length, append-nil, length-append, inl, inr, Result, MatchResult}
use Rattle.std.proofs.lemmas.Grind.{common_steps}
use Rattle.std.specs.Int.{Width}
use Rattle.std.specs.Iterator.{Drains, Yields, YieldsFirst}
use Rattle.rkyv_base.specs.declared.errors.WriteError.{WriteError}
use Rattle.rkyv_base.specs.{Appends, ElementSpec, Encoding, Format, Only, Output, SerializeFails, Serialized, Step, Within, WriteFails, end_of, padding, piece, scalar_format, zeros}
use Rattle.rkyv_base.specs.Lemmas.Writing.{appends_after, end-appends, fails_after, fails_under, grows, within_after}
use Rattle.rkyv_table.specs.{PairsNext, TableResolver, WriteItemsFails, WroteItems, YieldsOtherCount, table_format}
use Rattle.rkyv_table.proofs.TableSteps.{piece_fails, zeros_behind}
use Rattle.rkyv_index.specs.{BeforeRow, BeforeZeros, IndexNext, NoOther, OwnOrSerializeFails, RowNext, RowParts, RowPartsNext, WroteRow, indices_from, row_format}
use Rattle.rkyv_index.specs.Lemmas.IndexSound.{indices_count}
use Rattle.rkyv_table.proofs.Through.{own_counted}

-- an iterator whose state has the list of the items that remain
module _ {S A : Type 0} (rest : S → List A) where
  left_after : (xs : List A) (s t : S) → Yields (YieldsFirst rest) s xs t → rest s ≡ xs ++ rest t
  left_after [] s t e = ap rest e
  left_after (x ∷ xs) s t h = h.1 ∙ ap (λ (l : List A). x ∷ l) (left_after xs h.0 t h.2)

  pub drained : (xs : List A) (s : S) → Drains (YieldsFirst rest) s xs → xs ≡ rest s
  drained xs s d = sym (left_after xs s d.1.0 d.1.1 ∙ ap (λ (l : List A). xs ++ l) d.1.2.0 ∙ append-nil xs)

  pub no_other_drained : (len : ℕ) (s : S) → length (rest s) ≡ len → (n : ℕ) → YieldsOtherCount (YieldsFirst rest) len s n → ⊥
  no_other_drained len s e n h = grind (arith, common_steps, drained, left_after, length-append)

module _ (F : Type 0) {P X : Type 0} (w : Width) (ps : ElementSpec) (e : Encoding P) (hash : X → ℕ) (factor : ℕ × ℕ) (limit : ℕ) (xs : List X) (o : Output) where
  abbrev Indices : List (ℕ × P)
  Indices = indices_from hash e.value 0 xs

  abbrev TableOf : Format (List (ℕ × P)) TableResolver
  TableOf = table_format w ps (scalar_format e) factor

  module _ {S : Type 0} (rest : S → List (ℕ × P)) (state : S) (there : rest state ≡ Indices) (max : ℕ) (o1 : Output) where
    abbrev DrainsRest : List (ℕ × P) → Type 0
    DrainsRest = Drains (YieldsFirst rest) state

    wrote_indices : (r : TableResolver) → WroteItems DrainsRest (length xs) factor max TableOf o o1 limit r → Serialized limit TableOf Indices o o1 r
    wrote_indices r h = subst (λ l. Serialized limit TableOf l o o1 r) (drained rest h.1 state h.2.0 ∙ there) h.3

    indices_not_written : (err : WriteError F) → WriteItemsFails DrainsRest (length xs) factor max TableOf o o1 limit (YieldsOtherCount (YieldsFirst rest) (length xs) state) err
        → OwnOrSerializeFails (length xs) factor max NoOther limit TableOf Indices o o1 err
    indices_not_written err (inl h) =
        let n : length (rest state) ≡ length xs = ap length there ∙ indices_count hash e.value 0 xs in
        inl (own_counted (length xs) factor max (YieldsOtherCount (YieldsFirst rest) (length xs) state) NoOther (λ k g. no_other_drained rest (length xs) state n k g) err h.0, h.1)
    indices_not_written err (inr h) = inr (subst (λ l. SerializeFails limit TableOf l o o1 err) (drained rest h.1 state h.2.0 ∙ there) h.3)

    -- writing the table has the result of writing the indices
    pub indices_result : (result : Result TableResolver (WriteError F))
        → MatchResult result (WroteItems DrainsRest (length xs) factor max TableOf o o1 limit) (WriteItemsFails DrainsRest (length xs) factor max TableOf o o1 limit (YieldsOtherCount (YieldsFirst rest) (length xs) state))
        → MatchResult result (Serialized limit TableOf Indices o o1) (OwnOrSerializeFails (length xs) factor max NoOther limit TableOf Indices o o1)
    indices_result result h = grind (arith, common_steps, wrote_indices, indices_not_written)

  module _ {R : Type 0} (s : ElementSpec) (f : Format X R) where
    abbrev Next : List ℕ → Step → Type 0
    Next = IndexNext w ps e s f hash factor xs (end_of o)

    abbrev Stopped : Output → WriteError F → Type 0
    Stopped o' err = WriteFails limit Next o o' err

    table_fails : (o1 : Output) (err : WriteError F) → SerializeFails limit TableOf Indices o o1 err → Stopped o1 err
    table_fails o1 err t =
        fails_under limit Next (PairsNext w ps (scalar_format e) factor Indices (end_of o)) o o1 err (λ g step h. inl h) t

    -- if writing the indices fails, writing the values fails with the same error
    pub indices_fail : (max : ℕ) (o1 : Output) (err : WriteError F) → OwnOrSerializeFails (length xs) factor max NoOther limit TableOf Indices o o1 err
        → OwnOrSerializeFails (length xs) factor max NoOther limit (row_format w ps e s f hash factor) xs o o1 err
    indices_fail max o1 err h = grind (arith, common_steps, table_fails)

    module _ (o1 : Output) (t : TableResolver) (wrote : Serialized limit TableOf Indices o o1 t) where
      abbrev table : List ℕ
      table = wrote.0

      at1 : end_of o1 ≡ end_of o + length table
      at1 = end-appends o o1 table wrote.1

      pub parts_fail : (o2 : Output) (err : WriteError F) → WriteFails limit (RowPartsNext f xs (end_of o1)) o1 o2 err → Stopped o2 err
      parts_fail o2 err h =
          fails_after limit Next (RowPartsNext f xs (end_of o1)) o o1 o2 table err wrote.1 wrote.3
          (λ g step n. inr (inl (table, t, g, wrote.2, subst (λ k. RowPartsNext f xs k g step) at1 n, refl)))
          h

      module _ (o2 : Output) (row : List ℕ) (rs : List R) (b : Appends o1 o2 row) (parts : RowParts f xs (end_of o1) row rs) (inside : Within limit o2 row) where
        abbrev head : List ℕ
        head = table ++ row

        whole2 : Appends o o2 head
        whole2 = appends_after o o1 o2 table row wrote.1 b

        within2 : Within limit o2 head
        within2 = within_after limit o1 o2 table row (grows o1 o2 row b) wrote.3 inside

        before : BeforeZeros w ps e s f hash factor xs (end_of o) head t rs
        before = record { table = table; part_bytes = row; serialized = wrote.2; parts = subst (λ k. RowParts f xs k row rs) at1 parts; is = refl }

        abbrev pad : List ℕ
        pad = zeros (padding s.align (end_of o2))

        same_zeros : pad ≡ zeros (padding s.align (end_of o + length head))
        same_zeros = zeros_behind s.align o o2 head whole2

        pub zeros_fail : (o3 : Output) (err : WriteError F) → WriteFails limit (Only (piece pad)) o2 o3 err → Stopped o3 err
        zeros_fail o3 err h =
            piece_fails limit Next o o2 o3 head pad err whole2 within2 (λ step is. inr (inr (inl (t, rs, before, is ∙ ap piece same_zeros)))) h

        module _ (o3 : Output) (z : Appends o2 o3 pad) (low : end_of o3 ≤ limit) where
          abbrev front : List ℕ
          front = head ++ pad

          whole3 : Appends o o3 front
          whole3 = appends_after o o2 o3 head pad whole2 z

          at3 : end_of o3 ≡ end_of o + length front
          at3 = end-appends o o3 front whole3

          before_row : BeforeRow w ps e s f hash factor xs (end_of o) front t rs
          before_row = record { head = head; serialized = before; is = ap (λ (y : List ℕ). head ++ y) same_zeros }

          pub row_fails : (o4 : Output) (err : WriteError F) → WriteFails limit (RowNext f xs rs (end_of o3)) o3 o4 err → Stopped o4 err
          row_fails o4 err h =
              fails_after limit Next (RowNext f xs rs (end_of o3)) o o3 o4 front err whole3 (inr low)
              (λ g step n. inr (inr (inr (front, t, rs, g, before_row, subst (λ k. RowNext f xs rs k g step) at3 n, refl))))
              h

          pub index_wrote : (o4 : Output) → WroteRow f limit xs rs o3 o4 → Serialized limit (row_format w ps e s f hash factor) xs o o4 (record { table = t; entries = end_of o3 })
          index_wrote o4 wr = (
            front ++ wr.0,
            appends_after o o3 o4 front wr.0 whole3 wr.1.0,
            record { front = front; resolvers = rs; row = wr.0; before = before_row; at = at3; images = wr.2; is = refl },
            inr wr.1.1,
          )
