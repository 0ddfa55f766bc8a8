-- One more value of a row in a chunk, and the chunk appended as one piece.
use Rattle.std.proofs.Common.{◌≡◌, ℕ, ◌+◌, ◌-◌, ◌*◌, ◌<◌, ◌≤◌, sym, ◌∙◌, arith, inl, inr, List, [], ◌∷◌, ◌++◌, length, take, drop, Some, append-nil, length-append}
use Rattle.std.proofs.lemmas.Grind.{common_steps}
use Rattle.std.specs.Prelude.{Err, MatchResult, Ok, Result, slice_get}
use Rattle.std.proofs.lemmas.List.{length-take-le, take_all}
use Rattle.std.proofs.lemmas.Option.{slice_get_within}
use Rattle.rkyv_base.specs.declared.errors.WriteError.{WriteError}
use Rattle.rkyv_base.specs.declared.errors.WriteError.TheVariants.{DistanceTooLarge}
use Rattle.rkyv_base.specs.{AppendFails, Appends, Format, Output, WriteFails, end_of}
use Rattle.rkyv_base.specs.Lemmas.Writing.{end-appends, none_appended}
use Rattle.rkyv_table.specs.{MadeRoom}
use Rattle.rkyv_table.proofs.Chunks.{Torn, end_followed, followed_by, followed_more, front_more, one_length, torn_fails, torn_more, torn_none}
use Rattle.rkyv_index.specs.{RowNext, WroteRow}
use Rattle.rkyv_index.proofs.RowSteps.{ValuesWritten, overflow_fails, row_next, written_more}

module _ {X R : Type 0} (f : Format X R) (size limit : ℕ) (xs : List X) (rs : List R) (o : Output) where
  -- the values before index `i` are written or in the chunk, and the others fit within the limit
  pub record ValuesFilled (i : ℕ) (others : List R) (o1 : Output) (chunk : List ℕ) : Type 0 where
    pub written : ValuesWritten f limit xs rs o i others (followed_by o1 chunk)
    pub fits : end_of o1 + length chunk + (length xs - i) * size ≤ limit
    pub torn : Torn limit (RowNext f xs rs (end_of o)) o o1 chunk

  pub row_init : end_of o + length xs * size ≤ limit → ValuesFilled 0 rs o []
  row_init lim = record {
    written = rw (append-nil o.bytes) (grind (arith, common_steps, none_appended o));
    fits = let all : length xs - 0 ≡ length xs = omega arith in rw all (omega (arith, lim));
    torn = torn_none limit (RowNext f xs rs (end_of o)) o o;
  }

  -- the filled chunk was appended
  pub row_appended : (i : ℕ) (left : List R) (o1 o2 : Output) (chunk : List ℕ) → ValuesFilled i left o1 chunk → Appends o1 o2 chunk → ValuesWritten f limit xs rs o i left o2
  row_appended i left o1 o2 chunk c a = grind (arith, common_steps, end_followed)

  pub row_anew : (i : ℕ) (left : List R) (o1 o2 : Output) (chunk : List ℕ) → ValuesFilled i left o1 chunk → Appends o1 o2 chunk → ValuesFilled i left o2 []
  row_anew i left o1 o2 chunk c a = record {
    written = rw (append-nil o2.bytes) (row_appended i left o1 o2 chunk c a);
    fits = grind (arith, common_steps, length-append);
    torn = torn_none limit (RowNext f xs rs (end_of o)) o o2;
  }

  -- the chunk could not be appended
  pub row_fails : {F : Type 0} (i : ℕ) (left : List R) (o1 o2 : Output) (chunk : List ℕ) (e : WriteError F) → ValuesFilled i left o1 chunk → 0 < length chunk → AppendFails limit chunk o1 o2 e
      → WriteFails limit (RowNext f xs rs (end_of o)) o o2 e
  row_fails i left o1 o2 chunk e c some t =
      torn_fails limit (RowNext f xs rs (end_of o)) o o1 o2 chunk c.written.out e c.torn c.written.appended some (omega (arith, c.fits)) t

  -- there is room for one more value
  pub row_room : (i : ℕ) (left : List R) (o1 o2 : Output) (chunk : List ℕ) (end at : ℕ) → ValuesFilled i left o1 (take end chunk) → MadeRoom limit size end chunk o1 o2 at → ValuesFilled i left o2 (take at chunk)
  row_room i left o1 o2 chunk end at c m = elim m.1 [
    | inl same ↦ rw (same.0, same.1) c
    | inr anew ↦ rw anew.0 (row_anew i left o1 o2 (take end chunk) c anew.2.0)
  ]

  module _ (i : ℕ) (x : X) (r : R) (left more : List R) (o1 : Output) (value : slice_get xs i ≡ Some x) (first : left ≡ r ∷ more) where
    -- the own bytes of the value are in the chunk after the first `at` bytes
    pub row_step : (chunk chunk' : List ℕ) (at p : ℕ) → ValuesFilled i left o1 (take at chunk) → at + size ≤ length chunk → length chunk' ≡ length chunk → take at chunk' ≡ take at chunk
        → p ≡ end_of o1 + at → f.image x r p (take size (drop at chunk')) → ValuesFilled (i + 1) more o1 (take (at + size) chunk')
    row_step chunk chunk' at p c room kept front is h =
        let one : List ℕ = take size (drop at chunk') in
        let front' : List ℕ = take at chunk in
        let len : length front' ≡ at = length-take-le at chunk (omega (arith, room)) in
        let n : length one ≡ size = one_length at size chunk chunk' room kept in
        let both : length (front' ++ one) ≡ length front' + length one = length-append front' one in
        let w = slice_get_within xs i x value in
        let m : length xs - i ≡ (length xs - (i + 1)) + 1 = omega (arith, w) in
        let two : ((length xs - (i + 1)) + 1) * size ≡ (length xs - (i + 1)) * size + size = omega arith in
        let fits = rw m at c.fits in
        let end : end_of (followed_by o1 front') ≡ p = omega (arith, end_followed o1 front', len, is) in
        let h' = rw (← end) at h in
        let lim : end_of o1 + length (front' ++ one) + (length xs - (i + 1)) * size ≤ limit = omega (arith, fits, two, both, n) in
        rw (front_more at size chunk chunk' front) (record {
          written = written_more f limit xs rs o i x r left more (followed_by o1 front') c.written value first one (followed_by o1 (front' ++ one)) h' (followed_more o1 front' one)
              (omega (arith, end_followed o1 (front' ++ one), lim));
          fits = lim;
          torn = torn_more limit (RowNext f xs rs (end_of o)) o o1 front' one c.written.out c.torn c.written.appended
              (row_next f limit xs rs o i x r left more (followed_by o1 front') c.written value first one h')
              (omega (arith, lim));
        })

    -- a distance of the value is too large
    pub row_overflows : {F : Type 0} (o2 : Output) (chunk : List ℕ) (p : ℕ) → ValuesFilled i left o1 chunk → p ≡ end_of o1 + length chunk → f.overflow x r p → Appends o1 o2 chunk
        → WriteFails {F = F} limit (RowNext f xs rs (end_of o)) o o2 DistanceTooLarge
    row_overflows o2 chunk p c is h a =
        let h' = rw (is ∙ sym (end-appends o1 o2 chunk a)) at h in
        overflow_fails f limit xs rs o i x r left more o2 (row_appended i left o1 o2 chunk c a) value first h'

  -- the result of appending the last chunk
  pub row_result : {U F : Type 0} (left : List R) (o1 o2 : Output) (chunk : List ℕ) (result : Result U (WriteError F)) → length rs ≡ length xs → ValuesFilled (length xs) left o1 chunk
      → MatchResult result (λ _. Appends o1 o2 chunk) (λ e. (0 < length chunk) × AppendFails limit chunk o1 o2 e)
      → MatchResult result (λ _. WroteRow f limit xs rs o o2) (WriteFails limit (RowNext f xs rs (end_of o)) o o2)
  row_result left o1 o2 chunk (Ok u) count c a =
      let w = row_appended (length xs) left o1 o2 chunk c a in
      (w.out, (w.appended, w.within), rw (take_all (length xs) xs (omega arith), take_all (length xs) rs (omega (arith, count))) at w.images)
  row_result left o1 o2 chunk (Err e) count c t = row_fails (length xs) left o1 o2 chunk e c t.0 t.1
