-- One bucket more filled in a chunk, and the chunk appended as one piece.
use Rattle.std.proofs.Common.{◌≡◌, ℕ, ◌+◌, ◌*◌, ◌<◌, ◌≤◌, sym, ap, ◌∙◌, arith, inl, inr, List, [], ◌++◌, length, get_or, take, drop, Option, None, append-nil, length-append}
use Rattle.std.proofs.lemmas.Grind.{common_steps}
use Rattle.std.specs.Prelude.{Err, IfSome, MatchResult, Ok, Result}
use Rattle.std.proofs.lemmas.List.{length-take-le}
use Rattle.rkyv_base.specs.declared.errors.WriteError.{WriteError}
use Rattle.rkyv_base.specs.declared.errors.WriteError.TheVariants.{DistanceTooLarge}
use Rattle.rkyv_base.specs.{AppendFails, Appends, Format, Output, WriteFails, end_of}
use Rattle.rkyv_base.specs.Lemmas.Writing.{end-appends}
use Rattle.rkyv_table.specs.{AppendsFilled, BucketNext, BucketOverflows, Filled, MadeRoom, WroteBuckets, filled}
use Rattle.rkyv_table.proofs.BucketSteps.{BucketsWritten, bucket_next, down_end, down_init, down_read, down_rooms, down_step, overflow_fails}
use Rattle.rkyv_table.proofs.Chunks.{Torn, end_followed, followed_by, followed_more, torn_fails, torn_more, torn_none, front_more, one_length}

module _ {X R : Type 0} (size limit : ℕ) (f : Format X R) (slots : List (Option X)) (rs : List R) (o : Output) where
  -- the buckets from `i` on are written or in the chunk, and those below fit within the limit
  pub record ChunkFilled (i : ℕ) (left : List R) (o1 : Output) (chunk : List ℕ) : Type 0 where
    pub down : BucketsWritten size limit f slots rs o i left (followed_by o1 chunk)
    pub fits : end_of o1 + length chunk + i * size ≤ limit
    pub torn : Torn limit (BucketNext size f slots rs (end_of o)) o o1 chunk

  pub chunk_init : length rs ≡ filled slots → end_of o + length slots * size ≤ limit → ChunkFilled (length slots) rs o []
  chunk_init c lim = record {
    down = rw (append-nil o.bytes) (down_init size limit f slots rs o c (omega (arith, lim)));
    fits = omega (arith, lim);
    torn = torn_none limit (BucketNext size f slots rs (end_of o)) o o;
  }

  module _ (i : ℕ) (left : List R) (o1 : Output) (chunk : List ℕ) (c : ChunkFilled (i + 1) left o1 chunk) where
    pub chunk_more : (s : Option X) (more : List R) (one : List ℕ) → get_or slots i None ≡ s → Filled size f s left more (end_of o1 + length chunk) one → length one ≡ size
        → ChunkFilled i more o1 (chunk ++ one)
    chunk_more s more one e h len =
        let two : (i + 1) * size ≡ i * size + size = omega arith in
        let both : length (chunk ++ one) ≡ length chunk + length one = length-append chunk one in
        let h' = rw (← end_followed o1 chunk) at h in
        record {
          down = down_step size limit f slots rs o i left (followed_by o1 chunk) (followed_by o1 (chunk ++ one)) c.down s more one e h' len (followed_more o1 chunk one)
              (omega (arith, end_followed o1 (chunk ++ one), both, c.fits, len, two));
          fits = omega (arith, both, c.fits, len, two);
          torn = torn_more limit (BucketNext size f slots rs (end_of o)) o o1 chunk one c.down.out c.torn c.down.appended
              (bucket_next size limit f slots rs o i left (followed_by o1 chunk) (followed_by o1 chunk) c.down s e more one h')
              (omega (arith, both, c.fits, len, two));
        }

  -- the filled chunk was appended
  pub chunk_appended : (i : ℕ) (left : List R) (o1 o2 : Output) (chunk : List ℕ) → ChunkFilled i left o1 chunk → Appends o1 o2 chunk → BucketsWritten size limit f slots rs o i left o2
  chunk_appended i left o1 o2 chunk c a = grind (arith, common_steps, end_followed)

  pub chunk_anew : (i : ℕ) (left : List R) (o1 o2 : Output) (chunk : List ℕ) → ChunkFilled i left o1 chunk → Appends o1 o2 chunk → ChunkFilled i left o2 []
  chunk_anew i left o1 o2 chunk c a = record {
    down = rw (append-nil o2.bytes) (chunk_appended i left o1 o2 chunk c a);
    fits = grind (arith, common_steps, length-append);
    torn = torn_none limit (BucketNext size f slots rs (end_of o)) o o2;
  }

  -- the chunk could not be appended
  pub chunk_fails : {F : Type 0} (i : ℕ) (left : List R) (o1 o2 : Output) (chunk : List ℕ) (e : WriteError F) → ChunkFilled i left o1 chunk → 0 < length chunk → AppendFails limit chunk o1 o2 e
      → WriteFails limit (BucketNext size f slots rs (end_of o)) o o2 e
  chunk_fails i left o1 o2 chunk e c some t =
      torn_fails limit (BucketNext size f slots rs (end_of o)) o o1 o2 chunk c.down.out e c.torn c.down.appended some (omega (arith, c.fits)) t

  -- there is room for one more bucket
  pub chunk_room : (i : ℕ) (left : List R) (o1 o2 : Output) (chunk : List ℕ) (end next : ℕ) → ChunkFilled i left o1 (take end chunk) → MadeRoom limit size end chunk o1 o2 next → ChunkFilled i left o2 (take next chunk)
  chunk_room i left o1 o2 chunk end next c m = elim m.1 [
    | inl same ↦ rw (same.0, same.1) c
    | inr anew ↦ rw anew.0 (chunk_anew i left o1 o2 (take end chunk) c anew.2.0)
  ]

  -- a bucket was filled after the first `at` bytes
  pub chunk_step : (i : ℕ) (left more : List R) (o1 : Output) (chunk chunk' : List ℕ) (at p : ℕ) (s : Option X) → ChunkFilled (i + 1) left o1 (take at chunk) → at + size ≤ length chunk
      → length chunk' ≡ length chunk → take at chunk' ≡ take at chunk → get_or slots i None ≡ s → p ≡ end_of o1 + at → Filled size f s left more p (take size (drop at chunk'))
      → ChunkFilled i more o1 (take (at + size) chunk')
  chunk_step i left more o1 chunk chunk' at p s c room kept front e is h =
      let len : length (take at chunk) ≡ at = length-take-le at chunk (omega (arith, room)) in
      let one = one_length at size chunk chunk' room kept in
      let split = front_more at size chunk chunk' front in
      let h' = rw (is ∙ ap (λ n. end_of o1 + n) (sym len)) at h in
      rw split (chunk_more i left o1 (take at chunk) c s more (take size (drop at chunk')) e h' one)

  -- a distance of the next item is too large
  pub chunk_overflows : {F : Type 0} (i : ℕ) (left : List R) (o1 o2 : Output) (chunk : List ℕ) (p : ℕ) (s : Option X) → ChunkFilled (i + 1) left o1 chunk → get_or slots i None ≡ s
      → p ≡ end_of o1 + length chunk → BucketOverflows size f s left p → Appends o1 o2 chunk → WriteFails {F = F} limit (BucketNext size f slots rs (end_of o)) o o2 DistanceTooLarge
  chunk_overflows i left o1 o2 chunk p s c e is h a =
      let h' = rw (is ∙ sym (end-appends o1 o2 chunk a)) at h in
      overflow_fails size limit f slots rs o i left o2 o2 (chunk_appended (i + 1) left o1 o2 chunk c a) s e h'

  -- the result of appending the last chunk
  pub chunk_result : {U F : Type 0} (left : List R) (o1 o2 : Output) (chunk : List ℕ) (result : Result U (WriteError F)) → ChunkFilled 0 left o1 chunk
      → AppendsFilled limit chunk o1 o2 result
      → MatchResult result (λ _. WroteBuckets size f limit slots rs o o2) (WriteFails limit (BucketNext size f slots rs (end_of o)) o o2)
  chunk_result left o1 o2 chunk (Ok u) c a = down_end size limit f slots rs o left o2 (chunk_appended 0 left o1 o2 chunk c a)
  chunk_result left o1 o2 chunk (Err e) c t = chunk_fails 0 left o1 o2 chunk e c t.0 t.1

  -- the slot that is read
  pub chunk_read : (i : ℕ) (left : List R) (o1 : Output) (chunk : List ℕ) (s : Option X) → ChunkFilled (i + 1) left o1 chunk → s ≡ get_or slots i s → get_or slots i None ≡ s
  chunk_read i left o1 chunk s c e = down_read size limit f slots rs o i left (followed_by o1 chunk) (followed_by o1 chunk) c.down s e

  -- a resolver is left for its item
  pub chunk_rooms : (i : ℕ) (left : List R) (o1 : Output) (chunk : List ℕ) (s : Option X) → ChunkFilled (i + 1) left o1 chunk → get_or slots i None ≡ s → IfSome s (λ _. 0 < length left)
  chunk_rooms i left o1 chunk s c e = down_rooms size limit f slots rs o i left (followed_by o1 chunk) (followed_by o1 chunk) c.down s e
