-- The numbers that are read of a header, by its bytes.
use Rattle.std.proofs.Common.{arith, subst, length-append}
use Rattle.std.proofs.lemmas.Grind.{common_steps}
use Rattle.std.specs.Int.{Width, byte_len, to_le_bytes}
use Rattle.std.specs.Prelude.{◌≡◌, ℕ, ◌+◌, ◌*◌, ◌^◌, ◌<◌, ℤ, FitsSigned, List, ◌++◌, length}
use mir.Val.{bits}
use Rattle.rkyv_base.specs.{IsArchiveWord, IsWord, OccursAt, signed_at}
use Rattle.rkyv_base.specs.Lemmas.Bytes.{occurs_back, occurs_front}
use Rattle.rkyv_base.specs.Lemmas.Scalar.{word_bytes}
use Rattle.rkyv_base.specs.Lemmas.Words.{archive_word, counts_read_back, distances_read_back}
use Rattle.rkyv_table.specs.{cap_at, header_bytes, len_at}

module _ (w : Width) (kind : IsArchiveWord w) where
  abbrev word : IsWord w
  word = archive_word w kind

  pub header_length : (d : ℤ) (len cap : ℕ) → length (header_bytes w d len cap) ≡ 3 * byte_len w
  header_length d len cap = grind (arith, common_steps, word_bytes, length-append)

  module _ (d : ℤ) (len cap : ℕ) (c : List ℕ) (p : ℕ) (s : OccursAt c p (header_bytes w d len cap))
    where
      behind : OccursAt c (p + byte_len w) (to_le_bytes w len ++ to_le_bytes w cap)
      behind = grind (arith, common_steps, word_bytes, occurs_back)

      pub distance_reads : FitsSigned w d → signed_at w c p ≡ d
      distance_reads fits = grind (arith, distances_read_back, occurs_front)

      pub len_reads : len < 2 ^ bits w → len_at w c p ≡ len
      len_reads fits = counts_read_back w kind len c (p + byte_len w) fits
          (occurs_front c (p + byte_len w) (to_le_bytes w len) (to_le_bytes w cap) behind)

      pub cap_reads : cap < 2 ^ bits w → cap_at w c p ≡ cap
      cap_reads fits =
          let n = word_bytes w word len in
          let e : (p + byte_len w) + length (to_le_bytes w len) ≡ p + 2 * byte_len w =
          omega arith in
          counts_read_back w kind cap c (p + 2 * byte_len w) fits
          (subst (λ k. OccursAt c k (to_le_bytes w cap)) e
          (occurs_back c (p + byte_len w) (to_le_bytes w len) (to_le_bytes w cap) behind))
