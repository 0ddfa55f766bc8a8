-- Lemmas: counts and distances, which are read back as they were written.
use Rattle.std.specs.Int.{Width}
use Rattle.std.proofs.Common.{arith, inl, inr, refl}
use Rattle.std.proofs.lemmas.Grind.{common_steps}
use Rattle.std.proofs.lemmas.Int.{fits_signed_from_abs, ints, to_z-of_z}
use Rattle.rkyv_base.specs.{CountsReadBack, DistancesReadBack, IsArchiveWord, IsWord}
use Rattle.rkyv_base.specs.{WideDistancesFit}
use Rattle.rkyv_base.specs.Lemmas.Scalar.{word_bytes, word_reads_back}
use Rattle.rkyv_base.specs.Lemmas.Text.{by_archive_word}

module _ (w : Width) (kind : IsArchiveWord w) where
  pub archive_word : IsWord w
  archive_word = by_archive_word IsWord (inr (inr (inl refl))) (inr (inr (inr refl))) w kind

  pub counts_read_back : CountsReadBack w
  counts_read_back n b p fits there =
      grind (arith, common_steps, word_bytes, archive_word, word_reads_back)

  pub distances_read_back : DistancesReadBack w
  distances_read_back d b p fits there = grind (arith, counts_read_back, to_z-of_z)

pub wide_distances_fit : WideDistancesFit
wide_distances_fit target from t f = grind (arith, common_steps, fits_signed_from_abs, ints)
