-- A list of pairs is extended, and the archive of its first pairs is unchanged.
use Rattle.std.proofs.Common.{arith, ◌≡◌, ℕ, ◌≤◌, Option}
use Rattle.std.proofs.lemmas.Grind.{common_steps}
use Rattle.std.specs.Option.{ForSome, option_map}
use Rattle.rkyv_dict.specs.declared.dict.Stored.{Stored}
use Rattle.rkyv_dict.specs.declared.form.ArchiveWidth.{ArchiveWidth}
use Rattle.rkyv_dict.specs.{Pairs, State, archived_of, take_pairs}

pub pair_put : (bits : ArchiveWidth) (factor : ℕ × ℕ) (old new after : Pairs) (most : ℕ) (archive : Option Stored) → ForSome archive (λ a. ForSome a.built_len (λ n. n ≤ most))
    → ((n : ℕ) → n ≤ most → take_pairs n new ≡ take_pairs n old) → new ≡ after
    → ◌≡◌ {A = State} (record { bits = bits; load_factor = factor; pairs = new; archive = option_map (archived_of new) archive })
    (record { bits = bits; load_factor = factor; pairs = after; archive = option_map (archived_of old) archive })
pair_put bits factor old new after most archive h same e = grind (arith, common_steps)
