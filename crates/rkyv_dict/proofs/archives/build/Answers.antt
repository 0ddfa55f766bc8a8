use Rattle.std.proofs.Common.{◌≡◌, ℕ, Result, subst, sym}
use Rattle.std.specs.declared.vec.Vec.{Vec}
use Rattle.rkyv_base.specs.declared.errors.WriteError.{WriteError}
use Rattle.rkyv_dict.specs.{Builds, form_of_pairs, pairs_of}
use Rattle.rkyv_dict.specs.declared.form.ArchiveWidth.{ArchiveWidth}
use Rattle.rkyv_dict.specs.declared.form.ArchiveWidth.TheVariants.{Bits32, Bits64}
use Rattle.rkyv_dict.specs.declared.pairs.PairList.{PairList}
use Rattle.rkyv_dict.proofs.TextLists.{texts_built}
use Rattle.rkyv_dict.proofs.archives.build.Goals as goal

-- a build of a list and a width that equal known ones
of_known : {F Z : Type 0} (factor : ℕ × ℕ) (result : Result (Vec ℕ Z) (WriteError F)) (bits width : ArchiveWidth) (list known : PairList) → bits ≡ width → list ≡ known
    → Builds (form_of_pairs width (pairs_of known)) factor (pairs_of known) result → Builds (form_of_pairs bits (pairs_of list)) factor (pairs_of list) result
of_known factor result bits width list known e h built =
    let Built : ArchiveWidth → PairList → Type 0 = λ b l. Builds (form_of_pairs b (pairs_of l)) factor (pairs_of l) result in
    subst (λ b. Built b list) (sym e) (subst (Built width) (sym h) built)

pub returns-in-Texts-Bits32 : goal.returns-in-Texts-Bits32
returns-in-Texts-Bits32 c =
    let made = rw c.as_slice-in-Texts-Bits32.ensures.value at c.build_map-in-Texts-Bits32.ensures in
    of_known c.args.load_factor c.build_map-in-Texts-Bits32.result _ Bits32 _ _ c.in-Texts-Bits32.is-1 c.in-Texts-Bits32.is-0 (texts_built (λ v. v.items) Bits32 c.args.load_factor c.in-Texts-Bits32.pairs.items c.build_map-in-Texts-Bits32.result made)

pub returns-in-Texts-Bits64 : goal.returns-in-Texts-Bits64
returns-in-Texts-Bits64 c =
    let made = rw c.as_slice-in-Texts-Bits64.ensures.value at c.build_map-in-Texts-Bits64.ensures in
    of_known c.args.load_factor c.build_map-in-Texts-Bits64.result _ Bits64 _ _ c.in-Texts-Bits64.is-1 c.in-Texts-Bits64.is-0 (texts_built (λ v. v.items) Bits64 c.args.load_factor c.in-Texts-Bits64.pairs.items c.build_map-in-Texts-Bits64.result made)
