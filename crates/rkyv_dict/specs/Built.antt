-- The archive of a list of pairs.
use Rattle.std.specs.Prelude.{ℕ, List, MatchResult, Result}
use Rattle.std.specs.Int.{w32}
use Rattle.std.specs.declared.vec.Vec.{Vec}
use Rattle.rkyv_scan.specs.{HasherCall}
use Rattle.rkyv_base.specs.{ArchiveOf, Format, ScalarRepresents, TextReads, ToBytesFails}
use Rattle.rkyv_base.specs.{scalar_format, text_format, unsigned}
use Rattle.rkyv_base.specs.declared.errors.WriteError.{WriteError}
use Rattle.rkyv_keys.specs.{text_calls}
use Rattle.rkyv_table.specs.{TableResolver, listed}
use Rattle.rkyv_collections.specs.{MapRepresents, map_format}
use Rattle.rkyv_dict.specs.declared.form.ArchiveWidth.{ArchiveWidth}
use Rattle.rkyv_dict.specs.declared.form.Form.{Form}
use Rattle.rkyv_dict.specs.declared.form.Kind.{Kind}
use Rattle.rkyv_dict.specs.declared.form.Kind.TheVariants.{Num, Text}
use Rattle.rkyv_dict.specs.Archives.{hash, header_spec, root}
use Rattle.rkyv_dict.specs.Forms.{Pairs, buckets_of, numbers, texts, word_of}
use Rattle.rkyv_dict.specs.Maps.{MapTypes, number_calls, number_parts, text_parts}

-- the kind of the pairs
abbrev pub kind_of_pairs : Pairs → Kind
kind_of_pairs (numbers pairs) = Num
kind_of_pairs (texts pairs) = Text

-- the form of an archive of the pairs in the width `bits`
abbrev pub form_of_pairs : ArchiveWidth → Pairs → Form
form_of_pairs bits pairs = record { kind = kind_of_pairs pairs; bits = bits }

module _ (k : MapTypes) {A : Type 0} (factor : ℕ × ℕ) where
  module _ (represents : List ℕ → ℕ → A → Type 0) where
    -- the header at `p` represents a map of the pairs
    abbrev pub PairsRepresentAt : List ℕ → ℕ → List (A × A) → Type 0
    PairsRepresentAt b p pairs = MapRepresents k.word k.spec k.spec represents represents (λ c q.
        hash (k.calls c q)) factor b p pairs

    -- the root of `b` represents a map of the pairs
    unfoldable pub PairsRepresent : List (A × A) → List ℕ → Type 0
    PairsRepresent pairs b = PairsRepresentAt b (root k b) pairs

  module _ {R : Type 0} (most : ℕ) (format : Format A R) (calls : A → List HasherCall) where
    -- the format of a list of pairs as a map of at most `most` buckets
    abbrev pub pairs_format : Format (List (A × A)) TableResolver
    pairs_format = listed most factor
        (map_format k.word k.spec k.spec format format (λ a. hash (calls a)) factor)

    -- `b` is the archive of the pairs: valid, its root represents them, and it has no other bytes
    unfoldable pub IsArchiveOf : (List ℕ → ℕ → A → Type 0) → List (A × A) → List ℕ → Type 0
    IsArchiveOf represents pairs b =
        ArchiveOf k.limit (header_spec k) (PairsRepresentAt represents) pairs_format pairs b

    -- the write of the pairs fails with `e`
    unfoldable pub ArchiveFails : {F : Type 0} → List (A × A) → WriteError F → Type 0
    ArchiveFails pairs e = ToBytesFails k.limit (header_spec k) pairs_format pairs e

-- Native keys and values. `format`: their format, `calls`: their hasher calls,
-- `represents`: bytes at a position represent one
pub record Natives (A R : Type 0) : Type 1 where
  pub format : Format A R
  pub calls : A → List HasherCall
  pub represents : List ℕ → ℕ → A → Type 0

-- native keys and values with these members
abbrev pub natives : {A R : Type 0} → Format A R → (A → List HasherCall)
    → (List ℕ → ℕ → A → Type 0) → Natives A R
natives format calls represents = record { format = format; calls = calls; represents = represents }

-- `result` is the archive of the pairs, as a map of at most `most` buckets, or the error of
-- their write
abbrev pub MakesArchive : {A R F Z : Type 0} → MapTypes → ℕ × ℕ → ℕ → Natives A R → List (A × A)
    → Result (Vec ℕ Z) (WriteError F) → Type 0
MakesArchive k factor most n pairs result =
    MatchResult result
    (λ v. IsArchiveOf k factor most n.format n.calls n.represents pairs v.items)
    (ArchiveFails k factor most n.format n.calls pairs)

-- `b` is the archive of the pairs, in this order, as a map under the load factor.
-- It is valid, its root represents the map, and it has no other bytes. The pairs are of the kind.
abbrev pub built_in : Kind → ArchiveWidth → ℕ × ℕ → Pairs → List ℕ → Type 0
built_in Num bits factor (numbers pairs) b =
    IsArchiveOf (number_parts bits) factor (buckets_of bits) (scalar_format (unsigned w32))
    number_calls (ScalarRepresents (unsigned w32)) pairs b
built_in Text bits factor (texts pairs) b =
    IsArchiveOf (text_parts bits) factor (buckets_of bits) (text_format (word_of bits)) text_calls
    (TextReads (word_of bits)) pairs b
built_in Num bits factor (texts pairs) b = ⊥
built_in Text bits factor (numbers pairs) b = ⊥

-- `b` is the archive of the pairs in the form, under the load factor
abbrev pub IsBuilt : Form → ℕ × ℕ → Pairs → List ℕ → Type 0
IsBuilt form factor pairs b = built_in form.kind form.bits factor pairs b

-- the write of the pairs fails with `e`; the pairs are of the kind
abbrev pub build_fails_in : {F : Type 0} → Kind → ArchiveWidth → ℕ × ℕ → Pairs → WriteError F
    → Type 0
build_fails_in Num bits factor (numbers pairs) e =
    ArchiveFails (number_parts bits) factor (buckets_of bits) (scalar_format (unsigned w32))
    number_calls pairs e
build_fails_in Text bits factor (texts pairs) e =
    ArchiveFails (text_parts bits) factor (buckets_of bits) (text_format (word_of bits)) text_calls
    pairs e
build_fails_in Num bits factor (texts pairs) e = ⊥
build_fails_in Text bits factor (numbers pairs) e = ⊥

-- the write of the pairs in the form fails with `e`
abbrev pub BuildFails : {F : Type 0} → Form → ℕ × ℕ → Pairs → WriteError F → Type 0
BuildFails form factor pairs e = build_fails_in form.kind form.bits factor pairs e

-- `result` is the archive of the pairs in the form, or the error of their write
abbrev pub Builds : {F Z : Type 0} → Form → ℕ × ℕ → Pairs → Result (Vec ℕ Z) (WriteError F) → Type 0
Builds form factor pairs result =
    MatchResult result (λ v. IsBuilt form factor pairs v.items) (BuildFails form factor pairs)

-- the root of any archive `b` represents a map of the pairs, which are of the kind
abbrev pub represents_in : Kind → ArchiveWidth → ℕ × ℕ → List ℕ → Pairs → Type 0
represents_in Num bits factor b (numbers pairs) =
    PairsRepresent (number_parts bits) factor (ScalarRepresents (unsigned w32)) pairs b
represents_in Text bits factor b (texts pairs) =
    PairsRepresent (text_parts bits) factor (TextReads (word_of bits)) pairs b
represents_in Num bits factor b (texts pairs) = ⊥
represents_in Text bits factor b (numbers pairs) = ⊥

-- the root of `b`, which is of the form, represents a map of the pairs
abbrev pub RootRepresents : Form → ℕ × ℕ → List ℕ → Pairs → Type 0
RootRepresents form factor b pairs = represents_in form.kind form.bits factor b pairs
