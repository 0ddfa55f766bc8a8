-- The state of a script.
use Rattle.std.specs.Prelude.{ℕ, List, [], ◌∷◌, ◌++◌, Option, None}
use Rattle.std.specs.Option.{ForSome}
use Rattle.rkyv_dict.specs.declared.form.ArchiveWidth.{ArchiveWidth}
use Rattle.rkyv_dict.specs.declared.form.ArchiveWidth.TheVariants.{Bits32}
use Rattle.rkyv_dict.specs.declared.form.Form.{Form}
use Rattle.rkyv_dict.specs.declared.form.Kind.{Kind}
use Rattle.rkyv_dict.specs.declared.form.Kind.TheVariants.{Num, Text}
use Rattle.rkyv_dict.specs.Archives.{IsArchive}
use Rattle.rkyv_dict.specs.Built.{RootRepresents, form_of_pairs}
use Rattle.rkyv_dict.specs.Forms.{Pairs, numbers, texts}

-- an archive: its bytes, and the pairs that it was built from, or `None` after `check`
pub record Archived : Type 0 where
  pub bytes : List ℕ
  pub built_of : Option Pairs

-- the state: width, load factor, list of pairs, and archive, if any.
-- The kind of the list is the kind that is set.
pub record State : Type 0 where
  pub bits : ArchiveWidth
  pub load_factor : ℕ × ℕ
  pub pairs : Pairs
  pub archive : Option Archived

-- the empty list of the kind
abbrev pub no_pairs : Kind → Pairs
no_pairs Num = numbers []
no_pairs Text = texts []

-- the form of the archive of `s`
abbrev pub form_of : State → Form
form_of s = form_of_pairs s.bits s.pairs

-- the state before the first line
abbrev pub start : State
start = record { bits = Bits32; load_factor = (7, 8); pairs = no_pairs Num; archive = None }

-- `s` in another form, with the list and the archive emptied and the load factor unchanged
abbrev pub emptied : Kind → ArchiveWidth → State → State
emptied kind bits s = record {
  bits = bits;
  load_factor = s.load_factor;
  pairs = no_pairs kind;
  archive = None;
}

-- the list of numbers with a pair appended; a list of texts is unchanged
abbrev pub with_numbers : Pairs → ℕ → ℕ → Pairs
with_numbers (numbers pairs) key value = numbers (pairs ++ (key, value) ∷ [])
with_numbers (texts pairs) key value = texts pairs

-- the list of texts with a pair appended; a list of numbers is unchanged
abbrev pub with_texts : Pairs → List ℕ → List ℕ → Pairs
with_texts (numbers pairs) key value = numbers pairs
with_texts (texts pairs) key value = texts (pairs ++ (key, value) ∷ [])

-- `archived` is a valid archive of `form`.
-- If it was built, its root represents the pairs that it was built from.
pub record IsSoundIn (form : Form) (archived : Archived) : Type 0 where
  pub archive : IsArchive form archived.bytes
  pub built : ForSome archived.built_of (λ pairs. (factor : ℕ × ℕ)
      × RootRepresents form factor archived.bytes pairs)

-- the archive of `s`, if any, is valid in its form; a built one represents its pairs
unfoldable pub IsSound : State → Type 0
IsSound s = ForSome s.archive (IsSoundIn (form_of s))
