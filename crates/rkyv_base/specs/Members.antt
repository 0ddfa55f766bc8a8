-- The ghost members of bounds, as clauses name them: a width's members, and an element's.
use Rattle.std.specs.Prelude.{ℕ, List}
use Rattle.std.specs.Int.{Width}
use Rattle.rkyv_base.specs.ElementSpecs.{ElementSpec, IsElement}
use Rattle.rkyv_base.specs.Text.{IsArchiveWord}

-- the members of a `Width` and its `Word`
abbrev pub WidthMembers : Type 0
WidthMembers = record {
  word : Width;
  kind : IsArchiveWord word;
  LIMIT : ℕ;
  ALIGN : ℕ;
  MAX_CAPACITY : ℕ;
  TABLE_SIZE : ℕ;
  INDEX_SIZE : ℕ;
  TEXT_SIZE : ℕ;
  TEXT_LIMIT : ℕ;
}

-- the members of an element, and what its values represent
abbrev pub ElementMembers : Type 0 → Type 1
ElementMembers V = record {
  spec : ElementSpec;
  laws : IsElement spec;
  represents : List ℕ → ℕ → V → Type 0;
}
