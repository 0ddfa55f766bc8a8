-- Consequences of a valid index map for its readers.
use Rattle.std.proofs.Common.{◌≡◌, ℕ, zero, suc, ◌+◌, ◌*◌, ◌<◌, ◌≤◌, sym, ap, subst, ◌∙◌, arith, List, length, pos}
use Rattle.std.proofs.lemmas.Grind.{common_steps}
use Rattle.std.specs.Prelude.{unsigned_abs}
use Rattle.std.specs.Int.{Width, byte_len}
use Rattle.std.specs.List.{All}
use Rattle.std.proofs.lemmas.List.Elements.{All-cons, All-contains, All-nil}
use Rattle.rkyv_base.specs.{ElementSpec, Encoding, IsArchiveWord, IsElement, IsIndexEncoding, IsScalar, Viewable, number_at}
use Rattle.rkyv_base.specs.Lemmas.ElementSpec.{valid_at}
use Rattle.rkyv_table.specs.{IsWalked, cap_at, item_at, len_at, table_controls, table_spec, walk}
use Rattle.rkyv_table.proofs.ValidTable.{item_viewable}
use Rattle.rkyv_table.proofs.Walks.{full_walked}
use Rattle.rkyv_index.specs.{IsValidIndex, decode_entries, entries_pos, entry_at, index_spec, pair_pos, row, stored_index_spec}
use Rattle.rkyv_index.specs.Lemmas.IndexLaws.{All-unmap, each_is_valid, entry_inside, stored_index_element}
use Rattle.rkyv_index.specs.Lemmas.IndexSpecs.{number_table_viewable}
use Rattle.rkyv_index.proofs.Checking.{entry_aligned}

-- a property of each value of a row is one of all values of the row
pub All-row : (P : ℕ → Type 0) (size q n : ℕ) → ((i : ℕ) → i < n → P (entry_at size q i)) → All P (row size q n)
All-row P size q zero h = All-nil P
All-row P size q (suc n) h =
    let first : P q = subst P (omega arith) (h 0 (omega arith)) in
    All-cons P q (row size (q + size) n) first (All-row P size (q + size) n (λ i below. subst P (omega arith) (h (suc i) (omega arith))))

module _ (w : Width) (kind : IsArchiveWord w) (s : ElementSpec) (law : IsElement s) (b : List ℕ) (p : ℕ) (v : Viewable (index_spec w s) b p) where
  abbrev valid : IsValidIndex w s b p 0 p v.valid.0
  valid = v.valid.1

  -- the table of the map is valid
  pub table_there : Viewable (table_spec w (stored_index_spec w)) b p
  table_there = grind (arith, common_steps)

  -- the position at which the entries begin
  pub begin_is : entries_pos w b p ≡ valid.entries.begin
  begin_is = sym (ap unsigned_abs valid.entries.part.begins)

  pub entries_decoded : pos (entries_pos w b p) ≡ decode_entries w b p
  entries_decoded = ap pos begin_is ∙ valid.entries.part.begins

  pub entries_inside : entries_pos w b p + len_at w b p * s.size ≤ p
  entries_inside = let below = valid.entries.part.below in omega (arith, below, begin_is)

  -- the archive has a valid entry at each index below the length
  pub entry_viewable : (i : ℕ) → i < len_at w b p → Viewable s b (pair_pos w s.size b p i)
  entry_viewable i below =
      let begin = valid.entries.begin in
      let r = each_is_valid s law (entry_at s.size begin) b begin 0 (len_at w b p) valid.middle valid.entries.last i valid.entries.part.above valid.entries.valid (omega arith) (omega (arith, below)) in
      grind (arith, entry_inside, begin_is, entry_aligned, valid_at)

  -- all entries are valid. `size`: size of an entry, `begin`: position of the first, `n`: their number, `d`: bytes of the archive
  pub row_viewable : (size : ℕ) → size ≡ s.size → (begin : ℕ) → begin ≡ entries_pos w b p → (n : ℕ) → n ≡ len_at w b p → (d : List ℕ) → d ≡ b → All (Viewable s d) (row size begin n)
  row_viewable size a begin e n l d same = rw (a, e, l, same) (All-row (Viewable s b) s.size (entries_pos w b p) (len_at w b p) entry_viewable)

  -- the index in a full bucket is inside the archive, and below the length
  pub index_inside : (i : ℕ) → IsWalked w b p i → item_at w (byte_len w) b p i + byte_len w ≤ length b
  index_inside i walked = (item_viewable w (stored_index_spec w) (stored_index_element w kind) b p table_there i walked).inside

  pub index_below : (i : ℕ) → IsWalked w b p i → number_at w b (item_at w (byte_len w) b p i) < len_at w b p
  index_below i walked =
      All-contains (λ j. number_at w b (item_at w (byte_len w) b p j) < len_at w b p) (walk (table_controls w b p) (cap_at w b p)) i
      (All-unmap (λ q. number_at w b q < len_at w b p) (item_at w (byte_len w) b p) (walk (table_controls w b p) (cap_at w b p)) valid.below)
      (full_walked (cap_at w b p) (table_controls w b p) i walked)

  module _ {V : Type 0} (ps : ElementSpec) (e : Encoding V) (pk : IsScalar ps e) (is : IsIndexEncoding w e) where
    pub table_of_indices : Viewable (table_spec w ps) b p
    table_of_indices = number_table_viewable w ps e pk is b p table_there
