-- Lookups in an index map that return a seal of the value.
use Rattle.std.specs.Prelude.{◌≡◌, ℕ, ◌<◌, List, Option}
use Rattle.std.specs.Int.{Width}
use Rattle.std.specs.Option.{option_map}
use Rattle.rkyv_base.specs.{ElementSpec, IsValidView, SealAt, Viewable, archive_in, archive_ref}
use Rattle.rkyv_base.specs.{bytes_of, entry_spec, pos_in, pos_of, value_pos}
use Rattle.rkyv_base.specs.declared.seal.ArchiveSeal.{ArchiveSeal}
use Rattle.rkyv_base.specs.declared.seal.Seal.{Seal}
use Rattle.rkyv_base.specs.declared.view.View.{View}
use Rattle.rkyv_table.specs.{LendsPair, len_at}
use Rattle.rkyv_index.specs.Map.{Index, IsStoredAt, IsStoredBelow, MatchesAt}
use Rattle.rkyv_index.specs.Map.IndexLayout.{index_spec}
use Rattle.rkyv_index.specs.Map.ValueWrites.{KeptByWrites, pair_at}
use Rattle.rkyv_index.specs.declared.map.IndexMapOf.{IndexMapOf}

-- the archive has a valid index map at the position of the seal `a`
abbrev pub IsIndexSeal : {K V H W : Type 0} → Width → ElementSpec → ElementSpec
    → ArchiveSeal (IndexMapOf K V H W) → Type 0
IsIndexSeal w k v a = Viewable (index_spec w (entry_spec k v)) (archive_in a) (pos_in a)

-- an item of the table of the map at the seal `a` has the index `i`, and it is below the length
abbrev pub IsStoredIn : {K V H W : Type 0} → Width → ArchiveSeal (IndexMapOf K V H W) → ℕ → Type 0
IsStoredIn w a i = IsStoredBelow w (archive_in a) (pos_in a) i

-- `key`: view of the key at index `i` of the map at `p`, in the bytes `b`
pub record IsKeyAt {K : Type 0} (w : Width) (k v : ElementSpec) (b : List ℕ) (p i : ℕ)
    (key : View K) :
    Type 0 where
  pub below : i < len_at w b p
  pub bytes : bytes_of key ≡ b
  pub pos : pos_of key ≡ pair_at w k v b p i
  pub viewable : IsValidView k key

-- the index map at `p` of the bytes `b`. Its keys are viewed in any archive with the same bytes
abbrev pub index_at : {K : Type 0} → Width → ElementSpec → ElementSpec → List ℕ → ℕ → Index K
index_at w k v b p = record {
  word = w;
  key = k;
  value = v;
  bytes = b;
  pos = p;
  is_key = IsKeyAt w k v b p;
}

-- the index map at the seal `a`
abbrev pub index_in : {K V H W : Type 0} → Width → ElementSpec → ElementSpec
    → ArchiveSeal (IndexMapOf K V H W) → Index K
index_in w k v a = index_at w k v (archive_in a) (pos_in a)

-- `q`: position of the pair at index `i` of the map at `p`, with a valid key and value.
-- A write of only the value that keeps it valid keeps the index map
pub record IsPairPos (w : Width) (k v : ElementSpec) (b : List ℕ) (p i q : ℕ) : Type 0 where
  pub below : i < len_at w b p
  pub pos : q ≡ pair_at w k v b p i
  pub key : Viewable k b q
  pub value : Viewable v b (value_pos k v q)
  pub kept : KeptByWrites w k v b p i

module _ {K V H W : Type 0} (w : Width) (k v : ElementSpec) (a : ArchiveSeal
    (IndexMapOf K V H W)) where
  -- `q`: position of the pair at index `i` of the index map at the seal
  abbrev pub IsPairPosIn : ℕ → ℕ → Type 0
  IsPairPosIn i q = IsPairPos w k v (archive_in a) (pos_in a) i q

  -- `full`: an index in the table, the view of its key and the seal of its value
  abbrev pub IsFullSeal : ℕ × View K × Seal V → Type 0
  IsFullSeal full = IsStoredAt w (archive_in a) (pos_in a) full.0
      × LendsPair k v (archive_in a) (IsPairPosIn full.0) (full.1, full.2)

  -- `pair`: view of the key and seal of the value at an index in the table
  abbrev pub IsPairSeal : View K × Seal V → Type 0
  IsPairSeal pair = (i : ℕ) × IsStoredAt w (archive_in a) (pos_in a) i
      × LendsPair k v (archive_in a) (IsPairPosIn i) pair

  -- `value`: seal of the value at index `i`, which borrows the archive of the seal `a`
  pub record SealsValueAt (i : ℕ) (value : Seal V) : Type 0 where
    pub key : ℕ
    pub at : IsPairPosIn i key
    pub seal : SealAt value (archive_ref a) (value_pos k v key)

  -- `value`: seal of the value at an index in the table
  abbrev pub IsValueSeal : Seal V → Type 0
  IsValueSeal value = (i : ℕ) × IsStoredAt w (archive_in a) (pos_in a) i × SealsValueAt i value

  -- `result`: the pair at `index`, or `None` if `index` is `None`
  abbrev pub SealsPair : Option (View K × Seal V) → Option ℕ → Type 0
  SealsPair result index =
      MatchesAt (λ i. LendsPair k v (archive_in a) (IsPairPosIn i)) result index

  -- `result`: the value at `index`, or `None` if `index` is `None`
  abbrev pub SealsValue : Option (Seal V) → Option ℕ → Type 0
  SealsValue result index = MatchesAt SealsValueAt result index

-- the index in `result`
abbrev pub full_seal_index : {K V : Type 0} → Option (ℕ × View K × Seal V) → Option ℕ
full_seal_index {K} {V} result = option_map (λ (full : ℕ × View K × Seal V). full.0) result

-- `result` has `index`, or both are `None`
abbrev pub IsFullSealAt : {K V : Type 0} → Option (ℕ × View K × Seal V) → Option ℕ → Type 0
IsFullSealAt result index = full_seal_index result ≡ index
