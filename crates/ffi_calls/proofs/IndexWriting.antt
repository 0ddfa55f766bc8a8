-- The result of an overwrite in an index map, after which the archive is valid.
use Rattle.std.proofs.Common.{◌≡◌, ◌∙◌, ℕ, ◌*◌, ◌+◌, ◌-◌, Bool, List, None, Option, Some, ap, arith, false, length, subst, sym, true}
use Rattle.std.specs.Int.{Width, byte_len}
use Rattle.std.specs.Option.{option_map}
use Rattle.std.specs.Prelude.{MatchOption}
use Rattle.rkyv_scan.specs.{HasherCall}
use Rattle.rkyv_base.specs.{ElementSpec, Encoding, IsValidArchive, Viewable, entry_spec, value_pos, with_value}
use Rattle.rkyv_base.specs.Lemmas.Bytes.{agree_on_part}
use Rattle.rkyv_table.specs.{IsDecoded}
use Rattle.rkyv_table.specs.declared.table.decoded.Decoded.{Decoded}
use Rattle.rkyv_index.specs.{KeepsIndexMap, index_found, index_kind, pair_pos}
use Rattle.ffi_calls.specs.{KeepsHeader, hash_by, index_in, index_map, index_root, value_found_in}
use Rattle.ffi_calls.proofs.Writing.{accepted_again, decoded_again}

-- an overwrite of the value at the index that a lookup finds in the index map at the root of an archive
module _ {N : Type 0} (w : Width) (k v : ElementSpec) (e : Encoding N) (key_hash : List ℕ → ℕ → ℕ) (b : List ℕ) (p : ℕ) (value : N) (result : Bool) (c : List ℕ) where
  -- the position of the value at index `i` of the map at `q`
  abbrev value_at : ℕ → ℕ → ℕ
  value_at q i = value_pos k v (pair_pos w (entry_spec k v).size b q i)

  abbrev SetsAt : Option ℕ → Type 0
  SetsAt index = MatchOption index ((result ≡ false) × (c ≡ b)) (λ i. (result ≡ true) × (c ≡ with_value e b (value_at p i) value) × KeepsIndexMap (index_kind w k v key_hash) b c p i)

  viewable_after : (index : Option ℕ) → SetsAt index → Viewable (index_map w k v) b p → Viewable (index_map w k v) c p
  viewable_after None h there = subst (λ x. Viewable (index_map w k v) x p) (sym h.1) there
  viewable_after (Some i) h there = h.2.valid

  header_after : (index : Option ℕ) → SetsAt index → (header : Decoded) → IsDecoded w b p header → IsDecoded w c p header
  header_after None h header is = subst (λ x. IsDecoded w x p header) (sym h.1) is
  header_after (Some i) h header is = decoded_again w b c p (agree_on_part b c p (p + 4 * byte_len w) p (p + 3 * byte_len w) (omega arith) (omega arith) (omega arith) h.2.entries.header) header is

  status_after : (status : ℕ) (index : Option ℕ) → (result ≡ true → status ≡ 0) → (result ≡ false → status ≡ 1) → SetsAt index
      → MatchOption (option_map (value_at p) index) ((status ≡ 1) × (c ≡ b)) (λ q. (status ≡ 0) × (c ≡ with_value e b q value))
  status_after status None found missed h = (missed h.0, h.1)
  status_after status (Some i) found missed h = (found h.0, h.1)

  module _ (calls : List HasherCall) (fits : ℕ → Bool) (at : p ≡ index_root w k v b) where
    abbrev index_at : ℕ → Option ℕ
    index_at q = index_found w b q (hash_by calls) (λ i. fits (pair_pos w (entry_spec k v).size b q i))

    module _ (set : SetsAt (index_at p)) where
      -- the archive is valid after the overwrite
      pub index_kept : (limit : ℕ) → IsValidArchive limit (index_map w k v) b → Viewable (index_map w k v) b p → length c ≡ length b → IsValidArchive limit (index_map w k v) c
      index_kept limit accepted viewable same = accepted_again limit (index_map w k v) b c p accepted at same (viewable_after (index_at p) set viewable)

      -- the decoded header stays the header of the map
      pub index_keeps_header : length c ≡ length b → KeepsHeader (index_in w k v b) (index_in w k v c)
      index_keeps_header same header is =
          let here = subst (λ q. IsDecoded w b q header) (sym at) is in
          subst (λ q. IsDecoded w c q header) (at ∙ ap (λ n. n - (index_map w k v).size) (sym same)) (header_after (index_at p) set header here)

      -- the status of the overwrite, by the position of the value that the lookup finds
      pub index_overwrite_status : (status : ℕ) → (result ≡ true → status ≡ 0) → (result ≡ false → status ≡ 1)
          → MatchOption (value_found_in (index_in w k v b) calls fits) ((status ≡ 1) × (c ≡ b)) (λ q. (status ≡ 0) × (c ≡ with_value e b q value))
      index_overwrite_status status if_found missed =
          let P : ℕ → Type 0 = λ q. MatchOption (option_map (value_at q) (index_at q)) ((status ≡ 1) × (c ≡ b)) (λ r. (status ≡ 0) × (c ≡ with_value e b r value)) in
          subst P at (status_after status (index_at p) if_found missed set)
