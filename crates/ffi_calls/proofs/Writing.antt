-- The result of an overwrite in place, after which the archive is valid.
use Rattle.std.proofs.Common.{◌≡◌, ℕ, ◌*◌, ◌+◌, ◌-◌, ◌%◌, ◌∙◌, Bool, List, None, Option, Some, ap, arith, false, length, subst, sym, true}
use Rattle.std.specs.Int.{Width, byte_len}
use Rattle.std.specs.Option.{option_map}
use Rattle.std.specs.Prelude.{MatchOption}
use Rattle.rkyv_scan.specs.{HasherCall, generic_kind}
use Rattle.rkyv_base.specs.{AgreeOn, ElementSpec, Encoding, IsValidArchive, ValidAt, Viewable, entry_spec, value_pos, with_value}
use Rattle.rkyv_table.specs.Lemmas.SameHeader.{cap_same, len_same, pos_same}
use Rattle.rkyv_table.specs.{IsDecoded, pos_found}
use Rattle.rkyv_table.specs.declared.table.decoded.Decoded.{Decoded}
use Rattle.rkyv_collections.specs.{SetsFound, map_root, map_spec}
use Rattle.ffi_calls.specs.{KeepsHeader, hash_by, map_in, value_found}

-- a decoded header is one of the same header in other bytes
pub decoded_again : (w : Width) (b c : List ℕ) (p : ℕ) → AgreeOn b c p (p + 3 * byte_len w) → (header : Decoded) → IsDecoded w b p header → IsDecoded w c p header
decoded_again w b c p same header is = record {
  len = is.len ∙ len_same w b c p same;
  cap = is.cap ∙ cap_same w b c p same;
  small = is.small;
  controls_pos = λ some. is.controls_pos some ∙ pos_same w b c p same;
  divisor = is.divisor;
}

module _ {N : Type 0} (w : Width) (k v : ElementSpec) (e : Encoding N) (key_hash : List ℕ → ℕ → ℕ) (b : List ℕ) (p : ℕ) (value : N) (result : Bool) (c : List ℕ) where
  -- the result of an overwrite, by its status
  status_of_set : (status : ℕ) (target : Option ℕ) → (result ≡ true → status ≡ 0) → (result ≡ false → status ≡ 1) → SetsFound w k v e key_hash b p value result c target
      → MatchOption target ((status ≡ 1) × (c ≡ b)) (λ q. (status ≡ 0) × (c ≡ with_value e b q value))
  status_of_set status None found missed h = (missed h.0, h.1)
  status_of_set status (Some q) found missed h = (found h.0, h.1)

  -- the map is valid after the overwrite
  viewable_after_set : (target : Option ℕ) → SetsFound w k v e key_hash b p value result c target → Viewable (map_spec w k v) b p → Viewable (map_spec w k v) c p
  viewable_after_set None h there = subst (λ x. Viewable (map_spec w k v) x p) (sym h.1) there
  viewable_after_set (Some q) h there = h.2.3.valid

  -- the decoded header of the map is the header of the map after the overwrite
  header_after_set : (target : Option ℕ) → SetsFound w k v e key_hash b p value result c target → (header : Decoded) → IsDecoded w b p header → IsDecoded w c p header
  header_after_set None h header is = subst (λ x. IsDecoded w x p header) (sym h.1) is
  header_after_set (Some q) h header is = decoded_again w b c p h.2.3.table.header header is

-- bytes of the same length with a valid root are a valid archive
pub accepted_again : (limit : ℕ) (s : ElementSpec) (b c : List ℕ) (p : ℕ) → IsValidArchive limit s b → p ≡ length b - s.size → length c ≡ length b → Viewable s c p → IsValidArchive limit s c
accepted_again limit s b c p a at same v =
    let within = a.within in
    let inside = a.inside in
    record {
      within = omega arith;
      inside = omega arith;
      aligned = subst (λ n. (n - s.size) % s.align ≡ 0) (sym same) a.aligned;
      valid = subst (ValidAt s c) (at ∙ ap (λ n. n - s.size) (sym same)) v.valid;
    }

-- an overwrite at the position that a lookup finds in the map at the root of an archive
module _ {N : Type 0} (w : Width) (k v : ElementSpec) (e : Encoding N) (key_hash : List ℕ → ℕ → ℕ) (b : List ℕ) (p : ℕ) (calls : List HasherCall) (fits : ℕ → Bool) (value : N) (result : Bool) (c : List ℕ)
    (at : p ≡ map_root w k v b) (set : SetsFound w k v e key_hash b p value result c (option_map (value_pos k v) (pos_found generic_kind w (entry_spec k v).size b p (hash_by calls) fits))) where
  abbrev pos_at : ℕ → Option ℕ
  pos_at q = option_map (value_pos k v) (pos_found generic_kind w (entry_spec k v).size b q (hash_by calls) fits)

  -- the archive is valid after the overwrite
  pub set_kept : (limit : ℕ) → IsValidArchive limit (map_spec w k v) b → Viewable (map_spec w k v) b p → length c ≡ length b → IsValidArchive limit (map_spec w k v) c
  set_kept limit accepted viewable same = accepted_again limit (map_spec w k v) b c p accepted at same (viewable_after_set w k v e key_hash b p value result c (pos_at p) set viewable)

  -- the decoded header stays the header of the map
  pub set_keeps_header : length c ≡ length b → KeepsHeader (map_in w k v b) (map_in w k v c)
  set_keeps_header same header is =
      let here = subst (λ q. IsDecoded w b q header) (sym at) is in
      subst (λ q. IsDecoded w c q header) (at ∙ ap (λ n. n - (map_spec w k v).size) (sym same)) (header_after_set w k v e key_hash b p value result c (pos_at p) set header here)

  -- the status of the overwrite, by the position that the lookup finds
  pub overwrite_status : (status : ℕ) → (result ≡ true → status ≡ 0) → (result ≡ false → status ≡ 1)
      → MatchOption (value_found (map_in w k v b) calls fits) ((status ≡ 1) × (c ≡ b)) (λ q. (status ≡ 0) × (c ≡ with_value e b q value))
  overwrite_status status if_found missed =
      let P : Option ℕ → Type 0 = λ o. MatchOption o ((status ≡ 1) × (c ≡ b)) (λ q. (status ≡ 0) × (c ≡ with_value e b q value)) in
      subst P (ap pos_at at) (status_of_set w k v e key_hash b p value result c status (pos_at p) if_found missed set)
