-- Writing one value of an archive in place: the new bytes, and the unchanged ones.
use Rattle.std.specs.Prelude.{◌≡◌, ℕ, ◌+◌, ◌-◌, ◌≤◌, List, ◌++◌, length, take, drop, slice_range}
use Rattle.std.specs.Int.{byte_len}
use Rattle.std.proofs.Common.{refl, arith, subst, subst₂, sym, ◌∙◌, ap, zero-add, length-append, length-drop}
use Rattle.std.proofs.lemmas.Grind.{common_steps}
use Rattle.std.proofs.lemmas.List.{drop-drop, drop-take, length-take-le, take-take}
use Rattle.std.proofs.Math.Seq.{drop-append-add, drop-append_seam, take-append_seam}
use Rattle.rkyv_base.specs.{AgreeOn, ElementSpec, Encodes, Encoding, IsCodeAt, IsElement, IsScalar, ModifiesOnly, Outside, StaysValid, Viewable, entry_spec, number_at, value_at, value_offset, with_bytes, with_value}
use Rattle.rkyv_base.specs.Lemmas.Scalar.{word_bytes, word_reads_back}
use Rattle.rkyv_base.specs.Lemmas.Entry.{key_and_value_inside, viewable_key, viewable_value}

module _ (b : List ℕ) (p n : ℕ) (w : List ℕ) (inside : p + n ≤ length b) (size : length w ≡ n) where
  front_length : length (take p b) ≡ p
  front_length = length-take-le p b (omega arith)

  -- the bytes from `p` on
  pub with_bytes-rest : drop p (with_bytes b p n w) ≡ w ++ drop (p + n) b
  with_bytes-rest = rw front_length at (drop-append_seam (take p b) (w ++ drop (p + n) b))

  -- the new bytes are at `p`
  pub with_bytes-slice : slice_range (with_bytes b p n w) p (p + n) ≡ w
  with_bytes-slice = grind (arith, common_steps, take-append_seam, with_bytes-rest)

  -- all other bytes are unchanged
  pub with_bytes-sealed : ModifiesOnly b p n (with_bytes b p n w)
  with_bytes-sealed = grind (arith, common_steps, length-append, length-drop, front_length, take-append_seam, drop-append_seam, drop-append-add)

-- a part as a part of the front up to `p`
part_of_front : (b : List ℕ) (i j p : ℕ) → i ≤ j → j ≤ p → slice_range b i j ≡ drop i (take j (take p b))
part_of_front b i j p o q = grind (arith, common_steps, take-take j p b q, drop-take i (j - i) b)

module _ (b : List ℕ) (p n : ℕ) (c : List ℕ) (s : ModifiesOnly b p n c) where
  same_before : (i j : ℕ) → i ≤ j → j ≤ p → AgreeOn b c i j
  same_before i j o q =
      part_of_front b i j p o q ∙ ap (λ (x : List ℕ). drop i (take j x)) (sym s.before) ∙ sym (part_of_front c i j p o q)

  same_after : (i j : ℕ) → p + n ≤ i → AgreeOn b c i j
  same_after i j q = grind (arith, common_steps, drop-drop (i - (p + n)) (p + n) b, drop-drop (i - (p + n)) (p + n) c)

  -- the bytes outside the sealed ones are the same
  pub same_outside : (i j : ℕ) → i ≤ j → Outside p n i j → AgreeOn b c i j
  same_outside i j o h = grind (arith, common_steps, same_before, same_after)

-- bytes that change only in a range change only in a wider range
pub sealed_wider : (b c : List ℕ) (p n q m : ℕ) → q ≤ p → p + n ≤ q + m → ModifiesOnly b p n c → ModifiesOnly b q m c
sealed_wider b c p n q m o h s = grind (arith, common_steps, drop-drop ((q + m) - (p + n)) (p + n) b, drop-drop ((q + m) - (p + n)) (p + n) c, take-take q p c o, take-take q p b o)

-- a scalar was written in place: nothing else changes, it reads back, and valid bytes stay valid
pub record ValueSet {V : Type 0} (s : ElementSpec) (e : Encoding V) (b c : List ℕ) (p : ℕ) (v : V) : Type 0 where
  pub sealed : ModifiesOnly b p s.size c
  pub reads : value_at e c p ≡ v
  pub value : IsCodeAt e c p
  pub is_valid : StaysValid s b c p

module _ {V : Type 0} (s : ElementSpec) (e : Encoding V) (laws : IsScalar s e) (b c : List ℕ) (p : ℕ) (v : V) (out : List ℕ)
    (inside : p + byte_len e.word ≤ length b) (encodes : Encodes e v out) (is : c ≡ with_value e b p v) where
  number_is_code : number_at e.word c p ≡ e.code v
  number_is_code = grind (arith, with_bytes-slice, word_bytes, word_reads_back)

  value_sealed : ModifiesOnly b p s.size c
  value_sealed = grind (arith, common_steps, subst₂, with_bytes-sealed, word_bytes)

  value_reads : value_at e c p ≡ v
  value_reads = ap e.value number_is_code ∙ encodes.reads_back

  value_good : IsCodeAt e c p
  value_good = subst e.IsCode (sym number_is_code) encodes.is_code

  value_valid : StaysValid s b c p
  value_valid lo hi l o h k = (laws.is_valid c p lo hi l).1 (((laws.is_valid b p lo hi l).0 k).0, value_good)

  pub value_set : ValueSet s e b c p v
  value_set = record { sealed = value_sealed; reads = value_reads; value = value_good; is_valid = value_valid }

-- a value outside the sealed bytes stays valid, with the same parts
module _ (s : ElementSpec) (laws : IsElement s) (b c : List ℕ) (q n : ℕ) (sealed : ModifiesOnly b q n c) (p lo hi l : ℕ) (o : lo ≤ hi)
    (fixed : Outside q n p (p + s.size)) (parts : Outside q n lo l) (h : s.is_valid b p lo hi l) where
  pub valid_outside : s.is_valid c p lo hi l
  valid_outside =
      let k : (lo ≤ l) × (l ≤ hi) = laws.rest_in_range b p lo hi l o h in
      laws.local b c p lo hi l o (same_outside b q n c sealed p (p + s.size) (omega arith) fixed) (same_outside b q n c sealed lo l k.0 parts) h

-- an entry whose value is written in place
module _ (k v : ElementSpec) (kl : IsElement k) (vl : IsElement v) where
  -- the entry stays valid, with the same parts, if the new value is valid
  pub entry_kept : (b c : List ℕ) (p : ℕ) → ModifiesOnly b (p + value_offset k v) v.size c → StaysValid v b c (p + value_offset k v) → StaysValid (entry_spec k v) b c p
  entry_kept b c p s keeps lo hi l o q h = grind (arith, common_steps, key_and_value_inside, valid_outside)

-- a valid value stays valid
pub viewable_kept : (s : ElementSpec) (b c : List ℕ) (p : ℕ) → length c ≡ length b → StaysValid s b c p → Viewable s b p → Viewable s c p
viewable_kept s b c p n keeps h = grind (arith, common_steps)

-- the archive is split at `q`, after a value
module _ (s : ElementSpec) (laws : IsElement s) (b : List ℕ) (q : ℕ) where
  same_in_front : (i j : ℕ) → i ≤ j → j ≤ q → AgreeOn b (take q b) i j
  same_in_front i j o h = grind (arith, common_steps, take-take q q b (omega arith), part_of_front b i j q o h, part_of_front (take q b) i j q o h)

  pub front_viewable : (p : ℕ) → p + s.size ≤ q → q ≤ length b → Viewable s b p → Viewable s (take q b) p
  front_viewable p h inside view = grind (arith, common_steps, length-take-le q b inside, same_in_front p (p + s.size) (omega arith) h)

-- the key of a valid entry is in the bytes before the value
pub key_in_front : (k v : ElementSpec) → IsElement k → IsElement v → (b : List ℕ) (p : ℕ) → Viewable (entry_spec k v) b p → Viewable k (take (p + value_offset k v) b) p
key_in_front k v kl vl b p h =
    let i = key_and_value_inside k v in
    let value : Viewable v b (p + value_offset k v) = viewable_value k v kl vl b p h in
    front_viewable k kl b (p + value_offset k v) p (omega (arith, i.0)) (omega (arith, value.inside)) (viewable_key k v kl vl b p h)

-- a write at the start of the back is one in the whole
pub joined : (b w : List ℕ) (q n : ℕ) → take q b ++ with_bytes (drop q b) 0 n w ≡ with_bytes b q n w
joined b w q n = rw (zero-add n, drop-drop n q b) refl
