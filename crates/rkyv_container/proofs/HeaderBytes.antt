-- The bytes of a header: each field at its offset, and headers with equal bytes are equal.
use Rattle.std.proofs.lemmas.Grind.{common_steps}
use Rattle.std.proofs.Common.{◌≡◌, ℕ, ◌-◌, ◌<◌, ◌≤◌, ◌==◌, ◌^◌, min, List, ◌++◌, length, take, drop, cond, Option, None, Some, refl, sym, ap, ◌∙◌, arith, length-take}
use Rattle.std.specs.Prelude.{slice_index, slice_range}
use Rattle.std.specs.Int.{from_le_bytes, to_le_bytes, w16, w32, w64}
use Rattle.std.proofs.lemmas.List.{drop-drop, drop-take, take-append-drop, take-take}
use Rattle.std.proofs.lemmas.Nat.{
  from_le_bytes-to_le_bytes_2,
  from_le_bytes-to_le_bytes_4,
  from_le_bytes-to_le_bytes_8,
}
use Rattle.rkyv_container.specs.declared.contents.Kind.{Kind}
use Rattle.rkyv_container.specs.declared.contents.Kind.TheVariants.{HashMap, HashSet, IndexMap, IndexSet}
use Rattle.rkyv_container.specs.declared.contents.ItemType.{ItemType}
use Rattle.rkyv_container.specs.declared.contents.ItemType.TheVariants.{Bool as BoolType, Bytes, Char, F32, F64, I16, I32, I64, I8, Text, U16, U32, U64, U8, Unit as UnitType}
use Rattle.rkyv_container.specs.declared.contents.Width.{Width}
use Rattle.rkyv_container.specs.declared.contents.Width.TheVariants.{Narrow, Wide}
use Rattle.rkyv_container.specs.declared.contents.Contents.{Contents}
use Rattle.rkyv_container.specs.declared.header.Header.{Header}
use Rattle.rkyv_container.specs.{Fits, IsHeader, checksum_field, contents_bytes, flags_of, header_bytes, item_code, kind_code, width_code}
use Rattle.std.proofs.Common.{arith}

-- a range of the first `n` bytes
pub slice_take : (b : List ℕ) (n i j : ℕ) → i ≤ j → j ≤ n
    → slice_range (take n b) i j ≡ slice_range b i j
slice_take b n i j hij hjn = grind (arith, common_steps, drop-take i (n - i) b, take-take)

-- two neighbouring ranges
pub slice_join : (b : List ℕ) (i j k : ℕ) → i ≤ j → j ≤ k
    → slice_range b i j ++ slice_range b j k ≡ slice_range b i k
slice_join b i j k hij hjk = grind (arith, common_steps, take-append-drop (j - i) (take (k - i) (drop i b)), drop-take (j - i) (k - j) (drop i b), drop-drop (j - i) i b, take-take)

-- a field of a header, at the same positions in the bytes
pub field : (h : Header) (b : List ℕ) (i j : ℕ) → IsHeader h b → i ≤ j → j ≤ 32
    → slice_range b i j ≡ slice_range (header_bytes h) i j
field h b i j s hij hj =
    sym (slice_take b 32 i j hij hj) ∙ ap (λ (x : List ℕ). slice_range x i j) s.bytes

-- a header has 32 bytes
pub length-header_bytes : (h : Header) → length (header_bytes h) ≡ 32
length-header_bytes h = refl

pub header_length : (h : Header) (b : List ℕ) → IsHeader h b → 32 ≤ length b
header_length h b s =
    let e : length (take 32 b) ≡ 32 = ap length s.bytes ∙ length-header_bytes h in
    let f : length (take 32 b) ≡ min 32 (length b) = length-take 32 b in
    omega arith

-- the kind, the type and the width with a code
kind_at : ℕ → Kind
kind_at n = cond (n == 1) HashMap (cond (n == 2) HashSet (cond (n == 3) IndexMap IndexSet))

item_at : ℕ → ItemType
item_at n =
    cond (n == 1) UnitType (cond (n == 2) BoolType (cond (n == 3) Char (cond (n == 4) Text
    (cond (n == 5) Bytes (cond (n == 17) U8 (cond (n == 18) U16 (cond (n == 20) U32
    (cond (n == 24) U64 (cond (n == 33) I8 (cond (n == 34) I16 (cond (n == 36) I32
    (cond (n == 40) I64 (cond (n == 52) F32 F64)))))))))))))

width_at : ℕ → Width
width_at n = cond (n == 4) Narrow Wide

kind_at-kind_code : (k : Kind) → kind_at (kind_code k) ≡ k
unfolding kind_at
kind_at-kind_code HashMap = refl
kind_at-kind_code HashSet = refl
kind_at-kind_code IndexMap = refl
kind_at-kind_code IndexSet = refl

item_at-item_code : (t : ItemType) → item_at (item_code t) ≡ t
unfolding item_at
item_at-item_code UnitType = refl
item_at-item_code BoolType = refl
item_at-item_code Char = refl
item_at-item_code Text = refl
item_at-item_code Bytes = refl
item_at-item_code U8 = refl
item_at-item_code U16 = refl
item_at-item_code U32 = refl
item_at-item_code U64 = refl
item_at-item_code I8 = refl
item_at-item_code I16 = refl
item_at-item_code I32 = refl
item_at-item_code I64 = refl
item_at-item_code F32 = refl
item_at-item_code F64 = refl

width_at-width_code : (w : Width) → width_at (width_code w) ≡ w
unfolding width_at
width_at-width_code Narrow = refl
width_at-width_code Wide = refl

-- codes are unique
pub kind_unique : (k l : Kind) → kind_code k ≡ kind_code l → k ≡ l
kind_unique k l e = sym (kind_at-kind_code k) ∙ ap kind_at e ∙ kind_at-kind_code l

pub item_unique : (s t : ItemType) → item_code s ≡ item_code t → s ≡ t
item_unique s t e = sym (item_at-item_code s) ∙ ap item_at e ∙ item_at-item_code t

pub width_unique : (v w : Width) → width_code v ≡ width_code w → v ≡ w
width_unique v w e = sym (width_at-width_code v) ∙ ap width_at e ∙ width_at-width_code w

-- a checksum is known from the flags and its field
pub checksum_unique : (c d : Option ℕ) → flags_of c ≡ flags_of d
    → checksum_field c ≡ checksum_field d → c ≡ d
checksum_unique None None f s = refl
checksum_unique None (Some d) f s = absurd (omega arith)
checksum_unique (Some c) None f s = absurd (omega arith)
checksum_unique (Some c) (Some d) f s = ap Some s

contents_with : Kind → ItemType → ItemType → Width → Contents
contents_with k s t w = record { kind = k; key = s; value = t; width = w }

-- contents are equal if their parts are
pub contents_equal : (c d : Contents) → c.kind ≡ d.kind → c.key ≡ d.key → c.value ≡ d.value
    → c.width ≡ d.width → c ≡ d
unfolding contents_with
contents_equal c d k s t w = grind (arith, common_steps, contents_with)

-- contents with equal bytes are equal
pub contents_unique : (c d : Contents) → contents_bytes c ≡ contents_bytes d → c ≡ d
contents_unique c d e = contents_equal c d
    (kind_unique _ _ (ap (λ (x : List ℕ). slice_index x 0) e))
    (item_unique _ _ (ap (λ (x : List ℕ). slice_index x 1) e))
    (item_unique _ _ (ap (λ (x : List ℕ). slice_index x 2) e))
    (width_unique _ _ (ap (λ (x : List ℕ). slice_index x 3) e))

header_with : Contents → ℕ → Option ℕ → Header
header_with c n s = record { contents = c; len = n; checksum = s }

pub header_equal : (h k : Header) → h.contents ≡ k.contents → h.len ≡ k.len
    → h.checksum ≡ k.checksum → h ≡ k
unfolding header_with
header_equal h k c n s = grind (arith, common_steps, header_with)

-- the flags fit in two bytes
pub flags_fit : (c : Option ℕ) → flags_of c < 2 ^ 16
flags_fit None = omega arith
flags_fit (Some c) = omega arith

-- headers with equal bytes are equal
pub header_bytes_unique : (h k : Header) → Fits h → Fits k → header_bytes h ≡ header_bytes k
    → h ≡ k
header_bytes_unique h k hf kf e =
    let contents : contents_bytes h.contents ≡ contents_bytes k.contents =
    ap (λ (x : List ℕ). slice_range x 10 14) e in
    let flags : to_le_bytes w16 (flags_of h.checksum) ≡ to_le_bytes w16 (flags_of k.checksum) =
    ap (λ (x : List ℕ). slice_range x 14 16) e in
    let len : to_le_bytes w64 h.len ≡ to_le_bytes w64 k.len =
    ap (λ (x : List ℕ). slice_range x 16 24) e in
    let number : to_le_bytes w32 (checksum_field h.checksum)
    ≡ to_le_bytes w32 (checksum_field k.checksum) =
    ap (λ (x : List ℕ). slice_range x 24 28) e in
    header_equal h k
    (contents_unique h.contents k.contents contents)
    (sym (from_le_bytes-to_le_bytes_8 h.len hf.len) ∙ ap (from_le_bytes w64) len
    ∙ from_le_bytes-to_le_bytes_8 k.len kf.len)
    (checksum_unique h.checksum k.checksum
    (sym (from_le_bytes-to_le_bytes_2 _ (flags_fit h.checksum))
    ∙ ap (from_le_bytes w16) flags
    ∙ from_le_bytes-to_le_bytes_2 _ (flags_fit k.checksum))
    (sym (from_le_bytes-to_le_bytes_4 _ hf.checksum) ∙ ap (from_le_bytes w32) number
    ∙ from_le_bytes-to_le_bytes_4 _ kf.checksum))

-- bytes begin with one header at most
pub header_unique : (b : List ℕ) (h k : Header) → IsHeader h b → IsHeader k b → h ≡ k
header_unique b h k s t = header_bytes_unique h k s.fits t.fits (sym s.bytes ∙ t.bytes)
