-- Words and limits of a form, and the keys and lists of pairs as contracts see them.
use Rattle.std.specs.Prelude.{ℕ, List, map}
use Rattle.std.specs.Borrow.{Bor}
use Rattle.std.specs.Int.{Width, w32, w64}
use Rattle.rkyv_dict.specs.declared.form.ArchiveWidth.{ArchiveWidth}
use Rattle.rkyv_dict.specs.declared.form.ArchiveWidth.TheVariants.{Bits32, Bits64}
use Rattle.rkyv_dict.specs.declared.form.Key.{Key}
use Rattle.rkyv_dict.specs.declared.form.Key.TheVariants.{Number, Text}
use Rattle.rkyv_dict.specs.declared.pairs.PairList.{PairList}
use Rattle.rkyv_dict.specs.declared.pairs.PairList.TheVariants.{Numbers, Texts}

-- pairs of keys and values of one kind, in insertion order
pub data Pairs : Type 0 where
  numbers : List (ℕ × ℕ) → Pairs
  texts : List (List ℕ × List ℕ) → Pairs

-- the key of a lookup
pub data LookupKey : Type 0 where
  number_key : ℕ → LookupKey
  text_key : List ℕ → LookupKey

-- a pair of texts as their bytes
abbrev pub text_pair : Bor (List ℕ) × Bor (List ℕ) → List ℕ × List ℕ
text_pair pair = (pair.0.now, pair.1.now)

-- the pairs of a list, in order
abbrev pub pairs_of : PairList → Pairs
pairs_of (Numbers pairs) = numbers pairs.items
pairs_of (Texts pairs) = texts (map text_pair pairs.items)

-- the number or the text of a key
abbrev pub lookup_key : Key → LookupKey
lookup_key (Number n) = number_key n
lookup_key (Text t) = text_key t.now

-- the word of a count or a distance
abbrev pub word_of : ArchiveWidth → Width
word_of Bits32 = w32
word_of Bits64 = w64

-- the greatest length of an archive, in bytes
abbrev pub limit_of : ArchiveWidth → ℕ
limit_of Bits32 = 4_294_967_295
limit_of Bits64 = 9_223_372_036_854_775_807

-- the greatest number of buckets
abbrev pub buckets_of : ArchiveWidth → ℕ
buckets_of Bits32 = 4_294_967_295
buckets_of Bits64 = 4_611_686_018_427_387_904
