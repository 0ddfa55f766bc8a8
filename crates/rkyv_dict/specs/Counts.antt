-- The number of pairs of a list, and its first pairs.
use Rattle.std.specs.Prelude.{ℕ, take, vec_len}
use Rattle.rkyv_dict.specs.Forms.{Pairs, numbers, texts}
use Rattle.rkyv_dict.specs.declared.pairs.PairList.{PairList}
use Rattle.rkyv_dict.specs.declared.pairs.PairList.TheVariants.{Numbers, Texts}

-- the number of pairs of the list
abbrev pub list_len : PairList → ℕ
list_len (Numbers pairs) = vec_len pairs
list_len (Texts pairs) = vec_len pairs

-- the first `n` pairs of the list
abbrev pub take_pairs : ℕ → Pairs → Pairs
take_pairs n (numbers pairs) = numbers (take n pairs)
take_pairs n (texts pairs) = texts (take n pairs)
