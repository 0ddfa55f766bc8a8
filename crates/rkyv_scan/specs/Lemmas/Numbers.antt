-- The hash of a list of calls fits in 64 bits.
use Rattle.std.proofs.Common.{ℕ, ◌^◌, ◌<◌, List, [], ◌∷◌, arith}
use Rattle.std.specs.List.{fold}
use Rattle.rkyv_scan.specs.{HasherCall, NumbersFit, SizeWords, call_words, fx_feed, fx_hasher}
use Rattle.rkyv_scan.specs.{hash_word, hash_words}

word_fits : (state word : ℕ) → hash_word state word < 2 ^ 64
unfolding hash_word
word_fits state word = omega arith

words_fit : (state : ℕ) (words : List ℕ) → state < 2 ^ 64 → hash_words state words < 2 ^ 64
words_fit state [] h = h
words_fit state (word ∷ words) h = words_fit (hash_word state word) words (word_fits state word)

calls_fit : (sizes : SizeWords) (state : ℕ) (calls : List HasherCall) → state < 2 ^ 64
    → fold (fx_feed sizes) state calls < 2 ^ 64
calls_fit sizes state [] h = h
calls_fit sizes state (call ∷ calls) h =
    calls_fit sizes (fx_feed sizes state call) calls (words_fit state (call_words sizes call) h)

pub fx_fits : (sizes : SizeWords) → NumbersFit (fx_hasher sizes)
fx_fits sizes calls = calls_fit sizes 0 calls (omega arith)
