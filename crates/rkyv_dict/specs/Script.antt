-- The lines of a script, and the requests that they represent.
use denote.Ref.{Bor}
use Rattle.std.specs.Prelude.{ℕ, ◌≡◌, ◌≤◌, ◌&&◌, ◌||◌, ◌==◌, Bool, not, nat_le, if◌then◌else◌, List}
use Rattle.std.specs.Prelude.{None, Option, Some, [], ◌∷◌, codes, length, slice_index}
use Rattle.std.specs.List.{list_all, slice_split}
use Rattle.std.specs.Char.{is_ascii_digit}
use Rattle.std.specs.Option.{option_copied, option_map}
use Rattle.std.specs.Str.{bytes_eq, is_utf8}
use Rattle.std.specs.Str.Parse.{digits_value}
use Rattle.rkyv_dict.specs.Hex.{bytes_of_digits}
use Rattle.rkyv_dict.specs.Forms.{LookupKey, number_key, text_key}
use Rattle.rkyv_dict.specs.declared.form.Kind.{Kind}
use Rattle.rkyv_dict.specs.declared.form.Kind.TheVariants.{Num, Text}
use Rattle.rkyv_dict.specs.declared.form.ArchiveWidth.{ArchiveWidth}
use Rattle.rkyv_dict.specs.declared.form.ArchiveWidth.TheVariants.{Bits32, Bits64}

-- the request of a line
pub data Request : Type 0 where
  set_kind : Kind → Request
  set_width : ArchiveWidth → Request
  set_load_factor : ℕ → ℕ → Request
  put_numbers : ℕ → ℕ → Request
  put_texts : List ℕ → List ℕ → Request
  build_archive : Request
  check_archive : List ℕ → Request
  show_hex : Request
  get_value : LookupKey → Request
  list_pairs : Request
  count_misplaced : Request

-- ---- lines and words

-- the parts of `bytes`, separated by each byte `separator`; n such bytes separate n + 1 parts
abbrev pub split_at : ℕ → List ℕ → List (List ℕ)
split_at separator bytes = slice_split (λ b. b == separator) bytes

-- the lines, each ended by LF, which the last may lack; an empty part is skipped when executed
abbrev pub lines_of : List ℕ → List (List ℕ)
lines_of script = split_at 10 script

-- the words of a line, separated by one space each
abbrev pub words_of : List ℕ → List (List ℕ)
words_of line = split_at 32 line

-- the parts of `rest`, after a first part
abbrev pub parts_after : ℕ → Option (List ℕ) → List (List ℕ)
parts_after separator None = []
parts_after separator (Some rest) = split_at separator rest

-- the words of the rest of a line
abbrev pub words_left : Option (Bor (List ℕ)) → List (List ℕ)
words_left rest = parts_after 32 (option_copied rest)

-- ---- values of one word

-- the word is decimal digits, at least one, without a leading zero unless it is `0`
abbrev pub is_numeral : List ℕ → Bool
is_numeral word = nat_le 1 (length word)
    && (list_all is_ascii_digit word && (length word == 1 || not (slice_index word 0 == 48)))

-- the number that the word represents, if it is at most `most`
unfoldable pub number_of : ℕ → List ℕ → Option ℕ
number_of most word = if is_numeral word
    && nat_le (digits_value 10 word) most then Some (digits_value 10 word) else None

-- the word, if it has at least one byte
abbrev pub text_of : List ℕ → Option (List ℕ)
text_of [] = None
text_of (b ∷ bs) = Some (b ∷ bs)

-- the kind with this name: `num` or `text`
abbrev pub kind_of_word : List ℕ → Option Kind
kind_of_word word = if bytes_eq word (codes "num") then Some Num else if bytes_eq word
    (codes "text") then Some Text else None

-- the width with this name: `32` or `64`
abbrev pub bits_of_word : List ℕ → Option ArchiveWidth
bits_of_word word = if bytes_eq word (codes "32") then Some Bits32 else if bytes_eq word
    (codes "64") then Some Bits64 else None

-- the bytes of pairs of digits of either case, at least one pair
abbrev pub hex_of_word : List ℕ → Option (List ℕ)
hex_of_word [] = None
hex_of_word (b ∷ bs) = bytes_of_digits (b ∷ bs)

-- ---- arguments of a line

-- the only word of a list
abbrev pub one_of : List (List ℕ) → Option (List ℕ)
one_of [] = None
one_of (word ∷ []) = Some word
one_of (word ∷ next ∷ more) = None

-- the two words of a list of two
abbrev pub two_of : List (List ℕ) → Option (List ℕ × List ℕ)
two_of [] = None
two_of (first ∷ []) = None
two_of (first ∷ second ∷ []) = Some (first, second)
two_of (first ∷ second ∷ next ∷ more) = None

-- the value by `parse` of a word, if there is one
abbrev pub parsed_by : {A : Type 0} → (List ℕ → Option A) → Option (List ℕ) → Option A
parsed_by parse None = None
parsed_by parse (Some word) = parse word

-- both values, if both are `Some`
abbrev pub both_of : {A : Type 0} → Option A → Option A → Option (A × A)
both_of (Some a) (Some b) = Some (a, b)
both_of (Some a) None = None
both_of None b = None

-- the values by `parse` of two words
abbrev pub parsed_by_both : {A : Type 0} → (List ℕ → Option A) → Option (List ℕ × List ℕ)
    → Option (A × A)
parsed_by_both parse None = None
parsed_by_both parse (Some words) = both_of (parse words.0) (parse words.1)

-- the request, if there are no arguments
abbrev pub without_arguments : Request → List (List ℕ) → Option Request
without_arguments request [] = Some request
without_arguments request (next ∷ more) = None

-- ---- requests

-- the greatest number of 32 bits
abbrev pub most_number : ℕ
most_number = 4_294_967_295

-- the request of `kind`
abbrev pub kind_request : List (List ℕ) → Option Request
kind_request arguments = option_map (λ k. set_kind k) (parsed_by kind_of_word (one_of arguments))

-- the request of `width`
abbrev pub width_request : List (List ℕ) → Option Request
width_request arguments = option_map (λ b. set_width b) (parsed_by bits_of_word (one_of arguments))

-- the request of `lf`, with two numbers of 64 bits
abbrev pub load_factor_request : List (List ℕ) → Option Request
load_factor_request arguments = option_map (λ p. set_load_factor p.0 p.1)
    (parsed_by_both (number_of 18_446_744_073_709_551_615) (two_of arguments))

-- the request of `put`, with a key and a value of the kind
abbrev pub put_request : Kind → List (List ℕ) → Option Request
put_request Num arguments = option_map (λ p. put_numbers p.0 p.1)
    (parsed_by_both (number_of most_number) (two_of arguments))
put_request Text arguments = option_map (λ p. put_texts p.0 p.1)
    (parsed_by_both text_of (two_of arguments))

-- the request of `get`, with a key of the kind
abbrev pub get_request : Kind → List (List ℕ) → Option Request
get_request Num arguments = option_map (λ k. get_value (number_key k))
    (parsed_by (number_of most_number) (one_of arguments))
get_request Text arguments = option_map (λ t. get_value (text_key t))
    (parsed_by text_of (one_of arguments))

-- the request of `check`, with pairs of hexadecimal digits
abbrev pub check_request : List (List ℕ) → Option Request
check_request arguments = option_map (λ bytes. check_archive bytes)
    (parsed_by hex_of_word (one_of arguments))

-- the request of the verb and its arguments
unfoldable pub request_by : Kind → List ℕ → List (List ℕ) → Option Request
request_by kind verb arguments =
    if bytes_eq verb (codes "kind") then kind_request arguments
    else if bytes_eq verb (codes "width") then width_request arguments
    else if bytes_eq verb (codes "lf") then load_factor_request arguments
    else if bytes_eq verb (codes "put") then put_request kind arguments
    else if bytes_eq verb (codes "build") then without_arguments build_archive arguments
    else if bytes_eq verb (codes "check") then check_request arguments
    else if bytes_eq verb (codes "hex") then without_arguments show_hex arguments
    else if bytes_eq verb (codes "get") then get_request kind arguments
    else if bytes_eq verb (codes "list") then without_arguments list_pairs arguments
    else if bytes_eq verb (codes "audit") then without_arguments count_misplaced arguments
    else None

-- the request of the words of a line, the first of them its verb
abbrev pub request_of_words : Kind → List (List ℕ) → Option Request
request_of_words kind [] = None
request_of_words kind (verb ∷ arguments) = request_by kind verb arguments

-- the words are `check` and one word of at least two bytes, whose bytes need memory
pub record NeedMemory (words : List (List ℕ)) : Type 0 where
  pub digits : List ℕ
  pub check : words ≡ codes "check" ∷ digits ∷ []
  pub several : 2 ≤ length digits

-- the request of a line, or `None` for a bad line: not UTF-8, or not a request of the kind
unfoldable pub request_of : Kind → List ℕ → Option Request
request_of kind line = if is_utf8 line then request_of_words kind (words_of line) else None
