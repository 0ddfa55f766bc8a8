-- The value of the first pair with a key: in a list, and in a map that was written.
use Rattle.std.specs.Prelude.{ℕ, ◌==◌, Bool, List, Option, None, decimal}
use Rattle.std.specs.List.{find}
use Rattle.std.specs.Option.{option_map}
use Rattle.rkyv_keys.specs.{first_value, same_bytes}
use Rattle.rkyv_table.specs.{home_positions}
use Rattle.rkyv_collections.specs.{MapWrittenAt}
use Rattle.rkyv_dict.specs.Archives.{hash, pair_spec, root, value_text}
use Rattle.rkyv_dict.specs.Forms.{LookupKey, Pairs, number_key, numbers, text_key, texts}
use Rattle.rkyv_dict.specs.Maps.{MapTypes}

-- the text of the value of the first pair with the key; a key of the other kind is in no list
abbrev pub first_value_text : Pairs → LookupKey → Option (List ℕ)
first_value_text (numbers pairs) (number_key n) =
    option_map decimal (first_value (λ key. n == key) pairs)
first_value_text (texts pairs) (text_key t) = first_value (λ key. same_bytes t key) pairs
first_value_text (numbers pairs) (text_key t) = None
first_value_text (texts pairs) (number_key n) = None

module _ (k : MapTypes) (b : List ℕ) where
  -- the map of `b` was written from pairs with these homes, in this order
  unfoldable pub HasHomes : List ℕ → Type 0
  HasHomes homes = MapWrittenAt k.word (pair_spec k) (λ c q. hash (k.calls c q)) b (root k b) homes

  -- the text of the value at the first home whose key passes `accept`, a test of a key's position
  unfoldable pub first_under : List ℕ → (ℕ → Bool) → Option (List ℕ)
  first_under homes accept = option_map (value_text k b)
      (find accept (home_positions k.word (pair_spec k).size b (root k b) homes))

  -- in a written map, `P` applies to the text of the first accepted key's value, or to `None`
  abbrev pub FindsFirstValue : (ℕ → Bool) → (Option (List ℕ) → Type 0) → Type 0
  FindsFirstValue accept P =
      (homes : List ℕ) → HasHomes homes → P (first_under homes accept)
