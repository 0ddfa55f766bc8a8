-- Lookups in the bytes of a written index map.
use Rattle.std.proofs.Common.{◌≡◌, ℕ, ◌<◌, ◌^◌, ◌∙◌, refl, ap, sym, arith, cond, Bool, true, length, map, List, [], ◌∷◌, Option, Some, slice_index}
use Rattle.std.proofs.lemmas.Grind.{common_steps}
use Rattle.std.specs.Int.{Width, byte_len}
use Rattle.std.specs.List.{find}
use Rattle.std.specs.Option.{option_map}
use Rattle.std.proofs.lemmas.List.{get_or-map, length-map}
use Rattle.std.proofs.lemmas.List.FromFn.{get_or-range_with_len, length-range_with_len}
use Rattle.rkyv_scan.specs.{generic_kind}
use Rattle.rkyv_scan.specs.Lemmas.KindLaws.{word_lawful}
use Rattle.rkyv_base.specs.{number_at}
use Rattle.rkyv_table.specs.{IsUnderHash, home_positions, len_at}
use Rattle.rkyv_table.proofs.FirstFound.{first_found}
use Rattle.rkyv_index.specs.{IndexWrittenAt, index_found, indices_of, pair_pos}

-- the image of the first accepted element is the first accepted image
find-step : (f : ℕ → ℕ) (accept : ℕ → Bool) (x : ℕ) (r : Option ℕ) (r' : Option ℕ) (t : Bool) → option_map f r ≡ r'
    → option_map f (cond t (Some x) r) ≡ cond t (Some (f x)) r'
find-step f accept x r r' b e = grind (arith, common_steps)

pub find-map : (f : ℕ → ℕ) (accept : ℕ → Bool) (xs : List ℕ) → option_map f (find (λ x. accept (f x)) xs) ≡ find accept (map f xs)
find-map f accept [] = refl
find-map f accept (x ∷ xs) = find-step f accept x (find (λ y. accept (f y)) xs) (find accept (map f xs)) (accept (f x)) (find-map f accept xs)

-- the number at index `i` of the indices is `i`
index_read : (n i : ℕ) → i < n → slice_index (indices_of n) i ≡ i
index_read n i below = get_or-range_with_len 0 n i 0 below ∙ omega arith

module _ (w : Width) (size : ℕ) (key_hash : List ℕ → ℕ → ℕ) (b : List ℕ) (p : ℕ) (homes : List ℕ) (written : IndexWrittenAt w size key_hash b p homes) (hash : ℕ) (accept : ℕ → Bool)
    (under : (i : ℕ) → i < len_at w b p → accept i ≡ true → key_hash b (pair_pos w size b p i) ≡ hash) where
  abbrev hash_in : ℕ → ℕ
  hash_in i = key_hash b (pair_pos w size b p i)

  abbrev items : List ℕ
  items = home_positions w (byte_len w) b p homes

  -- each accepted index is under the hash
  pub under_hash : IsUnderHash hash (map hash_in (indices_of (len_at w b p))) items (λ q. accept (number_at w b q))
  under_hash i h accepted =
      let n = len_at w b p in
      let below : i < n = omega (arith, h, length-map (indices_of n) hash_in, length-range_with_len 0 n) in
      let many : length items ≡ n = sym (length-map items (number_at w b)) ∙ ap length written.indices ∙ length-range_with_len 0 n in
      let read : number_at w b (slice_index items i) ≡ i =
      sym (get_or-map (number_at w b) items i 0 0 (omega (arith, below, many))) ∙ ap (λ (xs : List ℕ). slice_index xs i) written.indices ∙ index_read n i below in
      get_or-map hash_in (indices_of n) i 0 0 (omega (arith, below, length-range_with_len 0 n)) ∙ ap hash_in (index_read n i below) ∙ under i below (sym (ap accept read) ∙ accepted)

  -- the first accepted index is found
  pub first_index : hash < 2 ^ 64 → index_found w b p hash accept ≡ find accept (indices_of (len_at w b p))
  first_index small =
      ap (option_map (number_at w b)) (first_found generic_kind word_lawful w (byte_len w) b p hash small (map hash_in (indices_of (len_at w b p))) homes (λ q. accept (number_at w b q)) written.table under_hash)
      ∙ find-map (number_at w b) accept items
      ∙ ap (find accept) written.indices
