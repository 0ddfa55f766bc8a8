-- The steps of counting misplaced items.
use Rattle.rkyv_base.specs.declared.element.HasSpec.{Ghosts as Specs}
use Rattle.rkyv_base.specs.declared.width.Word.{Ghosts as Words}
use Rattle.std.proofs.Common.{◌≡◌, ℕ, suc, ◌+◌, refl, ap, subst, ◌∙◌, arith, List, ◌∷◌, Bool, true, false, length, filter}
use Rattle.std.proofs.lemmas.Grind.{common_steps}
use Rattle.std.specs.List.{All, sum_by}
use Rattle.std.proofs.lemmas.List.Elements.{All-head, All-rest}
use Rattle.std.proofs.lemmas.List.Sums.{sum_by-cons}
use Rattle.rkyv_base.specs.declared.view.View.{View}
use Rattle.rkyv_scan.specs.{generic_kind}
use Rattle.rkyv_table.specs.{ComparesAs, ComparesItems, CountsOwn, HashesAs, IsItemIn, IsWalked, ReturnsMisplaced, bucket_misplaced, bucket_strides, item_pos, table_bytes, table_misplaced, table_pos, table_strides}
use Rattle.rkyv_table.specs.declared.table.ArchivedHashTable.{ArchivedHashTable}
use Rattle.rkyv_table.proofs.Counts.{cap_small, counted_lookup}

pub count_taken : (P : ℕ → Bool) (x : ℕ) (xs rest : List ℕ) → xs ≡ x ∷ rest → P x ≡ true → length (filter P xs) ≡ suc (length (filter P rest))
count_taken P x xs rest e t = ap (λ ys. length (filter P ys)) e ∙ rw t refl

pub count_passed : (P : ℕ → Bool) (x : ℕ) (xs rest : List ℕ) → xs ≡ x ∷ rest → P x ≡ false → length (filter P xs) ≡ length (filter P rest)
count_passed P x xs rest e f = ap (λ ys. length (filter P ys)) e ∙ rw f refl

-- the comparison with a bucket's own item, by positions
module _ {T W : Type 0} {ts : Specs T} {wt : Words W} (compares : View T → View T → Bool → Type 0) (t : ArchivedHashTable T W ts wt) (bucket : ℕ) (same : ℕ → ℕ → Bool) (alone : ComparesAs compares t same) where
  pub own_finds : (other : ℕ) (r : Bool) → ComparesItems compares t bucket other r → r ≡ same (item_pos t bucket) (item_pos t other)
  own_finds other r e = alone e.0 e.1 r (bucket, e.2) (other, e.3) e.4 ∙ ap (λ p. same p e.1.pos) e.2.pos ∙ ap (same (item_pos t bucket)) e.3.pos

-- the hash of a bucket's item, by its position
pub hash_is : {T W : Type 0} {ts : Specs T} {wt : Words W} (t : ArchivedHashTable T W ts wt) (hashes : View T → ℕ → Type 0) (bucket hash : ℕ) (item : View T) → IsItemIn t bucket item → hashes item hash
    → (hash_of : ℕ → ℕ) → HashesAs hashes t hash_of → hash ≡ hash_of (item_pos t bucket)
hash_is t hashes bucket hash item here hashed hash_of hash_as = hash_as item hash (bucket, here) hashed ∙ ap hash_of here.pos

-- the next of the full buckets, and those behind it, are full
module _ {T W : Type 0} {ts : Specs T} {wt : Words W} (t : ArchivedHashTable T W ts wt) (bucket : ℕ) (buckets left : List ℕ) (steps : buckets ≡ bucket ∷ left) (walked : All (IsWalked wt.word (table_bytes t) (table_pos t)) buckets) where
  pub next_walked : IsWalked wt.word (table_bytes t) (table_pos t) bucket
  next_walked = All-head (IsWalked wt.word (table_bytes t) (table_pos t)) bucket left (subst (All (IsWalked wt.word (table_bytes t) (table_pos t))) steps walked)

  pub left_walked : All (IsWalked wt.word (table_bytes t) (table_pos t)) left
  left_walked = All-rest (IsWalked wt.word (table_bytes t) (table_pos t)) bucket left buckets steps walked

-- the counted items and the misplaced ones of the remaining buckets are all misplaced items
module _ {T W : Type 0} {ts : Specs T} {wt : Words W} (t : ArchivedHashTable T W ts wt) (hashes : View T → ℕ → Type 0) (compares : View T → View T → Bool → Type 0) where
  abbrev pub Counting : ℕ → List ℕ → Type 0
  Counting count left = (hash_of : ℕ → ℕ) (same : ℕ → ℕ → Bool) → HashesAs hashes t hash_of → ComparesAs compares t same
      → count + length (filter (bucket_misplaced generic_kind t hash_of same) left) ≡ table_misplaced generic_kind t hash_of same

  module _ (count bucket : ℕ) (buckets left : List ℕ) (steps : buckets ≡ bucket ∷ left) (returned : Bool) (exact : ReturnsMisplaced hashes compares t bucket returned) (before : Counting count buckets) where
    pub counted_one : returned ≡ true → Counting (count + 1) left
    counted_one hit = grind (arith, common_steps, count_taken)

    pub counted_none : returned ≡ false → Counting count left
    counted_none miss = grind (arith, common_steps, count_passed)

-- the strides that were read and the remaining buckets' strides are the strides of all items
module _ {T W : Type 0} {ts : Specs T} {wt : Words W} (t : ArchivedHashTable T W ts wt) (hashes : View T → ℕ → Type 0) (compares : View T → View T → Bool → Type 0) where
  abbrev pub Spending : ℕ → List ℕ → Type 0
  Spending read left = (hash_of : ℕ → ℕ) (same : ℕ → ℕ → Bool) → HashesAs hashes t hash_of → ComparesAs compares t same
      → table_strides generic_kind t hash_of same ≡ read + sum_by (bucket_strides generic_kind t hash_of same) left

  pub spent_one : (read start own bucket : ℕ) (buckets left : List ℕ) → buckets ≡ bucket ∷ left → start ≡ 0 → CountsOwn hashes compares t bucket start own → Spending read buckets → Spending (read + own) left
  spent_one read start own bucket buckets left steps none counts spent = λ hash_of same hash_as same_as.
      let f : ℕ → ℕ = bucket_strides generic_kind t hash_of same in
      let here = subst (λ n. CountsOwn hashes compares t bucket n own) none counts in
      let now = counted_lookup _ _ (f bucket) own (cap_small t) here.bounded (here.counted hash_of same hash_as same_as) in
      let all = spent hash_of same hash_as same_as in
      let first : sum_by f buckets ≡ f bucket + sum_by f left = ap (sum_by f) steps ∙ sum_by-cons f bucket left in
      omega (arith, now, all, first)
