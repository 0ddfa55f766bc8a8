-- From the entry that a lookup finds to its result.
use Rattle.rkyv_base.specs.declared.element.HasSpec.{Ghosts as Specs}
use Rattle.rkyv_base.specs.declared.width.Word.{Ghosts as Words}
use Rattle.std.proofs.Common.{◌≡◌, ℕ, ◌<◌, ◌^◌, ◌∙◌, Bool, List, None, Option, Some, ap, sym, subst, arith}
use Rattle.std.proofs.lemmas.Grind.{common_steps}
use Rattle.std.specs.Borrow.{Bor}
use Rattle.std.specs.Prelude.{IfSome}
use Rattle.rkyv_scan.specs.{Hasher, HasherCall, hash_of_calls}
use Rattle.rkyv_base.specs.{ElementSpec, IsElement}
use Rattle.rkyv_base.specs.declared.entry.Entry.{Entry}
use Rattle.rkyv_base.specs.declared.view.View.{View}
use Rattle.rkyv_keys.specs.{Comparison, IsQuery, KeyLookup, LookupHashes, hash_at, query_of}
use Rattle.rkyv_collections.specs.{ComparesKeysBy, GetsBy, GetsKey, IsEntryIn, IsMap, IsPairAt, IsPairIn, IsPairOfEntry, IsValueAt, IsValueIn, IsValueOfEntry, IsViewAt, Part, entry_part, key_part, map_bytes, pair_part, value_part}
use Rattle.rkyv_collections.specs.declared.map.ArchivedHashMap.{ArchivedHashMap}
use Rattle.rkyv_collections.proofs.FoundEntries.{one_found}
use Rattle.rkyv_collections.proofs.Lookups.{query_under_hash}

module _ {K V H W : Type 0} {ks : Specs K} {vs : Specs V} {wt : Words W} (m : ArchivedHashMap K V H W ks vs wt) where
  -- the clauses on a found value are clauses on each value that is made of it
  module _ {X Y : Type 0} (part : Part (ArchivedHashMap K V H W ks vs wt) X) (out : Part (ArchivedHashMap K V H W ks vs wt) Y) (found : Option X) (result : Option Y)
      (walks : IfSome found (part.In m) → IfSome result (out.In m)) (at : (key_pos : Option ℕ) → part.At found key_pos → out.At result key_pos) where
    pub key_through : (a : KeyLookup) → GetsKey part m a found → GetsKey out m a result
    key_through a h = record {
      walked = walks h.walked;
      finds = at _ h.finds;
      first = λ homes written. at _ (h.first homes written);
      complete = λ none. let one = h.complete none in (one.0, one.1, at one.0 one.2);
    }

    pub by_through : (hashes : LookupHashes) (post : View K → Bool → Type 0) → GetsBy part m hashes post found → GetsBy out m hashes post result
    by_through hashes post h = grind arith

  -- a lookup by a comparison with the keys that a query fits is a lookup of the query
  pub gets_query : {Q X State : Type 0} (hasher : Hasher State) (kl : IsElement ks.spec) (vl : IsElement vs.spec) (same_key : Comparison) (key_calls : List ℕ → ℕ → List HasherCall)
      (calls : Q → List HasherCall) (fits : Q → List ℕ → ℕ → Bool) → IsQuery ks.spec same_key key_calls calls fits → IsMap m
      → (q : Q) → hash_of_calls hasher (calls q) < 2 ^ 64
      → (post : View K → Bool → Type 0) → ((key : View K) (r : Bool) → post key r → r ≡ fits q key.archive.now key.pos)
      → (part : Part (ArchivedHashMap K V H W ks vs wt) X) (result : Option X)
      → GetsBy part m (record { hash = hash_of_calls hasher (calls q); key_hash = hash_at hasher key_calls }) post result → GetsKey part m (query_of hasher key_calls same_key (calls q) (fits q)) result
  gets_query hasher kl vl same_key key_calls calls fits query is q small post tells part result h =
      let accept : ℕ → Bool = fits q (map_bytes m) in
      let compares : ComparesKeysBy m post accept = λ key r in_map e. tells key r e ∙ ap (λ (a : Bor (List ℕ)). fits q a.now key.pos) in_map.archive in
      let found = h.finds accept compares in
      record {
        walked = h.walked;
        finds = found;
        first = h.first accept compares (query_under_hash m kl vl hasher same_key key_calls calls fits query is q);
        complete = one_found m kl vl hasher same_key key_calls calls fits query is q small (part.At result) found;
      }

module _ {K V H W : Type 0} {ks : Specs K} {vs : Specs V} {wt : Words W} (m : ArchivedHashMap K V H W ks vs wt) where
  -- the pair of an entry of the map is a pair of the map
  pair_walked : (found : Option (View (Entry K V))) (result : Option (View K × View V)) → IsPairOfEntry ks.spec vs.spec result found → IfSome found (IsEntryIn m) → IfSome result (IsPairIn m)
  pair_walked None result is walked = subst (λ r. IfSome r (IsPairIn m)) (sym is) tt
  pair_walked (Some entry) result is walked = grind arith

  -- the value of an entry of the map is a value of the map
  value_walked : (found : Option (View (Entry K V))) (result : Option (View V)) → IsValueOfEntry ks.spec vs.spec result found → IfSome found (IsEntryIn m) → IfSome result (IsValueIn m)
  value_walked None result is walked = subst (λ r. IfSome r (IsValueIn m)) (sym is) tt
  value_walked (Some entry) result is walked = grind arith

module _ {K V : Type 0} (k v : ElementSpec) where
  -- the pair is at the position of the found entry
  pair_at : (found : Option (View (Entry K V))) (result : Option (View K × View V)) → IsPairOfEntry k v result found → (key_pos : Option ℕ) → IsViewAt found key_pos → IsPairAt result key_pos
  pair_at found result is key_pos at = grind (arith, common_steps)

  -- the value is behind the position of the found entry
  value_at : (found : Option (View (Entry K V))) (result : Option (View V)) → IsValueOfEntry k v result found → (key_pos : Option ℕ) → IsViewAt found key_pos → IsValueAt k v result key_pos
  value_at found result is key_pos at = grind (arith, common_steps)

-- the clauses of a lookup on a found entry are clauses on its pair and on its value
module _ {K V H W : Type 0} {ks : Specs K} {vs : Specs V} {wt : Words W} {m : ArchivedHashMap K V H W ks vs wt} {found : Option (View (Entry K V))} where
  pub pair_of_key : {a : KeyLookup} {result : Option (View K × View V)} → GetsKey entry_part m a found → IsPairOfEntry ks.spec vs.spec result found
      → GetsKey pair_part m a result
  pair_of_key {a} {result} got is =
      key_through m entry_part pair_part found result (pair_walked m found result is) (pair_at ks.spec vs.spec found result is) a got

  pub value_of_key : {a : KeyLookup} {result : Option (View V)} → GetsKey entry_part m a found → IsValueOfEntry ks.spec vs.spec result found
      → GetsKey value_part m a result
  value_of_key {a} {result} got is =
      key_through m entry_part value_part found result (value_walked m found result is) (value_at ks.spec vs.spec found result is) a got

  module _ {hashes : LookupHashes} {post : View K → Bool → Type 0} where
    pub pair_by : {result : Option (View K × View V)} → GetsBy entry_part m hashes post found → IsPairOfEntry ks.spec vs.spec result found
        → GetsBy pair_part m hashes post result
    pair_by {result} got is =
        by_through m entry_part pair_part found result (pair_walked m found result is) (pair_at ks.spec vs.spec found result is) hashes post got

    pub value_by : {result : Option (View V)} → GetsBy entry_part m hashes post found → IsValueOfEntry ks.spec vs.spec result found
        → GetsBy value_part m hashes post result
    value_by {result} got is =
        by_through m entry_part value_part found result (value_walked m found result is) (value_at ks.spec vs.spec found result is) hashes post got

-- a set returns the key of the pair
module _ {K V H W : Type 0} {ks : Specs K} {vs : Specs V} {wt : Words W} {m : ArchivedHashMap K V H W ks vs wt} {a : KeyLookup} where
  pub member_of_pair : {pair : View K × View V} → GetsKey pair_part m a (Some pair) → GetsKey key_part m a (Some pair.0)
  member_of_pair got = record { walked = got.walked.key; finds = got.finds; first = got.first; complete = got.complete }

  pub no_member : GetsKey pair_part m a None → GetsKey key_part m a None
  no_member got = record { walked = tt; finds = got.finds; first = got.first; complete = got.complete }
