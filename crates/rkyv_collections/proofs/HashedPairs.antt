-- A table of pairs under the hashes of their keys is the map of the pairs.
use Rattle.std.proofs.Common.{◌≡◌, ℕ, refl, subst, ◌∙◌, inl, inr, List, [], ◌∷◌, map, length, Option, Result, MatchResult, arith}
use Rattle.std.proofs.lemmas.Grind.{common_steps}
use Rattle.std.specs.Int.{Width}
use Rattle.std.specs.Iterator.{Drains, Yields}
use Rattle.std.proofs.lemmas.List.{length-map}
use Rattle.rkyv_base.specs.{ElementSpec, Format, Output, SerializeFails, Serialized, entry_spec, pair_format, pair_of, written_as}
use Rattle.rkyv_base.specs.declared.adapter.EntryAdapter.{EntryAdapter}
use Rattle.rkyv_base.specs.declared.errors.WriteError.{WriteError}
use Rattle.rkyv_table.specs.{TableResolver, WriteItemsFails, WroteItems, YieldsOtherCount, pair_values, table_format}
use Rattle.rkyv_collections.specs.{HashedStep, keyed, map_format}
use Rattle.rkyv_table.proofs.Through.{drains_through, other_through, own_counted}
use Rattle.rkyv_collections.proofs.MappedItems.{mapped_fails, mapped_pairs, mapped_serialized}

module _ {T S BK BV A B : Type 0} (inner : T → S) (steps : S → Option (BK × BV) → S → Type 0) (hash : BK → ℕ) where
  -- a state has the state of the iterator of pairs, and steps as that does
  abbrev pub Steps : T → Option (ℕ × EntryAdapter BK BV A B) → T → Type 0
  Steps s r t = HashedStep steps hash (inner s) r (inner t)

  abbrev pub items_in : List (ℕ × EntryAdapter BK BV A B) → List (BK × BV)
  items_in xs = map (λ x. (x.1.key, x.1.value)) xs

  -- each pair is under the hash of its key
  abbrev pub AreHashed : List (ℕ × EntryAdapter BK BV A B) → Type 0
  AreHashed [] = Unit {0}
  AreHashed (x ∷ xs) = (x.0 ≡ hash x.1.key) × AreHashed xs

  hashed : (xs : List (ℕ × EntryAdapter BK BV A B)) (s t : T) → Yields Steps s xs t → AreHashed xs
  hashed [] s t e = tt
  hashed (x ∷ xs) s t h = (h.1.0, hashed xs h.0 t h.2)

  drained : (xs : List (ℕ × EntryAdapter BK BV A B)) (s : T) → Drains Steps s xs → Drains steps (inner s) (items_in xs) × AreHashed xs
  drained xs s d = (drains_through inner Steps steps (λ x. (x.1.key, x.1.value)) (λ s' t' h. h) (λ s' t' x h. h.1) xs s d, hashed xs s d.1.0 d.1.1)

  yields_other_count : (len : ℕ) (s : T) (n : ℕ) → YieldsOtherCount Steps len s n → YieldsOtherCount steps len (inner s) n
  yields_other_count len s n h = other_through inner Steps steps (λ x. (x.1.key, x.1.value)) (λ s' t' h'. h') (λ s' t' x h'. h'.1) len s n h

module _ {T S BK BV A B : Type 0} (inner : T → S) (steps : S → Option (BK × BV) → S → Type 0) (key : BK → A) (value : BV → B) (hash : A → ℕ) where
  abbrev Under : List (ℕ × EntryAdapter BK BV A B) → Type 0
  Under xs = AreHashed inner steps (λ k. hash (key k)) xs

  mapped_keyed : (xs : List (ℕ × EntryAdapter BK BV A B)) → Under xs
      → mapped_pairs (pair_of key value) xs ≡ keyed hash (pair_values key value (items_in inner steps (λ k. hash (key k)) xs))
  mapped_keyed [] h = refl
  mapped_keyed (x ∷ xs) h = grind (arith, common_steps, mapped_keyed xs h.1)

  module _ {R Q : Type 0} (len : ℕ) (factor : ℕ × ℕ) (max : ℕ) (w : Width) (k v : ElementSpec) (kf : Format A R) (vf : Format B Q) (o o' : Output) (s : T) (limit : ℕ) where
    abbrev TableOf : Format (List (ℕ × EntryAdapter BK BV A B)) TableResolver
    TableOf = table_format w (entry_spec k v) (written_as (pair_of key value) (pair_format k v kf vf)) factor

    abbrev MapOf : Format (List (BK × BV)) TableResolver
    MapOf = written_as (pair_values key value) (map_format w k v kf vf hash factor)

    count : (xs : List (ℕ × EntryAdapter BK BV A B)) → length xs ≡ len → length (items_in inner steps (λ q. hash (key q)) xs) ≡ len
    count xs n = length-map xs (λ (x : ℕ × EntryAdapter BK BV A B). (x.1.key, x.1.value)) ∙ n

    abbrev KeyedStep : T → Option (ℕ × EntryAdapter BK BV A B) → T → Type 0
    KeyedStep = Steps inner steps (λ q. hash (key q))

    wrote_map : (r : TableResolver) → WroteItems (Drains KeyedStep s) len factor max TableOf o o' limit r → WroteItems (Drains steps (inner s)) len factor max MapOf o o' limit r
    wrote_map r h =
        let xs = h.1 in
        let d = drained inner steps (λ q. hash (key q)) xs s h.2.0 in (
          h.0,
          items_in inner steps (λ q. hash (key q)) xs,
          (d.0, count xs h.2.1),
          subst (λ ps. Serialized limit (table_format w (entry_spec k v) (pair_format k v kf vf) factor) ps o o' r) (mapped_keyed xs d.1)
              (mapped_serialized (pair_of key value) (pair_format k v kf vf) w (entry_spec k v) factor xs o o' limit r h.3),
        )

    module _ {F : Type 0} where
      map_fails : (e : WriteError F) → WriteItemsFails (Drains KeyedStep s) len factor max TableOf o o' limit (YieldsOtherCount KeyedStep len s) e
          → WriteItemsFails (Drains steps (inner s)) len factor max MapOf o o' limit (YieldsOtherCount steps len (inner s)) e
      map_fails e (inl h) =
          inl (own_counted len factor max (YieldsOtherCount KeyedStep len s) (YieldsOtherCount steps len (inner s)) (yields_other_count inner steps (λ q. hash (key q)) len s) e h.0, h.1)
      map_fails e (inr h) =
          let xs = h.1 in
          let d = drained inner steps (λ q. hash (key q)) xs s h.2.0 in
          inr (
            h.0,
            items_in inner steps (λ q. hash (key q)) xs,
            (d.0, count xs h.2.1),
            subst (λ ps. SerializeFails limit (table_format w (entry_spec k v) (pair_format k v kf vf) factor) ps o o' e) (mapped_keyed xs d.1)
                (mapped_fails (pair_of key value) (pair_format k v kf vf) w (entry_spec k v) factor xs o o' limit e h.3),
          )

      -- writing the table of the hashed pairs has the result of writing the map
      pub writes_as_map : (result : Result TableResolver (WriteError F))
          → MatchResult result (WroteItems (Drains KeyedStep s) len factor max TableOf o o' limit) (WriteItemsFails (Drains KeyedStep s) len factor max TableOf o o' limit (YieldsOtherCount KeyedStep len s))
          → MatchResult result (WroteItems (Drains steps (inner s)) len factor max MapOf o o' limit) (WriteItemsFails (Drains steps (inner s)) len factor max MapOf o o' limit (YieldsOtherCount steps len (inner s)))
      writes_as_map result h = grind (arith, common_steps, wrote_map, map_fails)
