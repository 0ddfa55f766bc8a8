-- The steps of a cursor over the pairs of a map that writes values.
use Rattle.std.proofs.lemmas.Grind.{common_steps}
use Rattle.std.proofs.Common.{◌≡◌, ℕ, zero, suc, ◌+◌, ◌<◌, ◌≤◌, ◌∙◌, sym, ap, subst, arith, List, [], ◌∷◌, Option, Some, None, slice_index, take, drop}
use Rattle.std.specs.Prelude.{IfSome, IsSome, MatchOption}
use Rattle.std.specs.Int.{Width}
use Rattle.std.proofs.lemmas.Bool.{cases_lt, true≢false}
use Rattle.rkyv_base.specs.{ElementSpec, IsElement, IsValidView, ModifiesOnly, StaysValid, Viewable, bytes_in, bytes_of, entry_spec, pos_of, seal_pos, value_pos, whole_size}
use Rattle.rkyv_base.specs.Lemmas.Entry.{entry_element, key_and_value_inside, size_of_small}
use Rattle.rkyv_base.specs.declared.entry.Entry.{Entry}
use Rattle.rkyv_base.specs.declared.seal.Seal.{Seal}
use Rattle.rkyv_base.specs.declared.view.View.{View}
use Rattle.rkyv_base.proofs.Sealing.{entry_kept, sealed_wider}
use Rattle.rkyv_table.specs.{LendsPair, SameValue, StaysThere, YieldsPosition, cursor_buckets_left, cursor_bytes, full_from, table_controls}
use Rattle.rkyv_table.specs.declared.table.raw_iter_seal.RawIterSeal.{RawIterSeal}
use Rattle.rkyv_table.proofs.ValidTable.{item_viewable}
use Rattle.rkyv_table.proofs.SealedItems.{cursor_kept, full_skipped}
use Rattle.rkyv_table.proofs.SealedTable.{table_kept}
use Rattle.rkyv_collections.specs.{IsPairIter, IsPairPos, KeepsPairs, YieldsKeyPos, YieldsPairAt}
use Rattle.rkyv_table.proofs.PairSeals.{pair_lent}
use Rattle.rkyv_table.proofs.Walks.{full_end}
use Rattle.rkyv_collections.proofs.SealedMap.{pair_pos}

-- if no control byte is full, no bucket remains
none_full : (controls : List ℕ) (cap : ℕ) → ((i : ℕ) → i < cap → slice_index controls i < 128 → ⊥) → (n from : ℕ) → cap ≤ from + n → full_from controls cap from ≡ []
none_full controls cap none_at zero from h = full_end controls cap from (omega arith)
none_full controls cap none_at (suc n) from h = grind (arith, common_steps, cases_lt, full_end, full_skipped, none_full controls cap none_at n (from + 1) (omega arith))

module _ {K V : Type 0} (k v : ElementSpec) (kl : IsElement k) (vl : IsElement v) where
  -- a map of entries that are too large has no entries
  pub none_large : (w : Width) (p : ℕ) (r : RawIterSeal (Entry K V)) → 1073741824 < whole_size k v → IsPairIter k v w p r → cursor_buckets_left w p r ≡ []
  none_large w p r large is =
      let b = r.archive.now in
      none_full (table_controls w b p) r.cap
      (λ i below full.
      let item = item_viewable w (entry_spec k v) (entry_element k v kl vl) b p is.table i (subst (λ n. i < n) is.cap below, full) in
      let small = item.valid.1.0 in
      omega (arith, small, large))
      r.cap r.next (omega arith)

  -- a step over the entries is one over the keys
  pub yields_key_pos : (before after : RawIterSeal (Entry K V)) (result : Option ℕ) → YieldsPosition (entry_spec k v) before result after → YieldsKeyPos k v before result after
  yields_key_pos before after None h w p is = let d = h w p is in record { none = d.0; still = d.1; iter = d.2 }
  yields_key_pos before after (Some q) h w p is =
      let t = h w p is in
      record {
        bucket = t.bucket;
        first = t.first;
        pair = pair_pos w k v kl vl before.archive.now p is.table q (t.bucket, t.item.walked, t.item.pos);
        iter = t.iter;
      }

  -- the key and the seal at the first found key
  pub lends_first : (w : Width) (p q : ℕ) (before after : RawIterSeal (Entry K V)) (archive : List ℕ) → archive ≡ cursor_bytes before → YieldsPairAt k v w p before after q
      → (result : Option (View K × Seal V)) → IfSome result (λ (pair : View K × Seal V). IsValidView k pair.0)
      → IfSome result (λ (pair : View K × Seal V). (pos_of pair.0 ≡ q) × (bytes_of pair.0 ≡ take (value_pos k v q) archive))
      → IfSome result (λ (pair : View K × Seal V). (seal_pos pair.1 ≡ 0) × (bytes_in pair.1 ≡ drop (value_pos k v q) archive))
      → (Viewable k archive q → IsSome result)
      → MatchOption result (cursor_buckets_left w p before ≡ [])
      (λ (pair : View K × Seal V). (i : ℕ) × (rest : List ℕ) × (cursor_buckets_left w p before ≡ i ∷ rest) × LendsPair k v (cursor_bytes before) (IsPairPos w k v (cursor_bytes before) p i) pair)
  lends_first w p q before after archive same t None view key value found = absurd (true≢false (sym (found (subst (λ b. Viewable k b q) (sym same) t.pair.key))))
  lends_first w p q before after archive same t (Some pair) view key value found =
      grind (arith, common_steps, pair_lent k v before.archive.now (IsPairPos w k v before.archive.now p t.bucket) q pair t.pair key.0 view (key.1 ∙ ap (take (value_pos k v q)) same) (value.1 ∙ ap (drop (value_pos k v q)) same) value.0)

  -- a write of one value keeps the map and the cursor
  pub pairs_kept : (before after : RawIterSeal (Entry K V)) (q : ℕ) → StaysThere before after → ModifiesOnly (cursor_bytes before) (value_pos k v q) v.size (cursor_bytes after)
      → StaysValid v (cursor_bytes before) (cursor_bytes after) (value_pos k v q) → KeepsPairs k v before q after
  pairs_kept before after q there sealed keeps w p i is at =
      let b = before.archive.now in
      let c = after.archive.now in
      let s = entry_spec k v in
      let law = entry_element k v kl vl in
      let item = item_viewable w s law b p is.table i at.walked in
      let small = size_of_small (whole_size k v) item.valid.1.0 in
      let inside = key_and_value_inside k v in
      let kept = at.kept c (subst (λ n. ModifiesOnly b (value_pos k v n) v.size c) at.pos sealed) (subst (λ n. StaysValid v b c (value_pos k v n)) at.pos keeps) in
      let cursor = cursor_kept w s p i q before after is
      (record { walked = at.walked; pos = at.pos; viewable = subst (λ n. Viewable s b n) (sym at.pos) item; kept = λ d x y. table_kept w s law b p i is.table at.walked d x y })
      there (sealed_wider b c (value_pos k v q) v.size q s.size (omega arith) (omega (arith, small, inside.1)) sealed) (entry_kept k v kl vl b c q sealed keeps) in
      (kept.0, subst (λ n. SameValue k b c n) (sym at.pos) kept.1, cursor.1, cursor.2)
