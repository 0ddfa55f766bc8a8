-- A lookup in two archives whose tables have the same header and control bytes.
use Rattle.std.proofs.Common.{◌≡◌, ℕ, ◌+◌, ◌-◌, ◌*◌, ◌<◌, ◌^◌, ◌∙◌, refl, ap, inl, inr, sym, arith, Bool, List, Option}
use Rattle.std.proofs.lemmas.Grind.{common_steps}
use Rattle.std.specs.Int.{Width, byte_len}
use Rattle.std.specs.Option.{option_map}
use Rattle.std.proofs.lemmas.Bool.{cases_eq, eq-eqb}
use Rattle.rkyv_scan.specs.{Kind, generic_kind}
use Rattle.rkyv_scan.specs.Lemmas.KindLaws.{word_lawful}
use Rattle.rkyv_base.specs.{AgreeOn, ElementSpec, IsElement, Viewable}
use Rattle.rkyv_table.specs.{IsWalked, bucket_found, cap_at, found, item_at, len_at, pos_found, table_controls, table_spec}
use Rattle.rkyv_table.specs.Lemmas.SameHeader.{cap_same, item_same, len_same, pos_same}
use Rattle.rkyv_table.proofs.Misplaced.{found_agree}
use Rattle.rkyv_table.proofs.ValidTable.{controls_accepted, some_cap}
use Rattle.rkyv_table.proofs.Walks.{walked_full}

map_of_found : (f g : ℕ → ℕ) → ((i : ℕ) → f i ≡ g i) → (o : Option ℕ) → option_map f o ≡ option_map g o
map_of_found f g same found = grind (arith, common_steps)

module _ (w : Width) (b c : List ℕ) (p : ℕ) (header : AgreeOn b c p (p + 3 * byte_len w)) (controls : table_controls w c p ≡ table_controls w b p) where
  -- a comparison of buckets finds the same bucket
  same_bucket : (kind : Kind) (hash : ℕ) (fits : ℕ → Bool) → found kind (table_controls w c p) (cap_at w c p) (len_at w c p) hash fits ≡ found kind (table_controls w b p) (cap_at w b p) (len_at w b p) hash fits
  same_bucket kind hash fits = grind (arith, common_steps, cap_same w b c p header, len_same w b c p header)

  -- a comparison of positions finds the same bucket
  pub lookup_kept : (size : ℕ) (kind : Kind) (hash : ℕ) (accept : ℕ → Bool) → bucket_found kind w size c p hash accept ≡ bucket_found kind w size b p hash accept
  lookup_kept size kind hash accept =
      same_bucket kind hash (λ j. accept (item_at w size c p j))
      ∙ ap (λ n. found kind (table_controls w b p) (cap_at w b p) (len_at w b p) hash (λ j. accept (n - (j + 1) * size))) (sym (pos_same w b c p header))

  -- the table is valid in `b`
  module _ (s : ElementSpec) (law : IsElement s) (view : Viewable (table_spec w s) b p) (hash : ℕ) (small : hash < 2 ^ 64) where
    -- two comparisons find the same bucket if they agree on the full ones
    pub found_same : (fits fits' : ℕ → Bool) → ((j : ℕ) → IsWalked w b p j → fits j ≡ fits' j)
        → found generic_kind (table_controls w c p) (cap_at w c p) (len_at w c p) hash fits ≡ found generic_kind (table_controls w b p) (cap_at w b p) (len_at w b p) hash fits'
    found_same fits fits' agree = same_bucket generic_kind hash fits ∙ elim (cases_eq (len_at w b p) 0) [
      | inl none ↦ rw (eq-eqb (len_at w b p) 0 none) refl
      | inr some ↦
          let controls_are = controls_accepted w s law b p view (some_cap w s law b p view (omega arith)) in
          found_agree generic_kind (cap_at w b p) (len_at w b p) hash (table_controls w b p) word_lawful controls_are small fits fits'
          (λ j there. agree j (walked_full (cap_at w b p) (table_controls w b p) j there))
    ]

    -- two comparisons find the same item if they agree on the items
    pub pos_found_same : (accept accept' : ℕ → Bool) → ((j : ℕ) → IsWalked w b p j → accept (item_at w s.size b p j) ≡ accept' (item_at w s.size b p j))
        → pos_found generic_kind w s.size c p hash accept ≡ pos_found generic_kind w s.size b p hash accept'
    pos_found_same accept accept' agree =
        let at = item_at w s.size b p in
        let same : (j : ℕ) → item_at w s.size c p j ≡ at j = λ j. sym (item_same w b c p header s.size j) in
        grind (arith, found_same, map_of_found)
