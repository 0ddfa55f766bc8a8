-- Lemmas: the entry of a key and a value: the key, zeros up to the value's alignment, the value,
-- and zeros up to the greater alignment.
use Rattle.std.specs.Prelude.{◌≡◌, ℕ, ◌+◌, ◌%◌, ◌<◌, ◌≤◌, List, length}
use Rattle.std.proofs.lemmas.Bool.{cases_lt}
use Rattle.std.proofs.lemmas.Bool.Decides.{nat_tests}
use Rattle.std.specs.Coded.{le_prop, ×_prop}
use Rattle.std.proofs.Common.{refl, arith}
use Rattle.std.proofs.lemmas.Grind.{common_steps}
use Rattle.rkyv_base.specs.declared.errors.VerifyError.{VerifyError}
use Rattle.rkyv_base.specs.Bytes.{AgreeOn}
use Rattle.rkyv_base.specs.Lemmas.Bytes.{agree_on_part}
use Rattle.rkyv_base.specs.Lemmas.Props.{only_one, prop_by}
use Rattle.rkyv_base.specs.ElementSpecs.{ElementSpec, IsAlign, IsElement, Viewable}
use Rattle.rkyv_base.specs.Lemmas.ElementSpec.{valid_at, by_align, max_align, multiple_of_max}
use Rattle.rkyv_base.specs.Lemmas.ElementSpec.{sum_multiple}
use Rattle.rkyv_base.specs.Entries.{IsSmall, round_up, size_of_whole, value_offset, whole_size}
use Rattle.rkyv_base.specs.Entries.{EntriesAgree, EntryFails, IsValidEntry, entry_spec}

pub size_of_small : (whole : ℕ) → whole ≤ 1073741824 → size_of_whole whole ≡ whole
size_of_small whole h = grind (arith, nat_tests)

pub size_of_large : (whole : ℕ) → 1073741824 < whole → size_of_whole whole ≡ 0
size_of_large whole h = grind (arith, nat_tests)

pub size_of_any : (whole : ℕ) → size_of_whole whole ≤ 1073741824
size_of_any whole = grind (arith, nat_tests)

size_multiple : (whole a : ℕ) → IsAlign a → whole % a ≡ 0 → size_of_whole whole % a ≡ 0
size_multiple whole a al h =
    grind (arith, common_steps, cases_lt, size_of_small, nat_tests, by_align)

pub round_up-multiple : (n a : ℕ) → IsAlign a → round_up n a % a ≡ 0
round_up-multiple n a ha = grind (arith, common_steps, by_align)

-- the key and the value are inside the entry
pub key_and_value_inside : (k v : ElementSpec) → (k.size ≤ value_offset k v)
    × (value_offset k v + v.size ≤ whole_size k v)
key_and_value_inside k v = (omega arith, omega arith)

module _ (k v : ElementSpec) (kl : IsElement k) (vl : IsElement v) where
  entry_prop : (b : List ℕ) (p lo hi l : ℕ) → IsProp (IsValidEntry k v b p lo hi l)
  entry_prop b p lo hi l =
      prop_by {B = IsSmall k v × ((m : ℕ) × (k.is_valid b p lo hi m
      × v.is_valid b (p + value_offset k v) m hi l))}
      (λ h. (h.0, (h.1, (h.2, h.3)))) (λ h. (h.0, h.1.0, h.1.1.0, h.1.1.1)) (λ _. refl)
      (×_prop le_prop (only_one
      (λ m. ×_prop (kl.proper b p lo hi m) (vl.proper b (p + value_offset k v) m hi l))
      (λ m m' h h'. kl.rest_unique b p lo hi m m' h.0 h'.0)))

  entry_between : (b : List ℕ) (p lo hi l : ℕ) → lo ≤ hi → IsValidEntry k v b p lo hi l → (lo ≤ l)
      × (l ≤ hi)
  entry_between b p lo hi l o h = grind (arith, common_steps)

  entry_one : (b : List ℕ) (p lo hi l l' : ℕ) → IsValidEntry k v b p lo hi l
      → IsValidEntry k v b p lo hi l' → l ≡ l'
  entry_one b p lo hi l l' h h' = grind (arith, common_steps)

  entry_exclusive : (b : List ℕ) (p lo hi l : ℕ) (e : VerifyError) → IsValidEntry k v b p lo hi l
      → EntryFails k v b p lo hi e → ⊥
  entry_exclusive b p lo hi l e h f = grind (arith, common_steps)

  entry_one_failure : (b : List ℕ) (p lo hi : ℕ) (e e' : VerifyError) → EntryFails k v b p lo hi e
      → EntryFails k v b p lo hi e' → e ≡ e'
  entry_one_failure b p lo hi e e' h f = grind (arith, common_steps)

  -- two lists that agree on an entry agree on its key and on its value
  pub same_key : (b c : List ℕ) (p : ℕ) → IsSmall k v
      → AgreeOn b c p (p + size_of_whole (whole_size k v)) → AgreeOn b c p (p + k.size)
  same_key b c p small fixed =
      grind (arith, common_steps, size_of_small, key_and_value_inside, agree_on_part)

  pub same_value : (b c : List ℕ) (p : ℕ) → IsSmall k v
      → AgreeOn b c p (p + size_of_whole (whole_size k v))
      → AgreeOn b c (p + value_offset k v) (p + value_offset k v + v.size)
  same_value b c p small fixed =
      grind (arith, common_steps, size_of_small, key_and_value_inside, agree_on_part)

  -- two lists that agree on an entry and its parts agree on the parts of its key and its value
  pub same_parts : (b c : List ℕ) (p lo hi l : ℕ) → lo ≤ hi → (h : IsValidEntry k v b p lo hi l)
      → AgreeOn b c p (p + size_of_whole (whole_size k v)) → AgreeOn b c lo l
      → EntriesAgree k v b c p lo hi h.1 l
  same_parts b c p lo hi l o h fixed part = grind (arith, same_key, agree_on_part, same_value)

  entry_local : (b c : List ℕ) (p lo hi l : ℕ) → lo ≤ hi
      → AgreeOn b c p (p + size_of_whole (whole_size k v)) → AgreeOn b c lo l
      → IsValidEntry k v b p lo hi l → IsValidEntry k v c p lo hi l
  entry_local b c p lo hi l o fixed part h =
      grind (arith, common_steps, same_parts b c p lo hi l o h fixed part)

  entry_lower : (b : List ℕ) (p lo lo' hi l : ℕ) → lo' ≤ lo → lo ≤ hi → IsValidEntry k v b p lo hi l
      → (l' : ℕ) × IsValidEntry k v b p lo' hi l' × (l' ≤ l)
  entry_lower b p lo lo' hi l o o' h =
      let x : (lo ≤ h.1) × (h.1 ≤ hi) = kl.rest_in_range b p lo hi h.1 o' h.2 in
      let dk : (m : ℕ) × k.is_valid b p lo' hi m
      × (m ≤ h.1) = kl.lower_lo b p lo lo' hi h.1 o o' h.2 in
      let dv : (m : ℕ) × v.is_valid b (p + value_offset k v) dk.0 hi m × (m ≤ l) =
      vl.lower_lo b (p + value_offset k v) h.1 dk.0 hi l dk.2 x.1 h.3 in
      (dv.0, (h.0, dk.0, dk.1, dv.1), dv.2)

  pub entry_element : IsElement (entry_spec k v)
  entry_element =
      let al = max_align k.align v.align kl.align_is vl.align_is in
      record {
        align_is = al;
        size_whole = grind (arith, common_steps, size_multiple, round_up-multiple);
        size_small = size_of_any (whole_size k v);
        proper = entry_prop;
        rest_in_range = entry_between;
        rest_unique = entry_one;
        exclusive = entry_exclusive;
        one_failure = entry_one_failure;
        widen_hi = grind (arith, common_steps);
        lower_lo = entry_lower;
        local = entry_local;
      }

  -- the key and the value of a valid entry are inside the bytes, and aligned
  key_and_value_lie : (b : List ℕ) (p : ℕ) → Viewable (entry_spec k v) b p
      → (p + value_offset k v + v.size ≤ length b) × (p % k.align ≡ 0) × (p % v.align ≡ 0)
  key_and_value_lie b p h =
      grind (arith, common_steps, size_of_small, multiple_of_max, key_and_value_inside)

  -- the key and the value of a valid entry are valid
  pub viewable_key : (b : List ℕ) (p : ℕ) → Viewable (entry_spec k v) b p → Viewable k b p
  viewable_key b p h = grind (arith, common_steps, key_and_value_lie, key_and_value_inside)

  pub viewable_value : (b : List ℕ) (p : ℕ) → Viewable (entry_spec k v) b p
      → Viewable v b (p + value_offset k v)
  viewable_value b p h =
      let lie = key_and_value_lie b p h in
      let x : (0 ≤ h.valid.1.1) × (h.valid.1.1 ≤ p) =
      kl.rest_in_range b p 0 p h.valid.1.1 (omega arith) h.valid.1.2 in
      grind (
        arith,
        common_steps,
        sum_multiple p (value_offset k v) v.align vl.align_is lie.2
            (round_up-multiple k.size v.align vl.align_is),
        round_up-multiple k.size v.align vl.align_is,
        valid_at v vl b (p + value_offset k v) h.valid.1.1 p h.valid.0 x.1 (omega arith)
            h.valid.1.3,
      )
