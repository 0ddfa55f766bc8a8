-- An entry whose value is written among its parts, and unchanged entries.
use Rattle.std.proofs.Common.{ℕ, ◌+◌, ◌-◌, ◌≤◌, arith, Bool, List}
use Rattle.rkyv_base.specs.Lemmas.Bytes.{agree_on_part}
use Rattle.rkyv_base.specs.{ElementSpec, IsElement, ModifiesOnly, RepresentsLocally, entry_spec, value_pos}
use Rattle.rkyv_base.specs.Lemmas.Entry.{same_key, same_value}
use Rattle.rkyv_base.proofs.Sealing.{sealed_wider}
use Rattle.rkyv_table.specs.{IsValidBefore, RestsOnKey, RestsOnParts, StaysAt, WritesAmongParts}
use Rattle.rkyv_table.proofs.NestedItems.{same_above, same_below}

module _ (k v : ElementSpec) (kl : IsElement k) (vl : IsElement v) (b c : List ℕ) (q : ℕ) where
  abbrev S : ElementSpec
  S = entry_spec k v

  -- a write among the parts of the value is one among the parts of the entry
  pub entry_written : WritesAmongParts v b c (value_pos k v q) → WritesAmongParts S b c q
  entry_written writes =
      let wrote : (lo hi l : ℕ) → lo ≤ hi → hi ≤ q → S.is_valid b q lo hi l → S.is_valid c q lo hi l × ModifiesOnly b lo (l - lo) c = λ lo hi l o o' h.
      let m = h.1 in
      let x = kl.rest_in_range b q lo hi m o h.2 in
      let y = vl.rest_in_range b (value_pos k v q) m hi l x.1 h.3 in
      let sealed = writes.sealed m hi l x.1 (omega arith) h.3 in
      let key = kl.local b c q lo hi m o (same_above b c m l y.0 sealed q (q + k.size) (omega arith) (omega (arith, y.1))) (same_below b c m l y.0 sealed lo m x.0 (omega arith)) h.2 in
      ((h.0, m, key, writes.is_valid m hi l x.1 (omega arith) h.3), sealed_wider b c m (l - m) lo (l - lo) x.0 (omega (arith, x.0, y.0)) sealed) in
      record { is_valid = λ lo hi l o o' h. (wrote lo hi l o o' h).0; sealed = λ lo hi l o o' h. (wrote lo hi l o o' h).1 }

  -- the key of a valid entry is valid, with its parts in some range before it
  abbrev key_before : IsValidBefore S b q → IsValidBefore k b q
  key_before h = record { lower = h.lower; upper = h.upper; rest = h.is_valid.1; order = h.order; before = h.before; is_valid = h.is_valid.2 }

  -- the key of the entry is unchanged
  pub key_of_own : WritesAmongParts v b c (value_pos k v q) → IsValidBefore S b q → StaysAt k b c q
  key_of_own writes h =
      let m = h.is_valid.1 in
      let x = kl.rest_in_range b q h.lower h.upper m h.order h.is_valid.2 in
      let up = h.before in
      let y = vl.rest_in_range b (value_pos k v q) m h.upper h.rest x.1 h.is_valid.3 in
      let sealed = writes.sealed m h.upper h.rest x.1 (omega arith) h.is_valid.3 in
      record {
        valid = key_before h;
        fixed = same_above b c m h.rest y.0 sealed q (q + k.size) (omega arith) (omega (arith, y.1));
        parts = same_below b c m h.rest y.0 sealed h.lower m x.0 (omega arith);
      }

  -- the key and the value of an unchanged entry are unchanged
  pub key_of_other : StaysAt S b c q → StaysAt k b c q
  key_of_other s =
      let h = s.valid in
      let m = h.is_valid.1 in
      let x = kl.rest_in_range b q h.lower h.upper m h.order h.is_valid.2 in
      let y = vl.rest_in_range b (value_pos k v q) m h.upper h.rest x.1 h.is_valid.3 in
      record {
        valid = key_before h;
        fixed = same_key k v kl vl b c q h.is_valid.0 s.fixed;
        parts = agree_on_part b c h.lower h.rest h.lower m (omega arith) y.0 x.0 s.parts;
      }

  pub value_of_other : StaysAt S b c q → StaysAt v b c (value_pos k v q)
  value_of_other s =
      let h = s.valid in
      let m = h.is_valid.1 in
      let up = h.before in
      let x = kl.rest_in_range b q h.lower h.upper m h.order h.is_valid.2 in
      let y = vl.rest_in_range b (value_pos k v q) m h.upper h.rest x.1 h.is_valid.3 in
      record {
        valid = record { lower = m; upper = h.upper; rest = h.rest; order = x.1; before = omega (arith, up); is_valid = h.is_valid.3 };
        fixed = same_value k v kl vl b c q h.is_valid.0 s.fixed;
        parts = agree_on_part b c h.lower h.rest m h.rest x.0 (omega arith) y.0 s.parts;
      }

-- unchanged bytes represent the same value
pub represents_on : {V : Type 0} (s : ElementSpec) (represents : List ℕ → ℕ → V → Type 0) → RepresentsLocally s represents → (x : V) (b c : List ℕ) (q : ℕ) → StaysAt s b c q → represents b q x → represents c q x
represents_on s represents local x b c q h st = local x b c q h.valid.lower h.valid.upper h.valid.rest h.valid.order h.valid.is_valid h.fixed h.parts st

-- a comparison that depends only on a key and its parts depends only on the key
pub rests_on_key : (k : ElementSpec) (fits : List ℕ → ℕ → Bool) → RestsOnParts k fits → RestsOnKey k fits
rests_on_key k fits rests b c q valid same = rests b c q (record {
  valid = record { lower = 0; upper = q; rest = valid.0; order = omega arith; before = omega arith; is_valid = valid.1 };
  fixed = same.fixed;
  parts = same.parts valid.0 valid.1;
})
