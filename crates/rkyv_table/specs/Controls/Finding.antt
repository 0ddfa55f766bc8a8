-- The result of a lookup.
use Rattle.std.specs.Prelude.{◌≡◌, ℕ, suc, ◌+◌, ◌*◌, ◌-◌, ◌/◌, ◌%◌, ◌^◌, ◌<◌, ◌≤◌, List, Bool, ◌||◌}
use Rattle.std.specs.Prelude.{take, drop, Option, None, map, min, filter, cond, ◌==◌, IfSome, true}
use Rattle.std.specs.List.{find, list_any, position_or_len, range_with_len}
use Rattle.std.specs.Option.{option_and_then}
use Rattle.rkyv_scan.specs.{Kind}
use Rattle.rkyv_table.specs.Controls.ControlBytes.{IsFullBucket, is_empty_at}
use Rattle.rkyv_table.specs.Controls.Probe.{strides}
use Rattle.rkyv_table.specs.Controls.Numbers.{probe_capacity, tag}

-- the kind of group marks index `q` for the tag `t`, if the stride from `p` on is read in groups
abbrev pub marked : Kind → List ℕ → ℕ → ℕ → ℕ → Bool
marked kind controls t p q = kind.marks
    (take kind.width (drop (p + (q - p) / kind.width * kind.width) controls)) t
    ((q - p) % kind.width)

-- the buckets of the marked indices of the stride from `p` on, in order
unfoldable pub candidates : Kind → List ℕ → ℕ → ℕ → ℕ → List ℕ
candidates kind controls cap t p =
    map (λ q. q % cap) (filter (marked kind controls t p) (range_with_len p 16))

-- the stride from `p` on has an empty control byte
unfoldable pub stride_has_empty : List ℕ → ℕ → Bool
stride_has_empty controls p = list_any (is_empty_at controls) (range_with_len p 16)

-- the search ends at the stride from `p` on: it has an accepted candidate or
-- an empty control byte
abbrev pub ends_at : Kind → List ℕ → ℕ → ℕ → (ℕ → Bool) → ℕ → Bool
ends_at kind controls cap t accept p =
    list_any accept (candidates kind controls cap t p) || stride_has_empty controls p

-- the number of the stride at which the search ends, counted from 1, or 0 in an empty table
abbrev pub probe_length : Kind → List ℕ → ℕ → ℕ → ℕ → (ℕ → Bool) → ℕ
probe_length kind controls cap len hash accept =
    cond (len == 0) 0 (suc (position_or_len (ends_at kind controls cap (tag hash) accept)
    (strides hash cap)))

-- the first accepted candidate of the stride at which the search ends
abbrev pub found : Kind → List ℕ → ℕ → ℕ → ℕ → (ℕ → Bool) → Option ℕ
found kind controls cap len hash accept =
    cond (len == 0) None (option_and_then (λ p.
    find accept (candidates kind controls cap (tag hash) p))
    (find (ends_at kind controls cap (tag hash) accept) (strides hash cap)))

-- the comparison returns `accept b` for each bucket `b` that it may be called with
abbrev pub ComparesByBucket : (ℕ → Bool → Type 0) → (ℕ → Type 0) → (ℕ → Bool) → Type 0
ComparesByBucket post callable accept = (b : ℕ) (r : Bool) → callable b → post b r → r ≡ accept b

-- the count after `n` strides are added to `before`: their sum, and at most 2^64 - 1
abbrev pub count_after : ℕ → ℕ → ℕ
count_after before n = before + min n (2 ^ 64 - 1 - before)

-- the number of strides that a lookup reads: none if `len` is 0, else at least one and at most
-- `bound`
pub record ReadsWithin (len bound before after : ℕ) : Type 0 where
  pub none : len ≡ 0 → after ≡ before
  pub some : 0 < len → count_after before 1 ≤ after
  pub most : after ≤ before + bound

-- a lookup in control bytes. `kind`: kind of group, `controls`: control bytes of `len` items
-- in `cap` buckets, `hash`: hash that is looked up
pub record Lookup : Type 0 where
  pub kind : Kind
  pub controls : List ℕ
  pub cap : ℕ
  pub len : ℕ
  pub hash : ℕ

-- the lookup of `hash` in these control bytes
abbrev pub lookup : Kind → List ℕ → ℕ → ℕ → ℕ → Lookup
lookup kind controls cap len hash = record {
  kind = kind;
  controls = controls;
  cap = cap;
  len = len;
  hash = hash;
}

-- `result`: bucket that the lookup `l` finds, `before` and `after`: counts of strides.
-- For any comparison, the bucket is full and accepted, and the strides are bounded.
-- If the comparison depends only on the bucket, both are exact
pub record FindsBucket (l : Lookup) (post : ℕ → Bool → Type 0) (before after : ℕ)
    (result : Option ℕ) : Type 0 where
  pub walked : IfSome result (IsFullBucket l.cap l.controls)
  pub accepted : IfSome result (λ b. post b true)
  pub bounded : ReadsWithin l.len (probe_capacity l.cap / 16) before after
  pub finds : (accept : ℕ → Bool) → ComparesByBucket post (IsFullBucket l.cap l.controls) accept
      → result ≡ found l.kind l.controls l.cap l.len l.hash accept
  pub counted : (accept : ℕ → Bool) → ComparesByBucket post (IsFullBucket l.cap l.controls) accept
      → after ≡ count_after before (probe_length l.kind l.controls l.cap l.len l.hash accept)
