-- Counts of strides.
use Rattle.rkyv_base.specs.declared.element.HasSpec.{Ghosts as Specs}
use Rattle.rkyv_base.specs.declared.width.Word.{Ghosts as Words}
use Rattle.std.proofs.Common.{◌≡◌, ℕ, ◌+◌, ◌-◌, ◌/◌, ◌<◌, ◌≤◌, ◌^◌, ◌∙◌, ap, arith, None, Some}
use Rattle.std.proofs.lemmas.Grind.{common_steps}
use Rattle.rkyv_table.specs.{IsCutAt, ReadsWithin, cap_at, count_after, probe_capacity, table_bytes, table_pos}
use Rattle.rkyv_table.specs.declared.table.ArchivedHashTable.{ArchivedHashTable}

-- the strides of two parts are added one after the other
pub counted_on : (before m n : ℕ) → count_after (count_after before m) n ≡ count_after before (m + n)
counted_on before m n = grind (arith, common_steps)

-- a count from 0 of the strides of one lookup is exact
pub counted_lookup : (len cap n after : ℕ) → cap < 2 ^ 64 → ReadsWithin len (probe_capacity cap / 16) 0 after → after ≡ count_after 0 n → after ≡ n
counted_lookup len cap n after small reads counted = let most = reads.most in grind (arith, common_steps)

-- the number of buckets of a table is below 2^64
pub cap_small : {T W : Type 0} {ts : Specs T} {wt : Words W} (t : ArchivedHashTable T W ts wt) → cap_at wt.word (table_bytes t) (table_pos t) < 2 ^ 64
cap_small t = rw t.decoded.cap at t.decoded.small

-- Lookups read strides until their number is above a limit. `left`: rest of the limit, `own`: strides
-- of one more lookup, `read` of them counted
module _ {limit left own read : ℕ} (within : left ≤ limit) (is : read ≡ own) (all rest : ℕ) (spent : all ≡ limit - left + own + rest) where
  -- the rest of the limit after the lookup, and the strides that all lookups read
  pub spent_on : read ≤ left → all ≡ limit - (left - read) + rest
  spent_on enough = omega (arith, within, is, enough, spent)

  pub passed_limit : left < read → limit < all
  passed_limit past = omega (arith, within, is, past, spent)

-- the count of the strides
module _ (limit left read before : ℕ) {now next : ℕ} (within : left ≤ limit) (counted : now ≡ count_after before (limit - left)) (adds : next ≡ count_after now read) where
  pub counted_next : next ≡ count_after before (limit - left + read)
  counted_next = adds ∙ ap (λ n. count_after n read) counted ∙ counted_on before (limit - left) read

  pub counted_rest : read ≤ left → next ≡ count_after before (limit - (left - read))
  counted_rest enough = counted_next ∙ ap (count_after before) (omega (arith, within, enough))

  pub counted_part : (own all rest : ℕ) → read ≡ own → all ≡ limit - left + own + rest → next ≤ count_after before all
  counted_part own all rest is spent = grind (arith, common_steps, counted_next)

  pub cut_at : (bound : ℕ) → left < read → read ≤ bound → IsCutAt limit bound before next None
  cut_at bound past most = record { read = limit - left + read; counted = counted_next; bounded = omega (arith, within, most); cut = omega (arith, within, past) }

-- the lookups of all items are within the limit
pub not_cut : (limit left before now bound n : ℕ) → left ≤ limit → now ≡ count_after before (limit - left) → IsCutAt limit bound before now (Some n)
not_cut limit left before now bound n within counted = record { read = limit - left; counted = counted; bounded = omega arith; cut = omega arith }

-- the strides of one lookup are at most the bound
pub one_within : (len bound start own read : ℕ) → start ≡ 0 → ReadsWithin len bound start own → read ≡ own → read ≤ bound
one_within len bound start own read none reads is = let most = reads.most in omega (arith, most, none, is)
