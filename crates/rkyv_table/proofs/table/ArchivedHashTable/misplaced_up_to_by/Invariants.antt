use Rattle.std.proofs.Common.{◌≡◌, ◌+◌, ◌-◌, ◌≤◌, length}
use Rattle.std.specs.List.{All}
use Rattle.rkyv_table.specs.{IsWalked, cap_at, count_after, table_bytes, table_len, table_pos}
use Rattle.rkyv_table.proofs.MisplacedIn.{Counting, Spending}
use Rattle.rkyv_table.proofs.table.ArchivedHashTable.misplaced_up_to_by.Given as goal

abbrev pub invariant-loop-bucket : goal.invariant-loop-bucket
invariant-loop-bucket g l = record {
  walked : All (IsWalked g.W.Word.word (table_bytes l.fn.self) (table_pos l.fn.self)) l.bucket-iterator;
  counted : l.misplaced + length l.bucket-iterator ≤ cap_at g.W.Word.word (table_bytes l.fn.self) (table_pos l.fn.self);
  few : l.misplaced + length l.bucket-iterator ≤ table_len l.fn.self;
  counting : Counting l.fn.self (goal.H-post g l.fn.hash_of) (goal.S-post g l.fn.same) l.misplaced l.bucket-iterator;
  spent : Spending l.fn.self (goal.H-post g l.fn.hash_of) (goal.S-post g l.fn.same) (l.limit - l.left) l.bucket-iterator;
  within : l.left ≤ l.limit;
  read : l.strides ≡ count_after l.initial.strides (l.limit - l.left);
}
