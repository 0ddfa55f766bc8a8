use Rattle.std.proofs.Common.{◌+◌, ◌≤◌, length}
use Rattle.std.specs.List.{All}
use Rattle.rkyv_table.specs.{IsWalked, cap_at, table_bytes, table_len, table_pos}
use Rattle.rkyv_table.proofs.MisplacedIn.{Counting}
use Rattle.rkyv_table.proofs.table.ArchivedHashTable.misplaced_by.Given as goal

abbrev pub invariant-loop-bucket : goal.invariant-loop-bucket
invariant-loop-bucket g l = record {
  walked : All (IsWalked g.W.Word.word (table_bytes l.fn.self) (table_pos l.fn.self)) l.bucket-iterator;
  counted : l.count + length l.bucket-iterator ≤ cap_at g.W.Word.word (table_bytes l.fn.self) (table_pos l.fn.self);
  few : l.count + length l.bucket-iterator ≤ table_len l.fn.self;
  counting : Counting l.fn.self (goal.H-post g l.fn.hash_of) (goal.S-post g l.fn.same) l.count l.bucket-iterator;
}
