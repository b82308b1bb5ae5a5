use Rattle.std.proofs.Common.{◌≡◌, ◌≤◌, ◌-◌, length, take, vec_len, vec_capacity}
use Rattle.lemma_core.specs.Books.{IsReserved}
use Rattle.warm_book.specs.Warm.{TakesAll, untaken}
use Rattle.warm_book.specs.inner.Takings.{taking}
use Rattle.warm_book.proofs.wide.warm_counted.Given as goal

abbrev pub decreases-loop-from : goal.decreases-loop-from
decreases-loop-from g l = length l.old - l.from

abbrev pub invariant-loop-from : goal.invariant-loop-from
invariant-loop-from g l = record {
  within : l.from ≤ length l.old;
  taken : TakesAll l.room (untaken l.fn.book) (take l.from l.old) (taking l.warming);
  filled : vec_len l.warming.numbers ≡ l.from;
  free : length l.old ≤ vec_capacity l.warming.numbers;
  reserved : IsReserved l.fn.book → IsReserved l.warming.book;
}
