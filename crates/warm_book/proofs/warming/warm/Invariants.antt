use Rattle.std.proofs.Common.{◌≡◌, ◌≤◌, length, take, vec_len, vec_capacity}
use Rattle.lemma_core.specs.Books.{IsReserved}
use Rattle.warm_book.specs.Warm.{TakesAll, untaken}
use Rattle.warm_book.specs.inner.Takings.{taking}
use Rattle.warm_book.proofs.warming.warm.Given as goal

abbrev pub invariant-loop-k : goal.invariant-loop-k
invariant-loop-k l = record {
  taken : TakesAll l.room (untaken l.fn.book) (take l.k l.old) (taking l.warming);
  about : l.warming.book.about ≡ l.fn.book.about;
  kept : l.warming.kept ≤ l.k;
  paid : l.warming.units ≤ l.room;
  filled : vec_len l.warming.numbers ≡ l.k;
  free : length l.old ≤ vec_capacity l.warming.numbers;
  reserved : IsReserved l.fn.book → IsReserved l.warming.book;
}
