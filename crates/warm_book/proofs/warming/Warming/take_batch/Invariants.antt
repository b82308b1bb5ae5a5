use Rattle.std.proofs.Common.{◌≡◌, ◌≤◌, length, take, vec_len, vec_capacity}
use Rattle.lemma_core.specs.Books.{BookView, IsReserved}
use Rattle.warm_book.specs.Warm.{TakesAll, untaken}
use Rattle.warm_book.specs.inner.Takings.{taking}
use Rattle.warm_book.proofs.warming.Warming.take_batch.Given as goal

abbrev pub invariant-loop-k : goal.invariant-loop-k
invariant-loop-k l = record {
  taken : (b : BookView) → TakesAll l.room (untaken b) (take l.from l.old) (taking l.fn.self)
      → TakesAll l.room (untaken b) (take l.k l.old) (taking l.self);
  about : l.self.book.about ≡ l.fn.self.book.about;
  filled : vec_len l.self.numbers ≡ l.k;
  free : length l.old ≤ vec_capacity l.self.numbers;
  reserved : IsReserved l.fn.self.book → IsReserved l.self.book;
}
