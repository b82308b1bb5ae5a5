use Rattle.std.proofs.Common.{◌≡◌, ◌≤◌, []}
use Rattle.book_share.specs.inner.Turning.{waited}
use Rattle.book_share.proofs.turns.take_waiting.Given as goal

abbrev pub invariant-loop : goal.invariant-loop
invariant-loop g l = record {
  table : l.seat.table_id ≡ l.fn.seat.table_id;
  waits : l.seat.me ≡ (waited l.fn.seat.me.0 l.seat.me.0.tries l.seat.me.0.met, []);
  tries : l.fn.seat.me.0.tries ≤ l.seat.me.0.tries;
}
