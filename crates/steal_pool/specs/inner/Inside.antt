-- What is true of a worker, of a pass and of a seat between two calls.
use Rattle.std.specs.Prelude.{◌≡◌, ◌≤◌, [], length, None}
use Rattle.std.specs.declared.alloc.Global.{Global}
use Rattle.crossbeam_deque.specs.declared.handles.Worker.{Worker}
use Rattle.crossbeam_deque.specs.Handles.{Pass, view, worker_flavor, worker_capacity, worker_index, worker_view}
use Rattle.steal_pool.specs.declared.piece.Piece.{Piece}
use Rattle.steal_pool.specs.declared.rules.Dealing.{Dealing}
use Rattle.steal_pool.specs.Deques.{Log}
use Rattle.steal_pool.specs.Steps.{Mine}

-- the worker's deque is first in, first out, has room for 4,096 pieces, and so many were put on it; the seat has no
-- slot
pub record HasRoom (w : Worker Piece Global Log Dealing) (me : Mine) : Type 0 where
  pub fifo : worker_flavor w ≡ 0
  pub room : 4096 ≤ worker_capacity w
  pub count : worker_index w ≡ length (worker_view w).own
  pub slots : me.1 ≡ []

-- the pass carries nothing and put nothing, and each piece that it took was reported by the seat, which has no slot
pub record IsResting (pass : Pass Piece Log Global) (me : Mine) : Type 0 where
  pub hand : pass.me.hand ≡ None
  pub spare : pass.me.spare ≡ None
  pub slots : me.1 ≡ []
  pub own : (view pass).own ≡ []
  pub gone : me.0.gone ≡ length (view pass).got
