use Rattle.steal_pool.proofs.DequeSteps as dealing
use Rattle.steal_pool.proofs.TallySteps as tallying
use Rattle.steal_pool.proofs.deque.open.Goals as goal

pub fifo_as-requires : goal.fifo_as-requires
fifo_as-requires c = dealing.begins

pub of_words-requires : goal.of_words-requires
of_words-requires c = tallying.begins
