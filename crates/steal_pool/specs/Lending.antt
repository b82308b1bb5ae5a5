-- What a pool's hands are once those who had them lent give them back.
use Rattle.std.specs.Borrow.{Lends, MutBor, Fml, Array}
use Rattle.std.specs.Prelude.{List, ◌++◌, length, take, drop}
use Rattle.steal_pool.specs.Hands.{HandView}
use Rattle.steal_pool.specs.contracts.hand.Hand as hand
use Rattle.steal_pool.specs.contracts.hand.Hands as hands

-- the hands as they were left, which are as many as before
abbrev pub LendsHands : MutBor (List HandView) → MutBor (List HandView) → Fml
LendsHands s r = Lends hands.the_row (Array hand.the_row 0) s r (λ w. take (length s.now) (w ++ drop (length w) s.now))
