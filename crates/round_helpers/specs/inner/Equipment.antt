-- What a team is equipped with. Own.
use Rattle.std.specs.Prelude.{◌≡◌, ℕ, ◌≤◌, List, [], length, vec_capacity}
use Rattle.steal_pool.specs.Hands.{new_hands, AreHandsOf}
use Rattle.round_helpers.specs.inner.Pieces.{pieces_of}
use Rattle.round_helpers.specs.declared.equipment.Equipment.{Equipment}
use Rattle.round_helpers.specs.declared.job_list.Job.{Job}

-- A new pool with the pieces of the jobs, its hands, and room for so many helpers.
pub record IsEquipped (jobs : List Job) (most count : ℕ) (e : Equipment) : Type 0 where
  pub count_is : length e.pool ≡ count
  pub hands : e.hands ≡ new_hands e.pool (pieces_of most jobs)
  pub are : AreHandsOf e.pool e.hands
  pub none : e.helpers.items ≡ []
  pub room : count ≤ vec_capacity e.helpers
