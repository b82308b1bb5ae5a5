-- The pieces of a question, which are dealt to the helpers: one for each job. Own.
use Rattle.std.specs.Prelude.{ℕ, ◌-◌, List}
use Rattle.steal_pool.specs.declared.piece.Piece.{Piece}
use Rattle.steal_pool.specs.Hands.{each_from}
use Rattle.round_helpers.specs.declared.job_list.Job.{Job}

-- job k as piece k: its rest, for one station less than the question of `most` stations has
abbrev pub piece_of : ℕ → ℕ → Job → Piece
piece_of most k job = record { number = k; depth = 0; most = most - 1; set = job.set }

-- the pieces that are dealt
abbrev pub pieces_of : ℕ → List Job → List Piece
pieces_of most jobs = each_from (piece_of most) 0 jobs
