-- What the parts of a team's work need and tell. Own.
use Rattle.std.specs.Prelude.{◌≡◌, ℕ, suc, ◌+◌, ◌^◌, ◌<◌, ◌≤◌, List, [], ◌∷◌, length, slice_get, Some}
use Rattle.atomic_table.specs.Seated.{TableId}
use Rattle.line_instance.specs.Line.{Line}
use Rattle.line_rules.specs.Ranges.{IsCycle}
use Rattle.lemma_core.specs.History.{Item, Begins}
use Rattle.book_share.specs.Calls.{IsPassOf}
use Rattle.book_share.specs.Passes.{Base}
use Rattle.station_search.specs.declared.answers.Units.{Units}
use Rattle.steal_pool.specs.Hands.{DequeId, IsHandOf}
use Rattle.line_rules.specs.Balance.{all_tasks}
use Rattle.line_rules.specs.Bounds.{bound}
use Rattle.round_helpers.specs.Jobs.{AreJobs}
use Rattle.round_helpers.specs.inner.Seats.{IsBare, HasAdded}
use Rattle.round_helpers.specs.declared.helping.Helped.{Helped}
use Rattle.round_helpers.specs.declared.helping.Helped.TheVariants as helped
use Rattle.round_helpers.specs.declared.job_list.Job.{Job}
use Rattle.round_helpers.specs.declared.question_work.End.{End}
use Rattle.round_helpers.specs.declared.question_work.End.TheVariants as ends
use Rattle.round_helpers.specs.declared.question_work.Question.{Question}
use Rattle.round_helpers.specs.declared.teams.Helper.{Helper}

-- The helper at a place may work: its pass is bare and about the question's line, the jobs are those of the question,
-- which the bound leaves open, and its hand is of the pool.
pub record MayWork (share : TableId) (line : Line) (question : Question) (jobs : List Job) (pool : List DequeId)
    (place : ℕ) (h : Helper) : Type 0 where
  pub bare : IsBare share h.pass.view.base h.pass.view.seen 1 h.pass
  pub about : h.pass.view.base.about ≡ record { line = line; kind = question.kind; cycle = question.cycle }
  pub cycle : IsCycle question.cycle
  pub some : 1 ≤ question.most
  pub most : question.most ≤ 1024
  pub are : AreJobs question.kind line question.cycle question.most jobs
  pub few : place < 64
  pub bounded : bound question.kind line question.cycle (all_tasks line) ≤ question.most
  pub own_hand : IsHandOf pool h.hand
  pub used : h.units.used ≡ 0

-- each helper may work
abbrev pub MayAllWork : TableId → Line → Question → List Job → List DequeId → List Helper → Type 0
MayAllWork share line question jobs pool hs =
    (k : ℕ) (h : Helper) → slice_get hs k ≡ Some h → MayWork share line question jobs pool k h

-- each helper's pass is of the share
abbrev pub ArePassesOf : TableId → List Helper → Type 0
ArePassesOf share hs = (k : ℕ) (h : Helper) → slice_get hs k ≡ Some h → IsPassOf share h.pass

-- passes of helpers that may be joined: each has one part, has seen no less than all had, and its own events paid for
-- its units
pub record IsJoinable (base : Base) (seen : List Item) (line : Line) (X : ℕ) (h : Helper) : Type 0 where
  pub part : h.pass.view.parts ≡ 1
  pub begins : Begins seen h.pass.view.seen
  pub added : HasAdded line X h.pass.view h.units.used

abbrev pub AreJoinable : Base → List Item → Line → ℕ → List Helper → Type 0
AreJoinable base seen line X hs = (k : ℕ) (h : Helper) → slice_get hs k ≡ Some h → IsJoinable base seen line X h

-- what a helper left and used, counted with what was used before
abbrev pub settled_one : Units → Helper → Units
settled_one u h = record { left = h.units.left; used = u.used + h.units.used }

abbrev pub settled : List Units → List Helper → List Units
settled [] hs = []
settled (u ∷ us) [] = u ∷ us
settled (u ∷ us) (h ∷ hs) = settled_one u h ∷ settled us hs

-- the sums are numbers of 64 bits
abbrev pub AreSettled : List Units → List Helper → Type 0
AreSettled us hs = (k : ℕ) (u : Units) (h : Helper) → slice_get us k ≡ Some u → slice_get hs k ≡ Some h
    → u.used + h.units.used < 2 ^ 64

-- none of the first so many helpers ended so
abbrev pub NoneEnded : End → ℕ → List Helper → Type 0
NoneEnded end n hs = (k : ℕ) (h : Helper) → k < n → slice_get hs k ≡ Some h → h.end ≡ end → ⊥

-- What the ends of helpers tell: one knows that the question is answered; or else the first one that has no unit left,
-- counted from 1; or else memory ended.
abbrev pub IsTold : List Helper → Helped → Type 0
IsTold hs helped.Unneeded = ⊥
IsTold hs helped.Whole = (k : ℕ) × (h : Helper) × (slice_get hs k ≡ Some h) × (h.end ≡ ends.Answered)
IsTold hs (helped.Cut n) =
    (k : ℕ) × (h : Helper) × (n ≡ suc k) × (slice_get hs k ≡ Some h) × (h.end ≡ ends.Spent)
    × NoneEnded ends.Spent k hs × NoneEnded ends.Answered (length hs) hs
IsTold hs helped.NoMemory = NoneEnded ends.Spent (length hs) hs × NoneEnded ends.Answered (length hs) hs
