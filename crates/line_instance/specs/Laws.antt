-- Laws of instances, for all times, arcs and lines.
use Rattle.std.specs.Prelude.{◌≡◌, ℕ, ◌<◌, ◌↔◌, Bool, List, [], slice_index_or}
use Rattle.line_instance.specs.Truths.{In}
use Rattle.line_instance.specs.Line.{Line, IsLine, IsRanked, IsTaskSet, Before, tasks, at_rank}
use Rattle.line_instance.specs.Walks.{IsRing}
use Rattle.line_instance.specs.Ranks.{AreRanks}
use Rattle.line_instance.specs.Partners.{AreKept}
use Rattle.line_instance.specs.Made.{IsInstanceOf, IsMade}
use Rattle.line_instance.specs.declared.arcs.Prec.{Prec}
use Rattle.line_instance.specs.declared.making.Made.{Made}
use Rattle.line_instance.specs.declared.making.Made.TheVariants.{Cycle, NoMemory}

-- s is the set of the tasks after i
pub record AreAfter (line : Line) (i : ℕ) (s : List Bool) : Type 0 where
  pub set : IsTaskSet line s
  pub members : (j : ℕ) → In s j ↔ Before line i j

-- there is one set of the tasks after i, and j is in it exactly where the row of the tasks before j has i
pub record AfterIsTheConverse : Type 0 where
  pub one : (line : Line) (i : ℕ) (a b : List Bool) → AreAfter line i a → AreAfter line i b → a ≡ b
  pub converse : (line : Line) (i j : ℕ) (s : List Bool)
      → AreAfter line i s → In s j ↔ In (slice_index_or line.before j []) i

-- k is the rank of task i
pub record IsRankOf (line : Line) (i k : ℕ) : Type 0 where
  pub rank : k < tasks line
  pub task : at_rank line k ≡ i

-- where `rank` gives the rank of each task, it gives each rank back from its task
abbrev pub RanksAreInverse : Type 0
RanksAreInverse =
    (line : Line) → IsRanked line → (rank : ℕ → ℕ) → ((i : ℕ) → i < tasks line → IsRankOf line i (rank i))
    → (k : ℕ) → k < tasks line → rank (at_rank line k) ≡ k

-- the ranks go over the tasks, each task once, and what is before a task has a lower rank
abbrev pub RanksArePermutation : Type 0
RanksArePermutation = (line : Line) → IsLine line → AreRanks line → IsRanked line

-- times and arcs have one instance
abbrev pub InstanceIsOne : Type 0
InstanceIsOne = (times : List ℕ) (arcs : List Prec) (a b : Line) → IsInstanceOf times arcs a → IsInstanceOf times arcs b
    → a ≡ b

-- the arcs of an instance have no ring
abbrev pub NoRing : Type 0
NoRing = (times : List ℕ) (arcs : List Prec) (line : Line) (ring : List ℕ) → IsInstanceOf times arcs line
    → IsRing arcs ring → ⊥

-- two answers of making an instance agree: they are the same, up to the ring that is shown, or memory was wanting
abbrev pub Agree : Made → Made → Type 0
Agree NoMemory b = Unit {0}
Agree a NoMemory = Unit {0}
Agree (Cycle ring) (Cycle other) = Unit {0}
Agree a b = a ≡ b

-- times and arcs have one answer
abbrev pub AnswerIsOne : Type 0
AnswerIsOne = (times : List ℕ) (arcs : List Prec) (a b : Made) → IsMade times arcs a → IsMade times arcs b → Agree a b

-- a task has one list of kept partners
abbrev pub KeptIsOne : Type 0
KeptIsOne = (line : Line) (i : ℕ) (a b : List ℕ) → AreKept line i a → AreKept line i b → a ≡ b
