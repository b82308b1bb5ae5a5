-- The canonical text of an instance.
use Rattle.std.specs.Prelude.{◌≡◌, ◌⊎◌, ◌↔◌, ℕ, ◌+◌, ◌<◌, List, ◌++◌, length, codes, decimal}
use Rattle.std.specs.List.{flat_map}
use Rattle.line_instance.specs.declared.arcs.Prec.{Prec}
use Rattle.line_instance.specs.Line.{Line, IsLine, IsRanked, tasks, Before, Covers}
use Rattle.line_instance.specs.Walks.{Leads, Walk, arc_at}
use Rattle.in2_reader.specs.Grammar.{In2, IsIn2}
use Rattle.in2_reader.specs.Instance.{IsIn2Read}
use Rattle.in2_reader.specs.declared.instance.In2Read.{In2Read}
use Rattle.in2_reader.specs.declared.instance.In2Read.TheVariants.{Good, Fault, NoMemory}

-- the pair a stands before the pair b: its first task is less, or is the same with a lesser second one
abbrev pub StandsBefore : Prec → Prec → Type 0
StandsBefore a b = (a.first < b.first) ⊎ ((a.first ≡ b.first) × (a.«then» < b.«then»))

-- the covering pairs of a line, ascending, so each once
pub record AreCovers (line : Line) (ps : List Prec) : Type 0 where
  pub rises : (k : ℕ) → k + 1 < length ps → StandsBefore (arc_at ps k) (arc_at ps (k + 1))
  pub right : (k : ℕ) → k < length ps → Covers line (arc_at ps k).first (arc_at ps k).«then»
  pub all : (i j : ℕ) → Covers line i j → Leads ps i j

-- the line of a number, and the line of a pair, its tasks counted from 1
abbrev pub number_line : ℕ → List ℕ
number_line n = decimal n ++ codes "\n"

abbrev pub pair_line : Prec → List ℕ
pair_line a = decimal (a.first + 1) ++ codes "," ++ decimal (a.«then» + 1) ++ codes "\n"

-- the number of tasks, the times, the pairs and the end mark, a line for each
abbrev pub in2_text : List ℕ → List Prec → List ℕ
in2_text times ps = number_line (length times) ++ flat_map number_line times ++ flat_map pair_line ps ++ codes "-1,-1\n"

-- the canonical text of a line has its times and its covering pairs
pub record IsIn2Text (line : Line) (bytes : List ℕ) : Type 0 where
  pub ps : List Prec
  pub covers : AreCovers line ps
  pub text : bytes ≡ in2_text line.times ps

-- the text says the line's times, and arcs that lead from one task to another exactly where the one is before the other
pub record IsReread (line : Line) (bytes : List ℕ) : Type 0 where
  pub x : In2
  pub reads : IsIn2 bytes x
  pub times : x.times ≡ line.times
  pub walks : (i j : ℕ) → Before line i j ↔ Walk x.arcs i j

-- the answer is an instance of the line's times, in which the same tasks are before others, or memory is wanting
abbrev pub IsReadBack : Line → In2Read → Type 0
IsReadBack line (Good l) = (l.times ≡ line.times) × ((i j : ℕ) → j < tasks line → Before l i j ↔ Before line i j)
IsReadBack line (Fault f) = ⊥
IsReadBack line NoMemory = Unit {0}

-- The canonical text of each line says its times and what is before what; so whatever reading it answers is that line
-- again.
pub record EveryWrittenTextIsRead : Type 0 where
  pub says : (line : Line) (bytes : List ℕ) → IsLine line → IsRanked line → IsIn2Text line bytes → IsReread line bytes
  pub again : (line : Line) (bytes : List ℕ) (answer : In2Read) → IsLine line → IsRanked line → IsIn2Text line bytes
      → IsIn2Read bytes answer → IsReadBack line answer

-- of the covering pairs, those that stand before the pair of i and j
pub record AreCoversTo (line : Line) (ps : List Prec) (i j : ℕ) : Type 0 where
  pub rises : (k : ℕ) → k + 1 < length ps → StandsBefore (arc_at ps k) (arc_at ps (k + 1))
  pub right : (k : ℕ) → k < length ps → Covers line (arc_at ps k).first (arc_at ps k).«then»
  pub low : (k : ℕ) → k < length ps → StandsBefore (arc_at ps k) (record { first = i; «then» = j })
  pub all : (a b : ℕ) → Covers line a b → StandsBefore (record { first = a; «then» = b })
      (record { first = i; «then» = j }) → Leads ps a b
