-- The canonical ALB text of an instance.
use Rattle.std.specs.Prelude.{◌≡◌, ◌↔◌, ℕ, ◌+◌, ◌<◌, ◌≤◌, List, [], ◌++◌, codes, decimal, Option, Some, None}
use Rattle.std.specs.List.{flat_map, range_with_len}
use Rattle.line_instance.specs.declared.arcs.Prec.{Prec}
use Rattle.line_instance.specs.Line.{Line, IsLine, IsRanked, Before, tasks, time}
use Rattle.in2_reader.specs.Written.{AreCovers, pair_line}
use Rattle.alb_reader.specs.Instance.{IsAlbRead}
use Rattle.alb_reader.specs.declared.instance.AlbRead.{AlbRead}
use Rattle.alb_reader.specs.declared.instance.AlbRead.TheVariants.{Good, Fault, NoMemory}

-- the section of the number of tasks
abbrev pub tasks_section : ℕ → List ℕ
tasks_section n = codes "<number of tasks>\n" ++ decimal n ++ codes "\n\n"

-- the section of the cycle time, where there is one
abbrev pub cycle_section : Option ℕ → List ℕ
cycle_section None = []
cycle_section (Some c) = codes "<cycle time>\n" ++ decimal c ++ codes "\n\n"

-- the line of a task, counted from 1, and its time
abbrev pub timed_line : Line → ℕ → List ℕ
timed_line line i = decimal (i + 1) ++ codes " " ++ decimal (time line i) ++ codes "\n"

-- the section of the task times
abbrev pub times_section : Line → List ℕ
times_section line = codes "<task times>\n" ++ flat_map (timed_line line) (range_with_len 0 (tasks line)) ++ codes "\n"

-- the section of the pairs
abbrev pub pairs_section : List Prec → List ℕ
pairs_section ps = codes "<precedence relations>\n" ++ flat_map pair_line ps ++ codes "\n"

-- the sections in their order, each followed by an empty line, and the end mark; the tasks and the pairs ascend
abbrev pub alb_text : Line → List Prec → Option ℕ → List ℕ
alb_text line ps cycle = tasks_section (tasks line) ++ cycle_section cycle ++ times_section line ++ pairs_section ps
    ++ codes "<end>\n"

-- the canonical text of a line has its times, its covering pairs, and the cycle time where there is one
pub record IsAlbText (line : Line) (cycle : Option ℕ) (bytes : List ℕ) : Type 0 where
  pub ps : List Prec
  pub covers : AreCovers line ps
  pub text : bytes ≡ alb_text line ps cycle

-- the answer is an instance of the line's times, in which the same tasks are before others, with the same cycle time;
-- or memory is wanting
abbrev pub IsReadBack : Line → Option ℕ → AlbRead → Type 0
IsReadBack line cycle (Good l c) = (l.times ≡ line.times) × ((i j : ℕ) → j < tasks line → Before l i j
    ↔ Before line i j) × (c ≡ cycle)
IsReadBack line cycle (Fault f) = ⊥
IsReadBack line cycle NoMemory = Unit {0}

-- a cycle time that is given is 1 to 10^18
abbrev pub IsGivenCycle : Option ℕ → Type 0
IsGivenCycle None = Unit {0}
IsGivenCycle (Some c) = (1 ≤ c) × (c ≤ 1000000000000000000)

-- Whatever reading the canonical text of a line answers is that line again, with its cycle time.
abbrev pub EveryWrittenTextIsRead : Type 0
EveryWrittenTextIsRead =
    (line : Line) (cycle : Option ℕ) (bytes : List ℕ) (answer : AlbRead) → IsLine line → IsRanked line
    → IsGivenCycle cycle → IsAlbText line cycle bytes → IsAlbRead bytes answer → IsReadBack line cycle answer
