-- How a fault is printed.
use Rattle.std.specs.Prelude.{ℕ, ◌+◌, List, ◌++◌, codes, decimal}
use Rattle.std.specs.List.{flat_map}
use Rattle.in2_reader.specs.declared.fault.In2Fault.{In2Fault}
use Rattle.in2_reader.specs.declared.fault.In2Kind.{In2Kind}
use Rattle.in2_reader.specs.declared.fault.In2Kind.TheVariants.{NotANumber, Range, MissingTimes, MissingEnd, BadArc}
use Rattle.in2_reader.specs.declared.fault.In2Kind.TheVariants.{TooManyArcs, Cycle}

-- a task, counted from 1, behind a blank
abbrev pub task_text : ℕ → List ℕ
task_text t = codes " " ++ decimal (t + 1)

-- the tasks of a ring
abbrev pub ring_text : List ℕ → List ℕ
ring_text ring = flat_map task_text ring

-- what is wrong, in words; a cycle with its tasks
abbrev pub kind_text : In2Kind → List ℕ
kind_text NotANumber = codes "not a number"
kind_text Range = codes "range"
kind_text MissingTimes = codes "missing times"
kind_text MissingEnd = codes "missing end"
kind_text BadArc = codes "bad arc"
kind_text TooManyArcs = codes "too many arcs"
kind_text (Cycle ring) = codes "cycle" ++ ring_text ring

-- the line of a fault, and what is wrong with it
abbrev pub fault_text : In2Fault → List ℕ
fault_text f = codes "line " ++ decimal f.line ++ codes " " ++ kind_text f.kind
