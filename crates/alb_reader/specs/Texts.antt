-- How a fault is printed.
use Rattle.std.specs.Prelude.{ℕ, ◌+◌, List, ◌++◌, codes, decimal}
use Rattle.in2_reader.specs.Texts.{ring_text}
use Rattle.alb_reader.specs.declared.fault.AlbFault.{AlbFault}
use Rattle.alb_reader.specs.declared.fault.AlbKind.{AlbKind}
use Rattle.alb_reader.specs.declared.fault.AlbKind.TheVariants.{NotANumber, Range, Stray, UnknownHeading}
use Rattle.alb_reader.specs.declared.fault.AlbKind.TheVariants.{RepeatedHeading, MissingEnd, MissingSection, BadTask}
use Rattle.alb_reader.specs.declared.fault.AlbKind.TheVariants.{RepeatedTask, MissingTask, BadArc, TooManyArcs, Cycle}

-- what is wrong, in words; a missing task with its number, from 1, and a cycle with its tasks
abbrev pub kind_text : AlbKind → List ℕ
kind_text NotANumber = codes "not a number"
kind_text Range = codes "range"
kind_text Stray = codes "stray"
kind_text UnknownHeading = codes "unknown heading"
kind_text RepeatedHeading = codes "repeated heading"
kind_text MissingEnd = codes "missing end"
kind_text MissingSection = codes "missing section"
kind_text BadTask = codes "bad task"
kind_text RepeatedTask = codes "repeated task"
kind_text (MissingTask i) = codes "missing task " ++ decimal (i + 1)
kind_text BadArc = codes "bad arc"
kind_text TooManyArcs = codes "too many arcs"
kind_text (Cycle ring) = codes "cycle" ++ ring_text ring

-- the line of a fault, and what is wrong with it
abbrev pub fault_text : AlbFault → List ℕ
fault_text f = codes "line " ++ decimal f.line ++ codes " " ++ kind_text f.kind
