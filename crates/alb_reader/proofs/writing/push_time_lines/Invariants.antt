use Rattle.std.proofs.Common.{◌≡◌, ◌++◌, string_bytes, take}
use Rattle.std.specs.List.{flat_map, range_with_len}
use Rattle.line_instance.specs.Line.{tasks}
use Rattle.alb_reader.specs.Written.{timed_line}
use Rattle.alb_reader.proofs.writing.push_time_lines.Given as goal

abbrev pub invariant-loop-i : goal.invariant-loop-i
invariant-loop-i l = string_bytes l.text ≡ string_bytes l.initial.text
    ++ flat_map (timed_line l.inst) (take l.i (range_with_len 0 (tasks l.inst)))
