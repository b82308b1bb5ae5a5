use Rattle.std.proofs.Common.{◌∙◌, ◌+◌, ◌++◌, arith, codes, decimal, string_bytes, ap, sym}
use Rattle.std.specs.List.{flat_map, range_with_len}
use Rattle.std.proofs.lemmas.List.{take_all}
use Rattle.std.proofs.lemmas.List.FromFn.{get_or-range_with_len, length-range_with_len}
use Rattle.line_instance.specs.Line.{tasks}
use Rattle.line_io.proofs.PrintedItems.{next_written}
use Rattle.alb_reader.specs.Written.{timed_line}
use Rattle.alb_reader.proofs.writing.push_time_lines.Goals as goal

pub loop-i-preserved : goal.loop-i-preserved
loop-i-preserved c =
    let n = tasks c.args.inst.now in
    next_written (timed_line c.args.inst.now) (range_with_len 0 n) c.loop-i.i 0 (string_bytes c.args.text.now)
    (string_bytes c.loop-i.text) (string_bytes c.push_time.new.text) _
    (omega (arith, length-range_with_len 0 n, c.tasks-i-end.ensures.tasks))
    (ap (timed_line c.args.inst.now) (get_or-range_with_len 0 n c.loop-i.i 0
    (omega (arith, c.tasks-i-end.ensures.tasks)) ∙ omega arith)
    ∙ ap (λ t. decimal (c.loop-i.i + 1) ++ codes " " ++ decimal t ++ codes "\n") (sym c.time.ensures.time))
    c.loop-i.invariant (c.in_ok-push_time.ensures ∙ ap (λ k. string_bytes c.loop-i.text
    ++ (decimal (k + 1) ++ codes " " ++ decimal c.time.result ++ codes "\n")) c.from.ensures)

pub returns : goal.returns
returns c =
    c.loop-i.invariant
    ∙ ap (λ t. string_bytes c.args.text.now ++ flat_map (timed_line c.args.inst.now) t)
    (take_all c.loop-i.i (range_with_len 0 (tasks c.args.inst.now))
    (omega (arith, length-range_with_len 0 (tasks c.args.inst.now), c.tasks-i-end.ensures.tasks)))
