use Rattle.std.proofs.Common.{◌≡◌, ℕ, List, [], ◌++◌}
use Rattle.std.specs.Fmt.{HasWritten, IsPlainFormatter}
use Rattle.line_instance.specs.Truths.{members_of}
use Rattle.line_instance.specs.Text.{list_text}
use denote.Shadow.{shadow}
use denote.Text.{Utf8}
use Rattle.line_instance.proofs.iter.TaskSetDisplay.fmt.Given as goal

-- what is written so far, before the text of what is left, is the whole text
abbrev pub invariant-loop-i : goal.invariant-loop-i
invariant-loop-i g l =
    (goal.iterator-loop-i g).can_next l.i-iterator
    × (goal.iterator-loop-i g).is_finite l.i-iterator
    × shadow (Utf8 l.mark)
    × (IsPlainFormatter l.initial.f → (done : List ℕ) × HasWritten g.W.Write.write_str_gives l.initial.f done l.f
    × (done ++ list_text l.mark l.i-iterator ≡ list_text [] (members_of l.self)))
