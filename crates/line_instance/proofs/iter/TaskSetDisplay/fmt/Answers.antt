use Rattle.std.proofs.Common.{◌≡◌, [], ◌++◌, ap, rules}
use Rattle.std.specs.Prelude.{codes, decimal}
use Rattle.std.specs.Fmt.{HasWritten}
use Rattle.std.proofs.Output.{has_written_append, has_written_of_eq}
use Rattle.line_instance.specs.Truths.{members_of}
use Rattle.line_instance.specs.Text.{list_text}
use Rattle.line_instance.proofs.ListedMembers.{text_step, text_end}
use Rattle.line_instance.proofs.iter.TaskSetDisplay.fmt.Goals as goal

pub loop-i-preserved : goal.loop-i-preserved
loop-i-preserved g c = (
  tt,
  tt,
  search rules,
  λ plain.
      let so_far = c.loop-i.invariant.3 plain in (
        so_far.0 ++ (c.loop-i.mark.now ++ decimal c.in-Some.i),
        has_written_append _ _ _ _ _ _ so_far.1 (search rules),
        text_step so_far.0 c.loop-i.mark.now c.in-Some.i _ _ _ c.in-Some.ensures.steps so_far.2,
      ),
)

pub returns-clause-writes : goal.returns-clause-writes
returns-clause-writes g c = λ plain ok.
    let start : HasWritten g.W.Write.write_str_gives c.args.f.now (codes "{") c.write_str.new.self = search rules in
    let so_far = c.loop-i.invariant.3 start.plain in
    let whole : so_far.0 ≡ list_text [] (members_of c.args.self.now) =
    text_end so_far.0 c.loop-i.mark.now _ _ c.in-None.ensures.steps.0 so_far.2 in
    has_written_of_eq _ _ _ _ _ (ap (λ t. codes "{" ++ t ++ codes "}") whole)
    (has_written_append _ _ _ _ _ _ start (has_written_append _ _ _ _ _ _ so_far.1 (search rules)))
