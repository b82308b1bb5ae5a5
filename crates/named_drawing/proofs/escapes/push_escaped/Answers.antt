use Rattle.std.proofs.Common.{◌++◌, string_bytes}
use Rattle.std.specs.Str.Iter.{chars_rest}
use Rattle.named_drawing.specs.Escapes.{escaped}
use Rattle.named_drawing.proofs.EscapeFacts.{next_char}
use Rattle.named_drawing.proofs.escapes.push_escaped.Goals as goal

pub loop-c-preserved : goal.loop-c-preserved
loop-c-preserved c = next_char (string_bytes c.loop-c.text) (string_bytes c.push_char.new.text)
    (string_bytes c.args.text.now ++ escaped c.args.name.now) (chars_rest c.loop-c.c-iterator)
    (chars_rest c.next.new.self) c.in-Some.c c.loop-c.invariant c.in-Some.ensures.steps.0 c.in_ok-push_char.ensures
