use Rattle.std.proofs.Common.{arith}
use Rattle.std.proofs.lemmas.Str.Pattern.{split_parts}
use Rattle.line_words.proofs.Splits.{split_from}
use Rattle.line_words.proofs.word.equals_split.Goals as goal

pub returns : goal.returns
returns c = split_from c.args.word.now c.split_once.result (split_parts 61 c.args.word.now c.split_once.result
    c.split_once.ensures.cases (omega arith))
