-- The kind of line that the words of a command name.
use Rattle.line_rules.specs.declared.types.LineKind.{LineKind}
use Rattle.line_rules.specs.declared.types.LineKind.TheVariants as kind
use Rattle.line_words.specs.declared.job.LineWord.{LineWord}
use Rattle.line_words.specs.declared.job.LineWord.TheVariants.{Straight, U}

-- the kind of line of each value of the key `line`
abbrev pub kind_of : LineWord → LineKind
kind_of Straight = kind.Straight
kind_of U = kind.U
