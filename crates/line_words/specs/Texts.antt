-- The printed text of a fault.
use Rattle.std.specs.Prelude.{ℕ, List, ◌++◌, codes, decimal}
use Rattle.line_words.specs.declared.fault.UsageKind.{UsageKind}
use Rattle.line_words.specs.declared.fault.UsageKind.TheVariants.{NoCommand, UnknownCommand, UnknownKey, RepeatedKey}
use Rattle.line_words.specs.declared.fault.UsageKind.TheVariants.{BadValue, ExtraName, MissingName, MissingKey}

-- what is wrong, in words
abbrev pub kind_text : UsageKind → List ℕ
kind_text NoCommand = codes "no command"
kind_text UnknownCommand = codes "unknown command"
kind_text UnknownKey = codes "unknown key"
kind_text RepeatedKey = codes "repeated key"
kind_text BadValue = codes "bad value"
kind_text ExtraName = codes "extra name"
kind_text MissingName = codes "missing name"
kind_text MissingKey = codes "missing key"

-- the line that tells a fault: the number of its word, and what is wrong
abbrev pub usage_text : ℕ → UsageKind → List ℕ
usage_text index kind = codes "usage: word " ++ decimal index ++ codes " " ++ kind_text kind ++ codes "\n"
