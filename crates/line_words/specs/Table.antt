-- The table of the commands: their names, their keys, and the values that a key takes.
use Rattle.std.specs.Prelude.{ℕ, Bool, true, false, ◌&&◌, ◌||◌, cond, nat_eq, nat_le, List, [], ◌∷◌, Option, Some, None}
use Rattle.std.specs.Prelude.{codes}
use Rattle.std.specs.Str.{bytes_eq}
use Rattle.line_io.specs.Lines.{number_in}
use Rattle.line_io.specs.declared.text.Num.{Num}
use Rattle.line_io.specs.declared.text.Num.TheVariants.{Value, NotANumber, Above}
use Rattle.line_words.specs.Words.{Text, sets}
use Rattle.line_words.specs.declared.command.Command.{Command}
use Rattle.line_words.specs.declared.command.Command.TheVariants.{Balance, Solve, Cycle, Check, Convert, Combine}
use Rattle.line_words.specs.declared.command.Command.TheVariants.{Utility, Timeline, TimelineDraw, Try, Draw, Plan}
use Rattle.line_words.specs.declared.command.Command.TheVariants.{Effic}
use Rattle.line_words.specs.declared.command.Command.TheVariants.{EfficCheck}
use Rattle.line_words.specs.declared.command.Command.TheVariants.{Sequence, SequenceCheck}

-- the command for a mix of models that a word names
abbrev pub mix_command_named : Text → Option Command
mix_command_named word =
    cond (bytes_eq word (codes "combine")) (Some Combine)
    (cond (bytes_eq word (codes "utility")) (Some Utility)
    (cond (bytes_eq word (codes "timeline")) (Some Timeline)
    (cond (bytes_eq word (codes "timeline-draw")) (Some TimelineDraw) None)))

-- the command for a certificate that a word names, or one for a mix
abbrev pub proof_command_named : Text → Option Command
proof_command_named word =
    cond (bytes_eq word (codes "check")) (Some Check)
    (cond (bytes_eq word (codes "effic-check")) (Some EfficCheck)
    (cond (bytes_eq word (codes "sequence-check")) (Some SequenceCheck)
    (cond (bytes_eq word (codes "draw")) (Some Draw)
    (cond (bytes_eq word (codes "plan")) (Some Plan) (mix_command_named word)))))

-- the command that a word names
abbrev pub command_named : Text → Option Command
command_named word =
    cond (bytes_eq word (codes "balance")) (Some Balance)
    (cond (bytes_eq word (codes "solve")) (Some Solve)
    (cond (bytes_eq word (codes "cycle")) (Some Cycle)
    (cond (bytes_eq word (codes "effic")) (Some Effic)
    (cond (bytes_eq word (codes "sequence")) (Some Sequence)
    (cond (bytes_eq word (codes "convert")) (Some Convert)
    (cond (bytes_eq word (codes "try")) (Some Try) (proof_command_named word)))))))

-- how many names a command wants
abbrev pub names_wanted : Command → ℕ
names_wanted Balance = 1
names_wanted Solve = 1
names_wanted Cycle = 1
names_wanted Check = 2
names_wanted Convert = 2
names_wanted Combine = 2
names_wanted Utility = 3
names_wanted Timeline = 3
names_wanted TimelineDraw = 4
names_wanted Try = 0
names_wanted Draw = 3
names_wanted Plan = 2
names_wanted Effic = 1
names_wanted EfficCheck = 2
names_wanted Sequence = 2
names_wanted SequenceCheck = 3

-- a key is one of these
abbrev pub one_of : Text → List Text → Bool
one_of key [] = false
one_of key (k ∷ keys) = bytes_eq key k || one_of key keys

-- the keys that a command wants
abbrev pub keys_wanted : Command → List Text
keys_wanted Balance = []
keys_wanted Solve = []
keys_wanted Cycle = codes "stations" ∷ []
keys_wanted Check = []
keys_wanted Convert = codes "to" ∷ []
keys_wanted Combine = []
keys_wanted Utility = codes "interval" ∷ codes "length" ∷ []
keys_wanted Timeline = codes "interval" ∷ codes "length" ∷ []
keys_wanted TimelineDraw = codes "interval" ∷ codes "length" ∷ []
keys_wanted Try = codes "seed" ∷ codes "tasks" ∷ []
keys_wanted Draw = []
keys_wanted Plan = []
keys_wanted Effic = codes "least" ∷ codes "most" ∷ []
keys_wanted EfficCheck = []
keys_wanted Sequence = codes "interval" ∷ codes "length" ∷ []
keys_wanted SequenceCheck = codes "interval" ∷ codes "length" ∷ []

-- the keys that a command takes
abbrev pub keys_taken : Command → List Text
keys_taken Balance = codes "cycle" ∷ codes "line" ∷ codes "apart" ∷ []
keys_taken Solve =
    codes "cycle" ∷ codes "line" ∷ codes "helpers" ∷ codes "units" ∷ codes "cert" ∷ codes "apart" ∷ codes "warm" ∷ codes
    "seek" ∷ codes "bound" ∷ []
keys_taken Cycle =
    codes "stations" ∷ codes "line" ∷ codes "helpers" ∷ codes "units" ∷ codes "cert" ∷ codes "seek" ∷ codes
    "bound" ∷ []
keys_taken Check = codes "steps" ∷ codes "apart" ∷ []
keys_taken Convert = codes "to" ∷ codes "cycle" ∷ codes "apart" ∷ []
keys_taken Combine = []
keys_taken Utility = codes "interval" ∷ codes "length" ∷ []
keys_taken Timeline = codes "interval" ∷ codes "length" ∷ []
keys_taken TimelineDraw = codes "interval" ∷ codes "length" ∷ []
keys_taken Try = codes "seed" ∷ codes "tasks" ∷ codes "cycle" ∷ codes "line" ∷ codes "units" ∷ []
keys_taken Draw = codes "apart" ∷ []
keys_taken Plan = codes "apart" ∷ []
keys_taken Effic =
    codes "least" ∷ codes "most" ∷ codes "line" ∷ codes "helpers" ∷ codes "units" ∷ codes "cert" ∷ codes
    "seek" ∷ codes "bound" ∷ []
keys_taken EfficCheck = codes "steps" ∷ []
keys_taken Sequence = codes "interval" ∷ codes "length" ∷ codes "units" ∷ codes "out" ∷ codes "seek" ∷ []
keys_taken SequenceCheck = codes "interval" ∷ codes "length" ∷ codes "steps" ∷ []

-- a command takes a key
abbrev pub takes : Command → Text → Bool
takes command key = one_of key (keys_taken command)

-- the words set each of these keys
abbrev pub sets_all : List Text → List Text → Bool
sets_all words [] = true
sets_all words (key ∷ keys) = sets words key && sets_all words keys

-- the most work units that a command takes
abbrev pub units_most : Command → ℕ
units_most Balance = 3000000
units_most Solve = 3000000
units_most Cycle = 1000000
units_most Check = 3000000
units_most Convert = 3000000
units_most Combine = 3000000
units_most Utility = 3000000
units_most Timeline = 3000000
units_most TimelineDraw = 3000000
units_most Try = 3000000
units_most Draw = 3000000
units_most Plan = 3000000
units_most Effic = 1000000
units_most EfficCheck = 3000000
units_most Sequence = 1000000
units_most SequenceCheck = 3000000

-- the least number that a key takes
abbrev pub least_of : Text → ℕ
least_of key = cond (bytes_eq key (codes "helpers") || bytes_eq key (codes "seed") || bytes_eq key (codes "seek")) 0 1

-- the greatest number that a key takes of those that count something else than loads and time
abbrev pub most_count_of : Text → ℕ
most_count_of key =
    cond (bytes_eq key (codes "helpers")) 64
    (cond (bytes_eq key (codes "stations") || bytes_eq key (codes "least") || bytes_eq key (codes "most")) 1024
    (cond (bytes_eq key (codes "tasks")) 1024
    18446744073709551615))

-- the greatest number that a key takes
abbrev pub most_of : Command → Text → ℕ
most_of command key =
    cond (bytes_eq key (codes "cycle")) 1000000000000000000
    (cond (bytes_eq key (codes "units")) (units_most command)
    (cond (bytes_eq key (codes "steps")) 20000000
    (cond (bytes_eq key (codes "interval")) 1000000000
    (cond (bytes_eq key (codes "length")) 1000000000
    (cond (bytes_eq key (codes "seek")) 3000000
    (most_count_of key))))))

-- more than one byte, and the first is the digit 0
abbrev pub leads_with_nought : Text → Bool
leads_with_nought [] = false
leads_with_nought (b ∷ []) = false
leads_with_nought (b ∷ c ∷ bytes) = nat_eq b 48

-- the value of a number, where it is one
abbrev pub as_value : Num → Option ℕ
as_value (Value v) = Some v
as_value NotANumber = None
as_value Above = None

-- the number up to a greatest one that a text writes, with no needless 0 in front
abbrev pub number_up_to : ℕ → Text → Option ℕ
number_up_to most text = cond (leads_with_nought text) None (as_value (number_in most text))

-- there is a number, and it is no less than this
abbrev pub is_least : ℕ → Option ℕ → Bool
is_least least None = false
is_least least (Some v) = nat_le least v

-- the text isn't empty
abbrev pub is_some : Text → Bool
is_some [] = false
is_some (b ∷ bytes) = true

-- a key names a file
abbrev pub names_file : Text → Bool
names_file key =
    bytes_eq key (codes "cert") || bytes_eq key (codes "apart") || bytes_eq key (codes "warm")
    || bytes_eq key (codes "out")

-- a key is set to one of a few words
abbrev pub takes_words : Text → Bool
takes_words key = bytes_eq key (codes "line") || bytes_eq key (codes "bound") || bytes_eq key (codes "to")

-- the word is one of those that the key is set to
abbrev pub is_word_of : Text → Text → Bool
is_word_of key word =
    cond (bytes_eq key (codes "line")) (bytes_eq word (codes "straight") || bytes_eq word (codes "u"))
    (cond (bytes_eq key (codes "bound")) (bytes_eq word (codes "plain") || bytes_eq word (codes "pairs"))
    (bytes_eq word (codes "in2") || bytes_eq word (codes "alb") || bytes_eq word (codes "csv")
    || bytes_eq word (codes "cert")))

-- a key of a command takes the value
abbrev pub is_value : Command → Text → Text → Bool
is_value command key value =
    cond (takes_words key) (is_word_of key value)
    (cond (names_file key) (is_some value)
    (is_least (least_of key) (number_up_to (most_of command key) value)))
