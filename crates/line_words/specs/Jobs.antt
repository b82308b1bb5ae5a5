-- What the words ask for, and the first fault in them.
use Rattle.std.specs.Prelude.{◌≡◌, ◌⊎◌, ℕ, suc, ◌<◌, cond, nat_lt, nat_le, ◌&&◌, Bool, true, List, [], ◌∷◌, length}
use Rattle.std.specs.Prelude.{false, take, slice_index_or, Option, Some, None, codes}
use Rattle.std.specs.Str.{bytes_eq}
use Rattle.line_words.specs.Words.{Text, setting, names_of, value_of, sets}
use Rattle.line_words.specs.Table.{command_named, names_wanted, keys_wanted, takes, sets_all, is_value, is_some}
use Rattle.line_words.specs.Table.{most_of, number_up_to}
use Rattle.line_words.specs.declared.command.Command.{Command}
use Rattle.line_words.specs.declared.command.Command.TheVariants as command
use Rattle.line_words.specs.declared.job.Job.{Job}
use Rattle.line_words.specs.declared.job.Job.TheVariants.{Page, Search, Check, Line, Mix}
use Rattle.line_words.specs.declared.job.PageJob.TheVariants.{Help, Version}
use Rattle.line_words.specs.declared.job.SearchJob.TheVariants.{Solve, Cycle, Effic, Sequence, Try}
use Rattle.line_words.specs.declared.job.CheckJob.TheVariants.{LineCheck, EfficCheck, SequenceCheck}
use Rattle.line_words.specs.declared.job.LineJob.TheVariants.{Balance, Convert, Draw, Plan}
use Rattle.line_words.specs.declared.job.MixJob.TheVariants.{Combine, Utility, Timeline, TimelineDraw}
use Rattle.line_words.specs.declared.job.SolveJob.{SolveJob}
use Rattle.line_words.specs.declared.job.CycleJob.{CycleJob}
use Rattle.line_words.specs.declared.job.EfficJob.{EfficJob}
use Rattle.line_words.specs.declared.job.SequenceJob.{SequenceJob}
use Rattle.line_words.specs.declared.job.TryJob.{TryJob}
use Rattle.line_words.specs.declared.job.LineCheckJob.{LineCheckJob}
use Rattle.line_words.specs.declared.job.EfficCheckJob.{EfficCheckJob}
use Rattle.line_words.specs.declared.job.SequenceCheckJob.{SequenceCheckJob}
use Rattle.line_words.specs.declared.job.BalanceJob.{BalanceJob}
use Rattle.line_words.specs.declared.job.ConvertJob.{ConvertJob}
use Rattle.line_words.specs.declared.job.DrawJob.{DrawJob}
use Rattle.line_words.specs.declared.job.PlanJob.{PlanJob}
use Rattle.line_words.specs.declared.job.CombineJob.{CombineJob}
use Rattle.line_words.specs.declared.job.UtilityJob.{UtilityJob}
use Rattle.line_words.specs.declared.job.TimelineDrawJob.{TimelineDrawJob}
use Rattle.line_words.specs.declared.job.LineWord.{LineWord}
use Rattle.line_words.specs.declared.job.LineWord.TheVariants.{Straight, U}
use Rattle.line_words.specs.declared.job.BoundWord.{BoundWord}
use Rattle.line_words.specs.declared.job.BoundWord.TheVariants.{Plain, Pairs}
use Rattle.line_words.specs.declared.job.FormWord.{FormWord}
use Rattle.line_words.specs.declared.job.FormWord.TheVariants.{In2, Alb, Csv, Cert}
use Rattle.line_words.specs.declared.fault.UsageKind.{UsageKind}
use Rattle.line_words.specs.declared.fault.UsageKind.TheVariants.{NoCommand, UnknownCommand, UnknownKey, RepeatedKey}
use Rattle.line_words.specs.declared.fault.UsageKind.TheVariants.{BadValue, ExtraName, MissingName, MissingKey}
use Rattle.line_words.specs.declared.reading.JobRead.{JobRead}
use Rattle.line_words.specs.declared.reading.JobRead.TheVariants.{Good, Usage, NoMemory}

-- the number that a text writes for a key
abbrev pub number_in_value : Command → Text → Option Text → Option ℕ
number_in_value command key None = None
number_in_value command key (Some value) = number_up_to (most_of command key) value

-- the number that the words set a key to, where they set it
abbrev pub number_set : Command → List Text → Text → Option ℕ
number_set command words key = number_in_value command key (value_of words key)

-- the first of two numbers isn't above the second, where both are there
abbrev pub are_ordered : Option ℕ → Option ℕ → Bool
are_ordered None most = true
are_ordered (Some least) None = true
are_ordered (Some least) (Some most) = nat_le least most

-- the least number of stations isn't above the most, where one of them is set here and the other by the words before
abbrev pub ends_agree : Command → List Text → Text × Text → Bool
ends_agree command before p =
    cond (bytes_eq p.0 (codes "least")) (are_ordered (number_up_to (most_of command p.0) p.1)
    (number_set command before (codes "most")))
    (cond (bytes_eq p.0 (codes "most")) (are_ordered (number_set command before (codes "least"))
    (number_up_to (most_of command p.0) p.1))
    true)

-- what is wrong with a setting, by the words before it: its key is none of the command, or stands before, or its value
-- is wrong, or the least number of stations is above the most
abbrev pub setting_fault : Command → List Text → Text × Text → Option UsageKind
setting_fault command before p =
    cond (takes command p.0)
    (cond (sets before p.0) (Some RepeatedKey) (cond (is_value command p.0 p.1 && ends_agree command before p) None
    (Some BadValue)))
    (Some UnknownKey)

-- what is wrong with a name, by the words before it: it is empty, or one too many
abbrev pub name_fault : Command → List Text → Text → Option UsageKind
name_fault command before word =
    cond (is_some word) (cond (nat_lt (length (names_of before)) (names_wanted command)) None (Some ExtraName))
    (Some ExtraName)

-- what is wrong with a word that is a setting, or a name
abbrev pub fault_by : Command → List Text → Text → Option (Text × Text) → Option UsageKind
fault_by command before word None = name_fault command before word
fault_by command before word (Some p) = setting_fault command before p

-- what is wrong with a word behind others, where something is
abbrev pub word_fault : Command → List Text → Text → Option UsageKind
word_fault command before word = fault_by command before word (setting word)

-- what is wrong with the word at a place
abbrev pub fault_at : Command → List Text → ℕ → Option UsageKind
fault_at command words k = word_fault command (take k words) (slice_index_or words k [])

-- nothing is wrong with any of the words
abbrev pub AreRight : Command → List Text → Type 0
AreRight command words = (k : ℕ) → k < length words → fault_at command words k ≡ None

-- the word at a place is the first one with which something is wrong
pub record IsFirstFault (command : Command) (words : List Text) (k : ℕ) (kind : UsageKind) : Type 0 where
  pub within : k < length words
  pub before : (j : ℕ) → j < k → fault_at command words j ≡ None
  pub wrong : fault_at command words k ≡ Some kind

-- what is missing among the words of a command: a name, or else a key
abbrev pub missing : Command → List Text → Option UsageKind
missing command words =
    cond (nat_lt (length (names_of words)) (names_wanted command)) (Some MissingName)
    (cond (sets_all words (keys_wanted command)) None (Some MissingKey))

-- a number, or the default
abbrev pub or_default : ℕ → Option ℕ → ℕ
or_default d None = d
or_default d (Some n) = n

-- the number that the words set a key to, else the default
abbrev pub number_or : Command → List Text → Text → ℕ → ℕ
number_or command words key d = or_default d (number_set command words key)

-- the kind of line with this name; straight is the default
abbrev pub line_named : Option Text → LineWord
line_named None = Straight
line_named (Some value) = cond (bytes_eq value (codes "u")) U Straight

-- the kind of line that the words set
abbrev pub line_set : List Text → LineWord
line_set words = line_named (value_of words (codes "line"))

-- what a search asks, by this name; pairs are the default
abbrev pub bound_named : Option Text → BoundWord
bound_named None = Pairs
bound_named (Some value) = cond (bytes_eq value (codes "plain")) Plain Pairs

-- what the words have a search ask
abbrev pub bound_set : List Text → BoundWord
bound_set words = bound_named (value_of words (codes "bound"))

-- whether pairs are asked
abbrev pub asks_pairs : BoundWord → Bool
asks_pairs Plain = false
asks_pairs Pairs = true

-- the form with this name
abbrev pub form_named : Option Text → FormWord
form_named None = In2
form_named (Some value) =
    cond (bytes_eq value (codes "alb")) Alb
    (cond (bytes_eq value (codes "csv")) Csv (cond (bytes_eq value (codes "cert")) Cert In2))

-- the form that the words set
abbrev pub form_set : List Text → FormWord
form_set words = form_named (value_of words (codes "to"))

-- the name at a place among the names
abbrev pub name_at : List Text → ℕ → Text
name_at words k = slice_index_or (names_of words) k []

-- the search for a balance of the fewest stations that the words set
abbrev pub solve_job : List Text → SolveJob
solve_job ws = record {
  file = name_at ws 0;
  cycle = number_set command.Solve ws (codes "cycle");
  line = line_set ws;
  helpers = number_or command.Solve ws (codes "helpers") 4;
  units = number_set command.Solve ws (codes "units");
  cert = value_of ws (codes "cert");
  apart = value_of ws (codes "apart");
  warm = value_of ws (codes "warm");
  seek = number_set command.Solve ws (codes "seek");
  bound = bound_set ws;
}

-- the search for the least cycle time that the words set
abbrev pub cycle_job : List Text → CycleJob
cycle_job ws = record {
  file = name_at ws 0;
  stations = number_or command.Cycle ws (codes "stations") 1;
  line = line_set ws;
  helpers = number_or command.Cycle ws (codes "helpers") 4;
  units = number_or command.Cycle ws (codes "units") 1000000;
  cert = value_of ws (codes "cert");
  seek = number_or command.Cycle ws (codes "seek") 0;
  bound = bound_set ws;
}

-- the search for the least product that the words set
abbrev pub effic_job : List Text → EfficJob
effic_job ws = record {
  file = name_at ws 0;
  least = number_or command.Effic ws (codes "least") 1;
  most = number_or command.Effic ws (codes "most") 1024;
  line = line_set ws;
  helpers = number_or command.Effic ws (codes "helpers") 4;
  units = number_or command.Effic ws (codes "units") 1000000;
  cert = value_of ws (codes "cert");
  seek = number_or command.Effic ws (codes "seek") 0;
  bound = bound_set ws;
}

-- the search for a sequence that the words set
abbrev pub sequence_job : List Text → SequenceJob
sequence_job ws = record {
  mix = name_at ws 0;
  cert = name_at ws 1;
  interval = number_or command.Sequence ws (codes "interval") 1;
  length = number_or command.Sequence ws (codes "length") 1;
  units = number_or command.Sequence ws (codes "units") 1000000;
  out = value_of ws (codes "out");
  seek = number_or command.Sequence ws (codes "seek") 0;
}

-- the generated line that the words set
abbrev pub try_job : List Text → TryJob
try_job ws = record {
  seed = number_or command.Try ws (codes "seed") 0;
  tasks = number_or command.Try ws (codes "tasks") 1;
  cycle = number_or command.Try ws (codes "cycle") 200;
  line = line_set ws;
  units = number_or command.Try ws (codes "units") 1000000;
}

-- the test of a certificate that the words set
abbrev pub line_check_job : List Text → LineCheckJob
line_check_job ws = record {
  file = name_at ws 0;
  cert = name_at ws 1;
  steps = number_or command.Check ws (codes "steps") 20000000;
  apart = value_of ws (codes "apart");
}

-- the test of a certificate of a least product that the words set
abbrev pub effic_check_job : List Text → EfficCheckJob
effic_check_job ws = record {
  file = name_at ws 0;
  cert = name_at ws 1;
  steps = number_or command.EfficCheck ws (codes "steps") 20000000;
}

-- the test of a certificate of a sequence that the words set
abbrev pub sequence_check_job : List Text → SequenceCheckJob
sequence_check_job ws = record {
  mix = name_at ws 0;
  cert = name_at ws 1;
  seq = name_at ws 2;
  interval = number_or command.SequenceCheck ws (codes "interval") 1;
  length = number_or command.SequenceCheck ws (codes "length") 1;
  steps = number_or command.SequenceCheck ws (codes "steps") 20000000;
}

-- the ranked balance that the words set
abbrev pub balance_job : List Text → BalanceJob
balance_job ws = record {
  file = name_at ws 0;
  cycle = number_set command.Balance ws (codes "cycle");
  line = line_set ws;
  apart = value_of ws (codes "apart");
}

-- the file in another form that the words set
abbrev pub convert_job : List Text → ConvertJob
convert_job ws = record {
  file = name_at ws 0;
  out = name_at ws 1;
  to = form_set ws;
  cycle = number_set command.Convert ws (codes "cycle");
  apart = value_of ws (codes "apart");
}

-- the picture of a balance that the words set
abbrev pub draw_job : List Text → DrawJob
draw_job ws = record {
  file = name_at ws 0;
  cert = name_at ws 1;
  out = name_at ws 2;
  apart = value_of ws (codes "apart");
}

-- the plan of a balance that the words set
abbrev pub plan_job : List Text → PlanJob
plan_job ws = record { file = name_at ws 0; cert = name_at ws 1; apart = value_of ws (codes "apart") }

-- the combined instance that the words set
abbrev pub combine_job : List Text → CombineJob
combine_job ws = record { mix = name_at ws 0; out = name_at ws 1 }

-- the utility work that the words of this command set
abbrev pub utility_job : Command → List Text → UtilityJob
utility_job command ws = record {
  mix = name_at ws 0;
  cert = name_at ws 1;
  seq = name_at ws 2;
  interval = number_or command ws (codes "interval") 1;
  length = number_or command ws (codes "length") 1;
}

-- the picture of utility work that the words set
abbrev pub timeline_draw_job : List Text → TimelineDrawJob
timeline_draw_job ws = record {
  mix = name_at ws 0;
  cert = name_at ws 1;
  seq = name_at ws 2;
  out = name_at ws 3;
  interval = number_or command.TimelineDraw ws (codes "interval") 1;
  length = number_or command.TimelineDraw ws (codes "length") 1;
}

-- the job of a command with these words, in which nothing is wrong or missing
abbrev pub job_for : Command → List Text → Job
job_for command.Balance ws = Line (Balance (balance_job ws))
job_for command.Solve ws = Search (Solve (solve_job ws))
job_for command.Cycle ws = Search (Cycle (cycle_job ws))
job_for command.Check ws = Check (LineCheck (line_check_job ws))
job_for command.Convert ws = Line (Convert (convert_job ws))
job_for command.Combine ws = Mix (Combine (combine_job ws))
job_for command.Utility ws = Mix (Utility (utility_job command.Utility ws))
job_for command.Timeline ws = Mix (Timeline (utility_job command.Timeline ws))
job_for command.TimelineDraw ws = Mix (TimelineDraw (timeline_draw_job ws))
job_for command.Try ws = Search (Try (try_job ws))
job_for command.Draw ws = Line (Draw (draw_job ws))
job_for command.Plan ws = Line (Plan (plan_job ws))
job_for command.Effic ws = Search (Effic (effic_job ws))
job_for command.EfficCheck ws = Check (EfficCheck (effic_check_job ws))
job_for command.Sequence ws = Search (Sequence (sequence_job ws))
job_for command.SequenceCheck ws = Check (SequenceCheck (sequence_check_job ws))

-- the words behind a command ask for this job: nothing is wrong with them, nothing is missing, and it has their values
-- or the defaults
pub record Asks (command : Command) (words : List Text) (job : Job) : Type 0 where
  pub right : AreRight command words
  pub whole : missing command words ≡ None
  pub is : job ≡ job_for command words

-- the fault of the words behind a command: the first word with which something is wrong, or else what is missing, which
-- counts as of the place behind the words
abbrev pub IsCommandFault : Command → List Text → ℕ → UsageKind → Type 0
IsCommandFault command words at kind =
    IsFirstFault command words at kind ⊎ (AreRight command words × (at ≡ length words)
    × (missing command words ≡ Some kind))

-- the first word is a command, and this is true of it and of the words behind it
abbrev pub IsCommanded : List Text → (Command → List Text → Type 0) → Type 0
IsCommanded [] P = ⊥
IsCommanded (word ∷ words) P = (command : Command) × (command_named word ≡ Some command) × P command words

-- the words are `--help` or `--version` alone
abbrev pub IsPage : List Text → Type 0
IsPage words = (words ≡ codes "--help" ∷ []) ⊎ (words ≡ codes "--version" ∷ [])

-- the words are some, and the first is no command, nor do they ask for a page
pub record IsUncommanded (words : List Text) : Type 0 where
  pub some : 0 < length words
  pub unknown : command_named (slice_index_or words 0 []) ≡ None
  pub page : IsPage words → ⊥

-- the words ask for a page
abbrev pub IsPageJob : List Text → Job → Type 0
IsPageJob words (Page Help) = words ≡ codes "--help" ∷ []
IsPageJob words (Page Version) = words ≡ codes "--version" ∷ []
IsPageJob words job = ⊥

-- The words ask for a job: for a page, or for what a command does.
abbrev pub IsJob : List Text → Job → Type 0
IsJob words job = IsPageJob words job ⊎ IsCommanded words (λ command behind. Asks command behind job)

-- a fault of the first word: there is none, or it is no command
abbrev pub IsHeadFault : List Text → UsageKind → Type 0
IsHeadFault words NoCommand = words ≡ []
IsHeadFault words UnknownCommand = IsUncommanded words
IsHeadFault words kind = ⊥

-- The first fault of the words, at the place of its word: of the first word, or of those behind a command.
abbrev pub IsFault : List Text → ℕ → UsageKind → Type 0
IsFault words index kind =
    (IsHeadFault words kind × (index ≡ 0))
    ⊎ IsCommanded words (λ command behind. (at : ℕ) × (index ≡ suc at) × IsCommandFault command behind at kind)

-- Each answer with its cause: the job that the words ask for, or their first fault.
abbrev pub IsJobRead : List Text → JobRead → Type 0
IsJobRead words (Good job) = IsJob words job
IsJobRead words (Usage index kind) = IsFault words index kind
IsJobRead words NoMemory = Unit {0}

-- the same of the words behind a command
abbrev pub IsBehind : Command → List Text → JobRead → Type 0
IsBehind command words (Good job) = Asks command words job
IsBehind command words (Usage index kind) = (at : ℕ) × (index ≡ suc at) × IsCommandFault command words at kind
IsBehind command words NoMemory = Unit {0}
