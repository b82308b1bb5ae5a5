-- What each job means, and what a run comes to, over the words and the outside.
use Rattle.std.specs.Prelude.{◌≡◌, ◌⊎◌, ℕ, List, Option, Some, None, unwrap_or}
use Rattle.std.specs.declared.result.Result.{Result}
use Rattle.std.specs.declared.result.Result.TheVariants.{Ok, Err}
use Rattle.line_words.specs.Words.{Text}
use Rattle.line_words.specs.Jobs.{IsJob, asks_pairs}
use Rattle.line_words.specs.declared.job.BoundWord.{BoundWord}
use Rattle.line_words.specs.declared.job.Job.{Job}
use Rattle.line_words.specs.declared.job.Job.TheVariants.{Page, Search, Check, Line, Mix}
use Rattle.line_words.specs.declared.job.SearchJob.{SearchJob}
use Rattle.line_words.specs.declared.job.SearchJob.TheVariants.{Solve, Cycle, Effic, Sequence, Try}
use Rattle.line_words.specs.declared.job.CheckJob.{CheckJob}
use Rattle.line_words.specs.declared.job.CheckJob.TheVariants.{LineCheck, EfficCheck, SequenceCheck}
use Rattle.line_words.specs.declared.job.LineJob.{LineJob}
use Rattle.line_words.specs.declared.job.LineJob.TheVariants.{Balance, Convert, Draw, Plan as Planning}
use Rattle.line_words.specs.declared.job.MixJob.{MixJob}
use Rattle.line_words.specs.declared.job.MixJob.TheVariants.{Combine, Utility, Timeline, TimelineDraw}
use Rattle.line_rules.specs.declared.types.LineKind.{LineKind}
use Rattle.command_solve.specs.rounds.declared.plans.Plan.{Plan}
use Rattle.command_outcome.specs.Outcome.{Files, Outside, Outcome, IsCut, IsWritten, outcome_of, told}
use Rattle.command_outcome.specs.Output.{Puts, memory_line}
use Rattle.command_outcome.specs.declared.report.Kept.{Kept}
use Rattle.command_outcome.specs.declared.report.Report.{Report}
use Rattle.command_outcome.specs.declared.report.EarlyEnd.{EarlyEnd}
use Rattle.command_outcome.specs.declared.report.EarlyEnd.TheVariants as stop
use Rattle.command_outcome.specs.declared.status.Status.{Status}
use Rattle.command_outcome.specs.declared.status.Status.TheVariants as ends
use Rattle.input_files.specs.Kind.{kind_of}
use Rattle.command_balance.specs.Balance.{IsBalanceOutcome}
use Rattle.command_check.specs.Check.{IsCheckOutcome, IsProvedTrue}
use Rattle.command_convert.specs.Convert.{IsConvertOutcome}
use Rattle.command_solve.specs.Solution.{IsSolveOutcome, IsPromised}
use Rattle.command_solve.specs.declared.effort.Effort.{Effort}
use Rattle.command_cycle.specs.Found.{IsCycleOutcome, IsCyclePromised}
use Rattle.command_mix.specs.Combine.{IsCombineOutcome}
use Rattle.command_mix.specs.Utility.{IsUtilityOutcome}
use Rattle.command_mix.specs.Timeline.{IsTimelineOutcome}
use Rattle.command_mix.specs.TimelineDraw.{IsTimelineDrawOutcome, IsTimelineTrulyDrawn}
use Rattle.command_try.specs.Tried.{IsTried}
use Rattle.command_draw.specs.Draw.{IsDrawOutcome, IsTrulyDrawn}
use Rattle.command_draw.specs.Plan.{IsPlanOutcome, IsTrulyPlanned}
use Rattle.command_effic.specs.EfficFound.{IsEfficOutcome, IsEfficPromised}
use Rattle.command_effic.specs.EfficCheck.{IsEfficCheckOutcome, IsProvedProduct}
use Rattle.command_sequence.specs.Ordered.{IsSequenceOutcome, IsSequencePromised}
use Rattle.command_sequence.specs.SequenceCheck.{IsSequenceCheckOutcome, IsProvedSequence}
use Rattle.line_run.specs.Usage.{IsUsageOutcome}
use Rattle.line_run.specs.Pages.{page_text}

-- so many helpers, so many units, whether pairs are asked, and the loads of a seek at each tried cycle
abbrev pub planned : ℕ → ℕ → BoundWord → ℕ → Plan
planned helpers units bound seek =
    record { helpers = helpers; units = units; pairs = asks_pairs bound; seek = seek }

-- What `solve` spends before its search, by the units and the loads of a seek that the words name. Where they name
-- neither, it goes in turns: a first search of 50,000 units, and a seek of 1,000,000 loads. Else there is no first
-- search, and no seek but the one that they name.
abbrev pub effort_of : Option ℕ → Option ℕ → Effort
effort_of units (Some seek) = record { first = 0; seek = seek }
effort_of (Some units) None = record { first = 0; seek = 0 }
effort_of None None = record { first = 50000; seek = 1000000 }

-- the units of the search of `solve`: those that the words name; 1,000,000 is the default
abbrev pub units_of : Option ℕ → ℕ
units_of units = unwrap_or units 1000000

-- What `try` comes to: what is told of the line of a seed. No file is written.
pub record IsTryOutcome (seed tasks cycle : ℕ) (kind : LineKind) (units : ℕ) (out : Outcome) : Type 0 where
  pub tried : IsTried seed tasks cycle kind units out.status out.text out.kept
  pub bare : out.page ≡ None

-- What a job means: what it comes to over the outside; whether it reads files, and what it comes to where it reads
-- none; the file that it writes, where it writes one; what it has proved where it is done; and what it promises, with
-- the files before and after it, of the status, the text and the certificate that is kept, where it answers.
pub record Meaning : Type 1 where
  pub outcome : Outside → Outcome → Type 0
  pub reads : Type 0
  pub page : Outcome → Type 0
  pub writes : Option Text
  pub truth : Files → Type 0
  pub promise : Files → Files → Status → List ℕ → Kept → Type 0

-- a job that reads no file: what it comes to, and what it promises
abbrev pub telling : (Outcome → Type 0) → (Files → Files → Status → List ℕ → Kept → Type 0) → Meaning
telling page promise = record {
  outcome = λ o out. page out;
  reads = ⊥;
  page = page;
  writes = None;
  truth = λ files. Unit {0};
  promise = promise;
}

-- the same that promises nothing beyond what it comes to
abbrev pub page_alone : (Outcome → Type 0) → Meaning
page_alone page = telling page (λ files after status text kept. Unit {0})

-- a job that reads files and comes to this, with the file that it writes and what it promises
abbrev pub promising : (Outside → Outcome → Type 0) → Option Text
    → (Files → Files → Status → List ℕ → Kept → Type 0) → Meaning
promising outcome writes promise = record {
  outcome = outcome;
  reads = Unit {0};
  page = λ out. ⊥;
  writes = writes;
  truth = λ files. Unit {0};
  promise = promise;
}

-- the same that promises nothing beyond what it comes to
abbrev pub answering : (Outside → Outcome → Type 0) → Option Text → Meaning
answering outcome writes = promising outcome writes (λ files after status text kept. Unit {0})

-- a job that checks a certificate: where it is done, this is true
abbrev pub checking : (Outside → Outcome → Type 0) → (Files → Type 0) → Meaning
checking outcome truth = record {
  outcome = outcome;
  reads = Unit {0};
  page = λ out. ⊥;
  writes = None;
  truth = truth;
  promise = λ files after status text kept. status ≡ ends.Done → truth files;
}

-- What each search means. Of `solve`: for the line and the cycle that the files say, the balance that is printed is
-- right, a certificate that the check accepts is kept, and written where the words name a file, its bounds are the
-- printed ones and true, and they differ only where the units were spent on loads that it lists; of `cycle` the same of
-- the least cycle time in so many stations; of `effic` the same of the least product of stations and cycle, which may
-- also stop by the size of its book. Of `sequence`: for the mix and the balance that the files say, the sequence that
-- is printed is one of the demands, a certificate is kept and written as of `solve`, no sequence of the demands has
-- less utility work than its lower bound, and the bounds differ only where the units were spent. Of `try`: the same as
-- of `solve` of the line of a seed.
abbrev pub search_meaning : SearchJob → Meaning
search_meaning (Solve job) =
    let plan = planned job.helpers (units_of job.units) job.bound 0 in
    let effort = effort_of job.units job.seek in
    promising (λ o out.
    IsSolveOutcome o job.file job.apart job.warm effort job.cycle (kind_of job.line) plan job.cert out) job.cert
    (λ files after status text kept.
    IsPromised files after job.file job.apart job.warm effort job.cycle (kind_of job.line) plan job.cert status text
    kept)
search_meaning (Cycle job) =
    let plan = planned job.helpers job.units job.bound job.seek in
    promising (λ o out. IsCycleOutcome o job.file (kind_of job.line) job.stations plan job.cert out) job.cert
    (λ files after status text kept.
    IsCyclePromised files after job.file (kind_of job.line) job.stations plan job.cert status text kept)
search_meaning (Effic job) =
    let plan = planned job.helpers job.units job.bound job.seek in
    promising (λ o out. IsEfficOutcome o job.file (kind_of job.line) job.least job.most plan job.cert out) job.cert
    (λ files after status text kept.
    IsEfficPromised files after job.file (kind_of job.line) job.least job.most plan job.cert status text kept)
search_meaning (Sequence job) =
    promising (λ o out.
    IsSequenceOutcome o job.mix job.cert job.interval job.length job.units job.seek job.out out) job.out
    (λ files after status text kept.
    IsSequencePromised files after job.mix job.cert job.interval job.length job.units job.seek job.out status text
    kept)
search_meaning (Try job) =
    telling (λ out. IsTryOutcome job.seed job.tasks job.cycle (kind_of job.line) job.units out)
    (λ files after status text kept.
    IsTried job.seed job.tasks job.cycle (kind_of job.line) job.units status text kept)

-- What each test of a certificate means: where it is accepted, whoever made it, what it claims is true.
abbrev pub check_meaning : CheckJob → Meaning
check_meaning (LineCheck job) =
    checking (λ o out. IsCheckOutcome o job.file job.cert job.apart job.steps out)
    (λ files. IsProvedTrue files job.file job.cert job.apart job.steps)
check_meaning (EfficCheck job) =
    checking (λ o out. IsEfficCheckOutcome o job.file job.cert job.steps out)
    (λ files. IsProvedProduct files job.file job.cert job.steps)
check_meaning (SequenceCheck job) =
    checking (λ o out. IsSequenceCheckOutcome o job.mix job.cert job.seq job.interval job.length job.steps out)
    (λ files. IsProvedSequence files job.mix job.cert job.seq job.interval job.length job.steps)

-- What each job of a line means that is no search. Of `draw`: the picture that is written is true of the line; of
-- `plan`: so is the plan that is printed.
abbrev pub line_meaning : LineJob → Meaning
line_meaning (Balance job) =
    answering (λ o out. IsBalanceOutcome o job.file job.apart job.cycle (kind_of job.line) out) None
line_meaning (Convert job) =
    answering (λ o out. IsConvertOutcome o job.file job.out job.to job.apart job.cycle out) (Some job.out)
line_meaning (Draw job) =
    promising (λ o out. IsDrawOutcome o job.file job.cert job.out job.apart out) (Some job.out)
    (λ files after status text kept. IsTrulyDrawn files after job.file job.cert job.out job.apart)
line_meaning (Planning job) =
    promising (λ o out. IsPlanOutcome o job.file job.cert job.apart out) None
    (λ files after status text kept. IsTrulyPlanned files job.file job.cert job.apart text)

-- What each job of a mix means that is no search. Of `timeline-draw`: the picture is true of the timeline that the
-- files say.
abbrev pub mix_meaning : MixJob → Meaning
mix_meaning (Combine job) = answering (λ o out. IsCombineOutcome o job.mix job.out out) (Some job.out)
mix_meaning (Utility job) =
    answering (λ o out. IsUtilityOutcome o job.mix job.cert job.seq job.interval job.length out) None
mix_meaning (Timeline job) =
    answering (λ o out. IsTimelineOutcome o job.mix job.cert job.seq job.interval job.length out) None
mix_meaning (TimelineDraw job) =
    promising (λ o out. IsTimelineDrawOutcome o job.mix job.cert job.seq job.out job.interval job.length out)
    (Some job.out)
    (λ files after status text kept. IsTimelineTrulyDrawn files after
    (record { mix = job.mix; cert = job.cert; seq = job.seq }) job.out job.interval job.length)

-- What each job means.
abbrev pub meaning_of : Job → Meaning
meaning_of (Page page) = page_alone (λ out. out ≡ told ends.Done (page_text page))
meaning_of (Search job) = search_meaning job
meaning_of (Check job) = check_meaning job
meaning_of (Line job) = line_meaning job
meaning_of (Mix job) = mix_meaning job

-- what a job comes to
abbrev pub IsJobOutcome : Outside → Job → Outcome → Type 0
IsJobOutcome o job out = (meaning_of job).outcome o out

-- the words ask for a job, and this is what it comes to
pub record AsksJob (words : List Text) (o : Outside) (out : Outcome) : Type 0 where
  pub job : Job
  pub asked : IsJob words job
  pub outcome : IsJobOutcome o job out

-- what the words come to, memory aside: they have a fault, or ask for a job
abbrev pub IsAnswer : List Text → Outside → Outcome → Type 0
IsAnswer words o out = IsUsageOutcome words out ⊎ AsksJob words o out

-- What a run comes to: an answer to its words, or it is out of memory.
abbrev pub IsOutcome : List Text → Outside → Outcome → Type 0
IsOutcome words o out = IsAnswer words o out ⊎ (out ≡ told ends.Memory memory_line)

-- what a job comes to that reads no file: a page of the program itself, or what `try` tells
abbrev pub IsPage : Job → Outcome → Type 0
IsPage job out = (meaning_of job).page out

-- the job reads files
abbrev pub ReadsFiles : Job → Type 0
ReadsFiles job = (meaning_of job).reads

-- the words ask for a job that reads files
pub record AsksFiles (words : List Text) : Type 0 where
  pub job : Job
  pub asked : IsJob words job
  pub reads : ReadsFiles job

-- the words ask for a job that reads no file, and this is what it comes to
pub record AsksPage (words : List Text) (out : Outcome) : Type 0 where
  pub job : Job
  pub asked : IsJob words job
  pub page : IsPage job out

-- what words come to that need no file: a usage line, a page, what `try` tells, or the line about memory
abbrev pub IsPlainOutcome : List Text → Outcome → Type 0
IsPlainOutcome words out = IsUsageOutcome words out ⊎ AsksPage words out ⊎ (out ≡ told ends.Memory memory_line)

-- an outcome that P is true of is put: whole with its status and what it keeps, or a prefix where the output failed
pub record IsPut (P : Outcome → Type 0) (old new : List ℕ) (before after : ℕ) (status : Status) (kept : Kept)
    : Type 0 where
  pub outcome : Outcome
  pub reached : P outcome
  pub put : Puts outcome.status outcome.text outcome.kept old new before after status kept

-- the file that a job writes
abbrev pub out_of : Job → Option Text
out_of job = (meaning_of job).writes

-- the words ask for a job that writes a file
pub record IsWriting (words : List Text) : Type 0 where
  pub job : Job
  pub asked : IsJob words job
  pub name : Text
  pub writes : out_of job ≡ Some name

-- the run came to an outcome that P is true of, or failed to put it, and the outcome's page is written
pub record HasWritten (o : Outside) (P : Outcome → Type 0) (status : Status) (after : Files) : Type 0 where
  pub outcome : Outcome
  pub reached : P outcome
  pub ended : (status ≡ outcome.status) ⊎ (status ≡ ends.WriteFault)
  pub written : IsWritten o.files outcome.page after

-- What is left of the files: the page of the outcome is written and the others stay; or it could not be written, and
-- status 5 says so.
abbrev pub IsLeft : Outside → (Outcome → Type 0) → Status → Files → Type 0
IsLeft o P status after = HasWritten o P status after ⊎ ((status ≡ ends.WriteFault) × IsCut o P after)

-- what a job that is done has proved
abbrev pub IsJobTrue : Files → Job → Type 0
IsJobTrue files job = (meaning_of job).truth files

-- What a run that is done has proved: where its words ask for the check of a certificate, whoever made it, what the
-- certificate claims is true.
pub record IsTrueRun (words : List Text) (files : Files) : Type 0 where
  pub job : Job
  pub asked : IsJob words job
  pub holds : IsJobTrue files job

-- what a job that reads no file ended with: what it comes to, or out of memory
abbrev pub IsPlainEnd : (Outcome → Type 0) → Result Report EarlyEnd → Type 0
IsPlainEnd P (Ok r) = P (outcome_of r None)
IsPlainEnd P (Err (stop.Report r)) = P (outcome_of r None)
IsPlainEnd P (Err stop.Memory) = Unit {0}
IsPlainEnd P (Err stop.Unwritten) = ⊥
