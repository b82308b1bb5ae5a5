-- The ranges of the numbers of a job.
use Rattle.std.specs.Prelude.{ℕ, ◌≤◌, Option, Some, None}
use Rattle.line_words.specs.declared.job.Job.{Job}
use Rattle.line_words.specs.declared.job.Job.TheVariants.{Page, Search, Check, Line, Mix}
use Rattle.line_words.specs.declared.job.SearchJob.{SearchJob}
use Rattle.line_words.specs.declared.job.SearchJob.TheVariants.{Solve, Cycle, Effic, Sequence, Try}
use Rattle.line_words.specs.declared.job.CheckJob.{CheckJob}
use Rattle.line_words.specs.declared.job.CheckJob.TheVariants.{LineCheck, EfficCheck, SequenceCheck}
use Rattle.line_words.specs.declared.job.LineJob.{LineJob}
use Rattle.line_words.specs.declared.job.LineJob.TheVariants.{Balance, Convert, Draw, Plan}
use Rattle.line_words.specs.declared.job.MixJob.{MixJob}
use Rattle.line_words.specs.declared.job.MixJob.TheVariants.{Combine, Utility, Timeline, TimelineDraw}
use Rattle.line_words.specs.declared.reading.JobRead.{JobRead}
use Rattle.line_words.specs.declared.reading.JobRead.TheVariants.{Good, Usage, NoMemory}

-- a number lies between two others, or is one of them
abbrev pub IsBetween : ℕ → ℕ → ℕ → Type 0
IsBetween least most n = (least ≤ n) × (n ≤ most)

-- a number that is set lies between two others
abbrev pub IsSetBetween : ℕ → ℕ → Option ℕ → Type 0
IsSetBetween least most None = Unit {0}
IsSetBetween least most (Some n) = IsBetween least most n

-- a cycle time that words or a file give, in time units
abbrev pub IsCycleTime : ℕ → Type 0
IsCycleTime c = IsBetween 1 1000000000000000000 c

-- a cycle time, or none
abbrev pub IsCycleTimeOrNone : Option ℕ → Type 0
IsCycleTimeOrNone c = IsSetBetween 1 1000000000000000000 c

-- a number of stations
abbrev pub IsStationCount : ℕ → Type 0
IsStationCount m = IsBetween 1 1024 m

-- a number of helpers
abbrev pub IsHelperCount : ℕ → Type 0
IsHelperCount k = IsBetween 0 64 k

-- the units of a run that asks for one cycle
abbrev pub AreRunUnits : ℕ → Type 0
AreRunUnits units = IsBetween 1 3000000 units

-- such units, or none
abbrev pub AreRunUnitsOrNone : Option ℕ → Type 0
AreRunUnitsOrNone units = IsSetBetween 1 3000000 units

-- the units of each try of a run that makes several, and those of a search for a sequence
abbrev pub AreTryUnits : ℕ → Type 0
AreTryUnits units = IsBetween 1 1000000 units

-- the loads of a seek; 0 for none
abbrev pub AreSeekLoads : ℕ → Type 0
AreSeekLoads loads = IsBetween 0 3000000 loads

-- such loads, or none
abbrev pub AreSeekLoadsOrNone : Option ℕ → Type 0
AreSeekLoadsOrNone loads = IsSetBetween 0 3000000 loads

-- the steps of a check
abbrev pub AreSteps : ℕ → Type 0
AreSteps steps = IsBetween 1 20000000 steps

-- the time from one launch to the next, in time units
abbrev pub IsInterval : ℕ → Type 0
IsInterval interval = IsBetween 1 1000000000 interval

-- the length of a station, in time units
abbrev pub IsReach : ℕ → Type 0
IsReach reach = IsBetween 1 1000000000 reach

-- each number of a search lies in the range of its key
abbrev pub IsSearchInRange : SearchJob → Type 0
IsSearchInRange (Solve job) = IsCycleTimeOrNone job.cycle × IsHelperCount job.helpers
    × AreRunUnitsOrNone job.units × AreSeekLoadsOrNone job.seek
IsSearchInRange (Cycle job) = IsStationCount job.stations × IsHelperCount job.helpers
    × AreTryUnits job.units × AreSeekLoads job.seek
IsSearchInRange (Effic job) = IsStationCount job.least × IsStationCount job.most × (job.least ≤ job.most)
    × IsHelperCount job.helpers × AreTryUnits job.units × AreSeekLoads job.seek
IsSearchInRange (Sequence job) = IsInterval job.interval × IsReach job.length
    × AreTryUnits job.units × AreSeekLoads job.seek
IsSearchInRange (Try job) = IsBetween 0 18446744073709551615 job.seed × IsBetween 1 1024 job.tasks
    × IsCycleTime job.cycle × AreRunUnits job.units

-- each number of the test of a certificate does
abbrev pub IsCheckInRange : CheckJob → Type 0
IsCheckInRange (LineCheck job) = AreSteps job.steps
IsCheckInRange (EfficCheck job) = AreSteps job.steps
IsCheckInRange (SequenceCheck job) = IsInterval job.interval × IsReach job.length
    × AreSteps job.steps

-- each number of a job of a line does
abbrev pub IsLineInRange : LineJob → Type 0
IsLineInRange (Balance job) = IsCycleTimeOrNone job.cycle
IsLineInRange (Convert job) = IsCycleTimeOrNone job.cycle
IsLineInRange (Draw job) = Unit {0}
IsLineInRange (Plan job) = Unit {0}

-- each number of a job of a mix does
abbrev pub IsMixInRange : MixJob → Type 0
IsMixInRange (Combine job) = Unit {0}
IsMixInRange (Utility job) = IsInterval job.interval × IsReach job.length
IsMixInRange (Timeline job) = IsInterval job.interval × IsReach job.length
IsMixInRange (TimelineDraw job) = IsInterval job.interval × IsReach job.length

-- Each number of a job lies in the range of its key.
abbrev pub IsInRange : Job → Type 0
IsInRange (Page page) = Unit {0}
IsInRange (Search job) = IsSearchInRange job
IsInRange (Check job) = IsCheckInRange job
IsInRange (Line job) = IsLineInRange job
IsInRange (Mix job) = IsMixInRange job

-- the job that was read is in its ranges, where there is one
abbrev pub HasRange : JobRead → Type 0
HasRange (Good job) = IsInRange job
HasRange (Usage index kind) = Unit {0}
HasRange NoMemory = Unit {0}
