-- What `timeline` comes to.
use Rattle.std.specs.Prelude.{◌≡◌, ◌⊎◌, ℕ, ◌*◌, ◌<◌, ◌≤◌, List, length, codes}
use Rattle.line_rules.specs.declared.types.Balance.{Balance as Assignment}
use Rattle.combined_graph.specs.Mixes.{MixedLine}
use Rattle.station_report.specs.TimelineText.{timeline_text}
use Rattle.command_outcome.specs.Outcome.{Files, Outside, Outcome, told}
use Rattle.command_outcome.specs.declared.status.Status.TheVariants as ends
use Rattle.mix_files.specs.inputs.InputFile.{fault_line}
use Rattle.mix_files.specs.Launch.{Names, IsLaunch, IsUnlaunched}

-- what is said of a sequence with more rows than a timeline may have
abbrev pub large_text : List ℕ
large_text = codes "too large"

-- The files say a mix, a right straight balance and units, and the outcome tells the timeline of these units on this
-- balance, of at most 1,000,000 rows.
pub record IsTimelineTold (files : Files) (names : Names) (interval reach : ℕ) (out : Outcome) : Type 0 where
  pub mix : MixedLine
  pub balance : Assignment
  pub units : List ℕ
  pub launch : IsLaunch files names interval mix balance units
  pub few : length units * balance.stations ≤ 1000000
  pub shown : out ≡ told ends.Done (timeline_text mix balance units interval reach)

-- the timeline would have more rows
pub record IsTooLarge (files : Files) (names : Names) (interval : ℕ) (out : Outcome) : Type 0 where
  pub mix : MixedLine
  pub balance : Assignment
  pub units : List ℕ
  pub launch : IsLaunch files names interval mix balance units
  pub many : 1000000 < length units * balance.stations
  pub shown : out ≡ told ends.Input (fault_line names.seq large_text)

-- What `timeline` comes to: the timeline, or that it is too large, or why the files say none.
abbrev pub IsTimelineOutcome : Outside → List ℕ → List ℕ → List ℕ → ℕ → ℕ → Outcome → Type 0
IsTimelineOutcome o mix cert seq interval reach out =
    let names : Names = record { mix = mix; cert = cert; seq = seq } in
    IsTimelineTold o.files names interval reach out ⊎ IsTooLarge o.files names interval out
    ⊎ IsUnlaunched o names interval out
