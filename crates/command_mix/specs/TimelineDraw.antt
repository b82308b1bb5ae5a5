-- What `timeline-draw` comes to.
use Rattle.std.specs.Prelude.{◌≡◌, ◌≢◌, ◌⊎◌, ℕ, ◌<◌, ◌≤◌, List, Some, length}
use Rattle.line_rules.specs.declared.types.Balance.{Balance as Assignment}
use Rattle.combined_graph.specs.Mixes.{MixedLine}
use Rattle.timeline_drawing.specs.Visits.{course}
use Rattle.timeline_drawing.specs.Drawing.{timeline_text}
use Rattle.timeline_drawing.specs.Facts.{IsTruePicture}
use Rattle.command_outcome.specs.Outcome.{Files, Outside, Outcome, told}
use Rattle.command_outcome.specs.declared.status.Status.TheVariants as ends
use Rattle.mix_files.specs.inputs.InputFile.{fault_line}
use Rattle.command_outcome.specs.Wrote.{wrote}
use Rattle.mix_files.specs.Launch.{Names, IsLaunch, IsUnlaunched}
use Rattle.command_mix.specs.Timeline.{large_text}

-- there are at most 1,000 units and 64 stations, or more of either
abbrev pub IsDrawable : Assignment → List ℕ → Type 0
IsDrawable b units = (length units ≤ 1000) × (b.stations ≤ 64)

abbrev pub IsUndrawable : Assignment → List ℕ → Type 0
IsUndrawable b units = (1000 < length units) ⊎ (64 < b.stations)

-- The files say a mix, a right straight balance and units, few enough to be drawn, and what is written is the picture
-- of the timeline of these units on this balance.
pub record IsTimelineDrawn (files : Files) (names : Names) (to_name : List ℕ) (interval reach : ℕ)
    (out : Outcome) : Type 0 where
  pub mix : MixedLine
  pub balance : Assignment
  pub units : List ℕ
  pub launch : IsLaunch files names interval mix balance units
  pub drawable : IsDrawable balance units
  pub shown : out ≡ wrote to_name (timeline_text (course mix balance units interval reach))

-- the picture would be too large
pub record IsTooLarge (files : Files) (names : Names) (interval : ℕ) (out : Outcome) : Type 0 where
  pub mix : MixedLine
  pub balance : Assignment
  pub units : List ℕ
  pub launch : IsLaunch files names interval mix balance units
  pub many : IsUndrawable balance units
  pub shown : out ≡ told ends.Input (fault_line names.seq large_text)

-- What `timeline-draw` comes to: a picture in a file, or that it is too large, or why the files say none.
abbrev pub IsTimelineDrawOutcome : Outside → List ℕ → List ℕ → List ℕ → List ℕ → ℕ → ℕ → Outcome → Type 0
IsTimelineDrawOutcome o mix cert seq to_name interval reach out =
    let names : Names = record { mix = mix; cert = cert; seq = seq } in
    IsTimelineDrawn o.files names to_name interval reach out ⊎ IsTooLarge o.files names interval out
    ⊎ IsUnlaunched o names interval out

-- What a run that is done has done: its files said a mix, a right straight balance and units; the picture of their
-- timeline is true, and stands whole in the file that was to be written; the other files stay.
pub record IsTimelineTrulyDrawn (files after : Files) (names : Names) (to_name : List ℕ)
    (interval reach : ℕ) : Type 0 where
  pub mix : MixedLine
  pub balance : Assignment
  pub units : List ℕ
  pub launch : IsLaunch files names interval mix balance units
  pub drawable : IsDrawable balance units
  pub true_picture : IsTruePicture (course mix balance units interval reach)
  pub written : after to_name ≡ Some (timeline_text (course mix balance units interval reach))
  pub others : (q : List ℕ) → q ≢ to_name → after q ≡ files q
