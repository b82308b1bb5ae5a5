-- What a file says of a mix and of the line that it combines to, and why it says none.
use Rattle.std.specs.Prelude.{◌≡◌, ◌⊎◌, ℕ, List, ◌++◌, Ok, Err, codes, decimal}
use Rattle.line_instance.specs.Line.{Line}
use Rattle.line_instance.specs.Walks.{IsRing}
use Rattle.in2_reader.specs.Texts.{ring_text}
use Rattle.combined_graph.specs.Mixes.{MixedLine}
use Rattle.combined_graph.specs.Records.{mix_records}
use Rattle.combined_graph.specs.MixText.{text_said}
use Rattle.combined_graph.specs.Contents.{IsMixOf}
use Rattle.combined_graph.specs.Faults.{IsFirstFault}
use Rattle.combined_graph.specs.Combined.{IsCombined, all_arcs}
use Rattle.combined_graph.specs.declared.fault.MixFault.{MixFault}
use Rattle.combined_graph.specs.declared.fault.MixKind.{MixKind}
use Rattle.combined_graph.specs.declared.fault.MixKind.TheVariants.{Form, Range, RepeatedModel, UnknownModel}
use Rattle.combined_graph.specs.declared.fault.MixKind.TheVariants.{TooManyModels, BadTask, RepeatedTime, TooManyArcs}
use Rattle.combined_graph.specs.declared.fault.MixKind.TheVariants.{NoModel}
use Rattle.command_outcome.specs.Outcome.{Files, Outside, Outcome, told}
use Rattle.command_outcome.specs.declared.status.Status.TheVariants as ends
use Rattle.input_files.specs.InputFile.{Reads, IsUntaken, fault_line, max_file}

-- what is wrong with a record, in words
abbrev pub kind_text : MixKind → List ℕ
kind_text Form = codes "form"
kind_text Range = codes "range"
kind_text RepeatedModel = codes "repeated model"
kind_text UnknownModel = codes "unknown model"
kind_text TooManyModels = codes "too many models"
kind_text BadTask = codes "bad task"
kind_text RepeatedTime = codes "repeated time"
kind_text TooManyArcs = codes "too many arcs"
kind_text NoModel = codes "no model"

-- the record of a fault, counted from 1, and what is wrong with it
abbrev pub fault_text : MixFault → List ℕ
fault_text f = codes "record " ++ decimal f.row ++ codes " " ++ kind_text f.kind

-- the tasks of a cycle, counted from 1
abbrev pub cycle_text : List ℕ → List ℕ
cycle_text ring = codes "cycle" ++ ring_text ring

-- the bytes say the mix, and their records tell it
pub record IsMixText (mix : MixedLine) (bytes : List ℕ) : Type 0 where
  pub said : text_said bytes ≡ Ok mix
  pub told : IsMixOf (mix_records bytes) mix

-- the bytes say no mix, and the outcome names the first record at fault
pub record IsFaultyMix (name bytes : List ℕ) (out : Outcome) : Type 0 where
  pub fault : MixFault
  pub said : text_said bytes ≡ Err fault
  pub first : IsFirstFault (mix_records bytes) fault
  pub shown : out ≡ told ends.Input (fault_line name (fault_text fault))

-- the file says the mix
abbrev pub IsMixFile : Files → List ℕ → MixedLine → Type 0
IsMixFile files name mix = Reads max_file (files name) (IsMixText mix)

-- the file says no mix: it isn't taken in, or has a fault
abbrev pub IsNoMix : Outside → List ℕ → Outcome → Type 0
IsNoMix o name out = IsUntaken o max_file name out ⊎ Reads max_file (o.files name) (λ bytes. IsFaultyMix name bytes out)

-- the arcs of all models have a cycle together, which the outcome names, and the mix combines to no line
pub record IsCyclic (name : List ℕ) (mix : MixedLine) (out : Outcome) : Type 0 where
  pub ring : List ℕ
  pub closed : IsRing (all_arcs mix.models) ring
  pub none : (line : Line) → IsCombined mix line → ⊥
  pub shown : out ≡ told ends.Input (fault_line name (cycle_text ring))

-- the file says the mix, and the line is what it combines to
pub record IsCombinedFile (files : Files) (name : List ℕ) (mix : MixedLine) (line : Line) : Type 0 where
  pub said : IsMixFile files name mix
  pub combined : IsCombined mix line

-- the file says a mix whose arcs have a cycle together
pub record IsCyclicFile (files : Files) (name : List ℕ) (out : Outcome) : Type 0 where
  pub mix : MixedLine
  pub said : IsMixFile files name mix
  pub cyclic : IsCyclic name mix out

-- the file says no combined line: it says no mix, or one with a cycle
abbrev pub IsUncombined : Outside → List ℕ → Outcome → Type 0
IsUncombined o name out = IsNoMix o name out ⊎ IsCyclicFile o.files name out
