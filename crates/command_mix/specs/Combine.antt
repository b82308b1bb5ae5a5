-- What `combine` comes to.
use Rattle.std.specs.Prelude.{◌≡◌, ◌⊎◌, ℕ, List, ◌++◌, Some, codes, decimal}
use Rattle.line_instance.specs.Line.{Line}
use Rattle.in2_reader.specs.Written.{IsIn2Text}
use Rattle.combined_graph.specs.Mixes.{MixedLine}
use Rattle.combined_graph.specs.Combined.{total_demand}
use Rattle.command_outcome.specs.Outcome.{Files, Outside, Outcome}
use Rattle.command_outcome.specs.declared.report.Kept.TheVariants.{Nothing}
use Rattle.command_outcome.specs.declared.status.Status.TheVariants as ends
use Rattle.mix_files.specs.MixFile.{IsCombinedFile, IsUncombined}

-- the line about what a mix combines to: the number of tasks, and the demand of all models together
abbrev pub combined_line : MixedLine → List ℕ
combined_line mix = codes "combined tasks " ++ decimal mix.tasks ++ codes " demand "
    ++ decimal (total_demand mix.models) ++ codes "\n"

-- done, with a page of this name and these bytes, and nothing kept
abbrev pub wrote : MixedLine → List ℕ → List ℕ → Outcome
wrote mix name bytes =
    record {
      status = ends.Done;
      text = combined_line mix;
      page = Some (record { name = name; bytes = bytes });
      kept = Nothing;
    }

-- The file says a mix, and what is written is the canonical IN2 text of the line that it combines to.
pub record IsCombinedTold (files : Files) (name to_name : List ℕ) (out : Outcome) : Type 0 where
  pub mix : MixedLine
  pub line : Line
  pub said : IsCombinedFile files name mix line
  pub bytes : List ℕ
  pub written : IsIn2Text line bytes
  pub shown : out ≡ wrote mix to_name bytes

-- What `combine` comes to: the combined line in a file, or why the file says none.
abbrev pub IsCombineOutcome : Outside → List ℕ → List ℕ → Outcome → Type 0
IsCombineOutcome o name to_name out = IsCombinedTold o.files name to_name out ⊎ IsUncombined o name out
