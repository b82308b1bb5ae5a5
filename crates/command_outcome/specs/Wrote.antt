-- What a command comes to that writes a file and tells its name.
use Rattle.std.specs.Prelude.{ℕ, List, ◌++◌, Some, codes}
use Rattle.command_outcome.specs.Outcome.{Outcome}
use Rattle.command_outcome.specs.Print.{printed}
use Rattle.command_outcome.specs.declared.report.Kept.TheVariants.{Nothing}
use Rattle.command_outcome.specs.declared.status.Status.TheVariants as ends

-- the line about the file that was written
abbrev pub written_line : List ℕ → List ℕ
written_line name = codes "written " ++ printed name ++ codes "\n"

-- done, with a page of this name and these bytes, and nothing kept
abbrev pub wrote : List ℕ → List ℕ → Outcome
wrote name bytes =
    record {
      status = ends.Done;
      text = written_line name;
      page = Some (record { name = name; bytes = bytes });
      kept = Nothing;
    }
