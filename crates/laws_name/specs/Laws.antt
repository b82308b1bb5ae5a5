-- Names change nothing: what the commands answer of a line that a first set of files says, they answer of the same line
-- from other files too, in which its tasks have other names or none (own).
use Rattle.std.specs.Prelude.{ℕ, List, Option}
use Rattle.line_instance.specs.Line.{Line}
use Rattle.line_rules.specs.declared.types.LineKind.{LineKind}
use Rattle.line_rules.specs.declared.types.Entry.{Entry}
use Rattle.round_run.specs.declared.plans.Plan.{Plan}
use Rattle.command_outcome.specs.Outcome.{Files, Outcome}
use Rattle.input_files.specs.Instance.{IsSaid, IsPlainLine, naming_of}
use Rattle.command_balance.specs.Balance as balancing
use Rattle.command_solve.specs.Solution as solving
use Rattle.command_solve.specs.WarmStart.{AreOld}
use Rattle.command_solve.specs.declared.effort.Effort.{Effort}
use Rattle.command_cycle.specs.Found as cycling
use Rattle.command_effic.specs.EfficFound as efficient
use Rattle.laws_name.specs.Renaming.{HasLike}

-- the words name files: the one of the line, and those of the tasks that are apart and of an old certificate, where
-- there are any
pub record Given : Type 0 where
  pub files : Files
  pub line : List ℕ
  pub apart : Option (List ℕ)
  pub warm : Option (List ℕ)

-- other files say each line and cycle time that the first ones say, and each of its old certificates
pub record SaysSame (word : Option ℕ) (first other : Given) : Type 0 where
  pub said : (line : Line) (c : ℕ) → IsSaid first.files first.line first.apart word line c
      → IsSaid other.files other.line other.apart word line c
  pub old : (kind : LineKind) (line : Line) (olds : Option (List Entry))
      → AreOld first.files first.warm kind line olds → AreOld other.files other.warm kind line olds

-- the same of a line of which no two tasks are apart
abbrev pub SaysSamePlain : Given → Given → Type 0
SaysSamePlain first other = (line : Line) → IsPlainLine first.files first.line line
    → IsPlainLine other.files other.line line

-- What `balance`, `solve`, `cycle` and `effic` answer of the one they answer of the other, with the same status, the
-- same certificate and the same bounds; the texts differ in names at most.
pub record NamesChangeNothing : Type 0 where
  pub balance : (word : Option ℕ) (a b : Given) (kind : LineKind) (out : Outcome) → SaysSame word a b
      → balancing.IsAnswered a.files a.line a.apart word kind out
      → HasLike (naming_of a.files a.line) (naming_of b.files b.line) out
      (λ renamed. balancing.IsAnswered b.files b.line b.apart word kind renamed)
  pub solve : (word : Option ℕ) (a b : Given) (effort : Effort) (kind : LineKind) (plan : Plan) (name : Option (List ℕ))
      (out : Outcome) → SaysSame word a b
      → solving.IsAnswered a.files a.line a.apart a.warm effort word kind plan name out
      → HasLike (naming_of a.files a.line) (naming_of b.files b.line) out
      (λ renamed. solving.IsAnswered b.files b.line b.apart b.warm effort word kind plan name renamed)
  pub cycle : (a b : Given) (kind : LineKind) (m : ℕ) (plan : Plan) (name : Option (List ℕ)) (out : Outcome)
      → SaysSamePlain a b → cycling.IsAnswered a.files a.line kind m plan name out
      → HasLike (naming_of a.files a.line) (naming_of b.files b.line) out
      (λ renamed. cycling.IsAnswered b.files b.line kind m plan name renamed)
  pub effic : (a b : Given) (kind : LineKind) (least most : ℕ) (plan : Plan) (name : Option (List ℕ))
      (out : Outcome) → SaysSamePlain a b → efficient.IsAnswered a.files a.line kind least most plan name out
      → HasLike (naming_of a.files a.line) (naming_of b.files b.line) out
      (λ renamed. efficient.IsAnswered b.files b.line kind least most plan name renamed)
