-- What stays of a line in each form, and from form to form (own).
use Rattle.std.specs.Prelude.{◌≡◌, ◌↔◌, ℕ, List, length, Option, Some}
use Rattle.line_instance.specs.Line.{Line, IsLine, IsRanked, Before, tasks}
use Rattle.in2_reader.specs.Written.{IsIn2Text}
use Rattle.alb_reader.specs.Written.{IsAlbText, IsGivenCycle}
use Rattle.task_names.specs.TaskNames.{AreNames, AreDistinct}
use Rattle.line_words.specs.declared.job.FormWord.{FormWord}
use Rattle.line_words.specs.declared.job.FormWord.TheVariants.{Alb, In2}
use Rattle.command_outcome.specs.Outcome.{Files, Outcome}
use Rattle.input_files.specs.Instance.{IsFaulty, Says}
use Rattle.command_convert.specs.Convert.{IsLineConverted, IsTextIn}

-- two lines are the same: they have the same times, and the same tasks before others
pub record IsSameLine (line other : Line) : Type 0 where
  pub times : other.times ≡ line.times
  pub before : (i j : ℕ) → Before other i j ↔ Before line i j

-- so many tasks have these names: one each, and no two the same
pub record AreNamesOf (n : ℕ) (names : List (List ℕ)) : Type 0 where
  pub many : length names ≡ n
  pub named : AreNames names
  pub distinct : AreDistinct names

-- The bytes are the canonical text of an instance in a form: of a line, with names for its tasks, and with a cycle time
-- of 1 to 10^18 or with none.
pub record IsCanonical (to : FormWord) (line : Line) (cycle : Option ℕ) (bytes : List ℕ) : Type 0 where
  pub line_is : IsLine line
  pub ranked : IsRanked line
  pub names : List (List ℕ)
  pub called : AreNamesOf (tasks line) names
  pub limit : IsGivenCycle cycle
  pub text : IsTextIn to line names cycle bytes

-- A canonical text has no fault. Whatever it says, by whatever form it is taken for, is the line that it was written of;
-- an ALB text says the cycle time too.
pub record EveryFormKeepsItsLine : Type 0 where
  pub right : (to : FormWord) (line : Line) (cycle : Option ℕ) (bytes name : List ℕ) (out : Outcome)
      → IsCanonical to line cycle bytes → IsFaulty name bytes out → ⊥
  pub same : (to : FormWord) (line other : Line) (cycle given : Option ℕ) (bytes : List ℕ)
      → IsCanonical to line cycle bytes → Says bytes other given → IsSameLine line other
  pub timed : (line other : Line) (cycle given : Option ℕ) (bytes : List ℕ)
      → IsCanonical Alb line cycle bytes → Says bytes other given → given ≡ cycle

-- A run of `convert` takes a text to another one in a form: the one is its first file, and the other its page. The
-- cycle time of the words, where they have one, is 1 to 10^18.
pub record IsRun (first : List ℕ) (to : FormWord) (last : List ℕ) : Type 0 where
  pub files : Files
  pub name : List ℕ
  pub to_name : List ℕ
  pub apart : Option (List ℕ)
  pub word : Option ℕ
  pub out : Outcome
  pub limit : IsGivenCycle word
  pub file : files name ≡ Some first
  pub converted : IsLineConverted files name to_name to apart word out
  pub page : out.page ≡ Some (record { name = to_name; bytes = last })

-- Runs, one or more, take a text to another one in the form of the last run: each begins with what the run before it
-- wrote.
pub data AreRuns (first : List ℕ) : FormWord → List ℕ → Type 0 where
  one : {to : FormWord} {last : List ℕ} → IsRun first to last → AreRuns first to last
  more : {way to : FormWord} {mid last : List ℕ} → AreRuns first way mid → IsRun mid to last → AreRuns first to last

-- What runs have written has no fault, and whatever it says is the line that the first text says. In IN2 and in ALB it
-- is a canonical text of that line. So a canonical IN2 text comes back byte for byte.
pub record EveryChainKeepsItsLine : Type 0 where
  pub right : (first last name : List ℕ) (to : FormWord) (out : Outcome)
      → AreRuns first to last → IsFaulty name last out → ⊥
  pub same : (first last : List ℕ) (to : FormWord) (line other : Line) (given again : Option ℕ)
      → AreRuns first to last → Says first line given → Says last other again → IsSameLine line other
  pub in2 : (first last : List ℕ) (line : Line) (given : Option ℕ)
      → AreRuns first In2 last → Says first line given → IsIn2Text line last
  pub alb : (first last : List ℕ) (line : Line) (given : Option ℕ)
      → AreRuns first Alb last → Says first line given → (cycle : Option ℕ) × IsAlbText line cycle last
  pub back : (first last : List ℕ) (line : Line) (cycle : Option ℕ)
      → IsCanonical In2 line cycle first → AreRuns first In2 last → last ≡ first

-- A line has one canonical text in IN2, and one with each cycle time in ALB.
pub record EveryLineHasOneText : Type 0 where
  pub in2 : (line : Line) (a b : List ℕ) → IsIn2Text line a → IsIn2Text line b → a ≡ b
  pub alb : (line : Line) (cycle : Option ℕ) (a b : List ℕ)
      → IsAlbText line cycle a → IsAlbText line cycle b → a ≡ b
