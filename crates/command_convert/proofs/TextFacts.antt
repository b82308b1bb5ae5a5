-- The text of a line by the names that its file gives.
use Rattle.std.proofs.Common.{◌≡◌, ℕ, List, Option, subst}
use Rattle.line_instance.specs.Line.{Line, tasks}
use Rattle.line_words.specs.declared.job.FormWord.{FormWord}
use Rattle.task_names.specs.Naming.{names_for}
use Rattle.task_names.specs.declared.naming.Naming.{Naming}
use Rattle.command_convert.specs.Convert.{IsTextIn}

-- the same text by the names of the file, and with the cycle time of the words or of the file
pub text_by : (to : FormWord) (line : Line) (mine its : Naming) (cycle word : Option ℕ) (bytes : List ℕ) → mine ≡ its
    → cycle ≡ word → IsTextIn to line (names_for mine (tasks line)) cycle bytes
    → IsTextIn to line (names_for its (tasks line)) word bytes
text_by to line mine its cycle word bytes e f x =
    let M : Naming → Type 0 = λ m. IsTextIn to line (names_for m (tasks line)) cycle bytes in
    let C : Option ℕ → Type 0 = λ c. IsTextIn to line (names_for its (tasks line)) c bytes in
    subst C f (subst M e x)
