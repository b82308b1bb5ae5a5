-- What `convert` comes to.
use Rattle.std.specs.Prelude.{◌≡◌, ◌≢◌, ◌⊎◌, ℕ, cond, List, [], ◌++◌, Option, Some, codes}
use Rattle.line_instance.specs.Line.{Line, tasks}
use Rattle.line_rules.specs.declared.types.Certificate.{Certificate}
use Rattle.in2_reader.specs.Written.{IsIn2Text}
use Rattle.alb_reader.specs.Written.{IsAlbText}
use Rattle.cert_text.specs.Cert.{cert_text}
use Rattle.task_names.specs.Naming.{names_for}
use Rattle.table_text.specs.TableText.{has_pair, table_text}
use Rattle.line_words.specs.declared.job.FormWord.{FormWord}
use Rattle.line_words.specs.declared.job.FormWord.TheVariants.{In2, Alb, Csv, Cert}
use Rattle.command_outcome.specs.Outcome.{Files, Outside, Outcome}
use Rattle.command_outcome.specs.Wrote.{wrote, written_line}
use Rattle.command_outcome.specs.declared.report.Kept.TheVariants.{Nothing}
use Rattle.command_outcome.specs.declared.status.Status.TheVariants as ends
use Rattle.input_files.specs.Instance.{IsLineGiven, IsNoLine, cycle_of, naming_of}
use Rattle.input_files.specs.Certificate.{IsCertificateOf, IsNoCertificate}

-- the bytes are the canonical text of the line, whose tasks have these names, in a form; IN2 has no cycle time, and a
-- table none either
abbrev pub IsTextIn : FormWord → Line → List (List ℕ) → Option ℕ → List ℕ → Type 0
IsTextIn In2 line names cycle bytes = IsIn2Text line bytes
IsTextIn Alb line names cycle bytes = IsAlbText line cycle bytes
IsTextIn Csv line names cycle bytes = bytes ≡ table_text line names
IsTextIn Cert line names cycle bytes = ⊥

-- what is told of a form that has no pairs of tasks that are apart, where the line has some
abbrev pub left_out : FormWord → Line → List ℕ
left_out In2 line = cond (has_pair line) (codes "apart left out\n") []
left_out Alb line = cond (has_pair line) (codes "apart left out\n") []
left_out Csv line = []
left_out Cert line = []

-- done, with a page of this name and these bytes, and more told behind the line about it
abbrev pub wrote_and : List ℕ → List ℕ → List ℕ → Outcome
wrote_and name bytes more =
    record {
      status = ends.Done;
      text = written_line name ++ more;
      page = Some (record { name = name; bytes = bytes });
      kept = Nothing;
    }

-- The files say an instance, and what is written is its canonical text in the form, with the names that the first file
-- gives its tasks, and with the cycle time of the words, or else of that file.
pub record IsLineConverted (files : Files) (name to_name : List ℕ) (to : FormWord) (apart : Option (List ℕ))
    (word : Option ℕ) (out : Outcome) : Type 0 where
  pub line : Line
  pub given : Option ℕ
  pub said : IsLineGiven files name apart line given
  pub bytes : List ℕ
  pub written : IsTextIn to line (names_for (naming_of files name) (tasks line)) (cycle_of word given) bytes
  pub shown : out ≡ wrote_and to_name bytes (left_out to line)

-- A file says a certificate, and what is written is its text in version 2.
pub record IsCertConverted (files : Files) (name to_name : List ℕ) (out : Outcome) : Type 0 where
  pub cert : Certificate
  pub said : IsCertificateOf files name cert
  pub shown : out ≡ wrote to_name (cert_text cert)

-- What `convert` comes to: an instance in another form, or why the files say none; or a certificate anew, or why the
-- file says none.
abbrev pub IsConvertOutcome : Outside → List ℕ → List ℕ → FormWord → Option (List ℕ) → Option ℕ → Outcome → Type 0
IsConvertOutcome o name to_name to apart word out =
    ((to ≢ Cert) × (IsLineConverted o.files name to_name to apart word out ⊎ IsNoLine o name apart out))
    ⊎ ((to ≡ Cert) × (IsCertConverted o.files name to_name out ⊎ IsNoCertificate o name out))
