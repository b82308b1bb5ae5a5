-- What `draw` comes to.
use Rattle.std.specs.Prelude.{◌≡◌, ◌≢◌, ◌⊎◌, ℕ, List, Option, Some}
use Rattle.line_instance.specs.Line.{Line}
use Rattle.line_rules.specs.declared.types.Certificate.{Certificate}
use Rattle.line_drawing.specs.Drawing.{drawing_text}
use Rattle.line_drawing.specs.Facts.{IsTrueDrawing}
use Rattle.task_names.specs.declared.naming.Naming.{Naming}
use Rattle.task_names.specs.declared.naming.Naming.TheVariants.{Numbered, Named}
use Rattle.named_drawing.specs.NamedDrawing.{named_drawing_text}
use Rattle.named_drawing.specs.NamedFacts.{ListsEachTask, LabelsEachTask}
use Rattle.named_drawing.specs.Xml.{IsWellFormed}
use Rattle.command_outcome.specs.Outcome.{Files, Outside, Outcome}
use Rattle.command_outcome.specs.Wrote.{wrote}
use Rattle.input_files.specs.Instance.{IsLineOf, naming_of}
use Rattle.input_files.specs.Certificate.{IsCertificateOf}
use Rattle.command_draw.specs.Drawable.{IsDrawable, IsNotShown}

-- the picture of a certificate, as the tasks are called
abbrev pub picture_of : Naming → Line → Certificate → List ℕ
picture_of Numbered line cert = drawing_text line cert
picture_of (Named names) line cert = named_drawing_text line names cert

-- a picture with names lists each task, labels each or notes it, and is well-formed XML
abbrev pub ShowsNames : Naming → Line → Certificate → Type 0
ShowsNames Numbered line cert = Unit {0}
ShowsNames (Named names) line cert = ListsEachTask line names cert
    × (LabelsEachTask line names cert × IsWellFormed (named_drawing_text line names cert))

-- The files say a line and a certificate that can be drawn for it, and what is written is its picture, with the names
-- that the first file gives.
pub record IsDrawn (files : Files) (name proof to_name : List ℕ) (apart : Option (List ℕ))
    (out : Outcome) : Type 0 where
  pub line : Line
  pub cert : Certificate
  pub said : IsLineOf files name apart line
  pub read : IsCertificateOf files proof cert
  pub drawable : IsDrawable line cert
  pub shown : out ≡ wrote to_name (picture_of (naming_of files name) line cert)

-- What `draw` comes to: a picture in a file; or why the files say no line, no certificate, or none that can be drawn.
-- A later file is named only where the earlier ones were read.
abbrev pub IsDrawOutcome : Outside → List ℕ → List ℕ → List ℕ → Option (List ℕ) → Outcome → Type 0
IsDrawOutcome o name proof to_name apart out =
    IsDrawn o.files name proof to_name apart out ⊎ IsNotShown o name proof apart out

-- What a run that is done has done: its files said a line and a certificate whose balance is right and shows the
-- upper bound; the picture of it is true of the line and stands whole in the file that was to be written; the other
-- files stay.
pub record IsTrulyDrawn (files after : Files) (name proof to_name : List ℕ) (apart : Option (List ℕ)) : Type 0 where
  pub line : Line
  pub cert : Certificate
  pub said : IsLineOf files name apart line
  pub read : IsCertificateOf files proof cert
  pub right : IsDrawable line cert
  pub true_picture : IsTrueDrawing line cert
  pub names : ShowsNames (naming_of files name) line cert
  pub written : after to_name ≡ Some (picture_of (naming_of files name) line cert)
  pub others : (q : List ℕ) → q ≢ to_name → after q ≡ files q
