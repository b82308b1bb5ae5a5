-- What reading an IN2 text answers.
use Rattle.std.specs.Prelude.{◌≡◌, ℕ, List}
use Rattle.in2_reader.specs.Grammar.{In2, IsIn2}
use Rattle.in2_reader.specs.Faults.{IsIn2Fault}
use Rattle.in2_reader.specs.declared.instance.In2Read.{In2Read}
use Rattle.in2_reader.specs.declared.instance.In2Read.TheVariants.{Good, Fault, NoMemory}
use Rattle.in2_reader.specs.declared.fault.In2Kind.TheVariants.{Cycle}
use Rattle.in2_reader.specs.declared.fault.ReadError.{ReadError}
use Rattle.in2_reader.specs.declared.fault.ReadError.TheVariants as errors
use Rattle.line_instance.specs.Line.{Line}
use Rattle.line_instance.specs.Made.{IsInstanceOf}
use Rattle.line_instance.specs.Walks.{IsRing}

-- the line is the instance of what the text says
pub record IsReading (bytes : List ℕ) (line : Line) : Type 0 where
  pub x : In2
  pub reads : IsIn2 bytes x
  pub is : IsInstanceOf x.times x.arcs line

-- Each answer with its cause: the instance of what the text says, or the text's first fault.
abbrev pub IsIn2Read : List ℕ → In2Read → Type 0
IsIn2Read bytes (Good line) = IsReading bytes line
IsIn2Read bytes (Fault f) = IsIn2Fault bytes f
IsIn2Read bytes NoMemory = Unit {0}

-- the same of a reading at hand: its instance, or its cycle
abbrev pub IsReadingOf : In2 → In2Read → Type 0
IsReadingOf x (Good line) = IsInstanceOf x.times x.arcs line
IsReadingOf x (Fault f) = (f.line ≡ x.last) × (ring : List ℕ) × (f.kind ≡ Cycle ring) × IsRing x.arcs ring
IsReadingOf x NoMemory = Unit {0}

-- the answer where a part isn't read
abbrev pub refusal : ReadError → In2Read
refusal errors.Memory = NoMemory
refusal (errors.Fault f) = Fault f
