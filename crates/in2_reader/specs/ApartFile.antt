-- A text of pairs of tasks that are apart.
use Rattle.std.specs.Prelude.{◌≡◌, ◌⊎◌, ℕ, ◌≤◌, nat_eq, List, ◌∷◌, ◌++◌, length, map, Some}
use Rattle.line_instance.specs.declared.arcs.Prec.{Prec}
use Rattle.line_instance.specs.Walks.{ArePairs}
use Rattle.in2_reader.specs.Contents.{Lines, contents_from, lines_in}
use Rattle.in2_reader.specs.Pairs.{pair_for}
use Rattle.in2_reader.specs.Faults.{pair_fault, IsLineFault, IsEndFault}
use Rattle.in2_reader.specs.declared.pair.Meaning.TheVariants.{Apart}
use Rattle.in2_reader.specs.declared.pair.Pair.TheVariants.{Arc, End}
use Rattle.in2_reader.specs.declared.fault.In2Fault.{In2Fault}
use Rattle.in2_reader.specs.declared.fault.In2Kind.{In2Kind}
use Rattle.in2_reader.specs.declared.fault.In2Kind.TheVariants.{MissingEnd}
use Rattle.in2_reader.specs.declared.fault.ReadError.{ReadError}
use Rattle.in2_reader.specs.declared.fault.ReadError.TheVariants as errors
use Rattle.in2_reader.specs.declared.apart.ApartRead.{ApartRead}
use Rattle.in2_reader.specs.declared.apart.ApartRead.TheVariants.{Good, Fault, NoMemory}

-- the lines are these pairs of two tasks each
pub record ArePaired (tasks : ℕ) (lines : Lines) (ps : List Prec) : Type 0 where
  pub pairs : map (λ l. pair_for Apart tasks l.1) lines ≡ map Arc ps
  pub few : length ps ≤ 524288

-- the contents are the pairs, the end mark, and then anything
pub record SpellsApart (tasks : ℕ) (lines : Lines) (ps : List Prec) : Type 0 where
  pub paired : Lines
  pub mark : ℕ × List ℕ
  pub rest : Lines
  pub all : lines ≡ paired ++ mark ∷ rest
  pub are : ArePaired tasks paired ps
  pub ends : pair_for Apart tasks mark.1 ≡ End

-- the text says these pairs
abbrev pub IsApartFile : ℕ → List ℕ → List Prec → Type 0
IsApartFile tasks bytes ps = SpellsApart tasks (contents_from 1 bytes) ps

-- the contents are read
abbrev pub IsApartRead : ℕ → Lines → Type 0
IsApartRead tasks lines = (ps : List Prec) × SpellsApart tasks lines ps

-- what is wrong with a content that stands behind pairs
pub record IsWrongPair (tasks : ℕ) (before : Lines) (content : List ℕ) (kind : In2Kind) : Type 0 where
  pub ps : List Prec
  pub are : ArePaired tasks before ps
  pub wrong : pair_fault (nat_eq (length ps) 524288) (pair_for Apart tasks content) ≡ Some kind

-- the fault of a text: of the first line that no reading passes, or of its end, where the end mark is missing
abbrev pub IsApartFault : ℕ → List ℕ → In2Fault → Type 0
IsApartFault tasks bytes f = IsLineFault (IsApartRead tasks) (IsWrongPair tasks) (contents_from 1 bytes) f
    ⊎ IsEndFault (IsApartRead tasks) (λ lines kind. kind ≡ MissingEnd) (lines_in 1 bytes) (contents_from 1 bytes) f

-- Each answer with its cause: the pairs that the text says, each of two tasks, or the text's first fault.
abbrev pub IsApartAnswer : ℕ → List ℕ → ApartRead → Type 0
IsApartAnswer tasks bytes (Good ps) = IsApartFile tasks bytes ps.items × ArePairs tasks ps.items
IsApartAnswer tasks bytes (Fault f) = IsApartFault tasks bytes f
IsApartAnswer tasks bytes NoMemory = Unit {0}

-- the answer where the pairs aren't read
abbrev pub apart_refusal : ReadError → ApartRead
apart_refusal errors.Memory = NoMemory
apart_refusal (errors.Fault f) = Fault f
