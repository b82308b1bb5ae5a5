-- The reading of an IN2 text, line by line, as far as its form goes.
use Rattle.std.specs.Prelude.{◌≡◌, ℕ, zero, suc, Bool, true, false, cond, nat_eq, List, [], ◌∷◌, Result, Ok, Err}
use Rattle.line_io.specs.Lines.{number_in}
use Rattle.line_io.specs.declared.text.Num.{Num}
use Rattle.line_io.specs.declared.text.Num.TheVariants.{Value, NotANumber as NoNumber, Above}
use Rattle.in2_reader.specs.Pairs.{pair_for}
use Rattle.in2_reader.specs.Contents.{Lines, contents_from, lines_in}
use Rattle.in2_reader.specs.Grammar.{In2}
use Rattle.line_instance.specs.declared.arcs.Prec.{Prec}
use Rattle.in2_reader.specs.declared.pair.Meaning.{Meaning}
use Rattle.in2_reader.specs.declared.pair.Meaning.TheVariants.{Before, Apart}
use Rattle.in2_reader.specs.declared.pair.Pair.{Pair}
use Rattle.in2_reader.specs.declared.pair.Pair.TheVariants.{Arc, BadArc as NoTasks, End, Other}
use Rattle.in2_reader.specs.declared.fault.In2Fault.{In2Fault}
use Rattle.in2_reader.specs.declared.fault.In2Kind.{In2Kind}
use Rattle.in2_reader.specs.declared.fault.In2Kind.TheVariants.{NotANumber, Range, MissingTimes, MissingEnd, BadArc}
use Rattle.in2_reader.specs.declared.fault.In2Kind.TheVariants.{TooManyArcs}
use Rattle.in2_reader.specs.declared.fault.ReadError.{ReadError}
use Rattle.in2_reader.specs.declared.fault.ReadError.TheVariants as errors

-- a fault of a line
abbrev pub fault : {A : Type 0} → ℕ → In2Kind → Result A In2Fault
fault line kind = Err (record { line = line; kind = kind })

-- a time before those that follow it
abbrev pub with_time : ℕ → Result (List ℕ × Lines) In2Fault → Result (List ℕ × Lines) In2Fault
with_time t (Err e) = Err e
with_time t (Ok x) = Ok (t ∷ x.0, x.1)

abbrev pub timed : ℕ → Num → Result (List ℕ × Lines) In2Fault → Result (List ℕ × Lines) In2Fault
timed line NoNumber more = fault line NotANumber
timed line Above more = fault line Range
timed line (Value t) more = with_time t more

-- so many times, and what stands behind them; `end` is the number behind the last line
abbrev pub times_in : ℕ → ℕ → Lines → Result (List ℕ × Lines) In2Fault
times_in end zero lines = Ok ([], lines)
times_in end (suc n) [] = fault end MissingTimes
times_in end (suc n) (l ∷ lines) = timed l.0 (number_in 200000000000000 l.1) (times_in end n lines)

-- an arc before those that follow it
abbrev pub with_arc : Prec → Result (List Prec × ℕ) In2Fault → Result (List Prec × ℕ) In2Fault
with_arc a (Err e) = Err e
with_arc a (Ok x) = Ok (a ∷ x.0, x.1)

-- one pair, where `room` more may stand: the form is tested first, then the room, then the tasks
abbrev pub paired : ℕ → Bool → Pair → Result (List Prec × ℕ) In2Fault → Result (List Prec × ℕ) In2Fault
paired line full Other more = fault line NotANumber
paired line full End more = Ok ([], line)
paired line full NoTasks more = cond full (fault line TooManyArcs) (fault line BadArc)
paired line full (Arc a) more = cond full (fault line TooManyArcs) (with_arc a more)

-- pairs up to the end mark, with room for so many
abbrev pub pairs_in : ℕ → Meaning → ℕ → ℕ → Lines → Result (List Prec × ℕ) In2Fault
pairs_in end meaning tasks room [] = fault end MissingEnd
pairs_in end meaning tasks zero (l ∷ lines) = paired l.0 true (pair_for meaning tasks l.1) (fault end MissingEnd)
pairs_in end meaning tasks (suc room) (l ∷ lines) = paired l.0 false (pair_for meaning tasks l.1)
    (pairs_in end meaning tasks room lines)

-- the times before what the pairs say
abbrev pub with_times : List ℕ → Result (List Prec × ℕ) In2Fault → Result In2 In2Fault
with_times times (Err e) = Err e
with_times times (Ok x) = Ok (record { times = times; arcs = x.0; last = x.1 })

-- the pairs that stand behind the times
abbrev pub then_pairs : ℕ → ℕ → Result (List ℕ × Lines) In2Fault → Result In2 In2Fault
then_pairs end tasks (Err e) = Err e
then_pairs end tasks (Ok x) = with_times x.0 (pairs_in end Before tasks 524288 x.1)

-- times and pairs behind the number of tasks
abbrev pub counted : ℕ → ℕ → Num → Lines → Result In2 In2Fault
counted end line NoNumber lines = fault line NotANumber
counted end line Above lines = fault line Range
counted end line (Value n) lines = cond (nat_eq n 0) (fault line Range) (then_pairs end n (times_in end n lines))

-- what contents say
abbrev pub lines_said : ℕ → Lines → Result In2 In2Fault
lines_said end [] = fault end MissingTimes
lines_said end (l ∷ lines) = counted end l.0 (number_in 1024 l.1) lines

-- what a text of an instance says
abbrev pub text_said : List ℕ → Result In2 In2Fault
text_said text = lines_said (lines_in 1 text) (contents_from 1 text)

-- the pairs apart that a text says, and the line of its end mark
abbrev pub apart_said : ℕ → List ℕ → Result (List Prec × ℕ) In2Fault
apart_said tasks text = pairs_in (lines_in 1 text) Apart tasks 524288 (contents_from 1 text)

-- What a function returned, seen by view, is what reading gives, unless memory ran out.
abbrev pub Fails : {Y : Type 0} → ReadError → Result Y In2Fault → Type 0
Fails errors.Memory read = Unit {0}
Fails (errors.Fault f) read = read ≡ Err f

abbrev pub Gives : {X Y : Type 0} → (X → Y) → Result X ReadError → Result Y In2Fault → Type 0
Gives view (Ok x) read = read ≡ Ok (view x)
Gives view (Err e) read = Fails e read
