-- The core machine: its state, what each event answers and does, and a run of events.
use Rattle.std.specs.Prelude.{ℕ, suc, Bool, cond, ◌&&◌, nat_le, nat_lt, List, [], ◌∷◌, ◌++◌, length, slice_get, Option}
use Rattle.std.specs.Prelude.{Some, None}
use Rattle.std.specs.Bool.{beq}
use lib.Pointwise.{pointwise}
use Rattle.line_rules.specs.lines.Line.{Line}
use Rattle.line_rules.specs.declared.types.LineKind.{LineKind}
use Rattle.line_rules.specs.declared.types.Entry.{Entry}
use Rattle.line_rules.specs.declared.types.Balance.{Balance as Assignment}
use Rattle.lemma_core.specs.declared.types.Looked.{Looked}
use Rattle.lemma_core.specs.declared.types.Looked.TheVariants as looked
use Rattle.lemma_core.specs.declared.types.Offered.TheVariants as offered
use Rattle.lemma_core.specs.declared.types.Event.{Event}
use Rattle.lemma_core.specs.declared.types.Event.TheVariants as event
use Rattle.lemma_core.specs.declared.types.Reply.{Reply}
use Rattle.lemma_core.specs.declared.types.Reply.TheVariants as reply

-- what a machine is about: the line, its kind, and the cycle at which it is asked
pub record About : Type 0 where
  pub line : Line
  pub kind : LineKind
  pub cycle : ℕ

-- a state of the machine: the entries, and the best balance
pub record State : Type 0 where
  pub entries : List Entry
  pub best : Assignment

-- whether the entry answers the question
abbrev pub answers : Entry → List Bool → ℕ → ℕ → Bool
answers e set most cycle = pointwise beq e.set set && (nat_le most e.most && nat_le cycle e.cycle)

-- the later of two places
abbrev pub later : Option ℕ → Option ℕ → Option ℕ
later (Some i) o = Some i
later None o = o

-- the number of the last entry that answers the question, the first entry having the number k; None where no entry does
abbrev pub last_from : ℕ → List Entry → List Bool → ℕ → ℕ → Option ℕ
last_from k [] set most cycle = None
last_from k (e ∷ es) set most cycle = later (last_from (suc k) es set most cycle)
    (cond (answers e set most cycle) (Some k) None)

-- the same, numbered from 0
abbrev pub last_answer : List Entry → List Bool → ℕ → ℕ → Option ℕ
last_answer es set most cycle = last_from 0 es set most cycle

-- the stations of an entry
abbrev pub most_of : Option Entry → ℕ
most_of None = 0
most_of (Some e) = e.most

-- Look: the last entry that answers, with its number and its stations; Absent where none does
abbrev pub found : List Entry → Option ℕ → Looked
found es None = looked.Absent
found es (Some id) = looked.Found id (most_of (slice_get es id))

-- Publish: Known with the last entry that answers; Added with the number of entries where none does
abbrev pub published : List Entry → Option ℕ → Reply
published es (Some id) = reply.Known id
published es None = reply.Added (length es)

-- the balance has fewer stations than the best
abbrev pub is_better : State → Assignment → Bool
is_better s b = nat_lt b.stations s.best.stations

-- what the machine answers to an event, at cycle c
abbrev pub answer : ℕ → State → Event → Reply
answer c s (event.Look set most) = reply.Looked (found s.entries (last_answer s.entries set most c))
answer c s (event.Publish e) = published s.entries (last_answer s.entries e.set e.most e.cycle)
answer c s (event.Offer b) = reply.Offered (cond (is_better s b) offered.Better offered.NotBetter)

-- an entry is put at the end where none answers it
abbrev pub with_entry : Option ℕ → State → Entry → State
with_entry (Some id) s e = s
with_entry None s e = record { entries = s.entries ++ e ∷ []; best = s.best }

-- the state after an event: a look changes nothing, an unanswered entry is added, and a better balance becomes the best
abbrev pub step : State → Event → State
step s (event.Look set most) = s
step s (event.Publish e) = with_entry (last_answer s.entries e.set e.most e.cycle) s e
step s (event.Offer b) = cond (is_better s b) (record { entries = s.entries; best = b }) s

-- the state after all events
abbrev pub run : State → List Event → State
run s [] = s
run s (v ∷ vs) = run (step s v) vs

-- the answers to all events, in order
abbrev pub answers_of : ℕ → State → List Event → List Reply
answers_of c s [] = []
answers_of c s (v ∷ vs) = answer c s v ∷ answers_of c (step s v) vs
