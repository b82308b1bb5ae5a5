-- A worked row: five events on an empty book.
use Rattle.std.specs.Prelude.{◌≡◌, List, [], ◌∷◌}
use Rattle.line_rules.specs.Balance.{all_tasks}
use Rattle.worked_lines.specs.Rows.{five_free, at}
use Rattle.line_rules.specs.declared.types.Why.TheVariants as why
use Rattle.lemma_core.specs.declared.types.Event.{Event}
use Rattle.lemma_core.specs.declared.types.Event.TheVariants as event
use Rattle.lemma_core.specs.declared.types.Looked.TheVariants as looked
use Rattle.lemma_core.specs.declared.types.Offered.TheVariants as offered
use Rattle.lemma_core.specs.declared.types.Reply.TheVariants as reply
use Rattle.lemma_core.specs.Machine.{State, answers_of}
use Rattle.lemma_core.specs.History.{history, added, known}

-- an empty book of the five tasks, whose best balance has three stations
abbrev pub empty_book : State
empty_book = record { entries = []; best = record { stations = 3; place = at 1 ∷ at 2 ∷ at 1 ∷ at 2 ∷ at 3 ∷ [] } }

-- publish that the tasks have no balance in one station; look for one station, then for two; publish it again; offer
-- a balance of three
abbrev pub five_events : List Event
five_events =
    event.Publish (record { set = all_tasks five_free; most = 1; cycle = 7; why = why.Bound }) ∷ event.Look
    (all_tasks five_free) 1 ∷ event.Look (all_tasks five_free) 2
    ∷ event.Publish (record { set = all_tasks five_free; most = 1; cycle = 7; why = why.Bound }) ∷ event.Offer
    (record { stations = 3; place = [] }) ∷ []

-- It is added with the number 0, found, not found, known, and not better; the history has two items.
pub record EventsOfTheRows : Type 0 where
  pub answers : answers_of 7 empty_book five_events
      ≡ reply.Added 0 ∷ reply.Looked (looked.Found 0 1) ∷ reply.Looked looked.Absent ∷ reply.Known 0 ∷ reply.Offered
      offered.NotBetter ∷ []
  pub items : history empty_book five_events ≡ added 0 (record {
    set = all_tasks five_free;
    most = 1;
    cycle = 7;
    why = why.Bound;
  }) ∷ known 0 1 ∷ []
