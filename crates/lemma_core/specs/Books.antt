-- A book as contracts see it, and as a desk that is alone.
use Rattle.std.specs.Prelude.{◌≡◌, ℕ, ◌+◌, ◌-◌, ◌≤◌, nat_le, true, List, ◌∷◌, [], ◌++◌, length}
use Rattle.std.specs.List.{range_with_len}
use Rattle.line_rules.specs.lines.Line.{tasks}
use Rattle.line_rules.specs.Balance.{IsRight}
use Rattle.line_rules.specs.Entries.{IsDerived, IsFresh}
use Rattle.line_rules.specs.declared.types.Entry.{Entry}
use Rattle.line_rules.specs.declared.types.Balance.{Balance as Assignment}
use Rattle.lemma_core.specs.declared.types.Published.{Published}
use Rattle.lemma_core.specs.declared.types.Published.TheVariants as published
use Rattle.lemma_core.specs.declared.types.Event.{Event}
use Rattle.lemma_core.specs.declared.types.Event.TheVariants as event
use Rattle.lemma_core.specs.declared.types.Reply.{Reply}
use Rattle.lemma_core.specs.declared.types.Reply.TheVariants as reply
use Rattle.lemma_core.specs.Machine.{About, State, answer, answers_of, run}
use Rattle.lemma_core.specs.History.{Item, Standing, history, standing, replay, AreExact, offers}
use Rattle.lemma_core.specs.Desks.{DeskView}
use Rattle.lemma_core.specs.Own.{AreStatable}

-- What a book is about; the state that it opened with; its state; the events since then; and for how many offers its
-- log has room.
pub record BookView : Type 0 where
  pub about : About
  pub opening : Standing
  pub state : State
  pub events : List Item
  pub room : ℕ

-- What is true of every book: its entries are derived, fresh and such as a certificate can say, its best balance is
-- right at its cycle, its events are exact, each at its turn, and replay from the opening state to the entries and
-- the best's stations, and the best has at most as many stations as there are tasks, with each better offer fewer.
pub record IsBook (b : BookView) : Type 0 where
  pub derived : IsDerived b.about.kind b.about.line b.state.entries
  pub fresh : IsFresh b.state.entries
  pub statable : AreStatable b.state.entries
  pub right : IsRight b.about.kind b.about.line b.about.cycle b.state.best
  pub replays : replay b.opening b.events ≡ standing b.state
  pub exact : AreExact b.opening b.events
  pub fewer : b.state.best.stations + offers b.events ≤ tasks b.about.line

-- the room for offers was made: it and the offers so far are together at least as many as the tasks
abbrev pub IsReserved : BookView → Type 0
IsReserved b = tasks b.about.line ≤ b.room + offers b.events

-- a balance that a book may be given: right at the cycle, with at most as many stations as there are tasks
pub record MayBeBest (about : About) (b : Assignment) : Type 0 where
  pub right : IsRight about.kind about.line about.cycle b
  pub few : b.stations ≤ tasks about.line

-- a book without an entry and an event, with its first balance
abbrev pub opened : About → Assignment → BookView
opened about b = record {
  about = about;
  opening = record { entries = []; stations = b.stations };
  state = record { entries = []; best = b };
  events = [];
  room = 0;
}

-- the book at another cycle: its entries and a balance are its opening state, and its log is empty
abbrev pub reopened : BookView → ℕ → Assignment → ℕ → BookView
reopened b cycle best room = record {
  about = record { line = b.about.line; kind = b.about.kind; cycle = cycle };
  opening = record { entries = b.state.entries; stations = best.stations };
  state = record { entries = b.state.entries; best = best };
  events = [];
  room = room;
}

-- the book after events: the core machine ran, its history went on, and each better offer used room for one
abbrev pub ran : BookView → List Event → BookView
ran b vs = record {
  about = b.about;
  opening = b.opening;
  state = run b.state vs;
  events = b.events ++ history b.state vs;
  room = b.room - offers (history b.state vs);
}

-- the book with another room for offers
abbrev pub with_room : BookView → ℕ → BookView
with_room b room = record { about = b.about; opening = b.opening; state = b.state; events = b.events; room = room }

-- what publishing does to a book: the core machine answers, and the event is done; or, out of memory, nothing is
abbrev pub DoesPublish : BookView → Entry → Published → BookView → Type 0
DoesPublish old e (published.Known id) new = (answer old.about.cycle old.state (event.Publish e) ≡ reply.Known id)
    × (new ≡ ran old (event.Publish e ∷ []))
DoesPublish old e (published.Added id) new = (answer old.about.cycle old.state (event.Publish e) ≡ reply.Added id)
    × (new ≡ ran old (event.Publish e ∷ []))
DoesPublish old e published.NoMemory new = new ≡ old

-- Some of the events were done, from the first on, and no other: the answers to these were appended.
pub record DidSome (old : BookView) (vs : List Event) (rs : List Reply) (new : BookView)
    (all : List Reply) : Type 0 where
  pub done : List Event
  pub left : List Event
  pub events : done ++ left ≡ vs
  pub replies : all ≡ rs ++ answers_of old.about.cycle old.state done
  pub book : new ≡ ran old done

-- a book as a desk: it is alone, has seen all its events, and each is its own
abbrev pub desk_of : BookView → DeskView
desk_of b = record {
  about = b.about;
  opening = b.opening;
  seen = b.events;
  own = range_with_len 0 (length b.events);
  alone = true;
  roomy = nat_le (tasks b.about.line) (b.room + offers b.events);
  kept = [];
}
