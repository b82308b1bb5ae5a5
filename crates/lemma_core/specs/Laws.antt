-- Laws over runs of the core machine.
use Rattle.std.specs.Prelude.{◌≡◌, ℕ, ◌≤◌, Bool, List, [], ◌∷◌, ◌++◌, Some, None}
use Rattle.line_rules.specs.Entries.{Follows, IsDerived, IsFresh, IsUnanswered, IsLastAnswer}
use Rattle.line_rules.specs.Balance.{IsRight}
use Rattle.line_rules.specs.declared.types.Entry.{Entry}
use Rattle.lemma_core.specs.declared.types.Event.{Event}
use Rattle.lemma_core.specs.declared.types.Event.TheVariants as event
use Rattle.lemma_core.specs.Machine.{About, State, last_answer, step, run}
use Rattle.lemma_core.specs.History.{Item, Standing, history, standing, replay, AreExact, Begins}
use Rattle.lemma_core.specs.Desks.{DeskView, entries, FollowsSeen, Keeps, Waits, Adds}
use Rattle.lemma_core.specs.Own.{IsStatable, AreStatable, named, added_of, AreAt, Did, SawOnly}

-- the search from end to end finds the last entry that answers a question, and None exactly where none does
pub record LastAnswerIsLast : Type 0 where
  pub found : (es : List Entry) (set : List Bool) (most cycle id : ℕ) → last_answer es set most cycle ≡ Some id
      → IsLastAnswer es set most cycle id
  pub absent : (es : List Entry) (set : List Bool) (most cycle : ℕ) → last_answer es set most cycle ≡ None
      → IsUnanswered es set most cycle

-- a run's history replays from the state at its start to the entries and the best's stations at its end
abbrev pub HistoryReplays : Type 0
HistoryReplays = (s : State) (vs : List Event) → replay (standing s) (history s vs) ≡ standing (run s vs)

-- each item of a run's history is exact at its turn
abbrev pub HistoryIsExact : Type 0
HistoryIsExact = (s : State) (vs : List Event) → AreExact (standing s) (history s vs)

-- an event may come: an entry that is published follows from the entries and a certificate can say it, and an offered
-- balance is right at the cycle
abbrev pub MayCome : About → State → Event → Type 0
MayCome about s (event.Look set most) = Unit {0}
MayCome about s (event.Publish e) = Follows about.kind about.line s.entries e × IsStatable e
MayCome about s (event.Offer b) = IsRight about.kind about.line about.cycle b

-- each event of a run may come at its turn
abbrev pub AllMayCome : About → State → List Event → Type 0
AllMayCome about s [] = Unit {0}
AllMayCome about s (v ∷ vs) = MayCome about s v × AllMayCome about (step s v) vs

-- a state is kept: its entries are derived, fresh and such as a certificate can say, and its best balance is right at
-- the cycle
pub record IsKept (about : About) (s : State) : Type 0 where
  pub derived : IsDerived about.kind about.line s.entries
  pub fresh : IsFresh s.entries
  pub statable : AreStatable s.entries
  pub right : IsRight about.kind about.line about.cycle s.best

-- a run of events that may come keeps that
abbrev pub RunsKeep : Type 0
RunsKeep = (about : About) (s : State) (vs : List Event) → IsKept about s → AllMayCome about s vs
    → IsKept about (run s vs)

-- a history that goes on only adds entries, and its fewest stations only fall; and what an exact history begins with
-- is exact
pub record HistoryGoesOn : Type 0 where
  pub entries : (s : Standing) (xs ys : List Item) → Begins xs ys
      → (more : List Entry) × ((replay s ys).entries ≡ (replay s xs).entries ++ more)
  pub stations : (s : Standing) (xs ys : List Item) → Begins xs ys → (replay s ys).stations ≤ (replay s xs).stations
  pub exact : (s : Standing) (xs ys : List Item) → Begins xs ys → AreExact s ys → AreExact s xs

-- what every call of a desk keeps is kept by none and by two calls, and what follows from what was seen follows still
pub record DesksGoOn : Type 0 where
  pub none : (d : DeskView) → Keeps d d
  pub both : (a b c : DeskView) → Keeps a b → Keeps b c → Keeps a c
  pub follows : (a b : DeskView) (e : Entry) → Keeps a b → FollowsSeen a e → FollowsSeen b e

-- What a desk did since it was `a`: nothing at first, the same after a call that adds no event of its own, one item
-- more after a call that adds one, and what it did in two stretches is what it did in both. Items at their places
-- stand there in a history that goes on.
pub record OwnEventsGoOn : Type 0 where
  pub none : (d : DeskView) → Did d d []
  pub waits : (a b c : DeskView) (is : List Item) → Did a b is → Waits b c → Did a c is
  pub adds : (a b c : DeskView) (is before : List Item) (item : Item) → Keeps a b → Did a b is → Adds b c before item
      → Did a c (is ++ item ∷ [])
  pub both : (a b c : DeskView) (is js : List Item) → Keeps a b → Keeps b c → Did a b is → Did b c js
      → Did a c (is ++ js)
  pub there : (h g : List Item) (places : List ℕ) (is : List Item) → Begins h g → AreAt h places is → AreAt g places is

-- what a desk has seen since it was `a`, where it is alone: its own items, by the same steps
pub record AloneSeesItsOwn : Type 0 where
  pub none : (d : DeskView) → SawOnly d d []
  pub waits : (a b c : DeskView) (is : List Item) → Keeps a b → SawOnly a b is → Waits b c → SawOnly a c is
  pub adds : (a b c : DeskView) (is before : List Item) (item : Item) → Keeps a b → SawOnly a b is
      → Adds b c before item → SawOnly a c (is ++ item ∷ [])
  pub both : (a b c : DeskView) (is js : List Item) → Keeps a b → SawOnly a b is → SawOnly b c js
      → SawOnly a c (is ++ js)

-- the entries that a desk has seen go on with those that it saw added, and an item names the same entry among them
pub record EntriesGoOn : Type 0 where
  pub more : (a b : DeskView) → Keeps a b → (es : List Entry) × (entries b ≡ entries a ++ es)
  pub added : (a b : DeskView) (is : List Item) → Keeps a b → b.seen ≡ a.seen ++ is
      → entries b ≡ entries a ++ added_of is
  pub named : (es more : List Entry) (item : Item) (e : Entry) → named es item ≡ Some e
      → named (es ++ more) item ≡ Some e
