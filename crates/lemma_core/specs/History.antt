-- The history of a machine: what its log keeps, and the state that replays from it.
use Rattle.std.specs.Prelude.{◌≡◌, ℕ, suc, ◌<◌, min, cond, Bool, List, [], ◌∷◌, ◌++◌, length, slice_get, Option, Some}
use Rattle.std.specs.Prelude.{None}
use Rattle.line_rules.specs.Entries.{IsUnanswered, IsLastAnswer}
use Rattle.line_rules.specs.declared.types.Entry.{Entry}
use Rattle.lemma_core.specs.declared.types.LogItem.{LogItem}
use Rattle.lemma_core.specs.declared.types.LogItem.TheVariants as log
use Rattle.lemma_core.specs.declared.types.Event.{Event}
use Rattle.lemma_core.specs.declared.types.Event.TheVariants as event
use Rattle.lemma_core.specs.Machine.{State, last_answer, is_better, step}

-- An item of the history: an entry was added, with its number; an entry was published that one of number id answers;
-- or a balance of so many stations became the best.
pub data Item : Type 0 where
  added : ℕ → Entry → Item
  known : ℕ → ℕ → Item
  better : ℕ → Item

-- what publishing an entry adds to the history
abbrev pub published_item : State → Entry → Option ℕ → Item
published_item s e (Some id) = known id e.most
published_item s e None = added (length s.entries) e

-- what an event adds to the history: a Publish one item, a better Offer one, and anything else none
abbrev pub items : State → Event → List Item
items s (event.Look set most) = []
items s (event.Publish e) = published_item s e (last_answer s.entries e.set e.most e.cycle) ∷ []
items s (event.Offer b) = cond (is_better s b) (better b.stations ∷ []) []

-- the history of a run
abbrev pub history : State → List Event → List Item
history s [] = []
history s (v ∷ vs) = items s v ++ history (step s v) vs

-- what a history tells of a state: the entries, and the stations of the best balance
pub record Standing : Type 0 where
  pub entries : List Entry
  pub stations : ℕ

abbrev pub standing : State → Standing
standing s = record { entries = s.entries; stations = s.best.stations }

-- the standing after an item
abbrev pub after : Standing → Item → Standing
after s (added id e) = record { entries = s.entries ++ e ∷ []; stations = s.stations }
after s (known id most) = s
after s (better n) = record { entries = s.entries; stations = min s.stations n }

-- the standing after all items
abbrev pub replay : Standing → List Item → Standing
replay s [] = s
replay s (i ∷ is) = replay (after s i) is

-- An item is exact at its turn: an entry is added that none answers, numbered by those before it; an entry that is
-- known is named by the last one that answers a question of so many stations; and a better balance has fewer stations
-- than the best.
abbrev pub IsExact : Standing → Item → Type 0
IsExact s (added id e) = (id ≡ length s.entries) × IsUnanswered s.entries e.set e.most e.cycle
IsExact s (known id most) = (set : List Bool) × (cycle : ℕ) × IsLastAnswer s.entries set most cycle id
IsExact s (better n) = n < s.stations

-- each item of a history is exact at its turn
abbrev pub AreExact : Standing → List Item → Type 0
AreExact s [] = Unit {0}
AreExact s (i ∷ is) = IsExact s i × AreExact (after s i) is

-- the history that a log stands for, beside the entries of the book: an Added item carries the entry of its number
abbrev pub added_item : ℕ → Option Entry → Item
added_item id (Some e) = added id e
added_item id None = known id 0

abbrev pub item_of : List Entry → LogItem → Item
item_of es (log.Added id) = added_item id (slice_get es id)
item_of es (log.Known id most) = known id most
item_of es (log.Offered stations) = better stations

abbrev pub items_of : List Entry → List LogItem → List Item
items_of es [] = []
items_of es (l ∷ ls) = item_of es l ∷ items_of es ls

-- how many better offers there are among the items
abbrev pub offers : List Item → ℕ
offers [] = 0
offers (added id e ∷ is) = offers is
offers (known id most ∷ is) = offers is
offers (better n ∷ is) = suc (offers is)

-- what a pass has seen: the list begins with it
abbrev pub Begins : List Item → List Item → Type 0
Begins seen h = (more : List Item) × (seen ++ more ≡ h)

-- a pass's own places: a rising list of places of the history
pub record AreOwn (h : List Item) (own : List ℕ) : Type 0 where
  pub rises : (k a b : ℕ) → slice_get own k ≡ Some a → slice_get own (suc k) ≡ Some b → a < b
  pub within : (k a : ℕ) → slice_get own k ≡ Some a → a < length h
