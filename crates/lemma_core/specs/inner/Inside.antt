-- How the fields of a book stand for what contracts see of it.
use Rattle.std.specs.Prelude.{ℕ, ◌<◌, ◌≤◌, List, [], ◌∷◌, length, take}
use Rattle.line_rules.specs.lines.Line.{Line}
use Rattle.line_rules.specs.declared.types.LineKind.{LineKind}
use Rattle.line_rules.specs.declared.types.Entry.{Entry}
use Rattle.line_rules.specs.declared.types.Balance.{Balance as Assignment}
use Rattle.lemma_core.specs.declared.types.LogItem.{LogItem}
use Rattle.lemma_core.specs.declared.types.LogItem.TheVariants as log
use Rattle.lemma_core.specs.History.{items_of}
use Rattle.lemma_core.specs.Books.{BookView}

-- the number of an added entry is that of an entry
abbrev pub Below : ℕ → LogItem → Type 0
Below n (log.Added id) = id < n
Below n (log.Known id most) = Unit {0}
Below n (log.Offered stations) = Unit {0}

abbrev pub AllBelow : ℕ → List LogItem → Type 0
AllBelow n [] = Unit {0}
AllBelow n (l ∷ ls) = Below n l × AllBelow n ls

-- the book of these fields: the first `start` entries are those that it opened with
abbrev pub book_of : Line → LineKind → ℕ → List Entry → List LogItem → Assignment → ℕ → ℕ → ℕ → BookView
book_of line kind cycle es ls best start stations room = record {
  about = record { line = line; kind = kind; cycle = cycle };
  opening = record { entries = take start es; stations = stations };
  state = record { entries = es; best = best };
  events = items_of es ls;
  room = room;
}

-- what is always true of the fields, beside what is true of the book
pub record IsLogged (es : List Entry) (ls : List LogItem) (first : ℕ) : Type 0 where
  pub start : first ≤ length es
  pub below : AllBelow (length es) ls
