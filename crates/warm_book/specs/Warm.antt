-- Which entries of an old list a book takes in, and what the book is then.
use Rattle.std.specs.Prelude.{◌≡◌, ◌⊎◌, ℕ, ◌+◌, ◌≤◌, List, [], ◌∷◌, ◌++◌, length, slice_get, Option, Some, None}
use Rattle.std.specs.Prelude.{unwrap_or}
use Rattle.line_rules.specs.Entries.{Follows}
use Rattle.line_rules.specs.Units.{UnitsBy, UnitsOf}
use Rattle.line_rules.specs.declared.types.Entry.{Entry}
use Rattle.line_rules.specs.declared.types.Why.{Why}
use Rattle.line_rules.specs.declared.types.Why.TheVariants as why
use Rattle.line_rules.specs.declared.types.Mode.{Mode}
use Rattle.lemma_core.specs.declared.types.Event.TheVariants as event
use Rattle.lemma_core.specs.Machine.{State, last_answer}
use Rattle.lemma_core.specs.Books.{BookView, ran}
use Rattle.warm_book.specs.declared.warming.Warmed.{Warmed}
use Rattle.warm_book.specs.declared.warming.Warmed.TheVariants as warmed

-- A book that takes in old entries: the book; for each old entry gone over, its number in the book where it was kept;
-- how many were kept; and the sum of the units of these.
pub record Taking : Type 0 where
  pub book : BookView
  pub numbers : List (Option ℕ)
  pub kept : ℕ
  pub units : ℕ

-- the number at a place, where there is one
abbrev pub number_at : Option (Option ℕ) → Option ℕ
number_at None = None
number_at (Some number) = number

-- the number in the book of the old entry that is cited; None where no such entry stands before, or it wasn't kept
abbrev pub new_number : List (Option ℕ) → ℕ → Option ℕ
new_number numbers cite = number_at (slice_get numbers cite)

-- a number before others, where there are these
abbrev pub with_number : Option ℕ → Option (List ℕ) → Option (List ℕ)
with_number None others = None
with_number (Some n) None = None
with_number (Some n) (Some ns) = Some (n ∷ ns)

-- the cites with their new numbers; None where one of them isn't of an old entry before that was kept
abbrev pub renumbered_cites : List (Option ℕ) → List ℕ → Option (List ℕ)
renumbered_cites numbers [] = Some []
renumbered_cites numbers (cite ∷ cites) = with_number (new_number numbers cite) (renumbered_cites numbers cites)

abbrev pub by_branch : Mode → Option (List ℕ) → Option Why
by_branch mode None = None
by_branch mode (Some cites) = Some (why.Branch mode cites)

abbrev pub by_swap : ℕ → ℕ → Option ℕ → Option Why
by_swap out into None = None
by_swap out into (Some cite) = Some (why.Swap cite out into)

-- the same reason, its cites renumbered
abbrev pub renumbered_why : List (Option ℕ) → Why → Option Why
renumbered_why numbers why.Bound = Some why.Bound
renumbered_why numbers (why.Branch mode cites) = by_branch mode (renumbered_cites numbers cites)
renumbered_why numbers (why.Swap cite out into) = by_swap out into (new_number numbers cite)
renumbered_why numbers (why.Pairs two) = Some (why.Pairs two)

abbrev pub with_why : Entry → Option Why → Option Entry
with_why e None = None
with_why e (Some w) = Some (record { set = e.set; most = e.most; cycle = e.cycle; why = w })

-- the same entry, its cites renumbered
abbrev pub renumbered : List (Option ℕ) → Entry → Option Entry
renumbered numbers e = with_why e (renumbered_why numbers e.why)

-- An old entry is kept, as this entry, with so many units: its cycle is at least the book's; each of its cites names an
-- old entry before it that was kept; with its cites renumbered it follows from the book's entries; and with it, the
-- kept entries are at most `room`, and so is the sum of their units.
pub record IsKept (room : ℕ) (t : Taking) (old new : Entry) (units : ℕ) : Type 0 where
  pub cycle : t.book.about.cycle ≤ old.cycle
  pub cites : renumbered t.numbers old ≡ Some new
  pub follows : Follows t.book.about.kind t.book.about.line t.book.state.entries new
  pub count : t.kept + 1 ≤ room
  pub counted : UnitsBy t.book.about.line new new.why units
  pub sum : t.units + units ≤ room

-- the number under which a book has an entry that was published: that of the last entry that answers it, else the
-- number of entries before
abbrev pub number_of : State → Entry → ℕ
number_of s e = unwrap_or (last_answer s.entries e.set e.most e.cycle) (length s.entries)

-- the entry was published, and its number is used for later cites
abbrev pub keeping : Taking → Entry → ℕ → Taking
keeping t e units = record {
  book = ran t.book (event.Publish e ∷ []);
  numbers = t.numbers ++ Some (number_of t.book.state e) ∷ [];
  kept = t.kept + 1;
  units = t.units + units;
}

-- the old entry was passed over
abbrev pub dropping : Taking → Taking
dropping t = record { book = t.book; numbers = t.numbers ++ None ∷ []; kept = t.kept; units = t.units }

-- an old entry is kept exactly where it may be
abbrev pub Takes : ℕ → Taking → Entry → Taking → Type 0
Takes room t old next =
    ((new : Entry) × (units : ℕ) × (IsKept room t old new units × (next ≡ keeping t new units)))
    ⊎ (((new : Entry) (units : ℕ) → IsKept room t old new units → ⊥) × (next ≡ dropping t))

-- the old entries were taken in order
abbrev pub TakesAll : ℕ → Taking → List Entry → Taking → Type 0
TakesAll room t [] end = t ≡ end
TakesAll room t (old ∷ olds) end = (next : Taking) × (Takes room t old next × TakesAll room next olds end)

-- a book before it takes in old entries
abbrev pub untaken : BookView → Taking
untaken b = record { book = b; numbers = []; kept = 0; units = 0 }

-- What a book is after old entries were taken in, of which so many were kept: it is about the same and opened with the
-- same, its best balance and its room for offers stay, and entries were added behind its own, none at a smaller cycle.
-- They are at most as many as were kept, at most `room`, and so are their units.
pub record IsWarmer (room : ℕ) (old new : BookView) (kept : ℕ) : Type 0 where
  pub about : new.about ≡ old.about
  pub opening : new.opening ≡ old.opening
  pub best : new.state.best ≡ old.state.best
  pub offers : new.room ≡ old.room
  pub added : List Entry
  pub entries : new.state.entries ≡ old.state.entries ++ added
  pub cycles : (k : ℕ) (e : Entry) → slice_get added k ≡ Some e → old.about.cycle ≤ e.cycle
  pub few : length added ≤ kept
  pub within : kept ≤ room
  pub units : ℕ
  pub counted : UnitsOf old.about.line added units
  pub paid : units ≤ room

-- What warming comes to: all old entries were taken, and so many of them were kept; or memory ended behind some of
-- them.
abbrev pub IsWarmed : ℕ → BookView → List Entry → Warmed → Type 0
IsWarmed room book old (warmed.Done new kept) =
    (t : Taking) × (TakesAll room (untaken book) old t × (t.book ≡ new) × (t.kept ≡ kept))
IsWarmed room book old (warmed.NoMemory new) =
    (done : List Entry) × (left : List Entry) × (t : Taking)
    × ((done ++ left ≡ old) × TakesAll room (untaken book) done t × (t.book ≡ new))

-- it is the one answer: whoever takes in all old entries has the same book then, and kept as many
abbrev pub IsOneWarmed : ℕ → BookView → List Entry → Warmed → Type 0
IsOneWarmed room book old (warmed.Done new kept) =
    (other : BookView) (k : ℕ) → IsWarmed room book old (warmed.Done other k) → (other ≡ new) × (k ≡ kept)
IsOneWarmed room book old (warmed.NoMemory new) = Unit {0}

-- the book of an answer, and how many old entries it kept
abbrev pub GivesWarmer : ℕ → BookView → Warmed → Type 0
GivesWarmer room book (warmed.Done new kept) = IsWarmer room book new kept
GivesWarmer room book (warmed.NoMemory new) = (kept : ℕ) × IsWarmer room book new kept

-- this holds of the book of an answer
abbrev pub OfBook : (BookView → Type 0) → Warmed → Type 0
OfBook P (warmed.Done new kept) = P new
OfBook P (warmed.NoMemory new) = P new
