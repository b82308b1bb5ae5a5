-- Which entries of an old list are kept, with their cites renumbered (own). An entry that is kept has the number of its
-- place among the kept ones.
use Rattle.std.specs.Prelude.{◌≡◌, ◌⊎◌, ℕ, ◌+◌, ◌≤◌, List, [], ◌∷◌, ◌++◌, length, slice_get, Option, Some, None}
use Rattle.sequence_values.specs.declared.types.Times.{Times}
use Rattle.sequence_values.specs.declared.types.SeqEntry.{SeqEntry}
use Rattle.sequence_values.specs.declared.types.SeqWhy.{SeqWhy}
use Rattle.sequence_values.specs.declared.types.SeqWhy.TheVariants as why
use Rattle.sequence_rules.specs.Entries.{Follows, entry_units, units_of}
use Rattle.warm_sequence.specs.declared.warming.SeqWarmed.{SeqWarmed}
use Rattle.warm_sequence.specs.declared.warming.SeqWarmed.TheVariants as warmed

-- The entries that were kept, and for each old entry gone over its number among them, where it was kept.
pub record Taking : Type 0 where
  pub kept : List SeqEntry
  pub numbers : List (Option ℕ)

-- the number at a place, where there is one
abbrev pub number_at : Option (Option ℕ) → Option ℕ
number_at None = None
number_at (Some number) = number

-- the new number of the old entry that is cited; None where no such entry stands before, or it wasn't kept
abbrev pub new_number : List (Option ℕ) → ℕ → Option ℕ
new_number numbers cite = number_at (slice_get numbers cite)

-- a number before others, where there are these
abbrev pub with_number : Option ℕ → Option (List ℕ) → Option (List ℕ)
with_number None others = None
with_number (Some n) None = None
with_number (Some n) (Some ns) = Some (n ∷ ns)

-- the cites with their new numbers; None where one of them isn't of an old entry before that was kept
abbrev pub renumbered_cites : List (Option ℕ) → List ℕ → Option (List ℕ)
renumbered_cites numbers [] = Some []
renumbered_cites numbers (cite ∷ cites) = with_number (new_number numbers cite) (renumbered_cites numbers cites)

-- the same reason, its cites renumbered
abbrev pub by_branch : Option (List ℕ) → Option SeqWhy
by_branch None = None
by_branch (Some cites) = Some (why.Branch cites)

abbrev pub by_charge : Option (List ℕ) → Option SeqWhy
by_charge None = None
by_charge (Some cites) = Some (why.Charge cites)

abbrev pub renumbered_why : List (Option ℕ) → SeqWhy → Option SeqWhy
renumbered_why numbers why.Bound = Some why.Bound
renumbered_why numbers (why.Branch cites) = by_branch (renumbered_cites numbers cites)
renumbered_why numbers (why.Charge cites) = by_charge (renumbered_cites numbers cites)

-- the same entry, its cites renumbered
abbrev pub with_why : SeqEntry → Option SeqWhy → Option SeqEntry
with_why e None = None
with_why e (Some w) = Some (record { rem = e.rem; starts = e.starts; least = e.least; why = w })

abbrev pub renumbered : List (Option ℕ) → SeqEntry → Option SeqEntry
renumbered numbers e = with_why e (renumbered_why numbers e.why)

-- the entry was kept, behind the others
abbrev pub keeping : Taking → SeqEntry → Taking
keeping k e = record { kept = k.kept ++ e ∷ []; numbers = k.numbers ++ Some (length k.kept) ∷ [] }

-- the old entry was passed over
abbrev pub dropping : Taking → Taking
dropping k = record { kept = k.kept; numbers = k.numbers ++ None ∷ [] }

-- nothing was gone over
abbrev pub untaken : Taking
untaken = record { kept = []; numbers = [] }

module _ (t : Times) (interval reach : ℕ) (charges : List ℕ) (room : ℕ) where
  -- An old entry is kept, as this entry: each of its cites names an old entry before it that was kept; with its cites
  -- renumbered it follows from the kept ones; and with it, these are at most `room`, and so is the sum of their units.
  pub record IsKept (k : Taking) (old new : SeqEntry) : Type 0 where
    pub cites : renumbered k.numbers old ≡ Some new
    pub follows : Follows t interval reach charges k.kept new
    pub count : length k.kept + 1 ≤ room
    pub sum : units_of charges k.kept + entry_units charges new ≤ room

  -- an old entry is kept exactly where it may be
  abbrev pub Takes : Taking → SeqEntry → Taking → Type 0
  Takes k old next = ((new : SeqEntry) × (IsKept k old new × (next ≡ keeping k new)))
      ⊎ (((new : SeqEntry) → IsKept k old new → ⊥) × (next ≡ dropping k))

  -- the old entries were taken in order
  abbrev pub TakesAll : Taking → List SeqEntry → Taking → Type 0
  TakesAll k [] end = k ≡ end
  TakesAll k (old ∷ olds) end = (next : Taking) × (Takes k old next × TakesAll next olds end)

  -- these are the entries of an old list that are kept
  abbrev pub AreKept : List SeqEntry → List SeqEntry → Type 0
  AreKept old es = (k : Taking) × (TakesAll untaken old k × (k.kept ≡ es))

-- what holds of the kept entries, where memory sufficed
abbrev pub OfKept : (List SeqEntry → Type 0) → SeqWarmed → Type 0
OfKept P (warmed.Done es) = P es
OfKept P warmed.NoMemory = Unit {0}
