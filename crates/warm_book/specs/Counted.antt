-- What a book is after it took in old entries, with the units of those that were kept.
use Rattle.std.specs.Prelude.{◌≡◌, ℕ, List}
use Rattle.line_rules.specs.declared.types.Entry.{Entry}
use Rattle.lemma_core.specs.Books.{BookView}
use Rattle.warm_book.specs.Warm.{Taking, TakesAll, untaken}
use Rattle.warm_book.specs.declared.warming.Warmed.{Warmed}
use Rattle.warm_book.specs.declared.warming.Warmed.TheVariants as warmed
use Rattle.warm_book.specs.declared.wide.Counted.{Counted}
use Rattle.warm_book.specs.declared.wide.Counted.TheVariants as counted

-- the same without the units
abbrev pub warmed_of : Counted → Warmed
warmed_of (counted.Done new kept units) = warmed.Done new kept
warmed_of (counted.NoMemory new) = warmed.NoMemory new

-- all old entries were taken, and so many of them were kept, with so many units together
abbrev pub AreCounted : ℕ → BookView → List Entry → Counted → Type 0
AreCounted room book old (counted.Done new kept units) =
    (t : Taking) × (TakesAll room (untaken book) old t × (t.book ≡ new) × (t.kept ≡ kept) × (t.units ≡ units))
AreCounted room book old (counted.NoMemory new) = Unit {0}
