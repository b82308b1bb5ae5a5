-- The seek at a tried cycle: what it may add to a book, what it comes to, and what the seeks of a search come to.
use Rattle.std.specs.Prelude.{◌≡◌, ◌⊎◌, ℕ, ◌+◌, ◌-◌, ◌*◌, ◌^◌, ◌≤◌, min, cond, nat_eq, List, ◌++◌, length, Some, None}
use Rattle.line_rules.specs.Balance.{IsRight, all_tasks}
use Rattle.line_rules.specs.Entries.{HasAnswer, IsDerived}
use Rattle.line_rules.specs.Units.{UnitsOf}
use Rattle.line_rules.specs.declared.types.Balance.{Balance as Assignment}
use Rattle.line_rules.specs.declared.types.Entry.{Entry}
use Rattle.lemma_core.specs.Books.{BookView, IsReserved}
use Rattle.line_seek.specs.Seeking.{IsKnown}
use Rattle.round_helpers.specs.Growth.{AreAtCycle}
use Rattle.round_run.specs.declared.plans.Plan.{Plan}
use Rattle.warm_book.specs.Warm.{Taking, TakesAll, untaken}
use Rattle.cycle_search.specs.declared.seek.Seeks.{Seeks}
use Rattle.cycle_search.specs.declared.seek.SoughtBook.{SoughtBook}

-- what the seek of a try may add to its book, in entries and in units: nothing where the plan has no seek, else
-- 2,500,000 less twice the units of a try (own)
abbrev pub seek_room : Plan → ℕ
seek_room plan = cond (nat_eq plan.seek 0) 0 (2500000 - 2 * plan.units)

-- what a try may add to its book: twice its units, and what its seek may (own)
abbrev pub try_room : Plan → ℕ
try_room plan = 2 * plan.units + seek_room plan

-- The seeks of a search: so many were begun, each with the loads of the plan; they listed no more, and kept no more
-- entries than there is room for in so many tries. The counts stand still at 2^64 - 1. Own.
pub record AreSeeks (plan : Plan) (s : Seeks) : Type 0 where
  pub begun : ℕ
  pub all : s.most ≡ min (begun * plan.seek) (2 ^ 64 - 1)
  pub within : s.used ≤ s.most
  pub kept : s.kept ≤ min (begun * seek_room plan) (2 ^ 64 - 1)

-- the seeks of a search with one more, which listed so many of its loads, and of whose lemmas so many were kept
abbrev pub with_seek : Seeks → ℕ → ℕ → ℕ → Seeks
with_seek s used most kept = record {
  used = min (s.used + used) (2 ^ 64 - 1);
  most = min (s.most + most) (2 ^ 64 - 1);
  kept = min (s.kept + kept) (2 ^ 64 - 1);
}

-- A seek for m stations over a book counts. Either none was begun, since the plan has none, or since it is known without
-- one that there is no balance in m stations; then nothing was found, and the counts stay. Or the loads that it listed,
-- those of the plan and the lemmas that were kept are counted; and where it found no balance, all its loads are used,
-- its lemmas refute m stations, or that is known without them. Own.
abbrev pub Counts : ℕ → Plan → BookView → Seeks → SoughtBook → List Entry → ℕ → Type 0
Counts m plan old earlier s lemmas kept =
    ((s.seeks ≡ earlier) × (s.found ≡ None) × ((plan.seek ≡ 0) ⊎ IsKnown old m))
    ⊎ ((listed : ℕ) × (listed ≤ plan.seek) × (s.seeks ≡ with_seek earlier listed plan.seek kept)
    × (s.found ≡ None → (plan.seek ≤ listed) ⊎ HasAnswer lemmas (all_tasks old.about.line) m old.about.cycle
    ⊎ IsKnown old m))

-- A seek for m stations over a book: the book took in some lemmas at its cycle, each of which follows from those before
-- it, at most one more than the loads of the plan, and so gained entries, no more than there is room for, and of no more units than are told, which the room holds
-- too. A balance that was found is right, and has at most m stations. The seeks of the search are still such, and their
-- count of kept entries grew by the number of these lemmas that the book kept. Own.
pub record HasSoughtBook (m : ℕ) (plan : Plan) (old : BookView) (earlier : Seeks) (s : SoughtBook) : Type 0 where
  pub about : s.book.about ≡ old.about
  pub best : s.book.state.best ≡ old.state.best
  pub reserved : IsReserved s.book
  pub gained : List Entry
  pub entries : s.book.state.entries ≡ old.state.entries ++ gained
  pub cycles : AreAtCycle old.about.cycle gained
  pub few : length gained ≤ seek_room plan
  pub lemmas : List Entry
  pub lemmas_at : AreAtCycle old.about.cycle lemmas
  pub lemmas_derived : IsDerived old.about.kind old.about.line lemmas
  pub lemmas_few : length lemmas ≤ plan.seek + 1
  pub taking : Taking
  pub taken : TakesAll (seek_room plan) (untaken old) lemmas taking
  pub took : taking.book ≡ s.book
  pub added : length gained ≤ taking.kept
  pub units : ℕ
  pub counted : UnitsOf old.about.line gained units
  pub paid : units ≤ s.paid
  pub within : s.paid ≤ seek_room plan
  pub found : (b : Assignment) → s.found ≡ Some b
      → IsRight old.about.kind old.about.line old.about.cycle b × (b.stations ≤ m)
  pub seeks : AreSeeks plan earlier → AreSeeks plan s.seeks
  pub counts : Counts m plan old earlier s lemmas taking.kept
  pub kept : AreSeeks plan earlier → s.seeks.kept ≡ min (earlier.kept + taking.kept) (2 ^ 64 - 1)
