-- The kinds of step that a pass makes on the words, and what each tells it. No other step changes what a pass knows,
-- and only an attempt to take the turn changes `tries` and `met`, only a load `reads` and `read`. Own.
use Rattle.std.specs.Prelude.{◌≡◌, ◌≢◌, ℕ, suc, ◌<◌, ◌≤◌, List, [], ◌∷◌, ◌++◌, length, Option, Some, None}
use Rattle.atomic_table.specs.Table.{Step, Me}
use Rattle.lemma_core.specs.History.{Item, Begins, AreExact}
use Rattle.lemma_core.specs.Books.{BookView}
use Rattle.book_share.specs.Passes.{Idle, Holding, Recorded, Lowered, PassView}
use Rattle.book_share.specs.Places.{AreAllFrom}
use Rattle.book_share.specs.Rule.{IsFor, IsReached, OwnRises, fewest}

abbrev pub Mine : Type 0
Mine = Me (Option BookView) PassView

-- the turn was held
abbrev pub missed : PassView → PassView
missed v = record v { tries = suc v.tries; met = 1; phase = Idle }

-- the turn was had, and the whole history h seen
abbrev pub taken : PassView → List Item → PassView
taken v h = record v { seen = h; tries = suc v.tries; met = 0; phase = Holding }

-- the last event of h was recorded, at a place of the pass's own
abbrev pub recorded : PassView → List Item → PassView
recorded v h = record v { seen = h; own = v.own ++ length v.seen ∷ []; phase = Recorded }

-- the least count was lowered to that of the offer recorded
abbrev pub lowered : PassView → PassView
lowered v = record v { phase = Lowered }

-- the turn was given back
abbrev pub given : PassView → PassView
given v = record v { phase = Idle }

-- a load found n
abbrev pub loaded : PassView → ℕ → PassView
loaded v n = record v { reads = suc v.reads; read = n; phase = Idle }

-- what the taker of the turn learns of the book, which it then has
pub record IsHad (v : PassView) (b : BookView) : Type 0 where
  pub book : IsFor v.base b.events b
  pub seen : Begins v.seen b.events
  pub all : v.parts ≡ 1024 → AreAllFrom v.base.from (length b.events) v.own

-- take: where it finds 0, the turn and the book are had and the whole history is seen; else it finds 1
abbrev pub Takes : Step (Option BookView) → Mine → ℕ → Mine → Type 0
Takes st m found n =
    (found ≡ 0 → (b : BookView) × (n ≡ (taken m.0 b.events, (0, Some b) ∷ [])) × IsHad m.0 b)
    × (found ≢ 0 → (found ≡ 1) × (n ≡ (missed m.0, [])))

-- peek: nothing is learnt
abbrev pub Peeks : Step (Option BookView) → Mine → ℕ → Mine → Type 0
Peeks st m found n = n ≡ m

-- the log of the book in the slot that the seat has
abbrev pub log_in : List (ℕ × Option BookView) → List Item
log_in [] = []
log_in ((k, Some b) ∷ more) = b.events
log_in ((k, None) ∷ more) = []

-- record: the event that ends the book's log is seen, at the place that the step found
abbrev pub Records : Step (Option BookView) → Mine → ℕ → Mine → Type 0
Records st m found n = (n ≡ (recorded m.0 (log_in m.1), m.1)) × (found ≡ length m.0.seen)

abbrev pub Lowers : Step (Option BookView) → Mine → ℕ → Mine → Type 0
Lowers st m found n = n ≡ (lowered m.0, m.1)

-- give: the book is home again
abbrev pub Gives : Step (Option BookView) → Mine → ℕ → Mine → Type 0
Gives st m found n = n ≡ (given m.0, [])

-- What a load of the least count tells: it is that of a history that begins with what is seen, each of whose events is
-- exact at its turn; so many stations have a balance; and they are no more than the tasks, nor than in what is seen.
pub record IsLeastCount (v : PassView) (n : ℕ) : Type 0 where
  pub history : List Item
  pub begins : Begins v.seen history
  pub exact : AreExact v.base.opening history
  pub stations : n ≡ fewest v.base history
  pub reached : IsReached v.base.about n
  pub fewest : n ≤ fewest v.base v.seen

-- what a load of the count of events tells: it is that of a history that begins with what is seen
pub record IsEventCount (v : PassView) (n : ℕ) : Type 0 where
  pub history : List Item
  pub begins : Begins v.seen history
  pub exact : AreExact v.base.opening history
  pub count : n ≡ length history

abbrev pub LoadsBest : Step (Option BookView) → Mine → ℕ → Mine → Type 0
LoadsBest st m found n = (n ≡ (loaded m.0 found, m.1)) × IsLeastCount m.0 found × (found < 4294967296)

abbrev pub LoadsCount : Step (Option BookView) → Mine → ℕ → Mine → Type 0
LoadsCount st m found n = (n ≡ (loaded m.0 found, m.1)) × IsEventCount m.0 found

-- after a join: the own places rise, what is seen is exact, and the shorter list begins the longer one
pub record IsJoined (v : PassView) : Type 0 where
  pub rises : OwnRises v
  pub exact : AreExact v.base.opening v.seen
  pub heard : Begins v.heard v.seen

abbrev pub Settles : Step (Option BookView) → Mine → ℕ → Mine → Type 0
Settles st m found n = (n ≡ m) × IsJoined m.0
