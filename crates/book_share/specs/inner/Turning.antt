-- What a pass has in hand in a turn. Own.
use Rattle.std.specs.Prelude.{◌≡◌, ℕ, ◌≤◌, List, [], ◌∷◌, ◌++◌, length, None}
use Rattle.lemma_core.specs.History.{Item, added, known, better}
use Rattle.lemma_core.specs.Books.{BookView}
use Rattle.book_share.specs.Passes.{Holding, Idle, PassView}
use Rattle.book_share.specs.Rule.{IsFor}
use Rattle.book_share.specs.Steps.{Mine, taken, IsHad}
use Rattle.book_share.specs.inner.Inside.{IsResting}

-- the seat holds the turn and the slot, and the book from it, which is as it was
pub record Holds (m : Mine) (b : BookView) : Type 0 where
  pub phase : m.0.phase ≡ Holding
  pub slot : m.1 ≡ (0, None) ∷ []
  pub book : IsFor m.0.base m.0.seen b

-- the same, and the log of the book has one event more than was seen
pub record HasNew (m : Mine) (b : BookView) (i : Item) : Type 0 where
  pub phase : m.0.phase ≡ Holding
  pub slot : m.1 ≡ (0, None) ∷ []
  pub events : b.events ≡ m.0.seen ++ i ∷ []
  pub book : IsFor m.0.base b.events b

-- the event is no offer
abbrev pub IsQuiet : Item → Type 0
IsQuiet (added id entry) = Unit {0}
IsQuiet (known id most) = Unit {0}
IsQuiet (better stations) = ⊥

-- the pass after a turn that recorded the event that ends h
abbrev pub noted : PassView → List Item → PassView
noted v h = record v { seen = h; own = v.own ++ length v.seen ∷ []; phase = Idle }

-- the pass after some tries
abbrev pub waited : PassView → ℕ → ℕ → PassView
waited v t n = record v { tries = t; met = n; phase = Idle }

-- the turn was had after some tries
abbrev pub HasWaited : PassView → Mine → BookView → Type 0
HasWaited v m b =
    (t : ℕ) × (n : ℕ) × (v.tries ≤ t) × (m ≡ (taken (waited v t n) b.events, (0, None) ∷ [])) × IsHad (waited v t n) b

-- A turn that began with the book in hand, as m knows it, is over: what the pass has seen is exact and its own places
-- rise, and nothing else changed but these two lists.
pub record Ends (v : PassView) (m : Mine) : Type 0 where
  pub resting : IsResting m
  pub base : m.0.base ≡ v.base
  pub tries : m.0.tries ≡ v.tries
  pub met : m.0.met ≡ v.met
  pub reads : m.0.reads ≡ v.reads
  pub read : m.0.read ≡ v.read
  pub parts : m.0.parts ≡ v.parts
