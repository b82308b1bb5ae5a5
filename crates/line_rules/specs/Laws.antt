-- Laws over the definitions.
use Rattle.std.specs.Prelude.{◌≡◌, ℕ, ◌<◌, ◌≤◌, ◌⊎◌, Bool, false, List, [], ◌∷◌, ◌++◌, take, slice_get, Option, Some}
use Rattle.line_instance.specs.Truths.{In, IsSubset, count}
use Rattle.line_instance.specs.Line.{Line, IsLine, IsRanked, IsTaskSet, has, tasks, time}
use Rattle.line_rules.specs.Balance.{IsBalance, Holds, IsRight, all_tasks}
use Rattle.line_rules.specs.Bounds.{bound}
use Rattle.line_rules.specs.Loads.{IsLoad, rest}
use Rattle.line_rules.specs.Order.{Precedes, Lists, UpTo}
use Rattle.line_rules.specs.Entries.{Answers, IsOpen, Follows, IsDerived, IsFresh, IsFreshAt}
use Rattle.line_rules.specs.Units.{UnitsOf, UnitsAt, UnitsWhole}
use Rattle.line_rules.specs.Accepted.{HasBalance, IsAccepted, IsInfeasible, IsLeastStations, IsLeastCycle}
use Rattle.line_rules.specs.Ranked.{IsRankedBalance}
use Rattle.line_rules.specs.declared.types.LineKind.{LineKind}
use Rattle.line_rules.specs.declared.types.Mode.{Mode}
use Rattle.line_rules.specs.declared.types.Seatplace.{Seatplace}
use Rattle.line_rules.specs.declared.types.Balance.{Balance as Assignment}
use Rattle.line_rules.specs.declared.types.Load.{Load}
use Rattle.line_rules.specs.declared.types.Entry.{Entry}
use Rattle.line_rules.specs.declared.types.Trail.{Trail}
use Rattle.line_rules.specs.declared.types.Ask.{Ask}
use Rattle.line_rules.specs.declared.types.Ask.TheVariants as ask
use Rattle.line_rules.specs.declared.types.Certificate.{Certificate}

-- a ranked balance is a right balance, with at most one station per task
abbrev pub EveryRankedBalanceIsRight : Type 0
EveryRankedBalanceIsRight = (kind : LineKind) (line : Line) (c : ℕ) (b : Assignment) → IsLine line
    → IsRankedBalance kind line c b → IsRight kind line c b × (b.stations ≤ tasks line)

-- Soundness: in a derived list every entry holds, whatever the line and its kind
abbrev pub EveryEntryHolds : Type 0
EveryEntryHolds =
    (kind : LineKind) (line : Line) → IsLine line → (es : List Entry) → IsDerived kind line es
    → (k : ℕ) (e : Entry) → slice_get es k ≡ Some e → Holds kind line e.cycle e.set e.most

-- a set whose bound exceeds r has no balance in r stations
abbrev pub EveryBoundHolds : Type 0
EveryBoundHolds = (kind : LineKind) (line : Line) (c : ℕ) → 1 ≤ c → (R : List Bool) (r : ℕ) → r < bound kind line c R
    → Holds kind line c R r

-- a balance of a set is one of each subset, at each greater cycle, and in more stations
abbrev pub EveryBalanceCarriesOver : Type 0
EveryBalanceCarriesOver =
    (kind : LineKind) (line : Line) (c d : ℕ) (R S : List Bool) (r s : ℕ) (place : ℕ → Seatplace)
    → c ≤ d → r ≤ s → IsSubset S R → IsBalance kind line c R r place → IsBalance kind line d S s place

-- what has no balance has none with more tasks, at a lesser cycle, or in fewer stations
abbrev pub EveryRefusalCarriesOver : Type 0
EveryRefusalCarriesOver =
    (kind : LineKind) (line : Line) (c d : ℕ) (R S : List Bool) (r s : ℕ)
    → c ≤ d → r ≤ s → IsSubset S R → Holds kind line d S s → Holds kind line c R r

-- tasks that each fit a station have a balance with one task per station, in as many stations as there are of them
abbrev pub EachTaskMayStandAlone : Type 0
EachTaskMayStandAlone =
    (kind : LineKind) (line : Line) (c : ℕ) (R : List Bool) → IsLine line → IsRanked line → IsTaskSet line R
    → ((i : ℕ) → In R i → time line i ≤ c)
    → (place : ℕ → Seatplace) × IsBalance kind line c R (count R) place
    × ((i j : ℕ) → In R i → In R j → (place i).station ≡ (place j).station → i ≡ j)

-- the order of loads is strict: no load stands before itself, and what stands before a load that stands before a third
-- does so too
pub record OrderIsStrict : Type 0 where
  pub never : (line : Line) (a : Load) → Precedes line a a → ⊥
  pub on : (line : Line) (a b c : Load) → Precedes line a b → Precedes line b c → Precedes line a c

-- the order of loads is total: of two loads of a set, one stands before the other, or they are the same
abbrev pub OrderIsTotal : Type 0
OrderIsTotal =
    (line : Line) → IsRanked line → (c : ℕ) (mode : Mode) (R : List Bool) (a b : Load) → IsLoad line c mode R a
    → IsLoad line c mode R b
    → (a ≡ b) ⊎ (Precedes line a b ⊎ Precedes line b a)

-- there is one list of the loads of a set, one of those up to a last one, and one of the full loads whose rest the
-- bound leaves open
pub record ListsAreUnique : Type 0 where
  pub loads : (line : Line) (c : ℕ) (mode : Mode) (R : List Bool) (xs ys : List Load)
      → Lists line (IsLoad line c mode R) xs → Lists line (IsLoad line c mode R) ys → xs ≡ ys
  pub some : (line : Line) (c : ℕ) (mode : Mode) (R : List Bool) (last : Option Load) (xs ys : List Load)
      → Lists line (λ l. IsLoad line c mode R l × UpTo line last l) xs
      → Lists line (λ l. IsLoad line c mode R l × UpTo line last l) ys → xs ≡ ys
  pub left : (kind : LineKind) (line : Line) (c : ℕ) (mode : Mode) (R : List Bool) (most : ℕ) (xs ys : List Load)
      → Lists line (IsOpen kind line c mode R most) xs → Lists line (IsOpen kind line c mode R most) ys → xs ≡ ys

-- each set of tasks has a list of its loads in a mode, and a list of the full ones whose rest the bound leaves open
pub record EachSetHasItsLists : Type 0 where
  pub loads : (line : Line) → IsLine line → IsRanked line → (c : ℕ) (mode : Mode) (R : List Bool) → IsTaskSet line R
      → (ls : List Load) × Lists line (IsLoad line c mode R) ls
  pub left : (kind : LineKind) (line : Line) → IsLine line → IsRanked line → (c : ℕ) (mode : Mode) (R : List Bool)
      → IsTaskSet line R → (most : ℕ)
      → (ls : List Load) × Lists line (IsOpen kind line c mode R most) ls

-- entries and a trail have one number of units
abbrev pub UnitsAreUnique : Type 0
UnitsAreUnique = (line : Line) (es : List Entry) (trail : Option Trail) (a b : ℕ) → UnitsWhole line es trail a
    → UnitsWhole line es trail b → a ≡ b

-- the entries of a derived list have a number of units
abbrev pub DerivedHasUnits : Type 0
DerivedHasUnits = (kind : LineKind) (line : Line) → IsLine line → IsRanked line → (es : List Entry)
    → IsDerived kind line es → (units : ℕ) × UnitsOf line es units

-- entries of which none is answered by an earlier one are so at each cycle
abbrev pub FreshIsFreshAtEach : Type 0
FreshIsFreshAtEach = (es : List Entry) (X : ℕ) → IsFresh es → IsFreshAt X es

-- the units at a cycle are at most those of all the entries and the trail
abbrev pub UnitsAtAreAtMostWhole : Type 0
UnitsAtAreAtMostWhole =
    (line : Line) (X : ℕ) (es : List Entry) (trail : Option Trail) (a b : ℕ)
    → UnitsAt line X es trail a → UnitsWhole line es trail b → a ≤ b

-- the rest of a load of R is a set of tasks of R, and lacks a task of R
pub record IsRest (line : Line) (R S : List Bool) : Type 0 where
  pub tasks : IsTaskSet line S
  pub within : IsSubset S R
  pub less : (i : ℕ) × (In R i × (has S i ≡ false))

abbrev pub EveryRestIsSmaller : Type 0
EveryRestIsSmaller =
    (line : Line) (c : ℕ) (mode : Mode) (R : List Bool) (l : Load) → IsTaskSet line R → IsLoad line c mode R l
    → IsRest line R (rest R l)

-- what follows from a list of entries follows from each longer list that begins with it
abbrev pub FollowsFromMore : Type 0
FollowsFromMore = (kind : LineKind) (line : Line) (es more : List Entry) (e : Entry) → Follows kind line es e
    → Follows kind line (es ++ more) e

-- an entry that answers the question of an entry answers what that one answers
abbrev pub AnswersLeadOn : Type 0
AnswersLeadOn = (a b : Entry) (set : List Bool) (most cycle : ℕ) → Answers a b.set b.most b.cycle
    → Answers b set most cycle → Answers a set most cycle

-- a derived list stays one with an entry more that follows from it, and so does each beginning of it
pub record DerivedGrows : Type 0 where
  pub more : (kind : LineKind) (line : Line) (es : List Entry) (e : Entry) → IsDerived kind line es
      → Follows kind line es e → IsDerived kind line (es ++ e ∷ [])
  pub less : (kind : LineKind) (line : Line) (es : List Entry) (n : ℕ) → IsDerived kind line es
      → IsDerived kind line (take n es)

-- What an accepted certificate proves: all tasks have a balance at the upper bound, and none below the lower bound.
abbrev pub IsProved : LineKind → Line → Ask → ℕ → ℕ → Type 0
IsProved kind line (ask.Stations cycle) lower upper =
    HasBalance kind line cycle upper × ((r : ℕ) → r < lower → Holds kind line cycle (all_tasks line) r)
IsProved kind line (ask.Cycle stations) lower upper =
    HasBalance kind line upper stations × ((c : ℕ) → 1 ≤ c → c < lower → Holds kind line c (all_tasks line) stations)

-- the bounds of an accepted certificate are true
abbrev pub EveryAcceptedBoundIsTrue : Type 0
EveryAcceptedBoundIsTrue =
    (line : Line) (cert : Certificate) (lower upper units : ℕ) → IsLine line → IsAccepted line cert lower upper units
    → IsProved cert.kind line cert.ask lower upper

-- where the bounds of an accepted certificate meet they are what is asked for: the least number of stations, or the
-- least cycle from 1
pub record AcceptedOptimumIsLeast : Type 0 where
  pub stations : (line : Line) (cert : Certificate) (cycle best units : ℕ) → IsLine line
      → cert.ask ≡ ask.Stations cycle → IsAccepted line cert best best units → IsLeastStations cert.kind line cycle best
  pub cycle : (line : Line) (cert : Certificate) (stations best units : ℕ) → IsLine line → 1 ≤ best
      → cert.ask ≡ ask.Cycle stations → IsAccepted line cert best best units → IsLeastCycle cert.kind line stations best

-- where a certificate that there is no balance is accepted, there is none, in any number of stations
abbrev pub NoBalanceIsLeft : Ask → LineKind → Line → Type 0
NoBalanceIsLeft (ask.Stations cycle) kind line = (r : ℕ) → Holds kind line cycle (all_tasks line) r
NoBalanceIsLeft (ask.Cycle stations) kind line = ⊥

abbrev pub EveryInfeasibleCertificateIsTrue : Type 0
EveryInfeasibleCertificateIsTrue =
    (line : Line) (cert : Certificate) (i : ℕ) → IsLine line → IsInfeasible line cert i
    → NoBalanceIsLeft cert.ask cert.kind line
