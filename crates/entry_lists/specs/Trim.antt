-- What is left of a list of entries that is trimmed: the first entry that answers a question, and all that it stands
-- on.
use Rattle.std.specs.Prelude.{◌≡◌, ◌↔◌, ◌⊎◌, ℕ, ◌<◌, ◌≤◌, Bool, List, [], ◌∷◌, length, map, slice_get, slice_index}
use Rattle.std.specs.Prelude.{Some}
use Rattle.std.specs.List.{Contains}
use Rattle.line_rules.specs.lines.Truths.{In}
use Rattle.line_rules.specs.Entries.{Answers}
use Rattle.line_rules.specs.declared.types.Entry.{Entry}
use Rattle.line_rules.specs.declared.types.Why.{Why}
use Rattle.line_rules.specs.declared.types.Why.TheVariants as why

-- the numbers of the entries that an entry cites
abbrev pub cited_by : Why → List ℕ
cited_by why.Bound = []
cited_by (why.Branch mode cites) = cites
cited_by (why.Swap cite out into) = cite ∷ []
cited_by (why.Pairs two) = []

-- each entry cites entries before it alone
abbrev pub CitesEarlier : List Entry → Type 0
CitesEarlier es = (k : ℕ) (e : Entry) → slice_get es k ≡ Some e → (cite : ℕ) → Contains (cited_by e.why) cite → cite < k

-- the first entry that answers the question
pub record IsFirstAnswer (es : List Entry) (set : List Bool) (most cycle id : ℕ) : Type 0 where
  pub entry : Entry
  pub there : slice_get es id ≡ Some entry
  pub answers : Answers entry set most cycle
  pub first : (k : ℕ) (e : Entry) → k < id → slice_get es k ≡ Some e → Answers e set most cycle → ⊥

-- what an entry stands on: the entry itself, and each one that is cited by one that it stands on
pub data StandsOn (es : List Entry) (goal : ℕ) : ℕ → Type 0 where
  itself : StandsOn es goal goal
  cited : (k : ℕ) (e : Entry) (cite : ℕ) → StandsOn es goal k → slice_get es k ≡ Some e → Contains (cited_by e.why) cite
      → StandsOn es goal cite

-- the numbers of the entries that an entry stands on, ascending
pub record AreKept (es : List Entry) (goal : ℕ) (numbers : List ℕ) : Type 0 where
  pub kept : (i : ℕ) → Contains numbers i ↔ StandsOn es goal i
  pub ascending : (j k a b : ℕ) → j < k → slice_get numbers j ≡ Some a → slice_get numbers k ≡ Some b → a < b

-- each of these is the place of a cite among the kept numbers
abbrev pub ArePlaces : List ℕ → List ℕ → List ℕ → Type 0
ArePlaces numbers cites places = map (slice_get numbers) places ≡ map Some cites

-- the same reason, each cite replaced by its place among the kept numbers
abbrev pub IsRenumbered : List ℕ → Why → Why → Type 0
IsRenumbered numbers why.Bound new = new ≡ why.Bound
IsRenumbered numbers (why.Branch mode cites) new = (places : List ℕ) × (new ≡ why.Branch mode places)
    × ArePlaces numbers cites places
IsRenumbered numbers (why.Swap cite out into) new = (place : ℕ) × (new ≡ why.Swap place out into)
    × (slice_get numbers place ≡ Some cite)
IsRenumbered numbers (why.Pairs two) new = new ≡ why.Pairs two

-- the same question, and the same reason with its cites renumbered
pub record IsKeptAs (numbers : List ℕ) (e new : Entry) : Type 0 where
  pub set : new.set ≡ e.set
  pub most : new.most ≡ e.most
  pub cycle : new.cycle ≡ e.cycle
  pub why : IsRenumbered numbers e.why new.why

-- at a place of the new list stands the entry of the number at that place among the kept ones
pub record IsKeptAt (es : List Entry) (numbers : List ℕ) (new : List Entry) (place : ℕ) : Type 0 where
  pub number : ℕ
  pub old : Entry
  pub entry : Entry
  pub kept : slice_get numbers place ≡ Some number
  pub there : slice_get es number ≡ Some old
  pub here : slice_get new place ≡ Some entry
  pub same : IsKeptAs numbers old entry

-- the entries of the kept numbers, in order
pub record AreKeptEntries (es : List Entry) (numbers : List ℕ) (new : List Entry) : Type 0 where
  pub as_many : length new ≡ length numbers
  pub each : (place : ℕ) → place < length new → IsKeptAt es numbers new place

-- The first entry that answers the question, and all that it stands on, in order, with cites renumbered.
pub record IsTrimmed (es : List Entry) (set : List Bool) (most cycle : ℕ) (new : List Entry) : Type 0 where
  pub goal : ℕ
  pub first : IsFirstAnswer es set most cycle goal
  pub numbers : List ℕ
  pub kept : AreKept es goal numbers
  pub entries : AreKeptEntries es numbers new

-- marks, and those of these numbers too
pub record AreMarked (old : List Bool) (cites : List ℕ) (new : List Bool) : Type 0 where
  pub as_many : length new ≡ length old
  pub each : (i : ℕ) → In new i ↔ (In old i ⊎ Contains cites i)

-- the marks are those of what an entry stands on
pub record AreMarks (es : List Entry) (goal : ℕ) (marks : List Bool) : Type 0 where
  pub as_many : length marks ≡ length es
  pub each : (i : ℕ) → In marks i ↔ StandsOn es goal i

-- what is marked is there, and what a marked entry cites is marked and comes before it
pub record AreClosed (es : List Entry) (marks : List Bool) : Type 0 where
  pub there : length marks ≤ length es
  pub closed : (k : ℕ) (e : Entry) (cite : ℕ) → In marks k → slice_get es k ≡ Some e → Contains (cited_by e.why) cite
      → In marks cite × (cite < k)

-- a reason whose cites are looked up in a list of places
abbrev pub why_at : List ℕ → Why → Why
why_at places why.Bound = why.Bound
why_at places (why.Branch mode cites) = why.Branch mode (map (slice_index places) cites)
why_at places (why.Swap cite out into) = why.Swap (slice_index places cite) out into
why_at places (why.Pairs two) = why.Pairs two

abbrev pub entry_at : List ℕ → Entry → Entry
entry_at places e = record e { why = why_at places e.why }
