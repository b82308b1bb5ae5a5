-- Old entries that are walked among the old ones, side by side, and what that says of them in a book.
use Rattle.std.specs.Prelude.{◌≡◌, ℕ, ◌+◌, ◌&&◌, nat_le, Bool, true, false, not, List, length, take, slice_get, Option}
use Rattle.std.specs.Prelude.{Some, None}
use Rattle.std.specs.List.{list_all}
use Rattle.line_instance.specs.Line.{Line}
use Rattle.line_rules.specs.Entries.{Answers, Follows}
use Rattle.line_rules.specs.Units.{UnitsBy}
use Rattle.line_rules.specs.declared.types.LineKind.{LineKind}
use Rattle.line_rules.specs.declared.types.Entry.{Entry}
use Rattle.line_rules.specs.declared.types.Why.{Why}
use Rattle.line_rules.specs.declared.types.Why.TheVariants as why
use Rattle.warm_book.specs.Warm.{Taking, new_number}

-- an entry was passed over
abbrev pub is_none : Option (Option ℕ) → Bool
is_none None = false
is_none (Some None) = true
is_none (Some (Some number)) = false

-- the old entry that is cited was gone over, and passed over
abbrev pub is_dropped : List (Option ℕ) → ℕ → Bool
is_dropped numbers cite = is_none (slice_get numbers cite)

-- no cite is of an old entry that was passed over
abbrev pub has_hope : List (Option ℕ) → Why → Bool
has_hope numbers why.Bound = true
has_hope numbers (why.Branch mode cites) = list_all (λ cite. not (is_dropped numbers cite)) cites
has_hope numbers (why.Swap cite out into) = not (is_dropped numbers cite)
has_hope numbers (why.Pairs two) = true

-- an old entry may still be kept, by what is known of those gone over: its cycle is at least the book's, and it cites
-- none that was passed over
abbrev pub may_stand : List (Option ℕ) → ℕ → Entry → Bool
may_stand numbers cycle old = nat_le cycle old.cycle && has_hope numbers old.why

-- an old entry follows from old ones, with so many units
pub record IsWalked (kind : LineKind) (line : Line) (olds : List Entry) (old : Entry) (units : ℕ) : Type 0 where
  pub follows : Follows kind line olds old
  pub counted : UnitsBy line old old.why units

-- the old entry of number k follows from those before it, with so many units
pub record IsWalkedAt (kind : LineKind) (line : Line) (olds : List Entry) (k units : ℕ) : Type 0 where
  pub entry : Entry
  pub there : slice_get olds k ≡ Some entry
  pub walked : IsWalked kind line (take k olds) entry units

-- of old entries from one number on: the units of those that a walk among the old entries showed to follow
pub record AreWalked (kind : LineKind) (line : Line) (olds : List Entry) (from : ℕ)
    (walked : List (Option ℕ)) : Type 0 where
  pub each : (j units : ℕ) → slice_get walked j ≡ Some (Some units) → IsWalkedAt kind line olds (from + j) units

-- a list has under this number an entry that answers the old one: of the same set, in as many stations or more, at as
-- long a cycle or a longer one
pub record IsAnsweredAt (es : List Entry) (number : ℕ) (old : Entry) : Type 0 where
  pub entry : Entry
  pub there : slice_get es number ≡ Some entry
  pub answers : Answers entry old.set old.most old.cycle

-- each of the old entries was gone over, and is answered in the book under its number there, where it was kept
pub record AreNumbered (t : Taking) (olds : List Entry) : Type 0 where
  pub many : length t.numbers ≡ length olds
  pub each : (k number : ℕ) (old : Entry) → slice_get olds k ≡ Some old → new_number t.numbers k ≡ Some number
      → IsAnsweredAt t.book.state.entries number old

-- the units of an old entry that needs no further walk: it follows so from old entries, of which those that were kept
-- are answered in the book; nothing is said where there are none
abbrev pub IsSpared : Taking → Entry → Option ℕ → Type 0
IsSpared t old None = Unit {0}
IsSpared t old (Some units) =
    (olds : List Entry) × (AreNumbered t olds × IsWalked t.book.about.kind t.book.about.line olds old units)
