-- What the check of an entry finds: that it follows, the first thing that is wrong with it, or that the steps ended.
use Rattle.std.specs.Prelude.{◌≡◌, ℕ, ◌<◌, ◌≤◌, ◌⊎◌, Bool, List, length}
use Rattle.line_instance.specs.Truths.{In, IsEmpty}
use Rattle.line_instance.specs.Line.{Line}
use Rattle.line_rules.specs.Loads.{IsLoad, Belongs}
use Rattle.line_rules.specs.Bounds.{bound}
use Rattle.line_rules.specs.Entries.{IsOpen, Follows, FollowsBySwap}
use Rattle.line_rules.specs.Pairs.{IsRefutedByPairs}
use Rattle.line_rules.specs.Units.{UnitsBy}
use Rattle.line_rules.specs.declared.types.LineKind.{LineKind}
use Rattle.line_rules.specs.declared.types.Mode.{Mode}
use Rattle.line_rules.specs.declared.types.Entry.{Entry}
use Rattle.line_rules.specs.declared.types.Why.TheVariants as why
use Rattle.line_check.specs.Walks.{IsFirstLate, AreBelow, IsUncovered, IsSpare, IsPast, CountsTo}
use Rattle.line_rules.specs.Order.{Counts}
use Rattle.line_check.specs.declared.types.EntryFault.{EntryFault}
use Rattle.line_check.specs.declared.types.EntryFault.TheVariants as fault
use Rattle.line_check.specs.declared.types.EntryChecked.{EntryChecked}
use Rattle.line_check.specs.declared.types.EntryChecked.TheVariants as checked
use Rattle.line_check.specs.declared.types.Checked.{Checked}
use Rattle.line_check.specs.declared.types.Checked.TheVariants as found

-- the entry says that it is by Branch, with a mode and cites of which this is true
abbrev pub Branches : Entry → (Mode → List ℕ → Type 0) → Type 0
Branches e P = (mode : Mode) × (cites : List ℕ) × ((e.why ≡ why.Branch mode cites) × P mode cites)

-- the entry says that it is by Swap, with a cite and tasks of which this is true
abbrev pub Swaps : Entry → (ℕ → ℕ → ℕ → Type 0) → Type 0
Swaps e P = (cite : ℕ) × (out : ℕ) × (into : ℕ) × ((e.why ≡ why.Swap cite out into) × P cite out into)

-- the entry says that it is by Pairs, with a set of tasks of which this is true
abbrev pub HasPairs : Entry → (List Bool → Type 0) → Type 0
HasPairs e P = (two : List Bool) × ((e.why ≡ why.Pairs two) × P two)

-- a Branch may be walked: the mode belongs to the line, there is a station and a task, and each cite is of an earlier
-- entry
pub record IsReady (kind : LineKind) (earlier : List Entry) (e : Entry) (mode : Mode) (cites : List ℕ) : Type 0 where
  pub belongs : Belongs kind mode
  pub stations : 1 ≤ e.most
  pub some : (i : ℕ) × In e.set i
  pub below : AreBelow cites (length earlier)

-- The first thing that is wrong with the entry, and the loads walked up to it.
abbrev pub Fails : LineKind → Line → List Entry → Entry → EntryFault → ℕ → Type 0
Fails kind line earlier e (fault.Bound b) units = (e.why ≡ why.Bound) × (b ≡ bound kind line e.cycle e.set)
    × (b ≤ e.most) × (units ≡ 0)
Fails kind line earlier e fault.Mode units = Branches e (λ mode cites. Belongs kind mode → ⊥) × (units ≡ 0)
Fails kind line earlier e fault.Most units = Branches e (λ mode cites. Belongs kind mode
    × ((e.most ≡ 0) ⊎ IsEmpty e.set)) × (units ≡ 0)
Fails kind line earlier e (fault.Cite x) units =
    (Branches e (λ mode cites. Belongs kind mode × (1 ≤ e.most) × ((i : ℕ) × In e.set i)
    × IsFirstLate cites (length earlier) x)
    ⊎ Swaps e (λ cite out into. (cite ≡ x) × (length earlier ≤ x))) × (units ≡ 0)
Fails kind line earlier e (fault.Uncovered load) units =
    Branches e (λ mode cites. IsReady kind earlier e mode cites
    × IsUncovered line (IsLoad line e.cycle mode e.set) (IsOpen kind line e.cycle mode e.set e.most) earlier e.set
    e.most e.cycle cites load
    × CountsTo line (IsLoad line e.cycle mode e.set) (IsOpen kind line e.cycle mode e.set e.most) earlier e.set e.most
    e.cycle cites load units)
Fails kind line earlier e fault.Spare units =
    Branches e (λ mode cites. IsReady kind earlier e mode cites
    × IsSpare line (IsLoad line e.cycle mode e.set) (IsOpen kind line e.cycle mode e.set e.most) earlier e.set e.most
    e.cycle cites
    × Counts line (IsLoad line e.cycle mode e.set) units)
Fails kind line earlier e fault.Swap units = Swaps e (λ cite out into. (cite < length earlier)
    × (FollowsBySwap line earlier e cite out into → ⊥)) × (units ≡ 0)
Fails kind line earlier e fault.Pairs units = HasPairs e (λ two. IsRefutedByPairs kind line e.cycle e.set e.most two
    → ⊥) × (units ≡ 0)

-- some load of the entry is walked as one more than `steps`, and every check up to it held
abbrev pub Ends : LineKind → Line → List Entry → Entry → ℕ → Type 0
Ends kind line earlier e steps =
    Branches e (λ mode cites. IsReady kind earlier e mode cites
    × IsPast line (IsLoad line e.cycle mode e.set) (IsOpen kind line e.cycle mode e.set e.most) earlier e.set e.most
    e.cycle cites steps)

-- what is found of an entry, with the fault
abbrev pub IsFound : LineKind → Line → List Entry → Entry → ℕ → Checked EntryFault → Type 0
IsFound kind line earlier e steps (found.Right units) = Follows kind line earlier e × UnitsBy line e e.why units
    × (units ≤ steps)
IsFound kind line earlier e steps (found.Fails why units) = Fails kind line earlier e why units × (units ≤ steps)
IsFound kind line earlier e steps found.StepsEnded = Ends kind line earlier e steps

-- what is found of an entry
abbrev pub IsChecked : LineKind → Line → List Entry → Entry → ℕ → EntryChecked → Type 0
IsChecked kind line earlier e steps (checked.Right units) = Follows kind line earlier e × UnitsBy line e e.why units
    × (units ≤ steps)
IsChecked kind line earlier e steps (checked.Fails units) = (Follows kind line earlier e → ⊥) × (why : EntryFault)
    × Fails kind line earlier e why units × (units ≤ steps)
IsChecked kind line earlier e steps checked.StepsEnded = Ends kind line earlier e steps
