-- When an entry, which says that a set has no balance in so many stations at a cycle, follows from earlier entries;
-- derived and fresh lists of entries.
use Rattle.std.specs.Prelude.{◌≡◌, ℕ, ◌-◌, ◌<◌, ◌≤◌, Bool, true, false, List, length, take, slice_get, slice_set, Some}
use Rattle.line_instance.specs.Truths.{In, IsSubset}
use Rattle.line_instance.specs.Line.{Line, IsTaskSet, tasks, time, has, Before, Apart}
use Rattle.line_rules.specs.Loads.{IsLoad, IsFull, Belongs, rest}
use Rattle.line_rules.specs.Order.{Lists}
use Rattle.line_rules.specs.Bounds.{bound}
use Rattle.line_rules.specs.Pairs.{IsRefutedByPairs}
use Rattle.line_rules.specs.declared.types.LineKind.{LineKind}
use Rattle.line_rules.specs.declared.types.Mode.{Mode}
use Rattle.line_rules.specs.declared.types.Load.{Load}
use Rattle.line_rules.specs.declared.types.Entry.{Entry}
use Rattle.line_rules.specs.declared.types.Why.{Why}
use Rattle.line_rules.specs.declared.types.Why.TheVariants as why

-- an entry answers a question: it has the set, as many stations or more, and as long a cycle or a longer one
pub record Answers (e : Entry) (set : List Bool) (most cycle : ℕ) : Type 0 where
  pub same : e.set ≡ set
  pub stations : most ≤ e.most
  pub long : cycle ≤ e.cycle

-- a full load of R whose rest the bound leaves open: it would fit into fewer than `most` stations
pub record IsOpen (kind : LineKind) (line : Line) (c : ℕ) (mode : Mode) (R : List Bool) (most : ℕ)
    (l : Load) : Type 0 where
  pub load : IsLoad line c mode R l
  pub full : IsFull line c mode R l
  pub bound : bound kind line c (rest R l) < most

-- the entry of number `cite` refutes T in r stations at c: its set is a part of T, with as many stations and as long a
-- cycle, or more
pub record Cites (entries : List Entry) (cite : ℕ) (T : List Bool) (r c : ℕ) : Type 0 where
  pub entry : Entry
  pub there : slice_get entries cite ≡ Some entry
  pub part : IsSubset entry.set T
  pub stations : r ≤ entry.most
  pub cycle : c ≤ entry.cycle

-- each load that passes P goes, in order, with a cite of an entry that refutes its rest with one station less
pub record Covers (line : Line) (P : Load → Type 0) (entries : List Entry) (R : List Bool) (most c : ℕ)
    (cites : List ℕ) : Type 0 where
  pub loads : List Load
  pub listed : Lists line P loads
  pub as_many : length cites ≡ length loads
  pub cited : (p cite : ℕ) (l : Load) → slice_get cites p ≡ Some cite → slice_get loads p ≡ Some l
      → Cites entries cite (rest R l) (most - 1) c

-- Branch: the set isn't empty, and has one station at least; each full load whose rest the bound leaves open goes with
-- a cite of an earlier entry that refutes the rest
pub record FollowsByBranch (kind : LineKind) (line : Line) (earlier : List Entry) (e : Entry) (mode : Mode)
    (cites : List ℕ) : Type 0 where
  pub some : (i : ℕ) × In e.set i
  pub stations : 1 ≤ e.most
  pub belongs : Belongs kind mode
  pub covers : Covers line (IsOpen kind line e.cycle mode e.set e.most) earlier e.set e.most e.cycle cites

-- Swap: an earlier entry refutes the set without the task `out` and with the task `into`, which is no longer than `out`
-- and bound by no more: what is before, after or apart from `into` in that set is so to `out` too
pub record FollowsBySwap (line : Line) (earlier : List Entry) (e : Entry) (cite out into : ℕ) : Type 0 where
  pub entry : Entry
  pub there : slice_get earlier cite ≡ Some entry
  pub stations : e.most ≤ entry.most
  pub cycle : e.cycle ≤ entry.cycle
  pub out_in : In e.set out
  pub task : into < tasks line
  pub into_out : has e.set into ≡ false
  pub set : entry.set ≡ slice_set (slice_set e.set out false) into true
  pub time : time line into ≤ time line out
  pub before : (i : ℕ) → In entry.set i → Before line i into → Before line i out
  pub after : (i : ℕ) → In entry.set i → Before line into i → Before line out i
  pub apart : (i : ℕ) → In entry.set i → Apart line i into → Apart line i out

-- the entry follows from earlier ones in the way that it says: by Bound, where the bound of its set exceeds its
-- stations; by Branch; by Swap; or by Pairs, where pairs refute its set with the tasks that count twice
abbrev pub FollowsBy : LineKind → Line → List Entry → Entry → Why → Type 0
FollowsBy kind line earlier e why.Bound = e.most < bound kind line e.cycle e.set
FollowsBy kind line earlier e (why.Branch mode cites) = FollowsByBranch kind line earlier e mode cites
FollowsBy kind line earlier e (why.Swap cite out into) = FollowsBySwap line earlier e cite out into
FollowsBy kind line earlier e (why.Pairs two) = IsRefutedByPairs kind line e.cycle e.set e.most two

-- the entry speaks of a set of tasks at a cycle, and follows from the earlier ones in the way that it says
pub record Follows (kind : LineKind) (line : Line) (earlier : List Entry) (e : Entry) : Type 0 where
  pub set : IsTaskSet line e.set
  pub cycle : 1 ≤ e.cycle
  pub by : FollowsBy kind line earlier e e.why

-- a derived list: each entry follows from those before it
abbrev pub IsDerived : LineKind → Line → List Entry → Type 0
IsDerived kind line es = (k : ℕ) (e : Entry) → slice_get es k ≡ Some e → Follows kind line (take k es) e

-- a fresh list: no entry is answered by an earlier one
abbrev pub IsFresh : List Entry → Type 0
IsFresh es = (j k : ℕ) (a b : Entry) → j < k → slice_get es j ≡ Some a → slice_get es k ≡ Some b
    → Answers a b.set b.most b.cycle → ⊥

-- a list fresh at X: no entry of cycle X is answered by an earlier entry of cycle X
abbrev pub IsFreshAt : ℕ → List Entry → Type 0
IsFreshAt X es =
    (j k : ℕ) (a b : Entry) → j < k → slice_get es j ≡ Some a → slice_get es k ≡ Some b → a.cycle ≡ X → b.cycle ≡ X
    → Answers a b.set b.most b.cycle → ⊥

-- an entry of the list answers the question
abbrev pub HasAnswer : List Entry → List Bool → ℕ → ℕ → Type 0
HasAnswer es set most cycle = (k : ℕ) × (e : Entry) × ((slice_get es k ≡ Some e) × Answers e set most cycle)

-- no entry of the list answers the question
abbrev pub IsUnanswered : List Entry → List Bool → ℕ → ℕ → Type 0
IsUnanswered es set most cycle = (k : ℕ) (e : Entry) → slice_get es k ≡ Some e → Answers e set most cycle → ⊥

-- the number of the last entry that answers the question
pub record IsLastAnswer (es : List Entry) (set : List Bool) (most cycle id : ℕ) : Type 0 where
  pub entry : Entry
  pub there : slice_get es id ≡ Some entry
  pub answers : Answers entry set most cycle
  pub last : (k : ℕ) (e : Entry) → id < k → slice_get es k ≡ Some e → Answers e set most cycle → ⊥
