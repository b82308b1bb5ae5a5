-- What a fault of an entry rules out, and what it follows from.
use Rattle.std.proofs.Common.{◌≡◌, ℕ, ◌-◌, ◌≤◌, Bool, List, length, take, sym, ◌∙◌, subst, inl, inr, arith, Some}
use Rattle.std.proofs.Common.{length-take}
use Rattle.std.specs.Prelude.{slice_get}
use Rattle.std.proofs.lemmas.Option.{same_Some, slice_get_within}
use Rattle.line_instance.specs.Truths.{In, IsEmpty}
use Rattle.line_instance.specs.Line.{Line}
use Rattle.line_rules.specs.Loads.{IsLoad, Belongs, rest}
use Rattle.line_rules.specs.Entries.{IsOpen, Cites, FollowsByBranch, FollowsBySwap, FollowsBy, Follows}
use Rattle.line_rules.specs.Pairs.{IsRefutedByPairs}
use Rattle.line_rules.specs.declared.types.LineKind.{LineKind}
use Rattle.line_rules.specs.declared.types.Mode.{Mode}
use Rattle.line_rules.specs.declared.types.Load.{Load}
use Rattle.line_rules.specs.declared.types.Entry.{Entry}
use Rattle.line_rules.specs.declared.types.Why.{Why}
use Rattle.line_rules.specs.declared.types.Why.TheVariants as why
use Rattle.line_rules.proofs.Nonempty.{member_or_empty}
use Rattle.line_rules.proofs.ListFacts.{get_some}
use Rattle.line_check.specs.Walks.{IsFirstLate, AreBelow}
use Rattle.line_check.specs.Faults.{Fails, IsReady}
use Rattle.line_check.specs.inner.Swaps.{IsSwapped}
use Rattle.line_check.specs.declared.types.EntryFault.{EntryFault}
use Rattle.line_check.specs.declared.types.EntryFault.TheVariants as fault
use Rattle.line_check.proofs.Exact.{not_uncovered, not_spare}

-- a cite that isn't below their number names no earlier entry
late_fails : (kind : LineKind) (line : Line) (earlier : List Entry) (e : Entry) (mode : Mode) (cites : List ℕ) (x : ℕ)
    → IsFirstLate cites (length earlier) x → FollowsByBranch kind line earlier e mode cites → ⊥
late_fails kind line earlier e mode cites x h f =
    let l : (l : Load) × (slice_get f.covers.loads h.place ≡ Some l) =
    get_some f.covers.loads h.place (omega (arith, f.covers.as_many, slice_get_within cites h.place x h.there)) in
    let c : Cites earlier x (rest e.set l.0) (e.most - 1) e.cycle = f.covers.cited h.place x l.0 h.there l.1 in
    omega (arith, h.late, slice_get_within earlier x c.entry c.there)

by_way : (kind : LineKind) (line : Line) (earlier : List Entry) (e : Entry) (w : Why) → e.why ≡ w
    → Follows kind line earlier e → FollowsBy kind line earlier e w
by_way kind line earlier e w is f = let P : Why → Type 0 = λ z. FollowsBy kind line earlier e z in subst P is f.by

-- an entry with a fault doesn't follow
pub not_follows : (kind : LineKind) (line : Line) (earlier : List Entry) (e : Entry) (why : EntryFault) (units : ℕ)
    → Fails kind line earlier e why units → Follows kind line earlier e → ⊥
not_follows kind line earlier e (fault.Bound b) units h f =
    omega (arith, by_way kind line earlier e why.Bound h.0 f, h.1, h.2)
not_follows kind line earlier e fault.Mode units h f =
    let g : FollowsByBranch kind line earlier e h.0.0 h.0.1 =
    by_way kind line earlier e (why.Branch h.0.0 h.0.1) h.0.2.0 f in
    h.0.2.1 g.belongs
not_follows kind line earlier e fault.Most units h f =
    let g : FollowsByBranch kind line earlier e h.0.0 h.0.1 =
    by_way kind line earlier e (why.Branch h.0.0 h.0.1) h.0.2.0 f in
    elim h.0.2.1.1 [ inl z ↦ omega (arith, z, g.stations) | inr n ↦ n g.some.0 g.some.1 ]
not_follows kind line earlier e (fault.Cite x) units h f = elim h.0 [
  | inl b ↦
      let g : FollowsByBranch kind line earlier e b.0 b.1 = by_way kind line earlier e (why.Branch b.0 b.1) b.2.0 f in
      late_fails kind line earlier e b.0 b.1 x b.2.1.3 g
  | inr s ↦
      let g : FollowsBySwap line earlier e s.0 s.1 s.2 = by_way kind line earlier e (why.Swap s.0 s.1 s.2) s.3.0 f in
      omega (arith, s.3.1.0, s.3.1.1, slice_get_within earlier s.0 g.entry g.there)
]
not_follows kind line earlier e (fault.Uncovered load) units h f =
    let g : FollowsByBranch kind line earlier e h.0 h.1 = by_way kind line earlier e (why.Branch h.0 h.1) h.2.0 f in
    not_uncovered line (IsLoad line e.cycle h.0 e.set) (IsOpen kind line e.cycle h.0 e.set e.most) earlier e.set e.most
    e.cycle h.1 g.covers load h.2.1.1
not_follows kind line earlier e fault.Spare units h f =
    let g : FollowsByBranch kind line earlier e h.0 h.1 = by_way kind line earlier e (why.Branch h.0 h.1) h.2.0 f in
    not_spare line (IsLoad line e.cycle h.0 e.set) (IsOpen kind line e.cycle h.0 e.set e.most) earlier e.set e.most
    e.cycle h.1 g.covers h.2.1.1
not_follows kind line earlier e fault.Swap units h f =
    let g : FollowsBySwap line earlier e h.0.0 h.0.1 h.0.2 =
    by_way kind line earlier e (why.Swap h.0.0 h.0.1 h.0.2) h.0.3.0 f in
    h.0.3.1.1 g
not_follows kind line earlier e fault.Pairs units h f =
    let g : IsRefutedByPairs kind line e.cycle e.set e.most h.0.0 =
    by_way kind line earlier e (why.Pairs h.0.0) h.0.1.0 f in
    h.0.1.1 g

-- the first k entries of a list are so many
many : (es : List Entry) (k : ℕ) → k ≤ length es → length (take k es) ≡ k
many es k l = omega (arith, length-take k es, l)

pub some_task : (s : List Bool) → (IsEmpty s → ⊥) → (i : ℕ) × In s i
some_task s h = elim (member_or_empty s) [ inl p ↦ p | inr n ↦ absurd (h n) ]

-- a Branch may be walked after the first k entries
pub ready_of : (kind : LineKind) (es : List Entry) (k : ℕ) (e : Entry) (mode : Mode) (cites : List ℕ) → k ≤ length es
    → Belongs kind mode → 1 ≤ e.most → (IsEmpty e.set → ⊥) → AreBelow cites k
    → IsReady kind (take k es) e mode cites
ready_of kind es k e mode cites l belongs stations some below =
    let P : ℕ → Type 0 = λ n. AreBelow cites n in
    record {
      belongs = belongs;
      stations = stations;
      some = some_task e.set some;
      below = subst P (sym (many es k l)) below;
    }

pub late_of : (es : List Entry) (k : ℕ) (cites : List ℕ) (x : ℕ) → k ≤ length es → IsFirstLate cites k x
    → IsFirstLate cites (length (take k es)) x
late_of es k cites x l h = let P : ℕ → Type 0 = λ n. IsFirstLate cites n x in subst P (sym (many es k l)) h

-- a Swap by the entry that is cited
pub swapped : (line : Line) (earlier : List Entry) (e cited : Entry) (cite out into : ℕ)
    → slice_get earlier cite ≡ Some cited → IsSwapped line e cited out into → FollowsBySwap line earlier e cite out into
swapped line earlier e cited cite out into there s = record {
  entry = cited;
  there = there;
  stations = s.stations;
  cycle = s.cycle;
  out_in = s.out_in;
  task = s.task;
  into_out = s.into_out;
  set = s.set;
  time = s.stands.time;
  before = s.stands.before;
  after = s.stands.after;
  apart = s.stands.apart;
}

pub swap_of : (line : Line) (earlier : List Entry) (e cited : Entry) (cite out into : ℕ)
    → slice_get earlier cite ≡ Some cited → FollowsBySwap line earlier e cite out into → IsSwapped line e cited out into
swap_of line earlier e cited cite out into there f =
    let P : Entry → Type 0 = λ z. IsSwapped line e z out into in
    subst P (same_Some f.entry cited (sym f.there ∙ there)) (record {
      out_in = f.out_in;
      task = f.task;
      into_out = f.into_out;
      stations = f.stations;
      cycle = f.cycle;
      set = f.set;
      stands = record { time = f.time; before = f.before; after = f.after; apart = f.apart };
    })
