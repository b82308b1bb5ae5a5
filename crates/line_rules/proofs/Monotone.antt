-- What carries over from one set, cycle, list or number to another.
use Rattle.std.proofs.Common.{◌≡◌, ℕ, ◌+◌, ◌<◌, ◌≤◌, Bool, true, false, cond, nat_eq, ◌&&◌, not, List, [], ◌∷◌, length}
use Rattle.std.proofs.Common.{take, slice_get, refl, sym, ap, ◌∙◌, subst, Option, Some, None, arith}
use Rattle.std.proofs.lemmas.Bool.{and_parts, eqb-true}
use Rattle.std.proofs.lemmas.List.{take-take}
use Rattle.line_instance.specs.Truths.{In, count}
use Rattle.line_instance.proofs.Bits.{get_or-minus, length-minus}
use Rattle.line_instance.specs.Line.{Line, IsLine, IsRanked, IsTaskSet, has, time}
use Rattle.line_rules.specs.Balance.{IsBalance, Holds}
use Rattle.line_rules.specs.Bounds.{bound}
use Rattle.line_rules.specs.Loads.{IsLoad, taken, rest}
use Rattle.line_rules.specs.Order.{Counts, UpTo}
use Rattle.line_rules.specs.Entries.{Answers, Follows, IsDerived, IsFresh, IsFreshAt}
use Rattle.line_rules.specs.Units.{UnitsBy, UnitsOf, UnitsIn, TrailUnits, UnitsWhole, UnitsAt, TrailUnitsAt, entries_at}
use Rattle.line_rules.specs.Laws.{IsRest}
use Rattle.line_rules.specs.declared.types.LineKind.{LineKind}
use Rattle.line_rules.specs.declared.types.Mode.{Mode}
use Rattle.line_rules.specs.declared.types.Seatplace.{Seatplace}
use Rattle.line_rules.specs.declared.types.Load.{Load}
use Rattle.line_rules.specs.declared.types.Entry.{Entry}
use Rattle.line_rules.specs.declared.types.OpenFrame.{OpenFrame}
use Rattle.line_rules.specs.declared.types.Trail.{Trail}
use Rattle.line_rules.specs.declared.types.Why.{Why}
use Rattle.line_rules.specs.declared.types.Why.TheVariants as why
use Rattle.line_rules.proofs.BoundIsTrue.{bound_le}
use Rattle.line_rules.proofs.OneTaskPerStation.{each_alone}
use Rattle.line_rules.proofs.Unique.{unique}
use Rattle.line_rules.proofs.ListFacts.{get_take}

pub bound_holds : (kind : LineKind) (line : Line) (c : ℕ) → 1 ≤ c → (R : List Bool) (r : ℕ) → r < bound kind line c R
    → Holds kind line c R r
bound_holds kind line c one R r less place b = omega (arith, less, bound_le kind line c one R r place b)

pub stands_alone : (kind : LineKind) (line : Line) (c : ℕ) (R : List Bool) → IsLine line → IsRanked line
    → IsTaskSet line R → ((i : ℕ) → In R i → time line i ≤ c)
    → (place : ℕ → Seatplace) × IsBalance kind line c R (count R) place
    × ((i j : ℕ) → In R i → In R j → (place i).station ≡ (place j).station → i ≡ j)
stands_alone kind line c R ok ranked set short = each_alone kind line ok ranked c R set short

-- one number of loads passes a test
pub one_count : (line : Line) (P : Load → Type 0) (a b : ℕ) → Counts line P a → Counts line P b → a ≡ b
one_count line P a b p q = sym p.long ∙ (ap (λ (ls : List Load). length ls)
    (unique line p.loads q.loads P p.listed q.listed) ∙ q.long)

by_same : (line : Line) (e : Entry) (w : Why) (a b : ℕ) → UnitsBy line e w a → UnitsBy line e w b → a ≡ b
by_same line e why.Bound a b p q = p ∙ sym q
by_same line e (why.Branch mode cites) a b p q = one_count line (IsLoad line e.cycle mode e.set) a b p q
by_same line e (why.Swap cite out into) a b p q = p ∙ sym q
by_same line e (why.Pairs two) a b p q = p ∙ sym q

sum_same : (x y x' y' a b : ℕ) → x ≡ x' → y ≡ y' → a ≡ x + y → b ≡ x' + y' → a ≡ b
sum_same x y x' y' a b d e p q = omega (arith, d, e, p, q)

-- entries have one number of units
pub entries_same : (line : Line) (es : List Entry) (a b : ℕ) → UnitsOf line es a → UnitsOf line es b → a ≡ b
entries_same line [] a b p q = p ∙ sym q
entries_same line (e ∷ es) a b p q =
    sum_same p.0 p.1 q.0 q.1 a b (by_same line e e.why p.0 q.0 p.2.0 q.2.0) (entries_same line es p.1 q.1 p.2.1 q.2.1)
    p.2.2 q.2.2

-- frames have one number of units
pub frames_same : (line : Line) (X : ℕ) (fs : List OpenFrame) (a b : ℕ) → UnitsIn line X fs a → UnitsIn line X fs b
    → a ≡ b
frames_same line X [] a b p q = p ∙ sym q
frames_same line X (f ∷ fs) a b p q =
    sum_same p.0 p.1 q.0 q.1 a b (one_count line (λ l. IsLoad line X f.mode f.set l × UpTo line f.last l) p.0 q.0 p.2.0
    q.2.0) (frames_same line X fs p.1 q.1 p.2.1 q.2.1) p.2.2 q.2.2

trail_same : (line : Line) (trail : Option Trail) (a b : ℕ) → TrailUnits line trail a → TrailUnits line trail b → a ≡ b
trail_same line None a b p q = p ∙ sym q
trail_same line (Some trail) a b p q = frames_same line trail.cycle trail.frames a b p q

pub units_same : (line : Line) (es : List Entry) (trail : Option Trail) (a b : ℕ) → UnitsWhole line es trail a
    → UnitsWhole line es trail b → a ≡ b
units_same line es trail a b p q =
    sum_same p.0 p.1 q.0 q.1 a b (entries_same line es p.0 q.0 p.2.0 q.2.0) (trail_same line trail p.1 q.1 p.2.1 q.2.1)
    p.2.2 q.2.2

-- an entry more, with the test of its cycle told
first_at_most : (line : Line) (X : ℕ) (e : Entry) (es : List Entry) (a b : ℕ) (t : Bool)
    → UnitsOf line (cond t (e ∷ entries_at X es) (entries_at X es)) a → (q : UnitsOf line (e ∷ es) b)
    → ((c : ℕ) → UnitsOf line (entries_at X es) c → c ≤ q.1) → a ≤ b
first_at_most line X e es a b true p q h = omega (
  arith,
  by_same line e e.why p.0 q.0 p.2.0 q.2.0,
  h p.1 p.2.1,
  p.2.2,
  q.2.2,
)
first_at_most line X e es a b false p q h = omega (arith, h a p, q.2.2)

frames_at_most : (line : Line) (X Y : ℕ) (fs : List OpenFrame) (a b : ℕ) (t : Bool) → nat_eq Y X ≡ t
    → cond t (UnitsIn line X fs a) (a ≡ 0) → UnitsIn line Y fs b → a ≤ b
frames_at_most line X Y fs a b true e p q =
    let P : ℕ → Type 0 = λ x. UnitsIn line x fs b in
    omega (arith, frames_same line X fs a b p (subst P (eqb-true Y X e) q))
frames_at_most line X Y fs a b false e p q = omega (arith, p)

-- the units of the entries of one cycle are at most those of all
entries_at_most : (line : Line) (X : ℕ) (es : List Entry) (a b : ℕ) → UnitsOf line (entries_at X es) a
    → UnitsOf line es b → a ≤ b
entries_at_most line X [] a b p q = omega (arith, p)
entries_at_most line X (e ∷ es) a b p q = first_at_most line X e es a b (nat_eq e.cycle X) p q
    (λ c h. entries_at_most line X es c q.1 h q.2.1)

trail_at_most : (line : Line) (X : ℕ) (trail : Option Trail) (a b : ℕ) → TrailUnitsAt line X trail a
    → TrailUnits line trail b → a ≤ b
trail_at_most line X None a b p q = omega (arith, p)
trail_at_most line X (Some trail) a b p q = frames_at_most line X trail.cycle trail.frames a b (nat_eq trail.cycle X)
    refl p q

pub units_at_most : (line : Line) (X : ℕ) (es : List Entry) (trail : Option Trail) (a b : ℕ) → UnitsAt line X es trail a
    → UnitsWhole line es trail b → a ≤ b
units_at_most line X es trail a b p q = omega (
  arith,
  entries_at_most line X es p.0 q.0 p.2.0 q.2.0,
  trail_at_most line X trail p.1 q.1 p.2.1 q.2.1,
  p.2.2,
  q.2.2,
)

cut_out : (x y : Bool) → y ≡ true → (x && not y) ≡ false
cut_out true true e = refl
cut_out false y e = refl
cut_out true false e = absurd (cc)

pub rest_smaller : (line : Line) (c : ℕ) (mode : Mode) (R : List Bool) (l : Load) → IsTaskSet line R
    → IsLoad line c mode R l → IsRest line R (rest R l)
rest_smaller line c mode R l set f =
    let within : (i : ℕ) → In (rest R l) i → In R i = λ i m.
    (and_parts (has R i) (not (has (taken l) i)) (sym (get_or-minus R (taken l) i) ∙ m)).0 in
    record {
      tasks = record { truths = length-minus R (taken l) ∙ set.truths; tasks = λ i m. set.tasks i (within i m) };
      within = within;
      less = (
        f.some.0,
        (
          f.within f.some.0 f.some.1,
          get_or-minus R (taken l) f.some.0
              ∙ cut_out (has R f.some.0) (has (taken l) f.some.0) f.some.1,
        ),
      );
    }

pub answers_on : (a b : Entry) (set : List Bool) (most cycle : ℕ) → Answers a b.set b.most b.cycle
    → Answers b set most cycle → Answers a set most cycle
answers_on a b set most cycle p q = record {
  same = p.same ∙ q.same;
  stations = omega (arith, p.stations, q.stations);
  long = omega (arith, p.long, q.long);
}

pub fresh_at_each : (es : List Entry) (X : ℕ) → IsFresh es → IsFreshAt X es
fresh_at_each es X fresh j k a b less p q u v h = fresh j k a b less p q h

pub derived_take : (kind : LineKind) (line : Line) (es : List Entry) (n : ℕ) → IsDerived kind line es
    → IsDerived kind line (take n es)
derived_take kind line es n d k e g =
    let p : (k < n) × (slice_get es k ≡ Some e) = get_take es n k e g in
    let P : List Entry → Type 0 = λ before. Follows kind line before e in
    subst P (sym (take-take k n es (omega (arith, p.0)))) (d k e p.1)
