-- The families of the entries of a cycle: of each entry by Branch its set, its stations and the loads of its set.
use Rattle.std.proofs.Common.{◌≡◌, ℕ, zero, suc, ◌+◌, ◌<◌, true, false, Bool, cond, List, [], ◌∷◌, length, take, refl}
use Rattle.std.proofs.Common.{sym, ap, ◌∙◌, subst, inl, inr, arith, Some}
use Rattle.std.specs.Prelude.{nat_eq, slice_get}
use Rattle.std.proofs.lemmas.Bool.{cases_lt, eqb-true}
use Rattle.line_instance.specs.Truths.{In, count}
use Rattle.line_instance.specs.Line.{Line, IsLine, IsRanked, IsTaskSet, tasks, time}
use Rattle.line_rules.specs.Balance.{IsBalance, Holds}
use Rattle.line_rules.specs.Bounds.{IsTooLong}
use Rattle.line_rules.specs.Loads.{IsLoad, Belongs}
use Rattle.line_rules.specs.Order.{Counts}
use Rattle.line_rules.specs.Entries.{IsDerived, IsFreshAt, Follows, FollowsBy}
use Rattle.line_rules.specs.Units.{UnitsBy, UnitsOf, entries_at}
use Rattle.line_rules.specs.declared.types.LineKind.{LineKind}
use Rattle.line_rules.specs.declared.types.Seatplace.{Seatplace}
use Rattle.line_rules.specs.declared.types.Entry.{Entry}
use Rattle.line_rules.specs.declared.types.Why.{Why}
use Rattle.line_rules.specs.declared.types.Why.TheVariants as why
use Rattle.line_rules.proofs.Monotone.{stands_alone}
use Rattle.line_rules.proofs.OneTaskPerStation.{count_below}
use Rattle.line_rules.proofs.SubBalance.{restricted}
use Rattle.line_rules.proofs.LemmasHold.{sound}
use Rattle.budget_law.proofs.Families.{Family, IsFamily, AreDifferent, triples_of, listed_rise}

-- the mode of an entry by Branch belongs to the kind of line
HasMode : LineKind → Why → Type 0
HasMode kind why.Bound = Unit {0}
HasMode kind (why.Branch mode cites) = Belongs kind mode
HasMode kind (why.Swap cite out into) = Unit {0}
HasMode kind (why.Pairs two) = Unit {0}

-- what is known of an entry of the cycle
record IsKnown (kind : LineKind) (line : Line) (e : Entry) : Type 0 where
  set : IsTaskSet line e.set
  most : e.most < tasks line
  mode : HasMode kind e.why

-- a set of tasks that each fit a station, with no balance in `most` stations: these are fewer than the tasks
most_below : (kind : LineKind) (line : Line) → IsLine line → IsRanked line → (X : ℕ)
    → ((i : ℕ) → IsTooLong line X i → ⊥) → (R : List Bool) → IsTaskSet line R → (most : ℕ) → Holds kind line X R most
    → most < tasks line
most_below kind line ok ranked X short R set most h =
    let alone : (place : ℕ → Seatplace) × IsBalance kind line X R (count R) place
    × ((i j : ℕ) → In R i → In R j → (place i).station ≡ (place j).station → i ≡ j) =
    stands_alone kind line X R ok ranked set (λ i m. elim (cases_lt X (time line i))
    [ inl l ↦ absurd (short i (set.tasks i m, l)) | inr g ↦ g ]) in
    elim (cases_lt most (tasks line)) [
      | inl l ↦ l
      | inr g ↦ absurd (h alone.0 (restricted kind line X X R R (count R) most alone.0 (omega arith)
          (omega (arith, g, count_below R (tasks line) set.tasks)) (λ i m. m) alone.1))
    ]

has_mode : (kind : LineKind) (line : Line) (es : List Entry) (e : Entry) (w : Why) → FollowsBy kind line es e w
    → HasMode kind w
unfolding HasMode
has_mode kind line es e why.Bound f = tt
has_mode kind line es e (why.Branch mode cites) f = f.belongs
has_mode kind line es e (why.Swap cite out into) f = tt
has_mode kind line es e (why.Pairs two) f = tt

known : (kind : LineKind) (line : Line) → IsLine line → IsRanked line → (X : ℕ) → ((i : ℕ) → IsTooLong line X i → ⊥)
    → (es : List Entry) → IsDerived kind line es
    → (k : ℕ) (e : Entry) → slice_get es k ≡ Some e → e.cycle ≡ X → IsKnown kind line e
known kind line ok ranked X short es d k e g c =
    let f : Follows kind line (take k es) e = d k e g in
    let P : ℕ → Type 0 = λ z. Holds kind line z e.set e.most in
    record {
      set = f.set;
      most = most_below kind line ok ranked X short e.set f.set e.most
          (subst P c (sound kind line ok es d k e g));
      mode = has_mode kind line (take k es) e e.why f.by;
    }

-- an entry of cycle X with the question of a family
record Comes (X : ℕ) (es : List Entry) (f : Family) : Type 0 where
  at : ℕ
  entry : Entry
  there : slice_get es at ≡ Some entry
  cycle : entry.cycle ≡ X
  set : entry.set ≡ f.set
  most : entry.most ≡ f.number

-- a family with the question of an entry of cycle X, in fewer stations than there are tasks
pub record IsOfEntry (kind : LineKind) (line : Line) (X : ℕ) (es : List Entry) (f : Family) : Type 0 where
  pub family : IsFamily kind line X f
  pub below : f.number < tasks line
  comes : Comes X es f

-- the families of entries, with as many triples as these have units
pub record FromEntries (kind : LineKind) (line : Line) (X : ℕ) (es : List Entry) (units : ℕ) : Type 0 where
  pub families : List Family
  pub sum : triples_of families ≡ units
  pub each : (k : ℕ) (f : Family) → slice_get families k ≡ Some f → IsOfEntry kind line X es f
  pub different : AreDifferent families

module _ (kind : LineKind) (line : Line) (X : ℕ) where
  later : (e : Entry) (es : List Entry) (f : Family) → IsOfEntry kind line X es f → IsOfEntry kind line X (e ∷ es) f
  later e es f h = record {
    family = h.family;
    below = h.below;
    comes = record {
      at = suc h.comes.at;
      entry = h.comes.entry;
      there = h.comes.there;
      cycle = h.comes.cycle;
      set = h.comes.set;
      most = h.comes.most;
    };
  }

  -- an entry without units
  without : (e : Entry) (es : List Entry) (units b : ℕ) → units ≡ b → FromEntries kind line X es b
      → FromEntries kind line X (e ∷ es) units
  without e es units b s h = record {
    families = h.families;
    sum = h.sum ∙ sym s;
    each = λ k f g. later e es f (h.each k f g);
    different = h.different;
  }

  module _ (e : Entry) (es : List Entry) (b : ℕ) (f : Family) (is : IsFamily kind line X f)
      (below : f.number < tasks line) (cycle : e.cycle ≡ X) (set : e.set ≡ f.set) (most : e.most ≡ f.number)
      (h : FromEntries kind line X es b) where
    each_more : (k : ℕ) (g : Family) → slice_get (f ∷ h.families) k ≡ Some g → IsOfEntry kind line X (e ∷ es) g
    each_more zero g p =
        let q : f ≡ g = cc in
        let P : Family → Type 0 = λ z. IsOfEntry kind line X (e ∷ es) z in
        subst P q (record {
          family = is;
          below = below;
          comes = record { at = 0; entry = e; there = refl; cycle = cycle; set = set; most = most };
        })
    each_more (suc k) g p = later e es g (h.each k g p)

    different_more : IsFreshAt X (e ∷ es) → AreDifferent (f ∷ h.families)
    different_more fresh zero zero x y l p q u v = omega (arith, l)
    different_more fresh zero (suc k) x y l p q u v =
        let w : f ≡ x = cc in
        let r : Comes X es y = (h.each k y q).comes in
        let m : f.number ≡ x.number = ap (λ (z : Family). z.number) w in
        fresh 0 (suc r.at) e r.entry (omega arith) refl r.there cycle r.cycle (record {
          same = set ∙ (ap (λ (z : Family). z.set) w ∙ (u ∙ sym r.set));
          stations = omega (arith, most, m, v, r.most);
          long = omega (arith, cycle, r.cycle);
        })
    different_more fresh (suc j) zero x y l p q u v = omega (arith, l)
    different_more fresh (suc j) (suc k) x y l p q u v = h.different j k x y (omega (arith, l)) p q u v

    with_family : (units : ℕ) → units ≡ length f.loads + b → IsFreshAt X (e ∷ es)
        → FromEntries kind line X (e ∷ es) units
    with_family units s fresh = record {
      families = f ∷ h.families;
      sum = omega (arith, h.sum, s);
      each = each_more;
      different = different_more fresh;
    }

  -- an entry of the cycle, by its way
  by_way : (e : Entry) (es : List Entry) (units a b : ℕ) (w : Why) → IsTaskSet line e.set → e.most < tasks line
      → HasMode kind w → e.cycle ≡ X → UnitsBy line e w a → units ≡ a + b
      → IsFreshAt X (e ∷ es) → FromEntries kind line X es b → FromEntries kind line X (e ∷ es) units
  unfolding HasMode
  by_way e es units a b why.Bound set most mode c u sum fresh h = without e es units b (omega (arith, sum, u)) h
  by_way e es units a b (why.Branch mode cites) set most belongs c u sum fresh h =
      let P : ℕ → Type 0 = λ z. Counts line (IsLoad line z mode e.set) a in
      let n : Counts line (IsLoad line X mode e.set) a = subst P c u in
      let f : Family = record { set = e.set; number = e.most; mode = mode; loads = n.loads } in
      with_family e es b f
      (record {
        tasks = set;
        belongs = belongs;
        few = omega (arith, most);
        rises = listed_rise line n.loads (IsLoad line X mode e.set) n.listed;
        sound = n.listed.sound;
      })
      most c refl refl h units (omega (arith, n.long, sum)) fresh
  by_way e es units a b (why.Swap cite out into) set most mode c u sum fresh h =
      without e es units b (omega (arith, sum, u)) h
  by_way e es units a b (why.Pairs two) set most mode c u sum fresh h = without e es units b (omega (arith, sum, u)) h

  AreKnown : List Entry → Type 0
  AreKnown es = (k : ℕ) (e : Entry) → slice_get es k ≡ Some e → e.cycle ≡ X → IsKnown kind line e

  -- an entry before others, of cycle X or of another one
  one_more : (e : Entry) (es : List Entry) (units : ℕ) (here : Bool) → nat_eq e.cycle X ≡ here
      → (e.cycle ≡ X → IsKnown kind line e) → IsFreshAt X (e ∷ es)
      → ((b : ℕ) → UnitsOf line (entries_at X es) b → FromEntries kind line X es b)
      → UnitsOf line (cond here (e ∷ entries_at X es) (entries_at X es)) units → FromEntries kind line X (e ∷ es) units
  one_more e es units true same is fresh rest u =
      let c : e.cycle ≡ X = eqb-true e.cycle X same in
      let k : IsKnown kind line e = is c in
      by_way e es units u.0 u.1 e.why k.set k.most k.mode c u.2.0 u.2.2 fresh (rest u.1 u.2.1)
  one_more e es units false same is fresh rest u = without e es units units refl (rest units u)

  families_of : (es : List Entry) (units : ℕ) → AreKnown es → IsFreshAt X es → UnitsOf line (entries_at X es) units
      → FromEntries kind line X es units
  unfolding AreKnown
  families_of [] units are fresh u = record {
    families = [];
    sum = sym u;
    each = λ k f e. absurd (cc);
    different = λ j k a b l e f s n. absurd (cc);
  }
  families_of (e ∷ es) units are fresh u =
      one_more e es units (nat_eq e.cycle X) refl (are 0 e refl) fresh
      (λ b v. families_of es b (λ k g h c. are (suc k) g h c)
      (λ j k x y l p q c d. fresh (suc j) (suc k) x y (omega (arith, l)) p q c d) v) u

-- the families of the entries of cycle X
pub from_entries : (kind : LineKind) (line : Line) → IsLine line → IsRanked line → (X : ℕ)
    → ((i : ℕ) → IsTooLong line X i → ⊥) → (es : List Entry) → IsDerived kind line es → IsFreshAt X es
    → (units : ℕ) → UnitsOf line (entries_at X es) units → FromEntries kind line X es units
unfolding AreKnown
from_entries kind line ok ranked X short es derived fresh units u =
    families_of kind line X es units (λ k e g c. known kind line ok ranked X short es derived k e g c) fresh u
