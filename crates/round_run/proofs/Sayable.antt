-- What a run has can be said by a certificate: entries that follow from each other, the frames of a trail, and a right
-- balance are within their ranges.
use Rattle.std.proofs.Common.{◌≡◌, ℕ, zero, suc, ◌+◌, ◌-◌, ◌<◌, ◌≤◌, ◌⊎◌, inl, inr, Bool, List, [], ◌∷◌, length}
use Rattle.std.proofs.Common.{Option, Some, None, sym, subst, arith, length-append}
use Rattle.std.specs.Prelude.{slice_get}
use Rattle.std.proofs.lemmas.Option.{slice_get_within}
use Rattle.line_instance.specs.Truths.{In}
use Rattle.line_instance.proofs.Members.{In-full_to, In-full_to_below}
use Rattle.line_instance.proofs.Fills.{length-full_to}
use Rattle.line_instance.specs.Line.{Line, IsLine, IsTaskSet, tasks}
use Rattle.line_rules.specs.Balance.{IsRight, all_tasks}
use Rattle.line_rules.specs.Loads.{rest}
use Rattle.line_rules.specs.Ranges.{IsCycle, IsPlaced, IsPlacing, IsLast, IsFrame}
use Rattle.line_rules.specs.Ranges.{IsTrailLike}
use Rattle.line_rules.specs.Trails.{IsPassed, IsDeepest, LastIsLoad, Leads, IsTrail}
use Rattle.line_rules.specs.declared.types.LineKind.{LineKind}
use Rattle.line_rules.specs.declared.types.Mode.{Mode}
use Rattle.line_rules.specs.declared.types.Seatplace.{Seatplace}
use Rattle.line_rules.specs.declared.types.Balance.{Balance as Assignment}
use Rattle.line_rules.specs.declared.types.Load.{Load}
use Rattle.line_rules.specs.declared.types.Entry.{Entry}
use Rattle.line_rules.specs.declared.types.OpenFrame.{OpenFrame}
use Rattle.line_rules.proofs.Monotone.{rest_smaller}
use Rattle.line_rules.proofs.ListFacts.{get_push_cases}
use Rattle.line_rules.proofs.ReadPlaces.{seat_read}
use Rattle.round_helpers.proofs.SayableEntries.{is_of, covered}
pub use Rattle.round_helpers.proofs.SayableEntries.{entries_ok}

-- the last load of a frame
last_ok : (line : Line) (X : ℕ) (mode : Mode) (R : List Bool) (last : Option Load) → LastIsLoad line X mode R last
    → IsLast (tasks line) mode last
last_ok line X mode R None p = tt
last_ok line X mode R (Some l) p = record {
  front = is_of line l.front p.front;
  back = is_of line l.back p.back;
  suits = p.suits;
}

module _ (kind : LineKind) (line : Line) (X : ℕ) (es : List Entry) where
  -- a frame that has a further one below it, and the deepest one
  passed_ok : (f : OpenFrame) (l : Load) → IsTaskSet line f.set → f.most ≤ 1024 → IsPassed kind line X es f l
      → IsFrame (tasks line) (length es) f
  passed_ok f l s m p =
      let L : Option Load → Type 0 = IsLast (tasks line) f.mode in
      record {
        set = is_of line f.set s;
        most = m;
        last = subst L (sym p.last) (last_ok line X f.mode f.set (Some l) p.load);
        cites = covered line _ es f.set f.most X f.cites p.covers;
      }

  deepest_ok : (f : OpenFrame) → IsTaskSet line f.set → f.most ≤ 1024 → IsDeepest kind line X es f
      → IsFrame (tasks line) (length es) f
  deepest_ok f s m d = record {
    set = is_of line f.set s;
    most = m;
    last = last_ok line X f.mode f.set f.last d.last;
    cites = covered line _ es f.set f.most X f.cites d.covers;
  }

  -- the frames on the way to the deepest one: there are no more of them than stations given up
  record AreLed (fs : List OpenFrame) (R' : List Bool) (most most' : ℕ) : Type 0 where
    pub set : IsTaskSet line R'
    pub depth : length fs + most' ≤ most
    pub each : (k : ℕ) (f : OpenFrame) → slice_get fs k ≡ Some f → IsFrame (tasks line) (length es) f

  led_each : (f : OpenFrame) (fs : List OpenFrame) → IsFrame (tasks line) (length es) f
      → ((k : ℕ) (g : OpenFrame) → slice_get fs k ≡ Some g → IsFrame (tasks line) (length es) g)
      → (k : ℕ) (g : OpenFrame) → slice_get (f ∷ fs) k ≡ Some g → IsFrame (tasks line) (length es) g
  led_each f fs p q zero g e = (let P : OpenFrame → Type 0 = IsFrame (tasks line) (length es) in
      subst P (let h : f ≡ g = cc in h) p)
  led_each f fs p q (suc k) g e = q k g e

  led : (R : List Bool) (most : ℕ) (fs : List OpenFrame) (R' : List Bool) (most' : ℕ) → IsTaskSet line R → most ≤ 1024
      → Leads kind line X es R most fs R' most' → AreLed fs R' most most'
  led R most [] R' most' s m p =
      let T : List Bool → Type 0 = IsTaskSet line in
      record {
        set = subst T (sym p.0) s;
        depth = omega (arith, p.1);
        each = λ k f e. absurd (omega (arith, slice_get_within [] k f e));
      }
  led R most (f ∷ fs) R' most' s m (l, (e, g, p, q)) =
      let T : List Bool → Type 0 = IsTaskSet line in
      let t : IsTaskSet line f.set = subst T (sym e) s in
      let below = led (rest f.set l) (f.most - 1) fs R' most' (rest_smaller line X f.mode f.set l t p.load).tasks
      (omega (arith, g)) q in
      record {
        set = below.set;
        depth = omega (arith, below.depth, p.stations, g);
        each = led_each f fs (passed_ok f l t (omega (arith, g)) p) below.each;
      }

  -- a valid trail from all tasks in at most 1,024 stations
  pub trail_ok : (R : List Bool) (most : ℕ) (frames : List OpenFrame) → IsCycle X → IsTaskSet line R → most < 1024
      → IsTrail kind line X es R most frames
      → IsTrailLike (tasks line) (length es) (record { cycle = X; frames = frames })
  trail_ok R most frames c s m t =
      let on = led R most t.passed t.deepest.set t.deepest.most s (omega arith) t.leads in
      let last = deepest_ok t.deepest on.set (omega (arith, on.depth)) t.deep in
      let T : List OpenFrame → Type 0 = λ fs. IsTrailLike (tasks line) (length es)
      (record { cycle = X; frames = fs }) in
      subst T (sym t.all) (record {
        cycle = c;
        some = omega (arith, length-append t.passed (t.deepest ∷ []));
        few = omega (arith, length-append t.passed (t.deepest ∷ []), on.depth);
        each = λ k f e. each_of t.passed t.deepest on.each last k f (get_push_cases t.passed t.deepest f k e);
      })
    where
      each_of : (fs : List OpenFrame) (d : OpenFrame) → ((k : ℕ) (f : OpenFrame) → slice_get fs k ≡ Some f
          → IsFrame (tasks line) (length es) f) → IsFrame (tasks line) (length es) d
          → (k : ℕ) (f : OpenFrame) → ((k < length fs) × (slice_get fs k ≡ Some f)) ⊎ ((k ≡ length fs) × (d ≡ f))
          → IsFrame (tasks line) (length es) f
      each_of fs d p q k f (inl x) = p k f x.1
      each_of fs d p q k f (inr x) = (let P : OpenFrame → Type 0 = IsFrame (tasks line) (length es) in subst P x.1 q)

-- a right balance in at most as many stations as there are tasks
pub balance_ok : (kind : LineKind) (line : Line) (c : ℕ) (b : Assignment) → IsLine line → IsRight kind line c b
    → b.stations ≤ tasks line → IsPlacing kind (tasks line) b
balance_ok kind line c b ok r few =
    let all : (i : ℕ) → i < tasks line → In (all_tasks line) i = λ i h. In-full_to (tasks line) i ok.small h in
    let zeroth = all 0 ok.some in
    record {
      some = omega (arith, r.balance.first 0 zeroth, r.balance.last 0 zeroth);
      few = omega (arith, few, ok.small);
      each = r.each;
      placed = λ i p there.
          let P : Seatplace → Type 0 = IsPlaced kind b.stations in
          let here = all i (omega (arith, slice_get_within b.place i p there, r.each)) in
          subst P (sym (seat_read b.place i p there)) (record {
            first = r.balance.first i here;
            last = r.balance.last i here;
            side = r.sides i here;
          });
    }

-- all tasks are a set of tasks
pub all_are_tasks : (line : Line) → IsLine line → IsTaskSet line (all_tasks line)
all_are_tasks line ok = record { truths = length-full_to (tasks line); tasks = In-full_to_below (tasks line) }
