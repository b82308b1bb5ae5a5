-- What is refused isn't accepted: the balance, and the frames of a trail.
use Rattle.std.proofs.Common.{◌≡◌, ℕ, zero, suc, ◌+◌, ◌-◌, ◌<◌, Bool, true, false, nat_eq, List, [], ◌∷◌, ◌++◌, length}
use Rattle.std.proofs.Common.{refl, sym, subst, inl, inr, arith, Option, Some, None, ◌↔◌, not, is_some, IsTrue, IsNone}
use Rattle.std.proofs.Common.{IfSome}
use Rattle.std.specs.Prelude.{slice_get}
use Rattle.std.proofs.lemmas.Bool.{eq-eqb, ne_eqb}
use Rattle.std.proofs.lemmas.Option.{same_Some, slice_get_within}
use Rattle.line_instance.specs.Line.{Line, IsLine}
use Rattle.line_rules.specs.Accepted.{HasTrail, MayBegin}
use Rattle.line_rules.specs.Balance.{all_tasks}
use Rattle.line_rules.specs.Loads.{rest}
use Rattle.line_rules.specs.Entries.{IsOpen, Covers, Cites}
use Rattle.line_rules.specs.Trails.{IsPassed, IsDeepest, Leads}
use Rattle.line_rules.specs.declared.types.LineKind.{LineKind}
use Rattle.line_rules.specs.declared.types.Balance.{Balance as Assignment}
use Rattle.line_rules.specs.declared.types.Load.{Load}
use Rattle.line_rules.specs.declared.types.Entry.{Entry}
use Rattle.line_rules.specs.declared.types.OpenFrame.{OpenFrame}
use Rattle.line_rules.specs.declared.types.Trail.{Trail}
use Rattle.line_rules.specs.declared.types.Ask.{Ask}
use Rattle.line_rules.proofs.All.{In-all, In-all_lt}
use Rattle.line_check.specs.Walks.{IsFirstLate}
use Rattle.line_check.specs.Reaches.{IsMatched}
use Rattle.line_check.specs.Frames.{IsAskedAt, EndsWell, WalksTo, NeedsTo, is_deepest, IsRightAt, FailsAt}
use Rattle.line_check.specs.Frames.{IsFrameRefused, IsTrailOf}
use Rattle.line_check.specs.Certificates.{IsShown, BalanceFails, IsAllowed}
use Rattle.line_check.specs.declared.types.FrameFault.{FrameFault}
use Rattle.line_check.specs.declared.types.FrameFault.TheVariants as fault
use Rattle.line_check.specs.declared.types.Place.{Place}
use Rattle.line_check.specs.declared.types.Place.TheVariants as place
use Rattle.line_check.proofs.Exact.{not_uncovered, not_spare}
use Rattle.line_check.proofs.FrameFacts.{Asks, IsRight, AreAll, prevs, prev_shift, same_place}
use Rattle.line_check.proofs.VerdictFacts.{head_most}
use Rattle.line_rules.proofs.ListFacts.{get_none, get_some}

-- a balance with a fault doesn't show the upper bound
pub balance_not : (kind : LineKind) (line : Line) → IsLine line → (a : Ask) (upper : ℕ) (b : Assignment) (p : Place)
    → BalanceFails kind line a upper b p → IsShown kind line a upper b → ⊥
balance_not kind line ok a upper b (place.Tasks said real) h s = h
balance_not kind line ok a upper b (place.Infeasible task t) h s = h
balance_not kind line ok a upper b (place.Earlier task least) h s = h
balance_not kind line ok a upper b (place.Stations n) h s = h.1 s.0
balance_not kind line ok a upper b (place.Station i) h s =
    let m = h.1.1.passes.0 in
    h.1.1.passes.1 (s.1.balance.first i m, s.1.balance.last i m)
balance_not kind line ok a upper b (place.Side i) h s = h.1.2.passes.1 (s.1.sides i h.1.2.passes.0)
balance_not kind line ok a upper b (place.Overfull n t) h s = omega (arith, h.1.4.passes, s.1.balance.fits n)
balance_not kind line ok a upper b (place.Broken i j) h s =
    let q = h.1.4.passes in
    q.broken (s.1.balance.keeps i j q.first q.second q.before)
balance_not kind line ok a upper b (place.Together i j) h s =
    let q = h.1.5.passes in
    s.1.balance.parted i j (In-all line i ok.small (omega (arith, q.rises, In-all_lt line j q.second))) q.second q.apart
    q.together
balance_not kind line ok a upper b (place.Entry entry why) h s = h
balance_not kind line ok a upper b place.Goal h s = h
balance_not kind line ok a upper b (place.Frame frame why) h s = h

-- it shows it where no fault is found
pub shown_where : (kind : LineKind) (line : Line) → IsLine line
    → (a : Ask) (upper : ℕ) (b : Assignment) (o : Option Place) → (IsNone o → IsShown kind line a upper b)
    → IfSome o (BalanceFails kind line a upper b)
    → (r : Bool) → is_some o ≡ not r → IsTrue r ↔ IsShown kind line a upper b
shown_where kind line ok a upper b None f g true e = (λ t. f refl, λ s. refl)
shown_where kind line ok a upper b None f g false e = absurd (cc)
shown_where kind line ok a upper b (Some p) f g true e = absurd (cc)
shown_where kind line ok a upper b (Some p) f g false e = (
  λ t. absurd (cc),
  λ s. absurd (balance_not kind line ok a upper b p g s),
)

module _ (kind : LineKind) (line : Line) (X : ℕ) (es : List Entry) where
  passed_right : (f : OpenFrame) (l : Load) → IsPassed kind line X es f l → IsRight kind line X es false f
  passed_right f l p =
      let E : Option Load → Type 0 = λ z. EndsWell false line X f.mode f.set z in
      let C : Option Load → Type 0 = λ z. Covers line (λ k. IsOpen kind line X f.mode f.set f.most k
      × IsMatched false line z k) es f.set f.most X f.cites in
      record {
        belongs = p.belongs;
        last = subst E (sym p.last) (p.load, p.full);
        covers = subst C (sym p.last) p.covers;
      }

  deep_right : (f : OpenFrame) → IsDeepest kind line X es f → IsRight kind line X es true f
  deep_right f d = record { belongs = d.belongs; last = d.last; covers = d.covers }

  cons_all : (above : Option OpenFrame) (f : OpenFrame) (fs : List OpenFrame) → Asks kind line X es above f
      → IsRight kind line X es false f → AreAll kind line X es (Some f) fs → AreAll kind line X es above (f ∷ fs)
  cons_all above f [] a r h = absurd h
  cons_all above f (g ∷ fs) a r h = (a, r, h)

  all_of : (above : Option OpenFrame) (R : List Bool) (most : ℕ) (ps : List OpenFrame) (d : OpenFrame)
      → Leads kind line X es R most ps d.set d.most → IsDeepest kind line X es d
      → ((f : OpenFrame) → f.set ≡ R → f.most ≡ most → Asks kind line X es above f)
      → AreAll kind line X es above (ps ++ d ∷ [])
  all_of above R most [] d l deep asks = (asks d l.0 l.1, deep_right d deep)
  all_of above R most (p ∷ ps) d l deep asks =
      cons_all above p (ps ++ d ∷ []) (asks p l.1.0 l.1.1) (passed_right p l.0 l.1.2)
      (all_of (Some p) (rest p.set l.0) (p.most - 1) ps d l.1.3 deep
      (λ f s m. record { load = l.0; last = l.1.2.last; stations = l.1.2.stations; set = s; most = m }))

  at_of : (above : Option OpenFrame) (fs : List OpenFrame) → AreAll kind line X es above fs → (j : ℕ) (f : OpenFrame)
      → slice_get fs j ≡ Some f
      → Asks kind line X es (prevs kind line X es above fs j) f × IsRight kind line X es (nat_eq (j + 1) (length fs)) f
  at_of above [] h j f e = absurd h
  at_of above (g ∷ []) h zero f e =
      let P : OpenFrame → Type 0 = λ z. Asks kind line X es above z
      × IsRight kind line X es (nat_eq (0 + 1) (length (g ∷ []))) z in
      let B : Bool → Type 0 = λ b. IsRight kind line X es b g in
      subst P (same_Some g f e) (h.0, subst B (sym (eq-eqb (0 + 1) (length (g ∷ [])) (omega arith))) h.1)
  at_of above (g ∷ []) h (suc j) f e = absurd (get_none j f e)
  at_of above (g ∷ (k ∷ fs)) h zero f e =
      let P : OpenFrame → Type 0 = λ z. Asks kind line X es above z
      × IsRight kind line X es (nat_eq (0 + 1) (length (g ∷ (k ∷ fs)))) z in
      let B : Bool → Type 0 = λ b. IsRight kind line X es b g in
      subst P (same_Some g f e) (
        h.0,
        subst B (sym (ne_eqb (0 + 1) (length (g ∷ (k ∷ fs))) (λ q. omega (arith, q))))
            h.1,
      )
  at_of above (g ∷ (k ∷ fs)) h (suc j) f e =
      let r = at_of (Some g) (k ∷ fs) h.2 j f e in
      let A : Option OpenFrame → Type 0 = λ o. Asks kind line X es o f in
      let B : Bool → Type 0 = λ b. IsRight kind line X es b f in (
        subst A (sym (prev_shift kind line X es g (k ∷ fs) j)) r.0,
        subst B (sym (same_place kind line X es j (length (k ∷ fs)))) r.1,
      )

  asked_of : (fs : List OpenFrame) (j : ℕ) (f : OpenFrame) → j < length fs
      → Asks kind line X es (prevs kind line X es None fs j) f → IsAskedAt line fs j f
  asked_of fs zero f l a = inl (refl, a)
  asked_of fs (suc i) f l a =
      let g : (x : OpenFrame) × (slice_get fs i ≡ Some x) = get_some fs i (omega (arith, l)) in
      let A : Option OpenFrame → Type 0 = λ o. Asks kind line X es o f in
      inr (i, g.0, (omega arith, g.1, subst A g.1 a))

  -- each frame of a valid trail is right
  pub right_of : (fs : List OpenFrame) → IsTrailOf kind line X es fs → (j : ℕ) (f : OpenFrame) → slice_get fs j ≡ Some f
      → IsRightAt kind line X es fs j f
  right_of fs t j f e =
      let T : List OpenFrame → Type 0 = λ z. AreAll kind line X es None z in
      let a : AreAll kind line X es None fs = subst T (sym t.1.all)
      (all_of None (all_tasks line) t.0 t.1.passed t.1.deepest t.1.leads t.1.deep (λ g s m. s)) in
      let r = at_of None fs a j f e in
      record {
        asked = asked_of fs j f (slice_get_within fs j f e) r.0;
        belongs = r.1.belongs;
        last = r.1.last;
        covers = r.1.covers;
      }

  late_not : (P : Load → Type 0) (R : List Bool) (most c : ℕ) (cites : List ℕ) (x : ℕ) → Covers line P es R most c cites
      → IsFirstLate cites (length es) x → ⊥
  late_not P R most c cites x f h =
      let l : (l : Load) × (slice_get f.loads h.place ≡ Some l) =
      get_some f.loads h.place (omega (arith, f.as_many, slice_get_within cites h.place x h.there)) in
      let y : Cites es x (rest R l.0) (most - 1) c = f.cited h.place x l.0 h.there l.1 in
      omega (arith, h.late, slice_get_within es x y.entry y.there)

  -- a frame with a fault isn't right
  pub not_right : (fs : List OpenFrame) (j : ℕ) (f : OpenFrame) (why : FrameFault) (units : ℕ)
      → FailsAt kind line X es fs j f why units → IsRightAt kind line X es fs j f → ⊥
  not_right fs j f fault.Allowed units h r = h
  not_right fs j f fault.Set units h r = h.0 r.asked
  not_right fs j f fault.Mode units h r = h.1 r.belongs
  not_right fs j f fault.Last units h r = h.2 r.last
  not_right fs j f (fault.Cite x) units h r = late_not (NeedsTo kind line X (is_deepest fs j) f) f.set f.most X f.cites
      x r.covers h.3
  not_right fs j f (fault.Uncovered load) units h r = not_uncovered line (WalksTo line X f)
      (NeedsTo kind line X (is_deepest fs j) f) es f.set f.most X f.cites r.covers load h.1
  not_right fs j f fault.Spare units h r = not_spare line (WalksTo line X f) (NeedsTo kind line X (is_deepest fs j) f)
      es f.set f.most X f.cites r.covers h.1

  pub frame_not : (fs : List OpenFrame) (steps j : ℕ) (why : FrameFault) → IsFrameRefused kind line X es fs steps j why
      → IsTrailOf kind line X es fs → ⊥
  frame_not fs steps j why r t = not_right fs j r.frame why r.more r.fails (right_of fs t j r.frame r.there)

pub first_of : (ps : List OpenFrame) (d : OpenFrame) → (f : OpenFrame) × (slice_get (ps ++ d ∷ []) 0 ≡ Some f)
first_of [] d = (d, refl)
first_of (p ∷ ps) d = (p, refl)

-- the trail of a certificate is allowed
pub allowed_of : (kind : LineKind) (line : Line) (a : Ask) (lower upper : ℕ) (es : List Entry) (t : Trail)
    → HasTrail kind line a lower upper es (Some t) → IsAllowed a lower upper t
allowed_of kind line a lower upper es t h =
    let g : (f : OpenFrame) × (slice_get (h.2.passed ++ h.2.deepest ∷ []) 0 ≡ Some f) =
    first_of h.2.passed h.2.deepest in
    let G : List OpenFrame → Type 0 = λ z. slice_get z 0 ≡ Some g.0 in
    let there : slice_get t.frames 0 ≡ Some g.0 = subst G (sym h.2.all) g.1 in
    let M : ℕ → Type 0 = λ n. MayBegin a lower upper t.cycle n in
    (g.0, (there, subst M (sym (head_most kind line t.cycle es (all_tasks line) h.0 t.frames g.0 h.2 there)) h.1))
