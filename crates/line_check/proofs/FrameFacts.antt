-- Frames that are right one by one are a valid trail, and what a fault of a frame rules out.
use Rattle.std.proofs.Common.{◌≡◌, ℕ, zero, suc, ◌+◌, ◌≤◌, Bool, true, false, nat_eq, List, [], ◌∷◌, length, take}
use Rattle.std.proofs.Common.{refl, sym, ap, ◌∙◌, subst, inl, inr, arith, Option, Some, None}
use Rattle.std.specs.Prelude.{slice_get}
use Rattle.std.proofs.lemmas.Bool.{cases_eq, eq-eqb, ne_eqb}
use Rattle.std.proofs.lemmas.List.{take_all}
use Rattle.std.proofs.lemmas.Option.{same_Some, slice_get_within}
use Rattle.line_instance.specs.Line.{Line}
use Rattle.line_rules.specs.Balance.{all_tasks}
use Rattle.line_rules.specs.Loads.{IsLoad, IsFull, Belongs, rest}
use Rattle.line_rules.specs.Entries.{IsOpen, Covers}
use Rattle.line_rules.specs.Trails.{IsPassed, Leads, IsTrail}
use Rattle.line_rules.specs.Units.{FrameUnits, UnitsIn}
use Rattle.line_rules.specs.declared.types.LineKind.{LineKind}
use Rattle.line_rules.specs.declared.types.Load.{Load}
use Rattle.line_rules.specs.declared.types.Entry.{Entry}
use Rattle.line_rules.specs.declared.types.OpenFrame.{OpenFrame}
use Rattle.line_rules.proofs.Paths.{units_push_frame}
use Rattle.line_check.specs.Reaches.{IsMatched}
use Rattle.line_check.specs.Frames.{IsLeftBy, IsAskedAt, EndsWell, NeedsTo, IsRightAt, AreRightTo, IsTrailOf}
use Rattle.line_rules.proofs.ListFacts.{take_next}

module _ (kind : LineKind) (line : Line) (X : ℕ) (es : List Entry) where
  pub frames_more : (fs : List OpenFrame) (k units more : ℕ) (f : OpenFrame) → slice_get fs k ≡ Some f
      → AreRightTo kind line X es fs k units → IsRightAt kind line X es fs k f → FrameUnits line X f more
      → AreRightTo kind line X es fs (k + 1) (units + more)
  frames_more fs k units more f there r right u = record {
    right = λ i g l h. elim (cases_eq i k) [
      | inl s ↦
          let P : OpenFrame → Type 0 = λ z. IsRightAt kind line X es fs k z in
          let Q : ℕ → Type 0 = λ z. IsRightAt kind line X es fs z g in
          subst Q (sym s) (subst P (same_Some f g (sym there ∙ (ap (λ (z : ℕ). slice_get fs z) (sym s) ∙ h))) right)
      | inr d ↦ r.right i g (omega (arith, l, d)) h
    ];
    sum =
        let s : suc k ≡ k + 1 = omega arith in
        let P : List OpenFrame → Type 0 = λ z. UnitsIn line X z (units + more) in
        let Q : ℕ → Type 0 = λ z. UnitsIn line X (take z fs) (units + more) in
        subst Q s (subst P (sym (take_next fs k f there)) (units_push_frame line X (take k fs) f units more r.sum u));
  }

  -- a frame with the question that it should have, after a frame or first
  abbrev pub Asks : Option OpenFrame → OpenFrame → Type 0
  Asks None f = f.set ≡ all_tasks line
  Asks (Some above) f = IsLeftBy above f

  -- a right frame, whether it is the deepest or not
  pub record IsRight (deepest : Bool) (f : OpenFrame) : Type 0 where
    pub belongs : Belongs kind f.mode
    pub last : EndsWell deepest line X f.mode f.set f.last
    pub covers : Covers line (NeedsTo kind line X deepest f) es f.set f.most X f.cites

  -- each frame is right, and has the question that the frame above it leaves
  abbrev pub AreAll : Option OpenFrame → List OpenFrame → Type 0
  AreAll above [] = ⊥
  AreAll above (f ∷ []) = Asks above f × IsRight true f
  AreAll above (f ∷ (g ∷ fs)) = Asks above f × IsRight false f × AreAll (Some f) (g ∷ fs)

  passed_of : (f : OpenFrame) (last : Option Load) → f.last ≡ last → IsRight false f → (l : Load) → last ≡ Some l
      → 1 ≤ f.most → IsPassed kind line X es f l
  passed_of f None e r l q some = absurd (cc)
  passed_of f (Some k) e r l q some =
      let s : f.last ≡ Some l = e ∙ q in
      let E : Option Load → Type 0 = λ z. EndsWell false line X f.mode f.set z in
      let C : Option Load → Type 0 = λ z. Covers line (λ k. IsOpen kind line X f.mode f.set f.most k
      × IsMatched false line z k) es f.set f.most X f.cites in
      let w : IsLoad line X f.mode f.set l × IsFull line X f.mode f.set l = subst E s r.last in
      record { belongs = r.belongs; stations = some; last = s; load = w.0; full = w.1; covers = subst C s r.covers }

  first_asks : (g : OpenFrame) (fs : List OpenFrame) (f : OpenFrame) → AreAll (Some f) (g ∷ fs) → IsLeftBy f g
  first_asks g [] f a = a.0
  first_asks g (h ∷ fs) f a = a.0

  -- so the frames lead from the first question to the deepest
  pub leads_of : (f : OpenFrame) (fs : List OpenFrame) (above : Option OpenFrame) → AreAll above (f ∷ fs)
      → IsTrail kind line X es f.set f.most (f ∷ fs)
  leads_of f [] above a = record {
    passed = [];
    deepest = f;
    all = refl;
    leads = (refl, refl);
    deep = record { belongs = a.1.belongs; last = a.1.last; covers = a.1.covers };
  }
  leads_of f (g ∷ fs) above a =
      let t : IsTrail kind line X es g.set g.most (g ∷ fs) = leads_of g fs (Some f) a.2 in
      let q : IsLeftBy f g = first_asks g fs f a.2 in
      let p : IsPassed kind line X es f q.load = passed_of f f.last refl a.1 q.load q.last q.stations in
      let S : List Bool → Type 0 = λ z. Leads kind line X es z g.most t.passed t.deepest.set t.deepest.most in
      let M : ℕ → Type 0 = λ z. Leads kind line X es (rest f.set q.load) z t.passed t.deepest.set t.deepest.most in
      record {
        passed = f ∷ t.passed;
        deepest = t.deepest;
        all = ap (λ (z : List OpenFrame). f ∷ z) t.all;
        leads = (q.load, (refl, refl, p, subst M q.most (subst S q.set t.leads)));
        deep = t.deep;
      }

  abbrev pub prevs : Option OpenFrame → List OpenFrame → ℕ → Option OpenFrame
  prevs p fs zero = p
  prevs p fs (suc i) = slice_get fs i

  pub prev_shift : (f : OpenFrame) (fs : List OpenFrame) (j : ℕ) → slice_get (f ∷ fs) j ≡ prevs (Some f) fs j
  prev_shift f fs zero = refl
  prev_shift f fs (suc j) = refl

  pub same_place : (j n : ℕ) → nat_eq (suc j + 1) (suc n) ≡ nat_eq (j + 1) n
  same_place j n = elim (cases_eq (j + 1) n) [
    | inl e ↦ eq-eqb (suc j + 1) (suc n) (omega (arith, e)) ∙ sym (eq-eqb (j + 1) n e)
    | inr d ↦ ne_eqb (suc j + 1) (suc n) (λ e. d (omega (arith, e))) ∙ sym (ne_eqb (j + 1) n d)
  ]

  all_from : (p : Option OpenFrame) (fs : List OpenFrame) (f : OpenFrame)
      → ((j : ℕ) (g : OpenFrame) → slice_get (f ∷ fs) j ≡ Some g
      → Asks (prevs p (f ∷ fs) j) g × IsRight (nat_eq (j + 1) (length (f ∷ fs))) g) → AreAll p (f ∷ fs)
  all_from p [] f h =
      let P : Bool → Type 0 = λ b. IsRight b f in
      let e : nat_eq (0 + 1) (length (f ∷ [])) ≡ true = eq-eqb (0 + 1) (length (f ∷ [])) (omega arith) in
      ((h 0 f refl).0, subst P e (h 0 f refl).1)
  all_from p (g ∷ fs) f h =
      let P : Bool → Type 0 = λ b. IsRight b f in
      let e : nat_eq (0 + 1) (length (f ∷ (g ∷ fs))) ≡ false =
      ne_eqb (0 + 1) (length (f ∷ (g ∷ fs))) (λ q. omega (arith, q)) in (
        (h 0 f refl).0,
        subst P e (h 0 f refl).1,
        all_from (Some f) fs g (λ j x q.
            let r : Asks (slice_get (f ∷ (g ∷ fs)) j) x × IsRight (nat_eq (suc j + 1) (length (f ∷ (g ∷ fs)))) x =
            h (suc j) x q in
            let A : Option OpenFrame → Type 0 = λ o. Asks o x in
            let B : Bool → Type 0 = λ b. IsRight b x in
            (subst A (prev_shift f (g ∷ fs) j) r.0, subst B (same_place j (length (g ∷ fs))) r.1)),
      )

  asks_of : (fs : List OpenFrame) (j : ℕ) (f : OpenFrame) → IsAskedAt line fs j f → Asks (prevs None fs j) f
  asks_of fs zero f (inl a) = a.1
  asks_of fs zero f (inr b) = absurd (omega (arith, b.2.0))
  asks_of fs (suc i) f (inl a) = absurd (omega (arith, a.0))
  asks_of fs (suc i) f (inr b) =
      let e : b.0 ≡ i = omega (arith, b.2.0) in
      let G : ℕ → Type 0 = λ z. slice_get fs z ≡ Some b.1 in
      let A : Option OpenFrame → Type 0 = λ o. Asks o f in
      subst A (sym (subst G e b.2.1)) b.2.2

  first_set : (fs : List OpenFrame) (f : OpenFrame) → AreAll None (f ∷ fs) → f.set ≡ all_tasks line
  first_set [] f a = a.0
  first_set (g ∷ fs) f a = a.0

  trail_of : (fs : List OpenFrame) → 1 ≤ length fs → ((j : ℕ) (g : OpenFrame) → slice_get fs j ≡ Some g
      → IsRightAt kind line X es fs j g) → IsTrailOf kind line X es fs
  trail_of [] l h = absurd (omega (arith, l))
  trail_of (f ∷ fs) l h =
      let a : AreAll None (f ∷ fs) = all_from None fs f (λ j g e.
      let r : IsRightAt kind line X es (f ∷ fs) j g = h j g e in
      (asks_of (f ∷ fs) j g r.asked, record { belongs = r.belongs; last = r.last; covers = r.covers })) in
      let P : List Bool → Type 0 = λ z. IsTrail kind line X es z f.most (f ∷ fs) in
      (f.most, subst P (first_set fs f a) (leads_of f fs None a))

  pub all_frames : (fs : List OpenFrame) (k units steps : ℕ) → 1 ≤ length fs → length fs ≤ k → units ≤ steps
      → AreRightTo kind line X es fs k units
      → IsTrailOf kind line X es fs × UnitsIn line X fs units × (units ≤ steps)
  all_frames fs k units steps some l few r =
      let P : List OpenFrame → Type 0 = λ z. UnitsIn line X z units in (
        trail_of fs some (λ j f g. r.right j f (omega (arith, l, slice_get_within fs j f g)) g),
        subst P (take_all k fs l) r.sum,
        few,
      )
