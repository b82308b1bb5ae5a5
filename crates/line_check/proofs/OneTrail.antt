-- The check of the frames of a trail has one answer.
use Rattle.std.proofs.Common.{◌≡◌, ℕ, ◌+◌, ◌-◌, ◌<◌, ◌≤◌, ◌⊎◌, Bool, true, false, List, length, take, refl, sym, ap}
use Rattle.std.proofs.Common.{◌∙◌, subst, inl, inr, arith, Option, Some, None}
use Rattle.std.specs.Prelude.{slice_get}
use Rattle.std.proofs.lemmas.Bool.{cases_order}
use Rattle.std.proofs.lemmas.List.{take-take}
use Rattle.std.proofs.lemmas.Option.{same_Some}
use Rattle.line_instance.specs.Line.{Line, IsRanked}
use Rattle.line_rules.specs.Loads.{Belongs}
use Rattle.line_rules.specs.Order.{Precedes, UpTo}
use Rattle.line_rules.specs.Units.{FrameUnits, UnitsIn}
use Rattle.line_rules.specs.declared.types.LineKind.{LineKind}
use Rattle.line_rules.specs.declared.types.Load.{Load}
use Rattle.line_rules.specs.declared.types.Entry.{Entry}
use Rattle.line_rules.specs.declared.types.OpenFrame.{OpenFrame}
use Rattle.line_rules.specs.declared.types.Trail.{Trail}
use Rattle.line_rules.specs.declared.types.Ask.{Ask}
use Rattle.line_rules.proofs.Monotone.{frames_same}
use Rattle.line_rules.proofs.LoadPlaces.{three_ways}
use Rattle.line_check.specs.Walks.{IsFirstLate, AreBelow}
use Rattle.line_check.specs.Reaches.{IsMatched}
use Rattle.line_check.specs.Frames.{IsAskedAt, EndsWell, WalksTo, NeedsTo, is_deepest, FailsAt, EndsAt, AreRightTo}
use Rattle.line_check.specs.Frames.{IsFrameRefused, AreFramesEnded}
use Rattle.line_check.specs.Certificates.{TrailFails, TrailEnds}
use Rattle.line_check.specs.declared.types.FrameFault.{FrameFault}
use Rattle.line_check.specs.declared.types.FrameFault.TheVariants as fault
use Rattle.line_check.proofs.Exact.{not_past}
use Rattle.line_check.proofs.RefusalFacts.{not_right}
use Rattle.line_check.proofs.UnitFacts.{frame_units_at}
use Rattle.line_check.proofs.OneWalk.{same_end, one_late, FailsWalk, one_failure, fails_in_time}
use Rattle.line_rules.proofs.ListFacts.{get_taken}

-- the fault of a walk
abbrev pub fault_of : Option Load → FrameFault
fault_of None = fault.Spare
fault_of (Some load) = fault.Uncovered load

module _ (kind : LineKind) (line : Line) (ranked : IsRanked line) (X : ℕ) (es : List Entry) (fs : List OpenFrame) where
  -- what needs a cite is walked
  matched : (deepest : Bool) (last : Option Load) (k : Load) → IsMatched deepest line last k → UpTo line last k
  matched true last k m = m
  matched false None k m = m
  matched false (Some end) k m = inr m

  module _ (j : ℕ) (f : OpenFrame) where
    needed : (k : Load) → NeedsTo kind line X (is_deepest fs j) f k → WalksTo line X f k
    needed k n = (n.0.load, matched (is_deepest fs j) f.last k n.1)

    ways : (a b : Load) → WalksTo line X f a → WalksTo line X f b → (a ≡ b) ⊎ (Precedes line a b ⊎ Precedes line b a)
    ways a b p q = three_ways line ranked X f.mode f.set a b p.0 q.0

    -- the walk over the loads of the frame fails so
    FailsBy : Option Load → ℕ → Type 0
    FailsBy = FailsWalk line (WalksTo line X f) (NeedsTo kind line X (is_deepest fs j) f) needed ways es f.set f.most X
        f.cites

    -- this fault was found, and so many loads walked
    Is : FrameFault → FrameFault → ℕ → Type 0
    Is g why units = (why ≡ g) × (units ≡ 0)

    is_one : (g a b : FrameFault) (m n : ℕ) → Is g a m → Is g b n → (a ≡ b) × (m ≡ n)
    unfolding Is
    is_one g a b m n p q = (p.0 ∙ sym q.0, p.1 ∙ sym q.1)

    -- the tests of a frame in order: the first that fails, or what fails in the walk
    Tests : FrameFault → ℕ → Type 0
    Tests why units =
        ((IsAskedAt line fs j f → ⊥) × Is fault.Set why units)
        ⊎ (IsAskedAt line fs j f
        × (((Belongs kind f.mode → ⊥) × Is fault.Mode why units)
        ⊎ (Belongs kind f.mode
        × (((EndsWell (is_deepest fs j) line X f.mode f.set f.last → ⊥) × Is fault.Last why units)
        ⊎ (EndsWell (is_deepest fs j) line X f.mode f.set f.last
        × (((AreBelow f.cites (length es) → ⊥) × ((x : ℕ) × (IsFirstLate f.cites (length es) x
        × Is (fault.Cite x) why units)))
        ⊎ (AreBelow f.cites (length es) × ((o : Option Load) × ((why ≡ fault_of o) × FailsBy o units)))))))))

    late_is : (x : ℕ) → IsFirstLate f.cites (length es) x → AreBelow f.cites (length es) → ⊥
    late_is x h b = omega (arith, h.late, b h.place x h.there)

    tests_of : (why : FrameFault) (units : ℕ) → FailsAt kind line X es fs j f why units → Tests why units
    unfolding Tests Is FailsBy
    tests_of fault.Allowed units h = absurd h
    tests_of fault.Set units h = inl (h.0, (refl, h.1))
    tests_of fault.Mode units h = inr (h.0, inl (h.1, (refl, h.2)))
    tests_of fault.Last units h = inr (h.0, inr (h.1, inl (h.2, (refl, h.3))))
    tests_of (fault.Cite x) units h = inr (h.0, inr (h.1, inr (h.2, inl (late_is x h.3, (x, (h.3, (refl, h.4)))))))
    tests_of (fault.Uncovered load) units h = inr (
      h.0.asked,
      inr (h.0.belongs, inr (h.0.last, inr (h.0.below, (Some load, (refl, (h.1, h.2)))))),
    )
    tests_of fault.Spare units h = inr (
      h.0.asked,
      inr (
        h.0.belongs,
        inr (h.0.last, inr (h.0.below, (None, (refl, (h.1, h.2))))),
      ),
    )

    late_one : (a b : FrameFault) (m n : ℕ) → ((x : ℕ) × (IsFirstLate f.cites (length es) x × Is (fault.Cite x) a m))
        → ((x : ℕ) × (IsFirstLate f.cites (length es) x × Is (fault.Cite x) b n)) → (a ≡ b) × (m ≡ n)
    late_one a b m n p q =
        let e : p.0 ≡ q.0 = one_late f.cites (length es) p.0 q.0 p.1.0 q.1.0 in
        let P : ℕ → Type 0 = λ x. Is (fault.Cite x) a m in
        is_one (fault.Cite q.0) a b m n (subst P e p.1.1) q.1.1

    walk_one : (a b : FrameFault) (m n : ℕ) → ((o : Option Load) × ((a ≡ fault_of o) × FailsBy o m))
        → ((o : Option Load) × ((b ≡ fault_of o) × FailsBy o n)) → (a ≡ b) × (m ≡ n)
    unfolding FailsBy
    walk_one a b m n p q =
        let e : (p.0 ≡ q.0) × (m ≡ n) = one_failure line (WalksTo line X f) (NeedsTo kind line X (is_deepest fs j) f)
        needed ways es f.set f.most X f.cites p.0 q.0 m n p.1.1 q.1.1 in
        (p.1.0 ∙ (ap (λ (o : Option Load). fault_of o) e.0 ∙ sym q.1.0), e.1)

    -- one frame has one fault
    tests_one : (a b : FrameFault) (m n : ℕ) → Tests a m → Tests b n → (a ≡ b) × (m ≡ n)
    unfolding Tests
    tests_one a b m n p q = same_end p q (is_one fault.Set a b m n) (λ p2 q2.
        same_end p2 q2 (is_one fault.Mode a b m n) (λ p3 q3.
        same_end p3 q3 (is_one fault.Last a b m n) (λ p4 q4.
        same_end p4 q4 (late_one a b m n) (walk_one a b m n))))

    pub one_fault : (a b : FrameFault) (m n : ℕ) → FailsAt kind line X es fs j f a m → FailsAt kind line X es fs j f b n
        → (a ≡ b) × (m ≡ n)
    one_fault a b m n p q = tests_one a b m n (tests_of a m p) (tests_of b n q)

    -- no fault is found within the steps where they end
    tests_in_time : (a : FrameFault) (m steps : ℕ) → Tests a m → m ≤ steps → EndsAt kind line X es fs j f steps → ⊥
    unfolding Tests FailsBy
    tests_in_time a m steps t few h = elim t [
      | inl x ↦ x.0 h.0.asked
      | inr y ↦ elim y.1 [
        | inl x ↦ x.0 h.0.belongs
        | inr z ↦ elim z.1 [
          | inl x ↦ x.0 h.0.last
          | inr w ↦ elim w.1 [
            | inl x ↦ x.0 h.0.below
            | inr v ↦ fails_in_time line (WalksTo line X f) (NeedsTo kind line X (is_deepest fs j) f) needed ways es
                f.set f.most X f.cites v.1.0 m steps v.1.1.1 few h.1
          ]
        ]
      ]
    ]

    pub fault_in_time : (a : FrameFault) (m steps : ℕ) → FailsAt kind line X es fs j f a m → m ≤ steps
        → EndsAt kind line X es fs j f steps → ⊥
    fault_in_time a m steps p few h = tests_in_time a m steps (tests_of a m p) few h

  module _ (steps : ℕ) where
    -- a frame below one that is refused, or that the steps end at, is right
    right_below : (j at units : ℕ) (f : OpenFrame) (why : FrameFault) (m : ℕ) → j < at
        → AreRightTo kind line X es fs at units → slice_get fs j ≡ Some f → FailsAt kind line X es fs j f why m → ⊥
    right_below j at units f why m less b there h = not_right kind line X es fs j f why m h (b.right j f less there)

    refused_here : (j : ℕ) (a b : FrameFault) → IsFrameRefused kind line X es fs steps j a
        → IsFrameRefused kind line X es fs steps j b → a ≡ b
    refused_here j a b p q =
        let P : OpenFrame → Type 0 = λ z. FailsAt kind line X es fs j z a p.more in
        (one_fault j q.frame a b p.more q.more (subst P (same_Some p.frame q.frame (sym p.there ∙ q.there)) p.fails)
        q.fails).0

    pub one_refused : (j k : ℕ) (a b : FrameFault) → IsFrameRefused kind line X es fs steps j a
        → IsFrameRefused kind line X es fs steps k b → (j ≡ k) × (a ≡ b)
    one_refused j k a b p q = elim (cases_order j k) [
      | inl s ↦ (let P : ℕ → Type 0 = λ z. IsFrameRefused kind line X es fs steps z a in
          (s, refused_here k a b (subst P s p) q))
      | inr d ↦ elim d [
        | inl less ↦ absurd (right_below j k q.units p.frame a p.more less q.below p.there p.fails)
        | inr more ↦ absurd (right_below k j p.units q.frame b q.more more p.below q.there q.fails)
      ]
    ]

    ends_here : (k : ℕ) (a : FrameFault) → IsFrameRefused kind line X es fs steps k a → (units : ℕ) (f : OpenFrame)
        → UnitsIn line X (take k fs) units → slice_get fs k ≡ Some f
        → EndsAt kind line X es fs k f (steps - units) → ⊥
    ends_here k a p units f sum there h =
        let P : OpenFrame → Type 0 = λ z. FailsAt kind line X es fs k z a p.more in
        let same : p.units ≡ units = frames_same line X (take k fs) p.units units p.below.sum sum in
        fault_in_time k f a p.more (steps - units) (subst P (same_Some p.frame f (sym p.there ∙ there)) p.fails)
        (omega (arith, p.few, same)) h

    -- a frame that is refused within the steps comes before the one that the steps end at
    pub refused_in_time : (k : ℕ) (a : FrameFault) → IsFrameRefused kind line X es fs steps k a
        → AreFramesEnded kind line X es fs steps → ⊥
    refused_in_time k a p h = elim (cases_order k h.at) [
      | inl s ↦ (
          let P : ℕ → Type 0 = λ z. IsFrameRefused kind line X es fs steps z a in
          ends_here h.at a (subst P s p) h.units h.frame h.below.sum h.there h.ends
          )
      | inr d ↦ elim d [
        | inl less ↦ right_below k h.at h.units p.frame a p.more less h.below p.there p.fails
        | inr more ↦ (
            let U : List OpenFrame → Type 0 = λ z. UnitsIn line X z h.units in
            let r : (b : ℕ) × (FrameUnits line X h.frame b × (h.units + b ≤ p.units)) =
            frame_units_at line X (take k fs) h.at h.frame h.units p.units (get_taken fs k h.at h.frame more h.there)
            (subst U (sym (take-take h.at k fs (omega (arith, more)))) h.below.sum) p.below.sum in
            let past : steps - h.units < r.0 = not_past line (WalksTo line X h.frame)
            (NeedsTo kind line X (is_deepest fs h.at) h.frame) es h.frame.set h.frame.most X h.frame.cites
            (steps - h.units) r.0 h.ends.1 r.1.0 in
            omega (arith, r.1.1, h.few, p.few, past)
            )
      ]
    ]

-- the first frame of a trail that is refused, beside the bounds of a certificate
module _ (kind : LineKind) (line : Line) (ranked : IsRanked line) (a : Ask) (lower upper : ℕ) (es : List Entry) where
  pub trail_one : (left : Option Trail) (steps j k : ℕ) (x y : FrameFault)
      → TrailFails kind line a lower upper es left steps j x → TrailFails kind line a lower upper es left steps k y
      → (j ≡ k) × (x ≡ y)
  trail_one None steps j k x y p q = absurd p
  trail_one (Some t) steps j k x y p q = elim p [
    | inl u ↦ elim q [ inl v ↦ (u.1 ∙ sym v.1, u.2 ∙ sym v.2) | inr v ↦ absurd (u.0 v.0) ]
    | inr u ↦ elim q [
      | inl v ↦ absurd (v.0 u.0)
      | inr v ↦ one_refused kind line ranked t.cycle es t.frames steps j k x y
          u.1 v.1
    ]
  ]

  pub trail_in_time : (left : Option Trail) (steps j : ℕ) (x : FrameFault)
      → TrailFails kind line a lower upper es left steps j x → TrailEnds kind line a lower upper es left steps → ⊥
  trail_in_time None steps j x p h = p
  trail_in_time (Some t) steps j x p h = elim p [
    | inl u ↦ u.0 h.0
    | inr u ↦ refused_in_time kind line ranked t.cycle es t.frames steps j x u.1 h.1
  ]
