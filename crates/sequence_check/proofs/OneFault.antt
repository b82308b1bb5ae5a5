-- An entry, or a frame, has one first fault, and so has a list of them.
use Rattle.std.proofs.Common.{◌≡◌, ℕ, ◌-◌, ◌<◌, ◌≤◌, List, length, take, refl, sym, ap, ◌∙◌, subst, inl, inr, arith}
use Rattle.std.proofs.Common.{Option, Some, None, sum}
use Rattle.std.proofs.lemmas.Option.{same_Some, none-some}
use Rattle.sequence_values.specs.declared.types.Times.{Times}
use Rattle.sequence_values.specs.declared.types.SeqEntry.{SeqEntry}
use Rattle.sequence_values.specs.declared.types.SeqFrame.{SeqFrame}
use Rattle.sequence_values.specs.declared.types.SeqWhy.{SeqWhy}
use Rattle.sequence_values.specs.declared.types.SeqWhy.TheVariants as why
use Rattle.sequence_rules.specs.States.{state_bound}
use Rattle.sequence_rules.specs.Entries.{Follows, entry_units, is_left, needs_cite}
use Rattle.sequence_rules.specs.Trails.{IsAskedAt, EndsWell, up_to, matched_to, is_deepest, IsRightAt, frame_units}
use Rattle.sequence_check.specs.Walks.{IsFirstLate, AnswersStep}
use Rattle.sequence_check.specs.Faults.{cites_of, models_by, is_walked, is_open, IsCiteFor, Cites, IsReady}
use Rattle.sequence_check.specs.Faults.{FailsBy, Fails, EndsBy, Ends}
use Rattle.sequence_check.specs.Lists.{IsRefusedAt, AreStepsEnded}
use Rattle.sequence_check.specs.Frames.{FailsAt, EndsAt, IsFrameRefused, AreFramesEnded}
use Rattle.sequence_check.specs.declared.types.SeqEntryFault.{SeqEntryFault}
use Rattle.sequence_check.specs.declared.types.SeqEntryFault.TheVariants as entry_fault
use Rattle.sequence_check.specs.declared.types.SeqFrameFault.{SeqFrameFault}
use Rattle.sequence_check.specs.declared.types.SeqFrameFault.TheVariants as frame_fault
use Rattle.sequence_check.proofs.MatchFacts.{units_are}
use Rattle.sequence_check.proofs.RefusalFacts.{fails_not, fails_at_not, entry_spends, frame_spends}
use Rattle.sequence_check.proofs.OneWalk.{Test, same_end, past_test, FailsWalk, AtCites, at_late, one_at_cites}
use Rattle.sequence_check.proofs.OneWalk.{cites_in_time}
use Rattle.sequence_check.proofs.OneRefusal.{IsFirstRefused, AreEndedAt, one_refused, refused_in_time}

-- the fault of a walk: an uncovered step, or spare cites
abbrev entry_walked : Option ℕ → SeqEntryFault
entry_walked None = entry_fault.Spare
entry_walked (Some model) = entry_fault.Uncovered model

abbrev frame_walked : Option ℕ → SeqFrameFault
frame_walked None = frame_fault.Spare
frame_walked (Some model) = frame_fault.Uncovered model

-- a reason with cites isn't Bound
uncited : {w : SeqWhy} → w ≡ why.Bound → (cites : List ℕ) → cites_of w ≡ Some cites → ⊥
uncited {w} is cites has = none-some cites (ap (λ (z : SeqWhy). cites_of z) (sym is) ∙ has)

module _ (t : Times) (interval reach : ℕ) (charges : List ℕ) (earlier : List SeqEntry) (e : SeqEntry)
    (w : SeqWhy) where
  -- the tests of an entry with cites in order
  abbrev AtCited : List ℕ → SeqEntryFault → ℕ → Type 0
  AtCited cites fault units =
      Test (0 < sum e.rem) ((fault ≡ entry_fault.Empty) × (units ≡ 0))
      (AtCites (is_open t interval reach charges e w) (IsCiteFor t interval reach charges earlier e w) cites
      (is_walked e w) (length earlier) SeqEntryFault (λ x. entry_fault.Cite x) entry_walked (models_by charges e w)
      (models_by charges e w) fault units)

  abbrev FailsEntryWalk : List ℕ → Option ℕ → ℕ → Type 0
  FailsEntryWalk cites o units =
      FailsWalk (is_open t interval reach charges e w) (IsCiteFor t interval reach charges earlier e w) cites
      (is_walked e w) (models_by charges e w) (models_by charges e w) o units

  cites_are : (P : List ℕ → Type 0) (cites : List ℕ) → cites_of w ≡ Some cites → Cites w P → P cites
  cites_are P cites is b = subst P (same_Some b.0 cites (sym b.1.0 ∙ is)) b.1.1

  at_cited : (cites : List ℕ) → cites_of w ≡ Some cites → (fault : SeqEntryFault) (units : ℕ)
      → FailsBy t interval reach charges earlier e w fault units → AtCited cites fault units
  at_cited cites is (entry_fault.Bound b) units h =
      let none : None ≡ Some cites = ap (λ (z : SeqWhy). cites_of z) (sym h.0) ∙ is in
      absurd (none-some cites none)
  at_cited cites is entry_fault.Empty units h = inl (λ s. omega (arith, s, h.0.1.1), (refl, h.1))
  at_cited cites is (entry_fault.Cite x) units h =
      let p = cites_are (λ c. (0 < sum e.rem) × IsFirstLate c (length earlier) x) cites is h.0 in
      inr (
        p.0,
        at_late (is_open t interval reach charges e w) (IsCiteFor t interval reach charges earlier e w) cites
            (is_walked e w) (length earlier) SeqEntryFault (λ y. entry_fault.Cite y) entry_walked
            (models_by charges e w) (models_by charges e w) x units p.1 h.1,
      )
  at_cited cites is (entry_fault.Uncovered m) units h =
      let p = cites_are (λ c. IsReady earlier e c × FailsEntryWalk c (Some m) units) cites is
      (h.0, (h.1.0, (h.1.1.0, (h.1.1.1, h.1.1.2, h.1.1.3)))) in
      inr (p.0.some, inr (p.0.below, (Some m, (refl, p.1))))
  at_cited cites is entry_fault.Spare units h =
      let p = cites_are (λ c. IsReady earlier e c × FailsEntryWalk c None units) cites is
      (h.0, (h.1.0, (h.1.1.0, (h.1.1.1, h.1.1.2 ∙ sym (units_are charges e w cites is))))) in
      inr (p.0.some, inr (p.0.below, (None, (refl, p.1))))

  at_bound : w ≡ why.Bound → (fault : SeqEntryFault) (units : ℕ)
      → FailsBy t interval reach charges earlier e w fault units
      → (fault ≡ entry_fault.Bound (state_bound t interval reach e.rem e.starts)) × (units ≡ 0)
  at_bound is (entry_fault.Bound b) units h = (ap (λ n. entry_fault.Bound n) h.1, h.3)
  at_bound is entry_fault.Empty units h = absurd (uncited is h.0.0 h.0.1.0)
  at_bound is (entry_fault.Cite x) units h = absurd (uncited is h.0.0 h.0.1.0)
  at_bound is (entry_fault.Uncovered m) units h = absurd (uncited is h.0 h.1.0)
  at_bound is entry_fault.Spare units h = absurd (uncited is h.0 h.1.0)

  -- two faults are one, and were found after as many steps
  one_by_cites : (cites : List ℕ) → cites_of w ≡ Some cites → (a b : SeqEntryFault) (m n : ℕ)
      → FailsBy t interval reach charges earlier e w a m → FailsBy t interval reach charges earlier e w b n
      → (a ≡ b) × (m ≡ n)
  one_by_cites cites is a b m n p q = same_end (at_cited cites is a m p) (at_cited cites is b n q)
      (λ x y. (x.0 ∙ sym y.0, x.1 ∙ sym y.1))
      (one_at_cites (is_open t interval reach charges e w) (IsCiteFor t interval reach charges earlier e w) cites
      (is_walked e w) (length earlier) SeqEntryFault (λ x. entry_fault.Cite x) entry_walked (models_by charges e w)
      (models_by charges e w) a b m n)

  fault_in_time : (a : SeqEntryFault) (m steps : ℕ) → FailsBy t interval reach charges earlier e w a m → m ≤ steps
      → EndsBy t interval reach charges earlier e w steps → ⊥
  fault_in_time a m steps p few h =
      past_test (at_cited h.0 h.1.0 a m p) h.1.1.0.some (λ v.
      cites_in_time (is_open t interval reach charges e w) (IsCiteFor t interval reach charges earlier e w) h.0
      (is_walked e w) (length earlier) SeqEntryFault (λ x. entry_fault.Cite x) entry_walked (models_by charges e w)
      (models_by charges e w) a m steps v few h.1.1.0.below h.1.1.1)

one_by : (t : Times) (interval reach : ℕ) (charges : List ℕ) (earlier : List SeqEntry) (e : SeqEntry) (w : SeqWhy)
    (a b : SeqEntryFault) (m n : ℕ)
    → FailsBy t interval reach charges earlier e w a m → FailsBy t interval reach charges earlier e w b n
    → (a ≡ b) × (m ≡ n)
one_by t interval reach charges earlier e why.Bound a b m n p q =
    let x = at_bound t interval reach charges earlier e why.Bound refl a m p in
    let y = at_bound t interval reach charges earlier e why.Bound refl b n q in
    (x.0 ∙ sym y.0, x.1 ∙ sym y.1)
one_by t interval reach charges earlier e (why.Branch cites) a b m n p q =
    one_by_cites t interval reach charges earlier e (why.Branch cites) cites refl a b m n p q
one_by t interval reach charges earlier e (why.Charge cites) a b m n p q =
    one_by_cites t interval reach charges earlier e (why.Charge cites) cites refl a b m n p q

module _ (t : Times) (interval reach : ℕ) (charges : List ℕ) (earlier : List SeqEntry) (e : SeqEntry) where
  pub entry_faults_one : (a b : SeqEntryFault) (m n : ℕ) → Fails t interval reach charges earlier e a m
      → Fails t interval reach charges earlier e b n → (a ≡ b) × (m ≡ n)
  entry_faults_one a b m n p q = one_by t interval reach charges earlier e e.why a b m n p q

  pub entry_in_time : (a : SeqEntryFault) (m steps : ℕ) → Fails t interval reach charges earlier e a m → m ≤ steps
      → Ends t interval reach charges earlier e steps → ⊥
  entry_in_time a m steps p few h = fault_in_time t interval reach charges earlier e e.why a m steps p few h

-- the entries of a list
module _ (t : Times) (interval reach : ℕ) (charges : List ℕ) (es : List SeqEntry) (steps : ℕ) where
  abbrev RightEntry : ℕ → SeqEntry → Type 0
  RightEntry k e = Follows t interval reach charges (take k es) e

  abbrev FailsEntry : ℕ → SeqEntry → SeqEntryFault → ℕ → Type 0
  FailsEntry k e fault m = Fails t interval reach charges (take k es) e fault m

  abbrev EndsEntry : ℕ → SeqEntry → ℕ → Type 0
  EndsEntry k e s = Ends t interval reach charges (take k es) e s

  first_entry : (k : ℕ) (fault : SeqEntryFault) → IsRefusedAt t interval reach charges es steps k fault
      → IsFirstRefused SeqEntry SeqEntryFault es (entry_units charges) RightEntry FailsEntry EndsEntry steps k fault
  first_entry k fault h = record {
    item = h.entry;
    there = h.there;
    before = h.below.follow;
    more = h.more;
    fails = h.fails;
    few = omega (arith, h.few, h.below.total);
  }

  ended_entry : (h : AreStepsEnded t interval reach charges es steps)
      → AreEndedAt SeqEntry SeqEntryFault es (entry_units charges) RightEntry FailsEntry EndsEntry steps h.at
  ended_entry h = record {
    item = h.entry;
    there = h.there;
    before = h.below.follow;
    few = omega (arith, h.few, h.below.total);
    ends = subst (λ (n : ℕ). Ends t interval reach charges (take h.at es) h.entry (steps - n)) h.below.total h.ends;
  }

  entry_not : (k : ℕ) (e : SeqEntry) (fault : SeqEntryFault) (m : ℕ) → FailsEntry k e fault m → RightEntry k e → ⊥
  entry_not k e fault m f r = fails_not t interval reach charges (take k es) e fault m f r

  entry_one : (k : ℕ) (e : SeqEntry) (a b : SeqEntryFault) (m n : ℕ) → FailsEntry k e a m → FailsEntry k e b n → a ≡ b
  entry_one k e a b m n p q = (entry_faults_one t interval reach charges (take k es) e a b m n p q).0

  pub one_entry_refused : (j k : ℕ) (a b : SeqEntryFault) → IsRefusedAt t interval reach charges es steps j a
      → IsRefusedAt t interval reach charges es steps k b → (j ≡ k) × (a ≡ b)
  one_entry_refused j k a b p q =
      one_refused SeqEntry SeqEntryFault es (entry_units charges) RightEntry FailsEntry EndsEntry steps entry_not
      entry_one j k a
      b (first_entry j a p) (first_entry k b q)

  pub entry_refused_in_time : (j : ℕ) (a : SeqEntryFault) → IsRefusedAt t interval reach charges es steps j a
      → AreStepsEnded t interval reach charges es steps → ⊥
  entry_refused_in_time j a p h =
      refused_in_time SeqEntry SeqEntryFault es (entry_units charges) RightEntry FailsEntry EndsEntry steps
      entry_not entry_one
      (λ k e b m s f few x. entry_in_time t interval reach charges (take k es) e b m s f few x)
      (λ k e s x. entry_spends t interval reach charges (take k es) e s x) j h.at a (first_entry j a p) (ended_entry h)

module _ (t : Times) (interval reach : ℕ) (charges : List ℕ) (es : List SeqEntry) (fs : List SeqFrame) where
  -- the tests of a frame in order
  abbrev AtFrame : ℕ → SeqFrame → SeqFrameFault → ℕ → Type 0
  AtFrame j f fault units =
      Test (IsAskedAt t interval reach fs j f) ((fault ≡ frame_fault.Set) × (units ≡ 0))
      (Test (EndsWell (is_deepest fs j) f.rem f.last) ((fault ≡ frame_fault.Last) × (units ≡ 0))
      (AtCites (needs_cite t interval reach f.rem f.starts f.need)
      (AnswersStep t interval reach charges es f.rem f.starts f.need) f.cites (is_left f.rem) (length es) SeqFrameFault
      (λ x. frame_fault.Cite x) frame_walked (matched_to (is_deepest fs j) f.last) (up_to f.last) fault units))

  at_frame : (j : ℕ) (f : SeqFrame) (fault : SeqFrameFault) (units : ℕ)
      → FailsAt t interval reach charges es fs j f fault units → AtFrame j f fault units
  at_frame j f frame_fault.Allowed units h = absurd h
  at_frame j f frame_fault.Set units h = inl (h.0, (refl, h.1))
  at_frame j f frame_fault.Last units h = inr (h.0, inl (h.1, (refl, h.2)))
  at_frame j f (frame_fault.Cite x) units h =
      inr (
        h.0,
        inr (
          h.1,
          at_late (needs_cite t interval reach f.rem f.starts f.need)
              (AnswersStep t interval reach charges es f.rem f.starts f.need) f.cites (is_left f.rem) (length es)
              SeqFrameFault (λ y. frame_fault.Cite y) frame_walked (matched_to (is_deepest fs j) f.last)
              (up_to f.last) x
              units h.2 h.3,
        ),
      )
  at_frame j f (frame_fault.Uncovered m) units h = inr (
    h.0.asked,
    inr (h.0.last, inr (h.0.below, (Some m, (refl, (h.1, h.2, h.3))))),
  )
  at_frame j f frame_fault.Spare units h = inr (h.0.asked, inr (h.0.last, inr (h.0.below, (None, (refl, (h.1, h.2))))))

  frame_one : (j : ℕ) (f : SeqFrame) (a b : SeqFrameFault) (m n : ℕ)
      → FailsAt t interval reach charges es fs j f a m → FailsAt t interval reach charges es fs j f b n → a ≡ b
  frame_one j f a b m n p q = same_end (at_frame j f a m p) (at_frame j f b n q) (λ x y. x.0 ∙ sym y.0)
      (λ p2 q2. same_end p2 q2 (λ x y. x.0 ∙ sym y.0) (λ p3 q3.
      (one_at_cites (needs_cite t interval reach f.rem f.starts f.need)
      (AnswersStep t interval reach charges es f.rem f.starts f.need) f.cites (is_left f.rem) (length es) SeqFrameFault
      (λ x. frame_fault.Cite x) frame_walked (matched_to (is_deepest fs j) f.last) (up_to f.last) a b m n p3 q3).0))

  frame_in_time : (j : ℕ) (f : SeqFrame) (a : SeqFrameFault) (m steps : ℕ)
      → FailsAt t interval reach charges es fs j f a m → m ≤ steps → EndsAt t interval reach charges es fs j f steps → ⊥
  frame_in_time j f a m steps p few h =
      past_test (at_frame j f a m p) h.0.asked (λ v. past_test v h.0.last (λ w.
      cites_in_time (needs_cite t interval reach f.rem f.starts f.need)
      (AnswersStep t interval reach charges es f.rem f.starts f.need) f.cites (is_left f.rem) (length es) SeqFrameFault
      (λ x. frame_fault.Cite x) frame_walked (matched_to (is_deepest fs j) f.last) (up_to f.last) a m steps w few
      h.0.below h.1))

  -- the frames of a trail
  module _ (steps : ℕ) where
    abbrev RightFrame : ℕ → SeqFrame → Type 0
    RightFrame j f = IsRightAt t interval reach charges es fs j f

    abbrev FailsFrame : ℕ → SeqFrame → SeqFrameFault → ℕ → Type 0
    FailsFrame j f fault m = FailsAt t interval reach charges es fs j f fault m

    abbrev EndsFrame : ℕ → SeqFrame → ℕ → Type 0
    EndsFrame j f s = EndsAt t interval reach charges es fs j f s

    first_frame : (j : ℕ) (fault : SeqFrameFault) → IsFrameRefused t interval reach charges es fs steps j fault
        → IsFirstRefused SeqFrame SeqFrameFault fs frame_units RightFrame FailsFrame EndsFrame steps j fault
    first_frame j fault h = record {
      item = h.frame;
      there = h.there;
      before = h.below.right;
      more = h.more;
      fails = h.fails;
      few = omega (arith, h.few, h.below.total);
    }

    frame_not : (j : ℕ) (f : SeqFrame) (fault : SeqFrameFault) (m : ℕ) → FailsFrame j f fault m → RightFrame j f → ⊥
    frame_not j f fault m h r = fails_at_not t interval reach charges es fs j f r fault m h

    pub one_frame_refused : (j k : ℕ) (a b : SeqFrameFault) → IsFrameRefused t interval reach charges es fs steps j a
        → IsFrameRefused t interval reach charges es fs steps k b → (j ≡ k) × (a ≡ b)
    one_frame_refused j k a b p q =
        one_refused SeqFrame SeqFrameFault fs frame_units RightFrame FailsFrame EndsFrame steps frame_not frame_one j k
        a b (first_frame j a p) (first_frame k b q)

    pub frame_refused_in_time : (j : ℕ) (a : SeqFrameFault) → IsFrameRefused t interval reach charges es fs steps j a
        → AreFramesEnded t interval reach charges es fs steps → ⊥
    frame_refused_in_time j a p h =
        let ended : AreEndedAt SeqFrame SeqFrameFault fs frame_units RightFrame FailsFrame EndsFrame steps h.at =
        record {
          item = h.frame;
          there = h.there;
          before = h.below.right;
          few = omega (arith, h.few, h.below.total);
          ends = subst (λ (n : ℕ). EndsAt t interval reach charges es fs h.at h.frame (steps - n)) h.below.total h.ends;
        } in
        refused_in_time SeqFrame SeqFrameFault fs frame_units RightFrame FailsFrame EndsFrame steps frame_not frame_one
        frame_in_time
        (λ k f s x. frame_spends t interval reach charges es fs k f s x) j h.at a (first_frame j a p) ended
