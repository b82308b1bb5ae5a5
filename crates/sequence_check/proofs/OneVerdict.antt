-- The check of a certificate has one answer.
use Rattle.std.proofs.Common.{◌≡◌, ℕ, ◌-◌, ◌≤◌, List, length, take, refl, sym, ap, ◌∙◌, subst, inl, inr, arith}
use Rattle.sequence_values.specs.declared.types.Times.{Times}
use Rattle.sequence_values.specs.declared.types.SeqEntry.{SeqEntry}
use Rattle.sequence_values.specs.declared.types.SeqCert.{SeqCert}
use Rattle.sequence_rules.specs.States.{IsSequenceOf, cost, root_starts}
use Rattle.sequence_rules.specs.Charges.{listed_charges}
use Rattle.sequence_rules.specs.Entries.{IsDerived, units_of}
use Rattle.sequence_rules.specs.Trails.{IsAllowed}
use Rattle.sequence_rules.specs.Accepted.{IsShownLower}
use Rattle.sequence_check.specs.declared.types.SeqEntryFault.{SeqEntryFault}
use Rattle.sequence_check.specs.declared.types.SeqFrameFault.{SeqFrameFault}
use Rattle.sequence_check.specs.declared.types.SeqFrameFault.TheVariants as frame_fault
use Rattle.sequence_check.specs.declared.types.SeqPlace.{SeqPlace}
use Rattle.sequence_check.specs.declared.types.SeqPlace.TheVariants as place
use Rattle.sequence_check.specs.declared.types.SeqVerified.{SeqVerified}
use Rattle.sequence_check.specs.declared.types.SeqVerified.TheVariants as verified
use Rattle.sequence_check.specs.declared.types.SeqEntryChecked.{SeqEntryChecked}
use Rattle.sequence_check.specs.declared.types.SeqEntryChecked.TheVariants as checked
use Rattle.sequence_check.specs.Faults.{Ends, IsChecked}
use Rattle.sequence_check.specs.Lists.{IsRefusedAt}
use Rattle.sequence_check.specs.Frames.{IsFrameRefused, AreFramesEnded}
use Rattle.sequence_check.specs.Laws.{VerdictIsOne}
use Rattle.sequence_check.specs.Verdicts.{IsShown, FailsFirst, EndsEarly, IsVerdict}
use Rattle.sequence_check.proofs.RefusalFacts.{fails_not, refused_not, entries_end, ended_more, entry_spends}
use Rattle.sequence_check.proofs.OneWalk.{Test, same_end, past_test}
use Rattle.sequence_check.proofs.OneFault.{one_entry_refused, entry_refused_in_time, one_frame_refused}
use Rattle.sequence_check.proofs.OneFault.{frame_refused_in_time, entry_faults_one, entry_in_time}

module _ (t : Times) (interval reach : ℕ) (cert : SeqCert) (steps : ℕ) where
  -- the checks in order, up to the first that fails
  abbrev AtEntry : SeqPlace → Type 0
  AtEntry p = (k : ℕ) × (why : SeqEntryFault) × ((p ≡ place.Entry k why)
      × IsRefusedAt t interval reach (listed_charges cert.charges) cert.entries steps k why)

  abbrev AtFrame : SeqPlace → Type 0
  AtFrame p = (j : ℕ) × (why : SeqFrameFault) × ((p ≡ place.Frame j why)
      × IsFrameRefused t interval reach (listed_charges cert.charges) cert.entries cert.frames (steps - units_of
      (listed_charges cert.charges) cert.entries) j why)

  abbrev AtProof : SeqPlace → Type 0
  AtProof p =
      Test (IsDerived t interval reach (listed_charges cert.charges) cert.entries
      × (units_of (listed_charges cert.charges) cert.entries ≤ steps)) (AtEntry p)
      (Test (IsShownLower t cert) (p ≡ place.Goal)
      (Test (IsAllowed cert.lower cert.upper cert.frames) (p ≡ place.Frame 0 frame_fault.Allowed) (AtFrame p)))

  abbrev AtCheck : SeqPlace → Type 0
  AtCheck p =
      Test (cert.models ≡ length t.demands) (p ≡ place.Models cert.models)
      (Test (cert.stations ≡ t.stations) (p ≡ place.Stations cert.stations)
      (Test (IsSequenceOf t.demands cert.sequence) (p ≡ place.Sequence)
      (Test (cost t interval reach (root_starts t) cert.sequence ≡ cert.upper)
      (p ≡ place.Total (cost t interval reach (root_starts t) cert.sequence)) (AtProof p))))

  shown : (p : SeqPlace) → IsShown t interval reach cert → AtProof p → AtCheck p
  shown p s rest = inr (s.line.models, inr (s.line.stations, inr (s.sequence, inr (s.total, rest))))

  at_check : (p : SeqPlace) → FailsFirst t interval reach cert steps p → AtCheck p
  at_check (place.Models said) h = inl (h.1, ap (λ n. place.Models n) h.0)
  at_check (place.Stations said) h = inr (h.0, inl (h.2, ap (λ n. place.Stations n) h.1))
  at_check place.Sequence h = inr (h.0.models, inr (h.0.stations, inl (h.1, refl)))
  at_check (place.Total total) h = inr (
    h.0.models,
    inr (
      h.0.stations,
      inr (h.1, inl (λ e. h.3 (h.2 ∙ e), ap (λ n. place.Total n) h.2)),
    ),
  )
  at_check (place.Entry k why) h =
      shown (place.Entry k why) h.0 (inl (
        λ d. fails_not t interval reach (listed_charges cert.charges) (take k cert.entries) h.1.entry why h.1.more
            h.1.fails (d.0 k h.1.entry h.1.there),
        (k, why, (refl, h.1)),
      ))
  at_check place.Goal h = shown place.Goal h.0 (inr ((h.1, h.2), inl (λ s. h.4 (s h.3), refl)))
  at_check (place.Frame j why) h =
      let few : units_of (listed_charges cert.charges) cert.entries ≤ steps = omega (arith, h.1.1.total, h.1.2) in
      shown (place.Frame j why) h.1.0 (inr (
        (h.1.1.derived, few),
        inr (
          h.1.1.goal,
          elim h.1.3 [
            | inl first ↦ inl (first.0, ap (λ i. place.Frame i why) first.1 ∙ ap (λ w. place.Frame 0 w) first.2)
            | inr later ↦ inr (
              later.0,
              (
                j,
                why,
                (
                  refl,
                  subst
                      (λ (n : ℕ). IsFrameRefused t interval reach
                      (listed_charges cert.charges) cert.entries cert.frames (steps - n) j why)
                      h.1.1.total
                      later.1,
                ),
              ),
            )
          ],
        ),
      ))

  same_entry : (p q : SeqPlace) → AtEntry p → AtEntry q → p ≡ q
  same_entry p q x y =
      let s : (x.0 ≡ y.0) × (x.1 ≡ y.1) = one_entry_refused t interval reach
      (listed_charges cert.charges) cert.entries steps x.0 y.0 x.1 y.1 x.2.1
      y.2.1 in
      x.2.0 ∙ (ap (λ (k : ℕ). place.Entry k x.1) s.0 ∙ (ap (λ (w : SeqEntryFault). place.Entry y.0 w) s.1 ∙ sym y.2.0))

  frame_one : (p q : SeqPlace) → AtFrame p → AtFrame q → p ≡ q
  frame_one p q x y =
      let s : (x.0 ≡ y.0) × (x.1 ≡ y.1) = one_frame_refused t interval reach
      (listed_charges cert.charges) cert.entries cert.frames
      (steps - units_of (listed_charges cert.charges) cert.entries) x.0 y.0 x.1 y.1 x.2.1 y.2.1 in
      x.2.0 ∙ (ap (λ (j : ℕ). place.Frame j x.1) s.0 ∙ (ap (λ (w : SeqFrameFault). place.Frame y.0 w) s.1 ∙ sym y.2.0))

  -- two checks that fail first are one
  check_one : (p q : SeqPlace) → AtCheck p → AtCheck q → p ≡ q
  check_one p q x y =
      same_end x y (λ u v. u ∙ sym v) (λ x2 y2.
      same_end x2 y2 (λ u v. u ∙ sym v) (λ x3 y3.
      same_end x3 y3 (λ u v. u ∙ sym v) (λ x4 y4.
      same_end x4 y4 (λ u v. u ∙ sym v) (λ x5 y5.
      same_end x5 y5 (same_entry p q) (λ x6 y6.
      same_end x6 y6 (λ u v. u ∙ sym v) (λ x7 y7.
      same_end x7 y7 (λ u v. u ∙ sym v) (frame_one p q)))))))

  -- no check fails within the steps where they end
  proof_in_time : (p : SeqPlace) → AtProof p → EndsEarly t interval reach cert steps → ⊥
  proof_in_time p x (inl h) = elim x [
    | inl u ↦ entry_refused_in_time t interval reach
        (listed_charges cert.charges) cert.entries steps u.1.0 u.1.1 u.1.2.1 h
    | inr u ↦ omega (arith, u.0.1, entries_end t interval reach (listed_charges cert.charges) cert.entries steps h)
  ]
  proof_in_time p x (inr h) =
      let few : units_of (listed_charges cert.charges) cert.entries ≤ steps = omega (arith, h.1.0.total, h.1.1) in
      past_test x (h.1.0.derived, few) (λ x2. past_test x2 h.1.0.goal (λ x3. past_test x3 h.1.2 (λ x4.
      frame_refused_in_time t interval reach (listed_charges cert.charges) cert.entries cert.frames
      (steps - units_of (listed_charges cert.charges) cert.entries) x4.0 x4.1 x4.2.1
      (subst (λ (n : ℕ). AreFramesEnded t interval reach (listed_charges cert.charges) cert.entries cert.frames
      (steps - n)) h.1.0.total h.1.3))))

  in_time : (p : SeqPlace) → FailsFirst t interval reach cert steps p → IsShown t interval reach cert
      → EndsEarly t interval reach cert steps → ⊥
  in_time p f s h =
      past_test (at_check p f) s.line.models (λ x2. past_test x2 s.line.stations
      (λ x3. past_test x3 s.sequence (λ x4. past_test x4 s.total (λ x5. proof_in_time p x5 h))))

accepted_one : (l u m k v n : ℕ) → l ≡ k → u ≡ v → m ≡ n → verified.Accepted l u m ≡ verified.Accepted k v n
accepted_one l u m k v n p q r = cc

certificate_one : (t : Times) (interval reach : ℕ) (cert : SeqCert) (steps : ℕ) (v w : SeqVerified)
    → IsVerdict t interval reach cert steps v → IsVerdict t interval reach cert steps w → v ≡ w
certificate_one t interval reach cert steps (verified.Accepted l u m) (verified.Accepted k v n) p q =
    accepted_one l u m k v n (p.0 ∙ sym q.0) (p.1 ∙ sym q.1) (p.3 ∙ sym q.3)
certificate_one t interval reach cert steps (verified.Accepted l u m) (verified.Refused y) p q =
    absurd (refused_not t interval reach cert steps y q p.2)
certificate_one t interval reach cert steps (verified.Accepted l u m) (verified.StepsEnded s) p q =
    absurd (omega (arith, p.3, p.4, ended_more t interval reach cert steps q.2))
certificate_one t interval reach cert steps (verified.Refused x) (verified.Accepted k v n) p q =
    absurd (refused_not t interval reach cert steps x p q.2)
certificate_one t interval reach cert steps (verified.Refused x) (verified.Refused y) p q =
    ap (λ (z : SeqPlace). verified.Refused z) (check_one t interval reach cert steps x y
    (at_check t interval reach cert steps x p) (at_check t interval reach cert steps y q))
certificate_one t interval reach cert steps (verified.Refused x) (verified.StepsEnded s) p q =
    absurd (in_time t interval reach cert steps x p q.1 q.2)
certificate_one t interval reach cert steps (verified.StepsEnded s) (verified.Accepted k v n) p q =
    absurd (omega (arith, q.3, q.4, ended_more t interval reach cert steps p.2))
certificate_one t interval reach cert steps (verified.StepsEnded s) (verified.Refused y) p q =
    absurd (in_time t interval reach cert steps y q p.1 p.2)
certificate_one t interval reach cert steps (verified.StepsEnded s) (verified.StepsEnded r) p q =
    ap (λ (z : ℕ). verified.StepsEnded z) (p.0 ∙ sym q.0)

module _ (t : Times) (interval reach : ℕ) (charges : List ℕ) (earlier : List SeqEntry) (e : SeqEntry) (steps : ℕ) where
  one_right : (m n : ℕ) → IsChecked t interval reach charges earlier e steps (checked.Right m)
      → IsChecked t interval reach charges earlier e steps (checked.Right n) → checked.Right m ≡ checked.Right n
  one_right m n p q = ap (λ (z : ℕ). checked.Right z) (p.1 ∙ sym q.1)

  one_fault : (m n : ℕ) → IsChecked t interval reach charges earlier e steps (checked.Fails m)
      → IsChecked t interval reach charges earlier e steps (checked.Fails n) → checked.Fails m ≡ checked.Fails n
  one_fault m n p q =
      ap (λ (z : ℕ). checked.Fails z) (entry_faults_one t interval reach charges earlier e p.0 q.0 m n p.1.0 q.1.0).1

  right_fails : (m n : ℕ) → IsChecked t interval reach charges earlier e steps (checked.Right m)
      → IsChecked t interval reach charges earlier e steps (checked.Fails n) → ⊥
  right_fails m n p q = fails_not t interval reach charges earlier e q.0 n q.1.0 p.0

  right_ends : (m : ℕ) → IsChecked t interval reach charges earlier e steps (checked.Right m)
      → Ends t interval reach charges earlier e steps → ⊥
  right_ends m p q = omega (arith, p.1, p.2, entry_spends t interval reach charges earlier e steps q)

  fails_ends : (n : ℕ) → IsChecked t interval reach charges earlier e steps (checked.Fails n)
      → Ends t interval reach charges earlier e steps → ⊥
  fails_ends n p q = entry_in_time t interval reach charges earlier e p.0 n steps p.1.0 p.1.1 q

  entry_one : (v w : SeqEntryChecked) → IsChecked t interval reach charges earlier e steps v
      → IsChecked t interval reach charges earlier e steps w → v ≡ w
  entry_one (checked.Right m) (checked.Right n) p q = one_right m n p q
  entry_one (checked.Right m) (checked.Fails n) p q = absurd (right_fails m n p q)
  entry_one (checked.Right m) checked.StepsEnded p q = absurd (right_ends m p q)
  entry_one (checked.Fails m) (checked.Right n) p q = absurd (right_fails n m q p)
  entry_one (checked.Fails m) (checked.Fails n) p q = one_fault m n p q
  entry_one (checked.Fails m) checked.StepsEnded p q = absurd (fails_ends m p q)
  entry_one checked.StepsEnded (checked.Right n) p q = absurd (right_ends n q p)
  entry_one checked.StepsEnded (checked.Fails n) p q = absurd (fails_ends n q p)
  entry_one checked.StepsEnded checked.StepsEnded p q = refl

pub verdict_one : VerdictIsOne
verdict_one = record { certificate = certificate_one; entry = entry_one }
