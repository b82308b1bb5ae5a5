-- What is refused isn't accepted, and where the steps ended there are more units.
use Rattle.std.proofs.Common.{◌≡◌, ℕ, zero, suc, ◌+◌, ◌-◌, ◌<◌, ◌≤◌, Bool, cond, List, [], ◌∷◌, length, take, ap, ◌∙◌}
use Rattle.std.proofs.Common.{subst, inl, inr, arith, Some, length-append}
use Rattle.std.specs.Prelude.{slice_get, sum_by}
use Rattle.std.proofs.lemmas.Bool.{cases_lt}
use Rattle.std.proofs.lemmas.List.Sums.{sum_by-take-le}
use Rattle.sequence_values.specs.declared.types.Times.{Times}
use Rattle.sequence_values.specs.declared.types.SeqEntry.{SeqEntry}
use Rattle.sequence_values.specs.declared.types.SeqFrame.{SeqFrame}
use Rattle.sequence_values.specs.declared.types.SeqWhy.{SeqWhy}
use Rattle.sequence_values.specs.declared.types.SeqCert.{SeqCert}
use Rattle.sequence_rules.specs.States.{state_bound}
use Rattle.sequence_rules.specs.Charges.{listed_charges}
use Rattle.sequence_rules.specs.Entries.{is_left, needs_cite, passing, FollowsBy, Follows, entry_units, units_of}
use Rattle.sequence_rules.specs.Trails.{is_deepest, matched_to, up_to, IsRightAt, frame_units, units_in}
use Rattle.sequence_rules.specs.Accepted.{IsAccepted, units_whole}
use Rattle.sequence_rules.proofs.LemmasHold.{proved}
use Rattle.sequence_check.specs.declared.types.SeqEntryFault.{SeqEntryFault}
use Rattle.sequence_check.specs.declared.types.SeqEntryFault.TheVariants as entry_fault
use Rattle.sequence_check.specs.declared.types.SeqEntryChecked.{SeqEntryChecked}
use Rattle.sequence_check.specs.declared.types.SeqEntryChecked.TheVariants as checked
use Rattle.sequence_check.specs.declared.types.SeqFrameFault.{SeqFrameFault}
use Rattle.sequence_check.specs.declared.types.SeqFrameFault.TheVariants as frame_fault
use Rattle.sequence_check.specs.declared.types.SeqPlace.{SeqPlace}
use Rattle.sequence_check.specs.declared.types.SeqPlace.TheVariants as place
use Rattle.sequence_check.specs.declared.types.SeqVerified.{SeqVerified}
use Rattle.sequence_check.specs.declared.types.SeqVerified.TheVariants as verified
use Rattle.sequence_check.specs.Walks.{IsPast, AnswersStep}
use Rattle.sequence_check.specs.Faults.{models_by, is_walked, is_open, IsCiteFor, Fails, Ends, IsChecked, IsRuledOut}
use Rattle.sequence_check.specs.Lists.{AreStepsEnded}
use Rattle.sequence_check.specs.Frames.{FailsAt, EndsAt, AreFramesEnded}
use Rattle.sequence_check.specs.Verdicts.{FailsFirst, EndsEarly, IsVerdict, IsTrueOf, IsRejectedSo}
use Rattle.sequence_check.proofs.WalkFacts.{count_yes, not_uncovered}
use Rattle.sequence_check.proofs.MatchFacts.{Matches, matches_below, not_spare, not_late, covers_match, step_within}
use Rattle.sequence_check.proofs.MatchFacts.{cite_within, follows_matched, units_are}
use Rattle.sequence_check.proofs.EntryFacts.{sum_next}

-- an entry that fails doesn't follow
pub fails_not : (t : Times) (interval reach : ℕ) (charges : List ℕ) (earlier : List SeqEntry) (e : SeqEntry)
    (fault : SeqEntryFault) (units : ℕ)
    → Fails t interval reach charges earlier e fault units → Follows t interval reach charges earlier e → ⊥
fails_not t interval reach charges earlier e (entry_fault.Bound b) units h f =
    let P : SeqWhy → Type 0 = λ w. FollowsBy t interval reach charges earlier e w in
    let own : e.least ≤ state_bound t interval reach e.rem e.starts = subst P h.0 f in
    omega (arith, own, h.1, h.2)
fails_not t interval reach charges earlier e entry_fault.Empty units h f =
    omega (arith, (follows_matched t interval reach charges earlier e e.why h.0.0 h.0.1.0 f).some, h.0.1.1)
fails_not t interval reach charges earlier e (entry_fault.Cite x) units h f =
    not_late (is_open t interval reach charges e e.why) (IsCiteFor t interval reach charges earlier e e.why) h.0.0
    (models_by charges e e.why) (length earlier) (cite_within t interval reach charges earlier e e.why)
    (follows_matched t interval reach charges earlier e e.why h.0.0 h.0.1.0 f).all x h.0.1.1.1
fails_not t interval reach charges earlier e (entry_fault.Uncovered m) units h f =
    let needs : ℕ → Bool = is_open t interval reach charges e e.why in
    let Cited : ℕ → ℕ → Type 0 = IsCiteFor t interval reach charges earlier e e.why in
    not_uncovered needs Cited h.0 (models_by charges e e.why) m
    (matches_below needs Cited h.0 (models_by charges e e.why)
    (follows_matched t interval reach charges earlier e e.why h.0 h.1.0 f).all) h.1.1.1 h.1.1.2
fails_not t interval reach charges earlier e entry_fault.Spare units h f =
    not_spare (is_open t interval reach charges e e.why) (IsCiteFor t interval reach charges earlier e e.why) h.0
    (models_by charges e e.why) (follows_matched t interval reach charges earlier e e.why h.0 h.1.0 f).all h.1.1.1

module _ (t : Times) (interval reach : ℕ) (charges : List ℕ) (es : List SeqEntry) (fs : List SeqFrame) (j : ℕ)
    (f : SeqFrame) (r : IsRightAt t interval reach charges es fs j f) where
  frame_matches : Matches (needs_cite t interval reach f.rem f.starts f.need)
      (AnswersStep t interval reach charges es f.rem f.starts f.need) f.cites (matched_to (is_deepest fs j) f.last)
  frame_matches = covers_match t interval reach charges es f.rem f.starts f.need
      (matched_to (is_deepest fs j) f.last) f.cites r.covers

  -- a frame that fails isn't right
  pub fails_at_not : (fault : SeqFrameFault) (units : ℕ) → FailsAt t interval reach charges es fs j f fault units → ⊥
  fails_at_not frame_fault.Allowed units h = h
  fails_at_not frame_fault.Set units h = h.0 r.asked
  fails_at_not frame_fault.Last units h = h.1 r.last
  fails_at_not (frame_fault.Cite x) units h =
      not_late (needs_cite t interval reach f.rem f.starts f.need)
      (AnswersStep t interval reach charges es f.rem f.starts f.need) f.cites (matched_to (is_deepest fs j) f.last)
      (length es) (step_within t interval reach charges es f.rem f.starts f.need) frame_matches x h.2
  fails_at_not (frame_fault.Uncovered m) units h =
      let needs : ℕ → Bool = needs_cite t interval reach f.rem f.starts f.need in
      let Cited : ℕ → ℕ → Type 0 = AnswersStep t interval reach charges es f.rem f.starts f.need in
      let n : ℕ = matched_to (is_deepest fs j) f.last in
      not_uncovered needs Cited f.cites n m (matches_below needs Cited f.cites n frame_matches) h.1 h.2
  fails_at_not frame_fault.Spare units h =
      not_spare (needs_cite t interval reach f.rem f.starts f.need)
      (AnswersStep t interval reach charges es f.rem f.starts f.need) f.cites (matched_to (is_deepest fs j) f.last)
      frame_matches h.1

-- a certificate whose check fails isn't accepted
pub refused_not : (t : Times) (interval reach : ℕ) (cert : SeqCert) (steps : ℕ) (p : SeqPlace)
    → FailsFirst t interval reach cert steps p → IsAccepted t interval reach cert → ⊥
refused_not t interval reach cert steps (place.Models said) h a = h.1 a.models
refused_not t interval reach cert steps (place.Stations said) h a = h.2 a.stations
refused_not t interval reach cert steps place.Sequence h a = h.1 a.sequence
refused_not t interval reach cert steps (place.Total total) h a = h.3 (h.2 ∙ a.total)
refused_not t interval reach cert steps (place.Entry entry fault) h a =
    fails_not t interval reach (listed_charges cert.charges)
    (take entry cert.entries) h.1.entry fault h.1.more h.1.fails
    (a.derived entry h.1.entry h.1.there)
refused_not t interval reach cert steps place.Goal h a = h.4 (a.goal h.3)
refused_not t interval reach cert steps (place.Frame frame fault) h a = elim h.1.3 [
  | inl first ↦ first.0 a.trail.allowed
  | inr later ↦ fails_at_not t interval reach (listed_charges cert.charges) cert.entries cert.frames frame later.1.frame
      (a.trail.right frame later.1.frame later.1.there) fault later.1.more later.1.fails
]

-- more numbers pass below a greater number
pub passing_grows : (test : ℕ → Bool) (m n : ℕ) → m ≤ n → length (passing test m) ≤ length (passing test n)
passing_grows test m zero l = let none : m ≡ zero = omega (arith, l) in
    omega (arith, ap (λ k. length (passing test k)) none)
passing_grows test m (suc n) l = elim (cases_lt n m) [
  | inl above ↦ let is : m ≡ suc n = omega (arith, l, above) in omega (arith, ap (λ k. length (passing test k)) is)
  | inr below ↦ omega (arith, passing_grows test m n below, length-append (passing test n) (cond (test n) (n ∷ []) []))
]

-- a number that is walked is counted among all below n
pub past_counts : (needs : ℕ → Bool) (Cited : ℕ → ℕ → Type 0) (cites : List ℕ) (visited : ℕ → Bool) (n steps : ℕ)
    → IsPast needs Cited cites visited n steps → steps < length (passing visited n)
past_counts needs Cited cites visited n steps past =
    omega (
      arith,
      past.counts,
      count_yes visited past.model past.walked,
      passing_grows visited (past.model + 1) n (omega (arith, past.below)),
    )

-- a sum over a list is no less than up to and including an item
sum_reaches : {X : Type 0} (f : X → ℕ) (xs : List X) (k : ℕ) (x : X) → slice_get xs k ≡ Some x
    → sum_by f (take k xs) + f x ≤ sum_by f xs
sum_reaches f xs k x there = omega (arith, sum_next f xs k x there, sum_by-take-le f xs (k + 1))

pub entry_spends : (t : Times) (interval reach : ℕ) (charges : List ℕ) (earlier : List SeqEntry) (e : SeqEntry)
    (steps : ℕ)
    → Ends t interval reach charges earlier e steps → steps < entry_units charges e
entry_spends t interval reach charges earlier e steps h =
    omega (
      arith,
      past_counts (is_open t interval reach charges e e.why) (IsCiteFor t interval reach charges earlier e e.why) h.0
          (is_walked e e.why) (models_by charges e e.why) steps h.1.1.1,
      units_are charges e e.why h.0 h.1.0,
    )

pub frame_spends : (t : Times) (interval reach : ℕ) (charges : List ℕ) (es : List SeqEntry) (fs : List SeqFrame) (j : ℕ)
    (f : SeqFrame) (steps : ℕ) → EndsAt t interval reach charges es fs j f steps → steps < frame_units f
frame_spends t interval reach charges es fs j f steps h =
    past_counts (needs_cite t interval reach f.rem f.starts f.need)
    (AnswersStep t interval reach charges es f.rem f.starts f.need) f.cites (is_left f.rem) (up_to f.last) steps h.1

pub entries_end : (t : Times) (interval reach : ℕ) (charges : List ℕ) (es : List SeqEntry) (steps : ℕ)
    → AreStepsEnded t interval reach charges es steps → steps < units_of charges es
entries_end t interval reach charges es steps h =
    omega (
      arith,
      h.few,
      h.below.total,
      entry_spends t interval reach charges (take h.at es) h.entry (steps - h.units) h.ends,
      sum_reaches (entry_units charges) es h.at h.entry h.there,
    )

frames_end : (t : Times) (interval reach : ℕ) (charges : List ℕ) (es : List SeqEntry) (fs : List SeqFrame) (steps : ℕ)
    → AreFramesEnded t interval reach charges es fs steps → steps < units_in fs
frames_end t interval reach charges es fs steps h =
    omega (
      arith,
      h.few,
      h.below.total,
      frame_spends t interval reach charges es fs h.at h.frame (steps - h.units) h.ends,
      sum_reaches frame_units fs h.at h.frame h.there,
    )

pub ended_more : (t : Times) (interval reach : ℕ) (cert : SeqCert) (steps : ℕ) → EndsEarly t interval reach cert steps
    → steps < units_whole cert
ended_more t interval reach cert steps (inl entries) = omega
    (arith, entries_end t interval reach (listed_charges cert.charges) cert.entries steps entries)
ended_more t interval reach cert steps (inr frames) =
    omega (
      arith,
      frames.1.0.total,
      frames.1.1,
      frames_end t interval reach (listed_charges cert.charges) cert.entries cert.frames
          (steps - frames.0)
          frames.1.3,
    )

-- what the check of one entry after others rules out
pub ruled_out : (t : Times) (interval reach : ℕ) (charges : List ℕ) (earlier : List SeqEntry) (e : SeqEntry) (steps : ℕ)
    (v : SeqEntryChecked)
    → IsChecked t interval reach charges earlier e steps v → IsRuledOut t interval reach charges earlier e steps v
ruled_out t interval reach charges earlier e steps (checked.Right units) h = tt
ruled_out t interval reach charges earlier e steps (checked.Fails units) h =
    fails_not t interval reach charges earlier e h.0 units h.1.0
ruled_out t interval reach charges earlier e steps checked.StepsEnded h =
    λ f. entry_spends t interval reach charges earlier e steps h

pub true_of : (t : Times) (interval reach : ℕ) (cert : SeqCert) (steps : ℕ) (v : SeqVerified)
    → IsVerdict t interval reach cert steps v → IsTrueOf t interval reach cert v
true_of t interval reach cert steps (verified.Accepted lower upper units) h = proved t interval reach cert h.2
true_of t interval reach cert steps (verified.Refused p) h = tt
true_of t interval reach cert steps (verified.StepsEnded s) h = tt

pub rejected_so : (t : Times) (interval reach : ℕ) (cert : SeqCert) (steps : ℕ) (v : SeqVerified)
    → IsVerdict t interval reach cert steps v → IsRejectedSo t interval reach cert steps v
rejected_so t interval reach cert steps (verified.Accepted lower upper units) h = tt
rejected_so t interval reach cert steps (verified.Refused p) h = refused_not t interval reach cert steps p h
rejected_so t interval reach cert steps (verified.StepsEnded s) h = λ a. ended_more t interval reach cert steps h.2
