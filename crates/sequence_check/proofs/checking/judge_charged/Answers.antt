use Rattle.std.proofs.Common.{◌≡◌, ℕ, ◌<◌, ◌≤◌, List, refl, sym, ◌∙◌, subst, inl, inr, arith, Some}
use Rattle.std.specs.Prelude.{slice_get}
use Rattle.std.proofs.lemmas.Bool.{cases_lt, false≢true}
use Rattle.sequence_values.specs.declared.types.Times.{Times}
use Rattle.sequence_values.specs.declared.types.SeqEntry.{SeqEntry}
use Rattle.sequence_values.specs.declared.types.SeqCert.{SeqCert}
use Rattle.sequence_rules.specs.States.{root_starts}
use Rattle.sequence_rules.specs.Charges.{listed_charges}
use Rattle.sequence_rules.specs.Entries.{IsDerived, HasAnswer, units_of}
use Rattle.sequence_rules.specs.Accepted.{IsShownLower}
use Rattle.sequence_check.specs.Walks.{AreCitable}
use Rattle.sequence_check.specs.Faults.{IsPosedEntry}
use Rattle.sequence_check.specs.Frames.{AreRight}
use Rattle.sequence_check.proofs.RangeFacts.{entries_posed, entries_citable, frame_posed}
use Rattle.sequence_check.proofs.checking.judge_charged.Goals as goal

-- where no entry shows the lower bound, it is above 0
not_shown : (t : Times) (cert : SeqCert) → (IsShownLower t cert → ⊥)
    → (0 < cert.lower) × (HasAnswer (listed_charges cert.charges) cert.entries t.demands (root_starts t) cert.lower → ⊥)
not_shown t cert h = elim (cases_lt 0 cert.lower) [
  | inl above ↦ (above, λ a. h (λ l. a))
  | inr none ↦ absurd (h (λ l. absurd (omega (arith, l, none))))
]

pub returns-in-Some : goal.returns-in-Some
returns-in-Some c = c.in-Some.ensures.some c.args.steps

pub check_entries-requires : goal.check_entries-requires
check_entries-requires c =
    let t = c.args.times.now in
    let line = (c.in_default.ensures.none refl).line in
    let P : List ℕ → Type 0 = λ z. (k : ℕ) (e : SeqEntry) → slice_get c.args.cert.now.entries k ≡ Some e
    → IsPosedEntry t c.args.interval c.args.reach z e in
    let Q : List ℕ → Type 0 = λ z. AreCitable z c.args.cert.now.entries in
    record {
      posed = subst P (sym c.requires.charges) (entries_posed t c.args.interval c.args.reach c.args.cert.now
          c.requires.times c.requires.interval c.requires.reach c.requires.range line);
      citable = subst Q (sym c.requires.charges) (entries_citable t c.args.interval c.args.reach c.args.cert.now
          c.requires.times c.requires.interval c.requires.reach c.requires.range line);
    }

pub shows_lower-requires-clause-citable : goal.shows_lower-requires-clause-citable
shows_lower-requires-clause-citable c =
    let Q : List ℕ → Type 0 = λ z. AreCitable z c.args.cert.now.entries in
    subst Q (sym c.requires.charges) (entries_citable c.args.times.now c.args.interval c.args.reach c.args.cert.now
    c.requires.times c.requires.interval c.requires.reach c.requires.range (c.in_default.ensures.none refl).line)

pub returns-then-not-shows_lower : goal.returns-then-not-shows_lower
returns-then-not-shows_lower c =
    let P : List ℕ → Type 0 = λ z. IsDerived c.args.times.now c.args.interval c.args.reach z c.args.cert.now.entries
    × (units_of z c.args.cert.now.entries ≤ c.args.steps) in
    let rest : P (listed_charges c.args.cert.now.charges) = subst P c.requires.charges
    (c.in-Right.ensures.0, omega (arith, c.in-Right.ensures.1, c.in-Right.ensures.2)) in
    let not : (IsShownLower c.args.times.now c.args.cert.now → ⊥) =
    λ s. false≢true (sym c.if-not-shows_lower.true ∙ c.shows_lower.ensures.1 s) in
    let above = not_shown c.args.times.now c.args.cert.now not in
    (c.in_default.ensures.none refl, rest.0, rest.1, above.0, above.1)

pub check_frames-requires-clause-citable : goal.check_frames-requires-clause-citable
check_frames-requires-clause-citable c =
    let Q : List ℕ → Type 0 = λ z. AreCitable z c.args.cert.now.entries in
    subst Q (sym c.requires.charges) (entries_citable c.args.times.now c.args.interval c.args.reach c.args.cert.now
    c.requires.times c.requires.interval c.requires.reach c.requires.range (c.in_default.ensures.none refl).line)

pub check_frames-requires-clause-posed : goal.check_frames-requires-clause-posed
check_frames-requires-clause-posed c = frame_posed c.args.times.now c.args.interval c.args.reach c.args.cert.now
    c.requires.times c.requires.interval c.requires.reach c.requires.range (c.in_default.ensures.none refl).line

pub returns-in-Right-check_frames : goal.returns-in-Right-check_frames
returns-in-Right-check_frames c =
    let shown = c.in_default.ensures.none refl in
    let cert = c.args.cert.now in
    let P : List ℕ → Type 0 = λ z. IsDerived c.args.times.now c.args.interval c.args.reach z cert.entries
    × (c.in-Right.units ≡ units_of z cert.entries)
    × AreRight c.args.times.now c.args.interval c.args.reach z cert.entries cert.frames in
    let rest : P (listed_charges cert.charges) = subst P c.requires.charges
    (c.in-Right.ensures.0, c.in-Right.ensures.1, c.in-Right-check_frames.ensures.0) in (
      refl,
      refl,
      record {
        models = shown.line.models;
        stations = shown.line.stations;
        sequence = shown.sequence;
        total = shown.total;
        derived = rest.0;
        goal = c.shows_lower.ensures.0 c.if-not-shows_lower.false;
        trail = record { allowed = c.is_allowed.ensures.0 c.if-not-is_allowed.false; right = rest.2 };
      },
      omega (arith, rest.1, c.in-Right-check_frames.ensures.1),
      omega (arith, c.in-Right.ensures.2, c.in-Right-check_frames.ensures.2),
    )
