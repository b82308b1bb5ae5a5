-- What is in the ranges of a certificate of the line can be walked.
use Rattle.std.proofs.Common.{◌≡◌, ℕ, suc, ◌*◌, ◌≤◌, List, [], ◌∷◌, length, sum, arith, subst, sym, Some, None, Option}
use Rattle.std.specs.Prelude.{slice_get, All}
use Rattle.std.proofs.lemmas.List.Sums.{sum_by-cons}
use Rattle.sequence_values.specs.declared.types.Times.{Times}
use Rattle.sequence_values.specs.declared.types.SeqEntry.{SeqEntry}
use Rattle.sequence_values.specs.declared.types.SeqFrame.{SeqFrame}
use Rattle.sequence_values.specs.declared.types.SeqWhy.{SeqWhy}
use Rattle.sequence_values.specs.declared.types.SeqWhy.TheVariants as why
use Rattle.sequence_values.specs.declared.types.SeqCert.{SeqCert}
use Rattle.sequence_rules.specs.Charges.{listed_charges, IsChargesOf}
use Rattle.sequence_rules.specs.Ranges.{AreTimes, IsPlace, IsState, IsLast, IsInRange, IsEntry, IsWhy, AreChargesIf}
use Rattle.sequence_rules.specs.Ranges.{HasCharges, numbers_by}
use Rattle.sequence_check.specs.Walks.{IsPosed, AreCitable}
use Rattle.sequence_check.specs.Faults.{IsPosedBy, IsPosedEntry}
use Rattle.sequence_check.specs.Frames.{IsPosedFrame}
use Rattle.sequence_check.specs.Verdicts.{IsOfLine}

-- a sum of numbers that are at most so much
sum_at_most : (most : ℕ) (xs : List ℕ) → All (λ x. x ≤ most) xs → sum xs ≤ most * length xs
sum_at_most most [] h = omega arith
sum_at_most most (x ∷ xs) h = omega (
  arith,
  sum_by-cons (λ n. n) x xs,
  h 0 0 (omega arith),
  sum_at_most most xs (λ k d l. h (suc k) d (omega (arith, l))),
)

state_posed : (t : Times) (interval reach models stations : ℕ) (rem starts : List ℕ) → AreTimes t → IsPlace interval
    → IsPlace reach → models ≡ length t.demands → stations ≡ t.stations
    → IsState models stations rem starts → IsPosed t interval reach rem starts
state_posed t interval reach models stations rem starts times i r m w s = record {
  times = times;
  interval_limit = i.limit;
  reach_limit = r.limit;
  each = omega (arith, s.each, m);
  units = omega (arith, sum_at_most 1000 rem s.units, s.each, m, times.models);
  wide = omega (arith, s.wide, w);
  begun = s.begun;
}

-- an entry has at most 16,000 units
few_by : (models : ℕ) (w : SeqWhy) → models ≤ 16 → numbers_by models w ≤ 16
few_by models why.Bound l = l
few_by models (why.Branch cites) l = l
few_by models (why.Charge cites) l = omega arith

pub entry_few : (models stations : ℕ) (charges : Option (List ℕ)) (e : SeqEntry) → models ≤ 16
    → IsEntry models stations charges e → sum e.rem ≤ 16000
entry_few models stations charges e l h =
    omega (arith, sum_at_most 1000 e.rem h.state.units, h.state.each, few_by models e.why l)

-- charges that are there are those of the models
charges_there : (models : ℕ) (charges : Option (List ℕ)) → AreChargesIf models charges → HasCharges charges
    → IsChargesOf models (listed_charges charges)
charges_there models None a h = absurd h
charges_there models (Some cs) a h = a

charges_limit : (models : ℕ) (charges : Option (List ℕ)) → AreChargesIf models charges
    → All (λ a. a ≤ 100000000000000) (listed_charges charges)
charges_limit models None a = λ k d l. absurd (omega (arith, l))
charges_limit models (Some cs) a = a.limit

module _ (t : Times) (interval reach models stations : ℕ) (charges : Option (List ℕ)) (times : AreTimes t)
    (i : IsPlace interval) (r : IsPlace reach) (m : models ≡ length t.demands) (s : stations ≡ t.stations)
    (a : AreChargesIf models charges) where
  by_reason : (e : SeqEntry) (w : SeqWhy) → IsState (numbers_by models w) stations e.rem e.starts → IsWhy charges w
      → sum e.rem ≤ 16000 → IsPosedBy t interval reach (listed_charges charges) e w
  by_reason e why.Bound state known few = state_posed t interval reach models stations e.rem e.starts times i r m s
      state
  by_reason e (why.Branch cites) state known few =
      state_posed t interval reach models stations e.rem e.starts times i r m s state
  by_reason e (why.Charge cites) state known few =
      let own : IsChargesOf models (listed_charges charges) = charges_there models charges a known.0 in
      record {
        times = times;
        reach_limit = r.limit;
        priced = record { each = omega (arith, own.each, m); limit = own.limit };
        units = few;
        starts = record { wide = omega (arith, state.wide, s); begun = state.begun };
      }

  pub entry_posed : (e : SeqEntry) → IsEntry models stations charges e
      → IsPosedEntry t interval reach (listed_charges charges) e
  entry_posed e h =
      by_reason e e.why h.state h.why (entry_few models stations charges e (omega (arith, m, times.models)) h)

  pub citable : (es : List SeqEntry) → ((k : ℕ) (e : SeqEntry) → slice_get es k ≡ Some e
      → IsEntry models stations charges e)
      → AreCitable (listed_charges charges) es
  citable es h = record {
    limit = charges_limit models charges a;
    rows = λ k e g. entry_few models stations charges e (omega (arith, m, times.models)) (h k e g);
  }

-- the entries of a certificate of the line
pub entries_posed : (t : Times) (interval reach : ℕ) (cert : SeqCert) → AreTimes t → IsPlace interval → IsPlace reach
    → IsInRange cert → IsOfLine t cert
    → (k : ℕ) (e : SeqEntry) → slice_get cert.entries k ≡ Some e
    → IsPosedEntry t interval reach (listed_charges cert.charges) e
entries_posed t interval reach cert times i r range line k e there =
    entry_posed t interval reach cert.models cert.stations cert.charges times i r line.models line.stations
    range.charges
    e (range.entries k e there)

pub entries_citable : (t : Times) (interval reach : ℕ) (cert : SeqCert) → AreTimes t → IsPlace interval → IsPlace reach
    → IsInRange cert → IsOfLine t cert → AreCitable (listed_charges cert.charges) cert.entries
entries_citable t interval reach cert times i r range line =
    citable t interval reach cert.models cert.stations cert.charges times i r line.models line.stations range.charges
    cert.entries range.entries

pub frame_posed : (t : Times) (interval reach : ℕ) (cert : SeqCert) → AreTimes t → IsPlace interval → IsPlace reach
    → IsInRange cert → IsOfLine t cert
    → (k : ℕ) (f : SeqFrame) → slice_get cert.frames k ≡ Some f → IsPosedFrame t interval reach f
frame_posed t interval reach cert times i r range line k f there =
    let own = range.frames k f there in
    let P : ℕ → Type 0 = λ n. IsLast n f.last in
    record {
      posed = state_posed t interval reach cert.models cert.stations f.rem f.starts times i r line.models line.stations
          own.state;
      need = own.need;
      last = subst P (sym own.state.each) own.last;
    }
