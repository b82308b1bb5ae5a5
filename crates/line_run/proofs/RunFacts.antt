-- What a run comes to, from what its job or its words come to.
use Rattle.std.proofs.Common.{◌≡◌, ◌≢◌, ◌⊎◌, ℕ, List, None, inl, inr, refl}
use Rattle.std.specs.declared.result.Result.{Result}
use Rattle.std.specs.declared.result.Result.TheVariants.{Ok, Err}
use Rattle.command_outcome.specs.Outcome.{Files, Outside, Outcome, Comes, Ends, Stay, outcome_of, told}
use Rattle.command_outcome.specs.Output.{Finishes, Puts, memory_line, status_of}
use Rattle.command_outcome.specs.Ending.{Ending, IsEnding}
use Rattle.command_outcome.specs.declared.report.Kept.{Kept}
use Rattle.command_outcome.specs.declared.report.Kept.TheVariants.{Nothing}
use Rattle.command_outcome.specs.declared.report.Report.{Report}
use Rattle.command_outcome.specs.declared.report.EarlyEnd.{EarlyEnd}
use Rattle.command_outcome.specs.declared.report.EarlyEnd.TheVariants as stop
use Rattle.command_outcome.specs.declared.status.Status.{Status}
use Rattle.command_outcome.specs.declared.status.Status.TheVariants as ends
use Rattle.line_run.specs.Run.{IsPlainEnd, IsPut, IsLeft}

-- an end that needs no file and of which P is true is one of which Q is true, where P implies Q
pub plain_as : (P Q : Outcome → Type 0) (r : Result Report EarlyEnd) → ((out : Outcome) → P out → Q out) → IsPlainEnd P r
    → IsPlainEnd Q r
plain_as P Q (Ok r) f p = f (outcome_of r None) p
plain_as P Q (Err (stop.Report r)) f p = f (outcome_of r None) p
plain_as P Q (Err stop.Memory) f p = p
plain_as P Q (Err stop.Unwritten) f p = p

-- P or out of memory
abbrev OrMemory : (Outcome → Type 0) → Outcome → Type 0
OrMemory P out = P out ⊎ (out ≡ told ends.Memory memory_line)

module _ (o : Outside) (P : Outcome → Type 0) (after : Files) (old new : List ℕ) (before faults : ℕ) (result : Status)
    (kept : Kept) where
  abbrev ending : Ending
  ending = record {
    status = result;
    files = after;
    kept = kept;
    shown_before = old;
    shown = new;
    faults_before = before;
    faults = faults;
  }

  reported : (r : Report) → Comes o P after r → Puts r.status r.text.items r.kept old new before faults result kept
      → IsEnding o (OrMemory P) ending
  reported r e (inl p) = inl (record {
    outcome = outcome_of r e.page;
    reached = inl e.reached;
    status = p.0;
    shown = p.1;
    written = e.written;
    kept = p.2;
  })
  reported r e (inr p) = inr (inl (record {
    outcome = outcome_of r e.page;
    reached = inl e.reached;
    status = p.0;
    failed = p.1;
    long = p.2.0;
    shown = p.2.1;
    written = e.written;
    kept = p.3;
  }))

  remembered : Stay o.files after → Puts ends.Memory memory_line Nothing old new before faults result kept
      → IsEnding o (OrMemory P) ending
  remembered k (inl p) = inl (record {
    outcome = told ends.Memory memory_line;
    reached = inr refl;
    status = p.0;
    shown = p.1;
    written = k;
    kept = p.2;
  })
  remembered k (inr p) = inr (inl (record {
    outcome = told ends.Memory memory_line;
    reached = inr refl;
    status = p.0;
    failed = p.1;
    long = p.2.0;
    shown = p.2.1;
    written = k;
    kept = p.3;
  }))

  -- what is put of an end is the end of the run
  pub run_ends : (r : Result Report EarlyEnd) → Ends o P after r → Finishes r old new before faults result kept
      → IsEnding o (OrMemory P) ending
  run_ends (Ok r) e f = reported r e f
  run_ends (Err (stop.Report r)) e f = reported r e f
  run_ends (Err stop.Memory) e f = remembered e f
  run_ends (Err stop.Unwritten) e f = inr (inr (record {
    outcome = e.outcome;
    reached = inl e.reached;
    status = f.0;
    page = e.page;
    has = e.has;
    blamed = e.blamed;
    cut = e.cut;
    others = e.others;
    shown = f.1;
    kept = f.2;
  }))

-- what is left of the files
module _ (o : Outside) (P : Outcome → Type 0) (after : Files) (result : Status) where
  left_by : (r : Report) → Comes o P after r → (result ≡ r.status) ⊎ (result ≡ ends.WriteFault)
      → IsLeft o (OrMemory P) result after
  left_by r e k = inl (record {
    outcome = outcome_of r e.page;
    reached = inl e.reached;
    ended = k;
    written = e.written;
  })

  pub run_leaves : (r : Result Report EarlyEnd) → Ends o P after r → (result ≡ status_of r) ⊎ (result ≡ ends.WriteFault)
      → IsLeft o (OrMemory P) result after
  run_leaves (Ok r) e k = left_by r e k
  run_leaves (Err (stop.Report r)) e k = left_by r e k
  run_leaves (Err stop.Memory) e k = inl (record {
    outcome = told ends.Memory memory_line;
    reached = inr refl;
    ended = k;
    written = e;
  })
  run_leaves (Err stop.Unwritten) e k = inr (
    elim k [ inl x ↦ x | inr x ↦ x ],
    record {
      outcome = e.outcome;
      reached = inl e.reached;
      page = e.page;
      has = e.has;
      blamed = e.blamed;
      cut = e.cut;
      others = e.others;
    },
  )

-- what is put of an end that needs no file
module _ (P : Outcome → Type 0) (memory : P (told ends.Memory memory_line)) (old new : List ℕ) (before faults : ℕ)
    (result : Status) (kept : Kept) where
  pub plain_put : (r : Result Report EarlyEnd) → IsPlainEnd P r → Finishes r old new before faults result kept
      → IsPut P old new before faults result kept
  plain_put (Ok r) p f = record { outcome = outcome_of r None; reached = p; put = f }
  plain_put (Err (stop.Report r)) p f = record { outcome = outcome_of r None; reached = p; put = f }
  plain_put (Err stop.Memory) p f = record { outcome = told ends.Memory memory_line; reached = memory; put = f }
  plain_put (Err stop.Unwritten) p f = absurd p

-- a status is that of a failed write, or it isn't
pub write_or : (s : Status) → (s ≡ ends.WriteFault) ⊎ (s ≢ ends.WriteFault)
write_or ends.Done = inr (λ e. cc)
write_or ends.Stopped = inr (λ e. cc)
write_or ends.Usage = inr (λ e. cc)
write_or ends.Input = inr (λ e. cc)
write_or ends.ReadFault = inr (λ e. cc)
write_or ends.WriteFault = inl refl
write_or ends.Memory = inr (λ e. cc)
write_or ends.Refused = inr (λ e. cc)
write_or ends.Steps = inr (λ e. cc)

-- what ended could not be written, or it could
pub unwritten_or : (r : Result Report EarlyEnd) → (r ≡ Err stop.Unwritten) ⊎ (r ≢ Err stop.Unwritten)
unwritten_or (Ok r) = inr (λ e. cc)
unwritten_or (Err (stop.Report r)) = inr (λ e. cc)
unwritten_or (Err stop.Memory) = inr (λ e. cc)
unwritten_or (Err stop.Unwritten) = inl refl
