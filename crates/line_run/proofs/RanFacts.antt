-- What a run does, from what its words do; and what they do, from what their job does.
use Rattle.std.proofs.Common.{◌≡◌, ◌≢◌, ◌∙◌, ℕ, List, inl, inr, refl, sym, None}
use Rattle.std.specs.declared.result.Result.{Result}
use Rattle.std.specs.declared.result.Result.TheVariants.{Ok, Err}
use Rattle.line_io.specs.Outside.{Rises}
use Rattle.line_words.specs.Words.{Text}
use Rattle.line_words.specs.Texts.{usage_text}
use Rattle.line_words.specs.Jobs.{IsJob, IsFault}
use Rattle.line_words.specs.declared.fault.UsageKind.{UsageKind}
use Rattle.line_words.specs.declared.job.Job.{Job}
use Rattle.command_outcome.specs.Outcome.{Stay}
use Rattle.command_outcome.specs.Output.{Finishes, IsOnePut, kept_of, status_of}
use Rattle.command_outcome.specs.declared.report.Kept.{Kept}
use Rattle.command_outcome.specs.declared.report.Kept.TheVariants.{Nothing}
use Rattle.command_outcome.specs.declared.report.Report.{Report}
use Rattle.command_outcome.specs.declared.report.EarlyEnd.{EarlyEnd}
use Rattle.command_outcome.specs.declared.report.EarlyEnd.TheVariants.{Unwritten}
use Rattle.command_outcome.specs.declared.status.Status.{Status}
use Rattle.command_outcome.specs.declared.status.Status.TheVariants as ends
use Rattle.command_outcome.proofs.OutcomeFacts.{told_as, ends_as}
use Rattle.line_run.specs.Run.{meaning_of, IsJobOutcome, IsAnswer, IsPage, IsPlainOutcome}
use Rattle.line_run.specs.Headline.{IsAnswered}
use Rattle.line_run.specs.Ran.{ShelfSeen, SinkSeen, shown_by, Does, DoesWords, IsRun}
use Rattle.line_run.proofs.RunFacts.{plain_as, run_ends, run_leaves, plain_put, write_or, unwritten_or}
use Rattle.line_run.proofs.HeadlineFacts.{headlined}

-- the statuses are apart
not_usage : (s : Status) → s ≡ ends.Usage → s ≢ ends.WriteFault
not_usage s e f = (let h : ends.Usage ≡ ends.WriteFault = sym e ∙ f in cc)

not_read : (s : Status) → s ≡ ends.ReadFault → s ≢ ends.WriteFault
not_read s e f = (let h : ends.ReadFault ≡ ends.WriteFault = sym e ∙ f in cc)

not_done : (s : Status) → s ≡ ends.Done → s ≢ ends.WriteFault
not_done s e f = (let h : ends.Done ≡ ends.WriteFault = sym e ∙ f in cc)

-- a run of which this was done for its words, and put at its end
module _ (words : List Text) (shelf : ShelfSeen) (out : SinkSeen) (r : Result Report EarlyEnd) (status : Status)
    (held : Kept) where
  pub is_run : DoesWords words shelf r
      → (out.tells → Finishes r out.shown_before out.shown out.faults_before out.faults status held)
      → IsOnePut out.puts_before out.puts
      → (status ≡ ends.WriteFault → r ≢ Err Unwritten → Rises out.faults_before out.faults)
      → (status ≢ ends.WriteFault → status ≡ status_of r)
      → (status ≢ ends.WriteFault → held ≡ kept_of r)
      → (status ≡ ends.WriteFault → held ≡ Nothing) → IsRun words shelf out status held
  is_run did finishes one write same keeps nothing = record {
    headline = λ s k a. headlined words shelf.files shelf.after out.shown_before out.shown out.faults_before out.faults
        status held r (did.promise s) (finishes k) a;
    ends = λ s k. run_ends (shown_by shelf) (IsAnswer words (shown_by shelf)) shelf.after out.shown_before out.shown
        out.faults_before out.faults status held r (did.ends s) (finishes k);
    plain = λ k. elim did.plain [
      | inl f ↦ inl f
      | inr p ↦ inr (plain_put (IsPlainOutcome words) (inr (inr refl)) out.shown_before out.shown out.faults_before
          out.faults status held r p (finishes k))
    ];
    one_put = one;
    usage = λ e. did.usage (sym (same (not_usage status e)) ∙ e);
    read = λ e. did.read (sym (same (not_read status e)) ∙ e);
    write = λ e. elim (unwritten_or r) [ inl u ↦ inr (did.unwritten u) | inr n ↦ inl (write e n) ];
    files = λ s. run_leaves (shown_by shelf) (IsAnswer words (shown_by shelf)) shelf.after status r (did.ends s)
        (elim (write_or status) [ inl w ↦ inr w | inr n ↦ inl (same n) ]);
    kept = λ d s. elim (write_or status) [
      | inl w ↦ nothing w
      | inr n ↦ keeps n ∙ did.kept (λ e. d (same n ∙ e)) (λ e. s (same n ∙ e))
    ];
    true_bounds = λ t e. did.true_bounds t (sym (same (not_done status e)) ∙ e);
  }

-- what is done for the words: their job, or the line of their fault
module _ (words : List Text) (shelf : ShelfSeen) where
  pub job_done : (job : Job) (r : Result Report EarlyEnd) → IsJob words job → Does shelf (meaning_of job) r
      → DoesWords words shelf r
  job_done job r is did = record {
    ends = λ t. ends_as (shown_by shelf) (IsJobOutcome (shown_by shelf) job) (IsAnswer words (shown_by shelf))
        shelf.after r (λ out x. inr (record { job = job; asked = is; outcome = x })) (did.ends t);
    plain = elim did.plain [
      | inl f ↦ inl (record { job = job; asked = is; reads = f })
      | inr p ↦ inr (plain_as (IsPage job) (IsPlainOutcome words) r
          (λ out x. inr (inl (record { job = job; asked = is; page = x }))) p)
    ];
    usage = λ e. absurd (did.usage e);
    read = did.read;
    write = did.write;
    unwritten = λ e. (
      record { job = job; asked = is; name = (did.unwritten e).0.0; writes = (did.unwritten e).0.1 },
      (did.unwritten e).1,
    );
    kept = did.kept;
    true_bounds = λ t e. record { job = job; asked = is; holds = did.true_bounds t e };
    promise = λ t a. record { job = job; asked = is; promise = did.promise t a };
  }

  -- a report with the status of a usage fault is none of an answer, a failed fetch or a failed write
  not_answered : (s : Status) → s ≡ ends.Usage → IsAnswered s → ⊥
  not_answered s e (inl d) = (let h : ends.Usage ≡ ends.Done = sym e ∙ d in cc)
  not_answered s e (inr d) = (let h : ends.Usage ≡ ends.Stopped = sym e ∙ d in cc)

  not_fetched : (s : Status) → s ≡ ends.Usage → s ≢ ends.ReadFault
  not_fetched s e f = (let h : ends.Usage ≡ ends.ReadFault = sym e ∙ f in cc)

  pub fault_told : (index : ℕ) (kind : UsageKind) (x : Report) → Stay shelf.files shelf.after
      → IsFault words index kind → x.status ≡ ends.Usage → x.text.items ≡ usage_text index kind → x.kept ≡ Nothing
      → DoesWords words shelf (Ok x)
  fault_told index kind x stay is status text kept =
      let told = told_as x ends.Usage (usage_text index kind) status text kept in
      record {
        ends = λ t. record {
          page = None;
          reached = inl ((record { index = index; kind = kind; fault = is }, told));
          written = stay;
        };
        plain = inr (inl ((record { index = index; kind = kind; fault = is }, told)));
        usage = λ e. record { index = index; kind = kind; fault = is };
        read = λ e. absurd (not_fetched x.status status e);
        write = λ e. absurd (not_usage x.status status e);
        unwritten = λ e. absurd (cc);
        kept = λ d s. kept;
        true_bounds = λ t e. absurd (not_answered x.status status (inl e));
        promise = λ t a. absurd (not_answered x.status status a);
      }
