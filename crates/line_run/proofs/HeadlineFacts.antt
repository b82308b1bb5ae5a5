-- The headline of a run, from what its job promises and from what is put.
use Rattle.std.proofs.Common.{IfOk, MatchResult, ◌≡◌, ◌∙◌, inl, inr, ℕ, List, refl, sym, subst}
use Rattle.std.specs.declared.result.Result.{Result}
use Rattle.std.specs.declared.result.Result.TheVariants.{Ok, Err}
use Rattle.line_words.specs.Words.{Text}
use Rattle.command_outcome.specs.Outcome.{Files, MayEnd}
use Rattle.command_outcome.specs.Output.{Finishes, Puts, status_of}
use Rattle.command_outcome.specs.declared.report.Kept.{Kept}
use Rattle.command_outcome.specs.declared.report.Report.{Report}
use Rattle.command_outcome.specs.declared.report.EarlyEnd.{EarlyEnd}
use Rattle.command_outcome.specs.declared.report.EarlyEnd.TheVariants as stop
use Rattle.command_outcome.specs.declared.status.Status.{Status}
use Rattle.command_outcome.specs.declared.status.Status.TheVariants as ends
use Rattle.line_run.specs.Headline.{IsAnswered, PromisesOf, Reports, AsksPromise, IsHeadline}

-- a run that answers wasn't cut short, and isn't out of memory
not_written : (s : Status) → IsAnswered s → s ≡ ends.WriteFault → ⊥
not_written s (inl e) f = (let h : ends.Done ≡ ends.WriteFault = sym e ∙ f in cc)
not_written s (inr e) f = (let h : ends.Stopped ≡ ends.WriteFault = sym e ∙ f in cc)

not_memory : (s : Status) → IsAnswered s → s ≡ ends.Memory → ⊥
not_memory s (inl e) f = (let h : ends.Done ≡ ends.Memory = sym e ∙ f in cc)
not_memory s (inr e) f = (let h : ends.Stopped ≡ ends.Memory = sym e ∙ f in cc)

-- a job that answers ended with a report, and what is true of its report is so
pub reports_so : (R W : Type 0) (P : Report → Type 0) (r : Result Report EarlyEnd) → IfOk r P
    → MatchResult r (λ _. Unit {0}) (MayEnd R W) → IsAnswered (status_of r) → Reports P r
reports_so R W P (Ok x) p m a = p
reports_so R W P (Err (stop.Report x)) p m (inl e) = absurd (m.done e)
reports_so R W P (Err (stop.Report x)) p m (inr e) = absurd (m.stopped e)
reports_so R W P (Err stop.Memory) p m a = absurd (not_memory ends.Memory a refl)
reports_so R W P (Err stop.Unwritten) p m a = absurd (not_written ends.WriteFault a refl)

module _ (words : List Text) (files after : Files) (old new : List ℕ) (before faults : ℕ) (status : Status)
    (kept : Kept) where
  of_report : (r : Report) → (IsAnswered r.status → AsksPromise words files after (Ok r))
      → Puts r.status r.text.items r.kept old new before faults status kept → IsAnswered status
      → IsHeadline words files after old new status kept
  of_report r p (inl q) a =
      let h = p (subst IsAnswered q.0 a) in
      let S : Status → Type 0 = λ s. PromisesOf files after h.job s r.text.items kept in
      let K : Kept → Type 0 = λ k. PromisesOf files after h.job r.status r.text.items k in
      record {
        job = h.job;
        asked = h.asked;
        text = r.text.items;
        shown = q.1;
        promise = subst S (sym q.0) (subst K (sym q.2) h.promise);
      }
  of_report r p (inr q) a = absurd (not_written status a q.0)

  -- a run that answers has what its job promises
  pub headlined : (r : Result Report EarlyEnd) → (IsAnswered (status_of r) → AsksPromise words files after r)
      → Finishes r old new before faults status kept → IsAnswered status
      → IsHeadline words files after old new status kept
  headlined (Ok r) p f a = of_report r p f a
  headlined (Err (stop.Report r)) p (inl q) a = absurd ((p (subst IsAnswered q.0 a)).promise)
  headlined (Err (stop.Report r)) p (inr q) a = absurd (not_written status a q.0)
  headlined (Err stop.Memory) p (inl q) a = absurd (not_memory status a q.0)
  headlined (Err stop.Memory) p (inr q) a = absurd (not_written status a q.0)
  headlined (Err stop.Unwritten) p f a = absurd (not_written status a f.0)
