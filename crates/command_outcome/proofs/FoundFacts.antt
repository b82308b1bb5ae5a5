-- What a search found, in its report, and once its certificate is written.
use Rattle.std.proofs.Common.{◌≡◌, ◌<◌, inl, inr, ℕ, List, Option, IfOk, refl, sym, subst}
use Rattle.std.specs.Prelude.{MatchResult}
use Rattle.std.specs.declared.result.Result.{Result}
use Rattle.std.specs.declared.result.Result.TheVariants.{Ok, Err}
use Rattle.command_outcome.specs.Bounds.{cut_short_text}
use Rattle.command_outcome.specs.Outcome.{Files, Outside, Outcome, Ends, MayEnd, Stops, outcome_of, told}
use Rattle.command_outcome.specs.Found.{Search, IsFound, IsReported, IsCutShort, IsFiled, HasText, page_of, IsSearchStatus}
use Rattle.command_outcome.specs.declared.report.Report.{Report}
use Rattle.command_outcome.specs.declared.report.EarlyEnd.{EarlyEnd}
use Rattle.command_outcome.specs.declared.report.EarlyEnd.TheVariants as stop
use Rattle.command_outcome.specs.declared.status.Status.TheVariants as ends
use Rattle.command_outcome.proofs.OutcomeFacts.{ends_as, stops_as, handed_on}

-- a report of what was found has the status of a search
pub found_status : (s : Search) (r : Report) → IsFound s r.status r.text.items r.kept → IsSearchStatus r.status
found_status s r f = elim f.answer [ inl a ↦ inl a.0 | inr a ↦ inr a.0 ]

-- bounds that memory cut short are told so
pub cut_as : (s : Search) (lower upper : ℕ) (e : EarlyEnd) → lower < upper → s.Bounds lower upper
    → Stops (λ out. out ≡ told ends.Memory (cut_short_text lower upper)) e → Stops (IsCutShort s) e
cut_as s lower upper e below bounds told_so =
    stops_as (λ out. out ≡ told ends.Memory (cut_short_text lower upper)) (IsCutShort s) e
    (λ out shown. record { lower = lower; upper = upper; below = below; bounds = bounds; shown = shown }) told_so

-- what may stop a step may stop what the step ends, where each cause is one
pub may_end_as : {T : Type 0} (R Q W V : Type 0) (r : Result T EarlyEnd) → (R → Q) → (W → V)
    → MatchResult r (λ _. Unit {0}) (MayEnd R W) → MatchResult r (λ _. Unit {0}) (MayEnd Q V)
may_end_as R Q W V (Ok x) f h m = m
may_end_as R Q W V (Err (stop.Report r)) f h m = record {
  read = λ e. f (m.read e);
  write = m.write;
  usage = m.usage;
  done = m.done;
  stopped = m.stopped;
  kept = m.kept;
}
may_end_as R Q W V (Err stop.Memory) f h m = m
may_end_as R Q W V (Err stop.Unwritten) f h m = h m

-- A report of what was found, handed on once its certificate is written where the words name a file.
module _ (s : Search) (name : Option (List ℕ)) (r : Report) (found : IsFound s r.status r.text.items r.kept)
    (after : Files) (result : Result Report EarlyEnd) where
  -- what it ends with
  pub reported : (o : Outside) (P : Outcome → Type 0) → ((out : Outcome) → IsReported s name out → P out)
      → Ends o (λ out. out ≡ outcome_of r (page_of name (s.tell found.certificate))) after result
      → Ends o P after result
  reported o P f e =
      ends_as o (λ out. out ≡ outcome_of r (page_of name (s.tell found.certificate))) P after result
      (λ out is. f out (subst (IsReported s name) (sym is) (record { found = found; page = refl }))) e

  -- its status
  pub handed_status : IfOk result (λ x. x ≡ r) → IfOk result (λ x. IsSearchStatus x.status)
  handed_status same =
      handed_on (λ (x : Report). IsSearchStatus x.status) (λ (x : Report). x ≡ r) r result
      (λ is. found_status s r found) same same

  -- what it promises
  pub filed : IfOk result (λ x. x ≡ r)
      → IfOk result (λ x. (cert : s.Cert) → x.kept ≡ s.keep cert → HasText name after (s.tell cert))
      → IfOk result (λ x. IsFiled s name after x.status x.text.items x.kept)
  filed same written =
      handed_on (λ (x : Report). IsFiled s name after x.status x.text.items x.kept)
      (λ (x : Report). (cert : s.Cert) → x.kept ≡ s.keep cert → HasText name after (s.tell cert)) r result
      (λ w. record { found = found; written = w found.certificate found.keeps }) same written
