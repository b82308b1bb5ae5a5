-- What is found of the line that the files say.
use Rattle.std.specs.declared.result.Result.{Result}
use Rattle.std.specs.declared.result.Result.TheVariants.{Ok, Err}
use Rattle.std.proofs.Common.{◌≡◌, ◌≤◌, ◌+◌, ◌*◌, ◌∙◌, inl, inr, ℕ, List, length, length-append, Option, Some, None}
use Rattle.std.proofs.Common.{IfOk, ap, subst, rules, arith}
use Rattle.line_instance.specs.Line.{Line}
use Rattle.line_rules.specs.Bounds.{idle_time}
use Rattle.line_rules.specs.Ranges.{IsInRange}
use Rattle.line_rules.specs.declared.types.LineKind.{LineKind}
use Rattle.line_rules.specs.declared.types.Balance.{Balance as Assignment}
use Rattle.line_rules.specs.declared.types.Entry.{Entry}
use Rattle.line_rules.specs.declared.types.Certificate.{Certificate}
use Rattle.cert_text.specs.Cert.{cert_text}
use Rattle.round_run.specs.Certified.{IsOptimumFrom, IsStopFrom, IsNoBalance}
use Rattle.round_run.specs.declared.plans.Plan.{Plan}
use Rattle.command_outcome.specs.Found.{Search, IsFound, IsAnswer, IsFiled}
use Rattle.command_outcome.specs.Outcome.{Files, Outside, Outcome}
use Rattle.command_outcome.specs.declared.report.Kept.TheVariants.{Line as Certified}
use Rattle.command_outcome.specs.declared.report.Report.{Report}
use Rattle.command_outcome.specs.declared.report.EarlyEnd.{EarlyEnd}
use Rattle.input_files.specs.InputFile.{max_certificate}
use Rattle.input_files.specs.Instance.{naming_of}
use Rattle.solution_page.proofs.TextLengths.{bounds_fit, too_long_fits}
use Rattle.command_solve.specs.Solution.{IsSolveOutcome, IsPromised, fewest_stations}
use Rattle.command_solve.specs.inner.Said.{HasSaid, search_of}
use Rattle.command_solve.specs.declared.effort.Effort.{Effort}
use Rattle.command_solve.specs.declared.said.Said.{Said}
use Rattle.task_names.specs.declared.naming.Naming.{Naming}

-- a text of a balance and its idle time is that of the best balance, where the balance is the best
pub of_best : (text_of : Assignment → ℕ → List ℕ) (text : List ℕ) (line : Line) (c : ℕ) (b best : Assignment)
    (idle : ℕ) → text ≡ text_of b idle → b ≡ best → idle ≡ idle_time line c b.stations
    → text ≡ text_of best (idle_time line c best.stations)
of_best text_of text line c b best idle e f g =
    e ∙ ap (λ (x : ℕ). text_of b x) g ∙ ap (λ (x : Assignment). text_of x (idle_time line c x.stations)) f

-- Where a run began with so few entries, the check reads files of the length of its certificate.
module _ (kind : LineKind) (line : Line) (c : ℕ) (plan : Plan) (before : List Entry) where
  pub optimum_fits : (b : Assignment) (cert : Certificate) → IsOptimumFrom kind line c plan before b cert
      → length before + 2 * plan.units ≤ 6101025 → length (cert_text cert) ≤ max_certificate
  optimum_fits b cert o few = omega (
    arith,
    bounds_fit line cert b.stations b.stations o.units b o.entries None
        (ap (λ (z : Certificate). z.claim) o.certified.said) o.certified.sayable o.certified.accepted,
    o.few,
    o.certified.few,
    few,
  )

  pub stop_fits : (lower : ℕ) (b : Assignment) (cert : Certificate) → IsStopFrom kind line c plan before lower b cert
      → length before + 2 * plan.units ≤ 6101025 → length (cert_text cert) ≤ max_certificate
  stop_fits lower b cert s few = omega (
    arith,
    bounds_fit line cert lower b.stations s.units b s.entries (Some (record { cycle = c; frames = s.frames }))
        (ap (λ (z : Certificate). z.claim) s.certified.said) s.certified.sayable s.certified.accepted,
    s.few,
    s.certified.few,
    ap (λ (z : List Entry). length z) s.begins,
    length-append before s.added,
    few,
  )

pub refusal_fits : (kind : LineKind) (line : Line) (c task : ℕ) (cert : Certificate)
    → IsNoBalance kind line c task cert → length (cert_text cert) ≤ max_certificate
refusal_fits kind line c task cert n = omega (arith, too_long_fits line cert task n.sayable n.accepted)

-- a text can say the certificate that is kept
pub sayable : (said : Said) (kind : LineKind) (effort : Effort) (plan : Plan) (r : Report)
    → IsFound (search_of said kind effort plan) r.status r.text.items r.kept
    → (cert : Certificate) → r.kept ≡ Certified cert → IsInRange cert
sayable said kind effort plan r f cert kept =
    let mine : Certificate = f.certificate in
    let keeps : r.kept ≡ Certified mine = f.keeps in
    let same : mine ≡ cert = cc in
    let in_range : IsInRange mine = elim f.answer [
      | inl a ↦ elim a.1 [
        | inl p ↦ p.told.proved.certified.sayable
        | inr (inl p) ↦ p.told.proved.certified.sayable
        | inr (inr p) ↦ p.proved.sayable
      ]
      | inr a ↦ a.1.proved.certified.sayable
    ] in
    subst IsInRange same in_range

module _ (o : Outside) (file : List ℕ) (apart warm : Option (List ℕ)) (effort : Effort) (word : Option ℕ)
    (kind : LineKind) (plan : Plan) (name : Option (List ℕ)) (said : Said)
    (has : HasSaid o.files file apart warm word kind said.timed.inst said.timed.cycle said.olds)
    (names : said.timed.naming ≡ naming_of o.files file) where
  abbrev named : Naming → Search
  named n =
      fewest_stations n kind said.timed.inst said.timed.cycle plan (record { olds = said.olds; effort = effort })

  -- what is answered of what the files say
  pub answered : (out : Outcome) → IsAnswer (search_of said kind effort plan) name out
      → IsSolveOutcome o file apart warm effort word kind plan name out
  answered out answer = inl (record {
    line = said.timed.inst;
    c = said.timed.cycle;
    said = has.said;
    olds = said.olds;
    old = has.old;
    answer = subst (λ (n : Naming). IsAnswer (named n) name out) names answer;
  })

  -- what is promised of it, once its certificate is written
  pub promised : (after : Files) (r : Result Report EarlyEnd)
      → IfOk r (λ x. IsFiled (search_of said kind effort plan) name after x.status x.text.items x.kept)
      → IfOk r (λ x. IsPromised o.files after file apart warm effort word kind plan name x.status x.text.items x.kept)
  promised after (Ok x) f = record {
    line = said.timed.inst;
    c = said.timed.cycle;
    said = has.said;
    olds = said.olds;
    old = has.old;
    filed = subst (λ (n : Naming). IsFiled (named n) name after x.status x.text.items x.kept) names f;
  }
  promised after (Err e) f = search rules
