-- What is told of a certificate shows what its run proved.
use Rattle.std.proofs.Common.{◌≡◌, ◌⊎◌, ◌≤◌, ℕ, ap, ◌∙◌, subst, inl, inr}
use Rattle.line_instance.specs.Line.{Line, tasks}
use Rattle.line_rules.specs.declared.types.LineKind.{LineKind}
use Rattle.line_rules.specs.declared.types.Balance.{Balance as Assignment}
use Rattle.line_rules.specs.declared.types.Certificate.{Certificate}
use Rattle.line_rules.specs.Ranked.{IsRankedBalance}
use Rattle.round_run.specs.Certified.{IsOptimum, IsStop}
use Rattle.command_outcome.specs.declared.report.Report.{Report}
use Rattle.command_outcome.specs.declared.report.Kept.{Kept}
use Rattle.command_outcome.specs.declared.status.Status.TheVariants as ends
use Rattle.command_try.specs.TryText.{bounds_line}
use Rattle.command_try.specs.Tried.{alone, IsAcceptable, IsReadAndVerified, IsTold, IsShown}
use Rattle.command_try.proofs.ReadBack.{bounds_once}

pub acceptable_optimum : (kind : LineKind) (line : Line) (c N : ℕ) (b : Assignment) (cert : Certificate)
    → IsOptimum kind line c (alone N) b cert → IsAcceptable line cert
acceptable_optimum kind line c N b cert o = record {
  sayable = o.certified.sayable;
  lower = b.stations;
  upper = b.stations;
  units = o.units;
  accepted = o.certified.accepted;
  few = o.certified.few;
}

pub acceptable_stop : (kind : LineKind) (line : Line) (c N lower : ℕ) (b : Assignment) (cert : Certificate)
    → IsStop kind line c (alone N) lower b cert → IsAcceptable line cert
acceptable_stop kind line c N lower b cert s = record {
  sayable = s.certified.sayable;
  lower = lower;
  upper = b.stations;
  units = s.units;
  accepted = s.certified.accepted;
  few = s.certified.few;
}

-- the bounds that were found and printed are those of the certificate
found_as : (line : Line) (cert : Certificate) (kept : Kept) (l u m v : ℕ) → l ≡ m → u ≡ v
    → IsReadAndVerified line cert l u kept → IsReadAndVerified line cert m v kept
found_as line cert kept l u m v e f r =
    let P : ℕ → Type 0 = λ x. IsReadAndVerified line cert x u kept in
    let Q : ℕ → Type 0 = λ y. IsReadAndVerified line cert m y kept in
    subst Q f (subst P e r)

line_as : (seed n code l u m v : ℕ) → l ≡ m → u ≡ v → bounds_line seed n code l u ≡ bounds_line seed n code m v
line_as seed n code l u m v e f = ap (λ x. bounds_line seed n code x u) e ∙ ap (λ y. bounds_line seed n code m y) f

pub shown_optimum : (kind : LineKind) (line : Line) (seed c N : ℕ) (b : Assignment) (cert : Certificate) (r : Report)
    → IsOptimum kind line c (alone N) b cert → IsTold line seed ends.Done cert r
    → IsShown kind line seed (tasks line) c N r.status r.text.items r.kept
shown_optimum kind line seed c N b cert r o t =
    let same = bounds_once line cert t.lower t.upper t.units b.stations b.stations o.units t.accepted
    o.certified.accepted in
    inl (record {
      certificate = cert;
      balance = b;
      proved = o;
      done = t.ends;
      accepted = found_as line cert r.kept t.lower t.upper b.stations b.stations same.0 same.1 t.found;
      printed = t.printed ∙ line_as seed (tasks line) 0 t.lower t.upper b.stations b.stations same.0 same.1;
    })

pub shown_stop : (kind : LineKind) (line : Line) (seed c N lower : ℕ) (b : Assignment) (cert : Certificate) (r : Report)
    → IsStop kind line c (alone N) lower b cert
    → ((a : Assignment) → IsRankedBalance kind line c a → b.stations ≤ a.stations)
    → IsTold line seed ends.Stopped cert r → IsShown kind line seed (tasks line) c N r.status r.text.items r.kept
shown_stop kind line seed c N lower b cert r s ranked t =
    let same = bounds_once line cert t.lower t.upper t.units lower b.stations s.units t.accepted s.certified.accepted in
    inr (inl (record {
      certificate = cert;
      lower = lower;
      balance = b;
      proved = s;
      ranked = ranked;
      stopped = t.ends;
      accepted = found_as line cert r.kept t.lower t.upper lower b.stations same.0 same.1 t.found;
      printed = t.printed ∙ line_as seed (tasks line) 1 t.lower t.upper lower b.stations same.0 same.1;
    }))

-- what is told is done, or its units ended
pub status_shown : (kind : LineKind) (line : Line) (seed n c N : ℕ) (r : Report)
    → IsShown kind line seed n c N r.status r.text.items r.kept → (r.status ≡ ends.Done) ⊎ (r.status ≡ ends.Stopped)
status_shown kind line seed n c N r s = elim s [
  | inl o ↦ inl o.done
  | inr (inl p) ↦ inr p.stopped
  | inr (inr q) ↦ inl q.done
]

-- the same said of a number of tasks
pub shown_of : (kind : LineKind) (line : Line) (seed n c N : ℕ) (r : Report) → tasks line ≡ n
    → IsShown kind line seed (tasks line) c N r.status r.text.items r.kept
    → IsShown kind line seed n c N r.status r.text.items r.kept
shown_of kind line seed n c N r e s =
    let P : ℕ → Type 0 = λ x. IsShown kind line seed x c N r.status r.text.items r.kept in
    subst P e s
