-- What an offer of a balance does on a desk, and which balance the loads of a job give.
use Rattle.std.proofs.Common.{◌≡◌, ℕ, ◌+◌, ◌≤◌, Bool, List, [], ◌∷◌, length, length-append, refl, sym, ap, ◌∙◌, subst}
use Rattle.std.proofs.Common.{arith, Some}
use Rattle.line_instance.specs.Line.{Line}
use Rattle.line_rules.specs.Balance.{IsRight, all_tasks}
use Rattle.line_rules.specs.Loads.{IsLoad, Belongs}
use Rattle.line_rules.specs.Seats.{AreSeated, around}
use Rattle.line_rules.specs.declared.types.Balance.{Balance as Assignment}
use Rattle.line_rules.specs.declared.types.LineKind.{LineKind}
use Rattle.line_rules.specs.declared.types.Mode.{Mode}
use Rattle.line_rules.specs.declared.types.Mode.TheVariants as mode
use Rattle.line_rules.specs.declared.types.Load.{Load}
use Rattle.line_rules.proofs.SeatedLoads.{around_seated}
use Rattle.lemma_core.specs.History.{Item, better, Standing, replay}
use Rattle.lemma_core.specs.Desks.{DeskView, fewest_after, Adds, Offers}
use Rattle.lemma_core.specs.declared.types.Offered.{Offered}
use Rattle.lemma_core.specs.declared.types.Offered.TheVariants as offered
use Rattle.lemma_core.proofs.HistoryGrows.{keeps_none}
use Rattle.lemma_core.proofs.OwnFacts.{did_none, did_adds}
use Rattle.lemma_core.proofs.Runs.{replay-append}
use Rattle.station_search.specs.Decide.{IsFor}
use Rattle.station_search.specs.Mode.{mode_of}
use Rattle.round_helpers.specs.Jobs.{IsJobOf}
use Rattle.round_helpers.specs.declared.job_list.Job.{Job}
use Rattle.round_helpers.specs.inner.Works.{Works, fewest_seen}
use Rattle.round_helpers.proofs.WorkFacts.{works_waits, works_item}

pub around_long : (m : Mode) (l : Load) (ls : List Load) → length (around m (Some l) ls) ≡ length ls + 1
around_long mode.Fore l ls = omega arith
around_long mode.Back l ls = length-append ls (l ∷ [])
around_long mode.Both l ls = omega arith

-- a job's load beside the seated loads that were found for its rest
pub job_seated : (kind : LineKind) (line : Line) (c most : ℕ) (job : Job) (m : Mode) (loads out : List Load)
    → IsJobOf kind line c most job → m ≡ mode_of kind line (all_tasks line) → Belongs kind m
    → out ≡ around m (Some job.load) loads → AreSeated kind line c job.set loads
    → AreSeated kind line c (all_tasks line) out
job_seated kind line c most job m loads out is same belongs e s =
    let L : Mode → Type 0 = λ z. IsLoad line c z (all_tasks line) job.load in
    let R : List Bool → Type 0 = λ z. AreSeated kind line c z loads in
    let S : List Load → Type 0 = λ z. AreSeated kind line c (all_tasks line) z in
    subst S (sym e)
    (around_seated kind line c m (all_tasks line) job.load belongs (subst L (sym same) is.opens.load) loads
    (subst R is.set s))

pub right_for : (desk : DeskView) (line : Line) (kind : LineKind) (c : ℕ) (b : Assignment) → IsFor desk line kind c
    → IsRight kind line c b
    → IsRight desk.about.kind desk.about.line desk.about.cycle b
right_for desk line kind c b f r =
    let P : LineKind → Type 0 = λ z. IsRight z desk.about.line desk.about.cycle b in
    let Q : Line → Type 0 = λ z. IsRight kind z desk.about.cycle b in
    let S : ℕ → Type 0 = λ z. IsRight kind line z b in
    subst P (sym f.same_kind) (subst Q (sym f.same_line) (subst S (sym f.same_cycle) r))

-- an offer adds no entry
pub works_offer : (line : Line) (X : ℕ) (old new : DeskView) (n : ℕ) (r : Offered) → Offers old new n r
    → Works line X old new 0 0
works_offer line X old new n offered.Better o =
    works_item line X old new (better n) refl (did_adds old old new [] o.0 (better n) (keeps_none old) (did_none old)
    o.1)
works_offer line X old new n offered.NotBetter o = works_waits line X old new o.0

-- and no more stations are the fewest afterwards
pub offer_fewest : (old new : DeskView) (n : ℕ) (r : Offered) → Offers old new n r → fewest_seen new ≤ n
offer_fewest old new n offered.Better o =
    let a : Adds old new o.0 (better n) = o.1 in
    let e : fewest_seen new ≡ (replay (replay new.opening o.0) (better n ∷ [])).stations =
    ap (λ (z : List Item). (replay new.opening z).stations) a.last
    ∙ ap (λ (z : Standing). z.stations) (replay-append new.opening o.0 (better n ∷ [])) in
    omega (arith, e)
offer_fewest old new n offered.NotBetter o =
    let e : fewest_seen new ≡ fewest_after old new.seen =
    ap (λ (z : Standing). (replay z new.seen).stations) o.0.keeps.opening in
    omega (arith, e, o.1)
