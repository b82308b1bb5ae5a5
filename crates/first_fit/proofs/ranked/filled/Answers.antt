use Rattle.std.proofs.Common.{◌∙◌, ◌<◌, ℕ, List, Bool, refl, sym, subst, arith, set}
use Rattle.std.proofs.lemmas.Bool.{false≢true}
use Rattle.line_instance.specs.Truths.{In, union}
use Rattle.line_instance.specs.Line.{tasks}
use Rattle.line_rules.specs.Ranked.{IsRankedBalance}
use Rattle.line_rules.specs.declared.types.Seatplace.{Seatplace}
use Rattle.first_fit.specs.declared.filling.Filling.{Filling as Filled}
use Rattle.first_fit.specs.inner.Filling.{joined}
use Rattle.first_fit.proofs.Fills.{IsFilling, one_more}
use Rattle.first_fit.proofs.StationSteps.{at_start, station_small, used, further, flag_falls, finished, work}
use Rattle.first_fit.proofs.StationSteps.{work_joins}
use Rattle.first_fit.proofs.StationSteps.{work_goes_on}
use Rattle.first_fit.proofs.ranked.filled.Goals as goal

pub filling-init : goal.filling-init
filling-init c =
    let P : Filled → Type 0 = λ f. IsFilling c.args.kind c.args.inst.now c.args.cycle f c.in_ok-place.place.items in
    subst P (sym c.start-filling.ensures) (at_start c.args.kind c.args.inst.now c.args.cycle c.in_ok-place.place.items
    (c.in_ok-place.ensures ∙ c.tasks.ensures.tasks))

pub filling-smaller-in-Some : goal.filling-smaller-in-Some
filling-smaller-in-Some c =
    let P : Filled → Type 0 = λ f. work f < work c.filling.filling in
    subst P (sym c.joined-filling.ensures) (work_joins c.args.kind c.args.inst.now c.args.cycle c.filling.filling
    c.filling.place.items c.in-Some.choice c.time.result c.tasks.ensures.line c.filling.invariant
    c.in-Some.ensures.some.may)

pub filling-preserved-in-Some : goal.filling-preserved-in-Some
filling-preserved-in-Some c =
    let places : List Seatplace = set c.filling.place.items c.in-Some.choice.task
    (record { station = c.filling.filling.station; side = c.in-Some.choice.side }) in
    let P : Filled → Type 0 = λ f. IsFilling c.args.kind c.args.inst.now c.args.cycle f places in
    let T : ℕ → Type 0 = λ t. IsFilling c.args.kind c.args.inst.now c.args.cycle
    (joined c.filling.filling c.in-Some.choice t) places in
    subst P (sym c.joined-filling.ensures) (subst T (sym c.time.ensures.time)
    (one_more c.args.kind c.args.inst.now c.args.cycle c.filling.filling c.filling.place.items c.tasks.ensures.line
    c.filling.invariant c.in-Some.choice c.in-Some.ensures.some))

pub next_station-filling-requires : goal.next_station-filling-requires
next_station-filling-requires c = omega (
  arith,
  c.tasks.ensures.line.small,
  station_small c.args.kind c.args.inst.now c.args.cycle c.filling.filling c.filling.place.items c.tasks.ensures.line
      c.tasks.ensures.ranked c.filling.invariant c.requires (c.in-None.ensures.none refl),
)

pub filling-smaller : goal.filling-smaller
filling-smaller c =
    let line = c.args.inst.now in
    let f = c.filling.filling in
    let U : (i : ℕ) → List Bool → Type 0 = λ i s. In s i in
    let not_all : ((i : ℕ) → i < tasks line → In (union f.front f.back) i)
    → ⊥ = λ all. false≢true (sym c.filling-test.true ∙ c.is_subset.ensures.1
    (λ i m. subst (U i) (sym c.union.ensures.value) (all i ((c.all-all.ensures.members i).0 m)))) in
    let some : (i : ℕ) × In f.here i = used c.args.kind line c.args.cycle f c.filling.place.items c.tasks.ensures.line
    c.tasks.ensures.ranked c.filling.invariant c.requires (c.in-None.ensures.none refl) not_all in
    let P : Filled → Type 0 = λ g. work g < work f in
    subst P (sym c.next_station-filling.ensures) (work_goes_on f c.args.cycle
    (flag_falls c.args.kind line c.args.cycle f c.filling.place.items c.tasks.ensures.line c.tasks.ensures.ranked
    c.filling.invariant c.requires (c.in-None.ensures.none refl) some not_all))

pub filling-preserved : goal.filling-preserved
filling-preserved c =
    let line = c.args.inst.now in
    let f = c.filling.filling in
    let U : (i : ℕ) → List Bool → Type 0 = λ i s. In s i in
    let not_all : ((i : ℕ) → i < tasks line → In (union f.front f.back) i)
    → ⊥ = λ all. false≢true (sym c.filling-test.true ∙ c.is_subset.ensures.1
    (λ i m. subst (U i) (sym c.union.ensures.value) (all i ((c.all-all.ensures.members i).0 m)))) in
    let some : (i : ℕ) × In f.here i = used c.args.kind line c.args.cycle f c.filling.place.items c.tasks.ensures.line
    c.tasks.ensures.ranked c.filling.invariant c.requires (c.in-None.ensures.none refl) not_all in
    let P : Filled → Type 0 = λ g. IsFilling c.args.kind line c.args.cycle g c.filling.place.items in
    subst P (sym c.next_station-filling.ensures) (further c.args.kind line c.args.cycle f c.filling.place.items
    c.tasks.ensures.line c.tasks.ensures.ranked c.filling.invariant c.requires (c.in-None.ensures.none refl) some
    not_all)

pub returns : goal.returns
returns c =
    let line = c.args.inst.now in
    let f = c.filling.filling in
    let U : (i : ℕ) → List Bool → Type 0 = λ i s. In s i in
    let B : List Seatplace → Type 0 = λ ps. IsRankedBalance c.args.kind line c.args.cycle
    (record { stations = f.station; place = ps }) in
    subst B (sym c.from_vec.ensures) (finished c.args.kind line c.args.cycle f c.filling.place.items c.filling.invariant
    (λ i l. subst (U i) c.union.ensures.value (c.is_subset.ensures.0 c.filling-test.false i
    ((c.all-all.ensures.members i).1 l))))
