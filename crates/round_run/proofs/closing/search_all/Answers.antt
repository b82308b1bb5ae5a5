use Rattle.std.proofs.Common.{◌≡◌, ◌+◌, ◌-◌, ℕ, [], refl, sym, ap, ◌∙◌, subst, arith}
use Rattle.lemma_core.specs.Books.{BookView}
use Rattle.round_run.specs.Rounds.{Gains}
use Rattle.round_run.specs.declared.closing.Verdict.TheVariants as verdict
use Rattle.round_run.proofs.BookGain.{goes_same, gains_all, gains_some, best_same}
use Rattle.round_run.proofs.RoundFacts.{none_used, was_open}
use Rattle.round_run.proofs.closing.search_all.Goals as goal

pub returns-in-Refuted-clause-gains : goal.returns-in-Refuted-clause-gains
returns-in-Refuted-clause-gains c =
    let P : ℕ → Type 0 = λ z. Gains c.args.book.now c.decide_in-decided.new.desk verdict.Refuted z in
    let n : ℕ = c.decide_in-decided.new.units.used - c.args.units.now.used in
    let e : n ≡ c.decide_in-decided.new.units.used = omega arith in
    subst P e (gains_all c.args.book.now c.decide_in-decided.new.desk c.len-before.ensures.kept c.len-after.ensures.kept
    c.decide_in-decided.ensures.keeps c.kind-kind.result c.args.inst.now c.cycle-cycle.result (sym c.requires.same)
    c.cycle-cycle.ensures c.decide_in-decided.ensures.own verdict.Refuted n (n + 1) (omega arith) c.in-Refuted.ensures.few
    (c.in-Refuted.ensures.alone refl))

pub returns-in-Refuted-clause-above : goal.returns-in-Refuted-clause-above
returns-in-Refuted-clause-above c =
    let e = best_same c.args.book.now c.decide_in-decided.new.desk c.len-before.ensures.kept c.len-after.ensures.kept
    c.decide_in-decided.ensures.keeps c.kind-kind.result c.args.inst.now c.cycle-cycle.result (sym c.requires.same)
    c.cycle-cycle.ensures c.decide_in-decided.ensures.own in
    λ l. omega (arith, e, l)

pub returns-in-Ok-clause-gains : goal.returns-in-Ok-clause-gains
returns-in-Ok-clause-gains c =
    let P : ℕ → Type 0 = λ z. Gains c.args.book.now c.offer_loads.new.book verdict.Found z in
    let n : ℕ = c.decide_in-decided.new.units.used - c.args.units.now.used in
    let e : n ≡ c.decide_in-decided.new.units.used = omega arith in
    subst P e (gains_some c.args.book.now c.decide_in-decided.new.desk c.len-before.ensures.kept c.len-after.ensures.kept
    c.decide_in-decided.ensures.keeps c.kind-kind.result c.args.inst.now c.cycle-cycle.result (sym c.requires.same)
    c.cycle-cycle.ensures c.decide_in-decided.ensures.own c.offer_loads.new.book verdict.Found [] n n refl (λ x. x)
    (omega arith) c.in-Found.ensures.few c.offer_loads.ensures.goes_on)

pub returns-in-Found-clause-gains : goal.returns-in-Found-clause-gains
returns-in-Found-clause-gains c =
    let P : ℕ → Type 0 = λ z. Gains c.args.book.now c.offer_loads.new.book (verdict.NoMemory c.from_vec.result) z in
    let n : ℕ = c.decide_in-decided.new.units.used - c.args.units.now.used in
    let e : n ≡ c.decide_in-decided.new.units.used = omega arith in
    subst P e (gains_some c.args.book.now c.decide_in-decided.new.desk c.len-before.ensures.kept c.len-after.ensures.kept
    c.decide_in-decided.ensures.keeps c.kind-kind.result c.args.inst.now c.cycle-cycle.result (sym c.requires.same)
    c.cycle-cycle.ensures c.decide_in-decided.ensures.own c.offer_loads.new.book
    (verdict.NoMemory c.from_vec.result) [] n n
    (sym (c.from_vec.ensures ∙ c.new.ensures.items)) (λ x. x) (omega arith) c.in-Found.ensures.few
    c.offer_loads.ensures.goes_on)

pub returns-in-Found-clause-above : goal.returns-in-Found-clause-above
returns-in-Found-clause-above c =
    let e = best_same c.args.book.now c.decide_in-decided.new.desk c.len-before.ensures.kept c.len-after.ensures.kept
    c.decide_in-decided.ensures.keeps c.kind-kind.result c.args.inst.now c.cycle-cycle.result (sym c.requires.same)
    c.cycle-cycle.ensures c.decide_in-decided.ensures.own in
    let s : c.offer_loads.new.book.state.best.stations ≡ c.decide_in-decided.new.desk.state.best.stations =
    ap (λ (z : BookView). z.state.best.stations) c.in-Err.ensures.same in
    λ l. omega (arith, e, s, l)

pub returns-in-Spent-clause-gains : goal.returns-in-Spent-clause-gains
returns-in-Spent-clause-gains c =
    let P : ℕ → Type 0 = λ z. Gains c.args.book.now c.decide_in-decided.new.desk (verdict.Spent c.in-Spent.frames) z in
    let n : ℕ = c.decide_in-decided.new.units.used - c.args.units.now.used in
    let e : n ≡ c.decide_in-decided.new.units.used = omega arith in
    subst P e (gains_all c.args.book.now c.decide_in-decided.new.desk c.len-before.ensures.kept c.len-after.ensures.kept
    c.decide_in-decided.ensures.keeps c.kind-kind.result c.args.inst.now c.cycle-cycle.result (sym c.requires.same)
    c.cycle-cycle.ensures c.decide_in-decided.ensures.own (verdict.Spent c.in-Spent.frames) n n (omega arith)
    c.in-Spent.ensures.few (c.in-Spent.ensures.alone refl).0)

pub returns-in-Spent-clause-above : goal.returns-in-Spent-clause-above
returns-in-Spent-clause-above c =
    let e = best_same c.args.book.now c.decide_in-decided.new.desk c.len-before.ensures.kept c.len-after.ensures.kept
    c.decide_in-decided.ensures.keeps c.kind-kind.result c.args.inst.now c.cycle-cycle.result (sym c.requires.same)
    c.cycle-cycle.ensures c.decide_in-decided.ensures.own in
    λ l. omega (arith, e, l)

pub returns-clause-gains : goal.returns-clause-gains
returns-clause-gains c =
    let P : ℕ → Type 0 = λ z. Gains c.args.book.now c.decide_in-decided.new.desk
    (verdict.NoMemory c.in-NoMemory.frames) z in
    let n : ℕ = c.decide_in-decided.new.units.used - c.args.units.now.used in
    let e : n ≡ c.decide_in-decided.new.units.used = omega arith in
    subst P e (gains_some c.args.book.now c.decide_in-decided.new.desk c.len-before.ensures.kept c.len-after.ensures.kept
    c.decide_in-decided.ensures.keeps c.kind-kind.result c.args.inst.now c.cycle-cycle.result (sym c.requires.same)
    c.cycle-cycle.ensures c.decide_in-decided.ensures.own c.decide_in-decided.new.desk (verdict.NoMemory c.in-NoMemory.frames)
    c.in-NoMemory.frames n n refl (λ x. x) (omega arith) c.in-NoMemory.ensures.few
    (goes_same c.decide_in-decided.new.desk))

pub returns-clause-above : goal.returns-clause-above
returns-clause-above c =
    let e = best_same c.args.book.now c.decide_in-decided.new.desk c.len-before.ensures.kept c.len-after.ensures.kept
    c.decide_in-decided.ensures.keeps c.kind-kind.result c.args.inst.now c.cycle-cycle.result (sym c.requires.same)
    c.cycle-cycle.ensures c.decide_in-decided.ensures.own in
    λ l. omega (arith, e, l)

pub returns-in-Refuted-clause-known : goal.returns-in-Refuted-clause-known
returns-in-Refuted-clause-known c = λ a.
    none_used c.kind-kind.result c.args.inst.now c.args.book.now c.all-all.result c.args.most c.cycle-cycle.result
    c.decide_in-decided.new.units.used c.args.units.now.used c.decide_in-decided.result c.len-before.ensures.kept
    c.kind-kind.ensures c.all-all.ensures.value c.cycle-cycle.ensures c.requires.bounded
    c.decide_in-decided.ensures.known a
    ∙ c.requires.fresh

pub returns-in-Ok-clause-known : goal.returns-in-Ok-clause-known
returns-in-Ok-clause-known c = λ a.
    none_used c.kind-kind.result c.args.inst.now c.args.book.now c.all-all.result c.args.most c.cycle-cycle.result
    c.decide_in-decided.new.units.used c.args.units.now.used c.decide_in-decided.result c.len-before.ensures.kept
    c.kind-kind.ensures c.all-all.ensures.value c.cycle-cycle.ensures c.requires.bounded
    c.decide_in-decided.ensures.known a
    ∙ c.requires.fresh

pub returns-in-Found-clause-known : goal.returns-in-Found-clause-known
returns-in-Found-clause-known c = λ a.
    none_used c.kind-kind.result c.args.inst.now c.args.book.now c.all-all.result c.args.most c.cycle-cycle.result
    c.decide_in-decided.new.units.used c.args.units.now.used c.decide_in-decided.result c.len-before.ensures.kept
    c.kind-kind.ensures c.all-all.ensures.value c.cycle-cycle.ensures c.requires.bounded
    c.decide_in-decided.ensures.known a
    ∙ c.requires.fresh

pub returns-in-Spent-clause-known : goal.returns-in-Spent-clause-known
returns-in-Spent-clause-known c = λ a.
    none_used c.kind-kind.result c.args.inst.now c.args.book.now c.all-all.result c.args.most c.cycle-cycle.result
    c.decide_in-decided.new.units.used c.args.units.now.used c.decide_in-decided.result c.len-before.ensures.kept
    c.kind-kind.ensures c.all-all.ensures.value c.cycle-cycle.ensures c.requires.bounded
    c.decide_in-decided.ensures.known a
    ∙ c.requires.fresh

pub returns-clause-known : goal.returns-clause-known
returns-clause-known c = λ a.
    none_used c.kind-kind.result c.args.inst.now c.args.book.now c.all-all.result c.args.most c.cycle-cycle.result
    c.decide_in-decided.new.units.used c.args.units.now.used c.decide_in-decided.result c.len-before.ensures.kept
    c.kind-kind.ensures c.all-all.ensures.value c.cycle-cycle.ensures c.requires.bounded
    c.decide_in-decided.ensures.known a
    ∙ c.requires.fresh

pub returns-in-Spent-clause-was_open : goal.returns-in-Spent-clause-was_open
returns-in-Spent-clause-was_open c =
    was_open c.kind-kind.result c.args.inst.now c.args.book.now c.all-all.result c.args.most c.cycle-cycle.result
    c.decide_in-decided.new.units.used c.args.units.now.used c.in-Spent.frames c.len-before.ensures.kept
    c.requires.same c.kind-kind.ensures c.all-all.ensures.value c.cycle-cycle.ensures c.requires.bounded c.in-Spent.ensures.known
