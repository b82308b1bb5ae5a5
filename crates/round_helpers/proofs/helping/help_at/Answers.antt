use Rattle.std.proofs.Common.{List, sym, ap, ◌∙◌, subst, inr, arith}
use Rattle.book_share.specs.Passes.{PassView}
use Rattle.round_helpers.specs.inner.Teams.{AreSettled, IsTold, settled}
use Rattle.round_helpers.specs.declared.teams.Helper.{Helper}
use Rattle.round_helpers.proofs.HelpFacts.{bare_first, may_work, are_back, passes_are, are_settled}
use Rattle.round_helpers.proofs.HelpFacts.{comes_back, spent_back}
use Rattle.round_helpers.proofs.helping.help_at.Goals as goal

pub split_off-ready-requires-clause-bare : goal.split_off-ready-requires-clause-bare
split_off-ready-requires-clause-bare g c =
    bare_first c.args.share c.args.pass c.requires.started.0 c.requires.pass c.requires.started.1.0

pub split_off-ready-requires-clause-hands : goal.split_off-ready-requires-clause-hands
split_off-ready-requires-clause-hands g c =
    c.requires.equipped.are.count ∙ c.requires.equipped.count_is

pub worked-helpers-requires-clause-each : goal.worked-helpers-requires-clause-each
worked-helpers-requires-clause-each g c κs within =
    may_work c.args.share c.args.pass.view.base c.args.pass.view.seen c.args.inst.now c.args.question c.args.jobs.now
    c.args.equipment.pool c.args.units.now c.args.equipment.hands c.split_off-ready.result.items
    (sym c.split_off-ready.result.ok.0 ∙ c.split_off-ready.ensures.count)
    (c.requires.equipped.are.count ∙ c.requires.equipped.count_is) c.requires.team.few
    c.split_off-ready.ensures.ready
    (ap (λ (z : PassView). z.base.about) c.requires.started.1.0 ∙ c.requires.started.1.1)
    c.requires.cycle c.requires.some c.requires.few c.requires.are c.requires.bounded c.requires.equipped.are

pub settle-requires-clause-sums : goal.settle-requires-clause-sums
settle-requires-clause-sums g c =
    let t = are_back c.args.share c.args.pass c.args.inst.now c.args.question c.args.jobs.now c.args.units.now
    c.args.equipment c.split_off-ready.result c.worked-helpers.result c.requires.equipped
    c.split_off-ready.ensures.count c.split_off-ready.ensures.ready c.worked-helpers.ensures.count
    c.worked-helpers.ensures.each in
    let P : List Helper → Type 0 = λ z. AreSettled c.args.units.now z in
    subst P (sym c.deref.ensures.value)
    (are_settled t c.requires.team)

pub join_all-requires-clause-each : goal.join_all-requires-clause-each
join_all-requires-clause-each g c =
    let t = are_back c.args.share c.args.pass c.args.inst.now c.args.question c.args.jobs.now c.args.units.now
    c.args.equipment c.split_off-ready.result c.worked-helpers.result c.requires.equipped
    c.split_off-ready.ensures.count c.split_off-ready.ensures.ready c.worked-helpers.ensures.count
    c.worked-helpers.ensures.each in
    passes_are t

pub returns-then-least-question-clause-help : goal.returns-then-least-question-clause-help
returns-then-least-question-clause-help g c = λ book ok e about.
    let t = are_back c.args.share c.args.pass c.args.inst.now c.args.question c.args.jobs.now c.args.units.now
    c.args.equipment c.split_off-ready.result c.worked-helpers.result c.requires.equipped
    c.split_off-ready.ensures.count c.split_off-ready.ensures.ready c.worked-helpers.ensures.count
    c.worked-helpers.ensures.each in
    let T : List Helper → Type 0 = λ z. IsTold z c.tell-told.result in
    let units = c.settle.ensures ∙ ap (λ (z : List Helper). settled c.args.units.now z) c.deref.ensures.value in
    let back = comes_back c.settle.new.units c.args.pass c.split_off-ready.new.pass c.join_all.new.pass book c.close-book.result
    c.tell-told.result t c.requires.team.few e about c.split_off-ready.ensures.bare c.join_all.ensures.joined
    c.close-book.ensures.about c.close-book.ensures.opening c.close-book.ensures.seen c.close-book.ensures.all
    c.close-book.ensures.reserved ok c.len-len.ensures.kept units
    (subst T c.deref-2.ensures.value c.tell-told.ensures) in
    (back.0, inr (omega (arith, c.least.ensures, c.if-least-question.true)))

pub returns-then-least-question-clause-spent : goal.returns-then-least-question-clause-spent
returns-then-least-question-clause-spent g c =
    let t = are_back c.args.share c.args.pass c.args.inst.now c.args.question c.args.jobs.now c.args.units.now
    c.args.equipment c.split_off-ready.result c.worked-helpers.result c.requires.equipped
    c.split_off-ready.ensures.count c.split_off-ready.ensures.ready c.worked-helpers.ensures.count
    c.worked-helpers.ensures.each in
    let units = c.settle.ensures ∙ ap (λ (z : List Helper). settled c.args.units.now z) c.deref.ensures.value in
    spent_back c.settle.new.units t units

pub returns-clause-help : goal.returns-clause-help
returns-clause-help g c = λ book ok e about.
    let t = are_back c.args.share c.args.pass c.args.inst.now c.args.question c.args.jobs.now c.args.units.now
    c.args.equipment c.split_off-ready.result c.worked-helpers.result c.requires.equipped
    c.split_off-ready.ensures.count c.split_off-ready.ensures.ready c.worked-helpers.ensures.count
    c.worked-helpers.ensures.each in
    let T : List Helper → Type 0 = λ z. IsTold z c.tell-told.result in
    let units = c.settle.ensures ∙ ap (λ (z : List Helper). settled c.args.units.now z) c.deref.ensures.value in
    comes_back c.settle.new.units c.args.pass c.split_off-ready.new.pass c.join_all.new.pass book c.close-book.result
    c.tell-told.result t c.requires.team.few e about c.split_off-ready.ensures.bare c.join_all.ensures.joined
    c.close-book.ensures.about c.close-book.ensures.opening c.close-book.ensures.seen c.close-book.ensures.all
    c.close-book.ensures.reserved ok c.len-len.ensures.kept units
    (subst T c.deref-2.ensures.value c.tell-told.ensures)

pub returns-clause-spent : goal.returns-clause-spent
returns-clause-spent g c =
    let t = are_back c.args.share c.args.pass c.args.inst.now c.args.question c.args.jobs.now c.args.units.now
    c.args.equipment c.split_off-ready.result c.worked-helpers.result c.requires.equipped
    c.split_off-ready.ensures.count c.split_off-ready.ensures.ready c.worked-helpers.ensures.count
    c.worked-helpers.ensures.each in
    let units = c.settle.ensures ∙ ap (λ (z : List Helper). settled c.args.units.now z) c.deref.ensures.value in
    spent_back c.settle.new.units t units
