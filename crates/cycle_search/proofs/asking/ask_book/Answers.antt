use Rattle.std.proofs.Common.{◌≡◌, ℕ, ◌+◌, ◌≤◌, List, sym, ap, ◌∙◌, subst, arith}
use Rattle.line_seek.specs.search.declared.answers.Units.{Units}
use Rattle.round_helpers.specs.Helping.{all_used}
use Rattle.cycle_search.specs.Asking.{HasAskedBook}
use Rattle.cycle_search.proofs.AskFacts.{has_asked, fits}
use Rattle.cycle_search.proofs.asking.ask_book.Goals as goal

pub used_by-requires : goal.used_by-requires
used_by-requires g c =
    let purse = c.in_ok-purse.purse in
    let after = c.decide_round-round.new.purse in
    let f = fits c.args.stations c.args.plan.now c.args.book purse after c.decide_round-round.result
    c.in_ok-purse.ensures c.decide_round-round.ensures.units c.decide_round-round.ensures.team
    c.decide_round-round.ensures.round c.requires.plan.limit in
    let P : List Units → Type 0 = λ z. all_used z ≤ 3000000 in
    subst P (sym c.deref.ensures.value) f.1

pub overflow_add-result : goal.overflow_add-result
overflow_add-result g c =
    let purse = c.in_ok-purse.purse in
    let after = c.decide_round-round.new.purse in
    let f = fits c.args.stations c.args.plan.now c.args.book purse after c.decide_round-round.result
    c.in_ok-purse.ensures c.decide_round-round.ensures.units c.decide_round-round.ensures.team
    c.decide_round-round.ensures.round c.requires.plan.limit in
    let same : c.used_by.result ≡ all_used after.helper.items =
    c.used_by.ensures ∙ ap (λ (z : List Units). all_used z) c.deref.ensures.value in
    omega (arith, f.0, f.1, same)

pub returns : goal.returns
returns g c =
    let purse = c.in_ok-purse.purse in
    let after = c.decide_round-round.new.purse in
    let same : c.used_by.result ≡ all_used after.helper.items =
    c.used_by.ensures ∙ ap (λ (z : List Units). all_used z) c.deref.ensures.value in
    let P : ℕ → Type 0 = λ z. HasAskedBook c.args.stations c.args.plan.now c.args.book (record {
      book = c.decide_round-round.result.book;
      verdict = c.decide_round-round.result.verdict;
      used = after.closing.used + z;
    }) in
    subst P (sym same) (has_asked c.args.stations c.args.plan.now c.args.book purse after c.decide_round-round.result
    c.in_ok-purse.ensures c.decide_round-round.ensures.units c.decide_round-round.ensures.team
    c.decide_round-round.ensures.round c.decide_round-round.ensures.answer c.decide_round-round.ensures.reserved)
