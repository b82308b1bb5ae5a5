use Rattle.std.proofs.Common.{sym, subst}
use Rattle.line_rules.specs.declared.types.Certificate.{Certificate}
use Rattle.cycle_search.specs.CycleCertified.{IsStop}
use Rattle.cycle_search.proofs.CertificateFacts.{stop}
use Rattle.cycle_search.proofs.certify.certify_cycle_stop.Goals as goal

pub returns : goal.returns
returns c = λ plan closing_from limit spent.
    let P : Certificate → Type 0 =
    IsStop c.args.kind c.args.inst.now c.args.stations plan c.args.lower c.args.upper c.args.balance in
    subst P (sym c.about_cycle.ensures.said) (stop c.args.kind c.args.inst.now c.args.stations plan c.args.lower
    c.args.upper c.args.balance c.args.entries c.args.trail closing_from c.about_cycle.ensures.line c.requires.some
    c.requires.few limit spent)
