use Rattle.std.proofs.Common.{◌≡◌, List, take, arith, subst}
use Rattle.std.proofs.lemmas.List.{take_all}
use Rattle.line_rules.specs.declared.types.Entry.{Entry}
use Rattle.line_check.specs.Faults.{Fails}
use Rattle.line_check.proofs.EntryFaults.{not_follows}
use Rattle.line_check.proofs.entries.verify_entry.Goals as goal

pub returns-in-Fails : goal.returns-in-Fails
returns-in-Fails c =
    let q : take c.len.result c.args.entries.now ≡ c.args.entries.now =
    take_all c.len.result c.args.entries.now (omega (arith, c.len.ensures)) in
    let P : List Entry → Type 0 = λ z. Fails c.args.kind c.args.inst.now z c.args.entry.now c.in-Fails.why
    c.in-Fails.units in
    let f = subst P q c.in-Fails.ensures.0 in (
      not_follows c.args.kind c.args.inst.now c.args.entries.now c.args.entry.now c.in-Fails.why c.in-Fails.units f,
      c.in-Fails.why,
      f,
      c.in-Fails.ensures.1,
    )
