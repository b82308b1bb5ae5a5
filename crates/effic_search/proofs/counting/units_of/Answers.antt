use Rattle.std.proofs.Common.{◌<◌, subst, inl, inr, arith}
use Rattle.line_check.specs.Faults.{IsChecked}
use Rattle.line_check.specs.declared.types.EntryChecked.{EntryChecked}
use Rattle.line_check.proofs.UnitFacts.{ends_more}
use Rattle.effic_search.proofs.counting.units_of.Goals as goal

pub unreachable-requires : goal.unreachable-requires
unreachable-requires c =
    let e = c.args.entry.now in
    let K : EntryChecked → Type 0 = λ z. IsChecked c.args.kind c.args.inst.now c.args.entries.now e c.args.most z in
    elim c.in-Fails.is [
      | inl f ↦ (subst K f.1 c.verify_entry.ensures).0 c.requires.follows
      | inr s ↦
          let more : c.args.most < c.requires.units.0 =
          ends_more c.args.kind c.args.inst.now c.args.entries.now e c.args.most c.requires.units.0
          (subst K s c.verify_entry.ensures) c.requires.units.1 in
          omega (arith, more, c.requires.units.2)
    ]
