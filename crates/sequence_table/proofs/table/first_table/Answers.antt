use Rattle.std.proofs.Common.{◌≡◌, sym, subst}
use Rattle.sequence_table.specs.Tables.{IsTable, one_node}
use Rattle.sequence_table.specs.inner.Kept.{nodes_of}
use Rattle.sequence_table.proofs.FirstFacts.{table_one, first_is}
use Rattle.sequence_table.proofs.table.first_table.Goals as goal

pub invariant_of-result : goal.invariant_of-result
invariant_of-result c =
    let is : nodes_of c.in_ok-copied.field-0 c.args.interval c.args.reach c.in_ok-root.field-0
    c.in_ok-back_to_root.field-0.items ≡ one_node c.args.times.now c.args.interval c.args.reach =
    first_is c.in_ok-copied.field-0 c.args.times.now c.args.interval c.args.reach c.in_ok-root.field-0
    c.in_ok-back_to_root.field-0.items c.in_ok-copied.ensures c.in_ok-root.ensures c.in_ok-back_to_root.ensures in
    subst IsTable (sym is) (table_one c.args.times.now c.args.interval c.args.reach c.requires.times c.requires.light
    c.requires.interval c.requires.reach)

pub returns : goal.returns
returns c =
    let is : nodes_of c.in_ok-copied.field-0 c.args.interval c.args.reach c.in_ok-root.field-0
    c.in_ok-back_to_root.field-0.items ≡ one_node c.args.times.now c.args.interval c.args.reach =
    first_is c.in_ok-copied.field-0 c.args.times.now c.args.interval c.args.reach c.in_ok-root.field-0
    c.in_ok-back_to_root.field-0.items c.in_ok-copied.ensures c.in_ok-root.ensures c.in_ok-back_to_root.ensures in (
      is,
      subst IsTable (sym is) (table_one c.args.times.now c.args.interval c.args.reach c.requires.times
          c.requires.light c.requires.interval c.requires.reach),
    )
