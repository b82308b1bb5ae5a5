use Rattle.std.proofs.Common.{ℕ, List, ap, arith}
use Rattle.named_drawing.specs.Page.{columns_of, named_figures}
use Rattle.named_drawing.proofs.PageFacts.{some_columns}
use Rattle.named_drawing.proofs.page.page_of.Goals as goal

pub rows_of-rows-requires-clause-columns : goal.rows_of-rows-requires-clause-columns
rows_of-rows-requires-clause-columns c =
    let line = c.args.inst.now in
    let names : List (List ℕ) = c.args.names.now in
    let b = c.args.balance.now in
    let w : ℕ = c.widest_name-widest.result in
    omega (
      arith,
      c.columns_of-columns.ensures.columns,
      ap (λ f. columns_of f w c.time_digits-digits.result) c.in_ok-figures.ensures.value,
      ap (λ d. columns_of (named_figures line c.args.kind c.args.cycle names b) w d)
          c.time_digits-digits.ensures.digits,
      some_columns c.args.kind line c.args.cycle b c.tasks-tasks.ensures.line c.requires.right names w
          c.widest_name-widest.ensures.limit c.requires.cycle.limit,
    )
