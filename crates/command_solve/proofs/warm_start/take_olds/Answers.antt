use Rattle.std.proofs.Common.{Option, List, refl, string_bytes, subst, sym}
use Rattle.line_rules.specs.declared.types.Entry.{Entry}
use Rattle.warm_book.specs.Warm.{untaken}
use Rattle.command_solve.specs.WarmStart.{TakesOld}
use Rattle.command_solve.proofs.warm_start.take_olds.Goals as goal

pub returns-in_default-clause-taken : goal.returns-in_default-clause-taken
returns-in_default-clause-taken g c =
    let T : Option (List Entry) → Type 0 =
    λ o. TakesOld c.args.plan.now.units c.args.book o (untaken c.args.book) (string_bytes c.new.result) in
    record {
      at = untaken c.args.book;
      took = subst T (sym c.in_default.is) (refl, c.new.ensures.bytes);
      same_book = refl;
      same_kept = refl;
      same_units = refl;
    }
