use Rattle.std.proofs.Common.{◌≡◌, List, [], refl, sym, ◌∙◌, subst, arith}
use Rattle.line_rules.specs.Units.{UnitsIn}
use Rattle.line_rules.specs.declared.types.OpenFrame.{OpenFrame}
use Rattle.round_run.proofs.BookGain.{goes_same}
use Rattle.round_run.proofs.rounds.without_memory.Goals as goal

pub returns-clause-closed : goal.returns-clause-closed
returns-clause-closed c =
    let about = c.args.book.about in
    let none : [] ≡ c.from_vec.result = sym (c.from_vec.ensures ∙ c.new.ensures.items) in
    let U : List OpenFrame → Type 0 = λ fs. UnitsIn about.line about.cycle fs 0 in
    record {
      gains = record {
        gained = [];
        goes_on = goes_same c.args.book;
        few = omega arith;
        published = 0;
        listed = 0;
        entry_units = refl;
        frame_units = subst U none refl;
        within = omega arith;
        exact = λ all. absurd all;
      };
      answer = tt;
      above = λ old before. omega (arith, c.if-is_found.false, c.least.ensures);
      reserved = c.requires.reserved;
      from = c.len-from.ensures.len;
      known = λ answered. omega arith;
      was_open = tt;
    }
