use Rattle.std.proofs.Common.{length, sym, ◌∙◌, arith}
use Rattle.std.proofs.lemmas.Bool.{eqb-true}
use Rattle.cycle_search.proofs.ReopenFacts.{kept_trimmed}
use Rattle.cycle_search.proofs.trying.kept_proof.Goals as goal

pub returns : goal.returns
returns c = λ kind line P upper same proof book.
    kept_trimmed kind line c.args.stations P c.args.lower upper c.args.tasks c.args.entries c.in_ok-kept.kept same
    (omega (arith, c.requires.some, c.if-lower-eq1.false)) c.in_ok-kept.ensures.trimmed c.in_ok-kept.ensures.derived
    c.in_ok-kept.ensures.answers c.in_ok-kept.ensures.units
    (book (eqb-true (length c.args.proof) 0 (sym c.is_empty.ensures ∙ c.if-not-is_empty.false)))
