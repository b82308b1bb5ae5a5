use Rattle.line_words.specs.Words.{texts}
use Rattle.line_run.proofs.RanFacts.{is_run}
use Rattle.line_run.proofs.program.run_gated.Goals as goal

pub returns : goal.returns
returns g c =
    is_run (texts c.args.words.now) _ _ c.do_words-ended.result c.finish.result c.finish.new.kept
    c.do_words-ended.ensures c.finish.ensures.finishes c.finish.ensures.one_put c.finish.ensures.write
    c.finish.ensures.status c.finish.ensures.kept c.finish.ensures.nothing
