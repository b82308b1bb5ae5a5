use Rattle.line_rules.proofs.SideTurns.{waiting_absent, end_grown}
use Rattle.check_loads.proofs.ends.End.take_in.Goals as goal

pub add_ready-requires-clause-candidates : goal.add_ready-requires-clause-candidates
add_ready-requires-clause-candidates c =
    waiting_absent c.requires.end c.tasks-tasks.ensures.line c.requires.set c.args.task c.requires.free
    c.waiting.result.now c.insert.ensures.value c.waiting.ensures.members c.meet.ensures.value c.requires.closed

pub returns-clause-end : goal.returns-clause-end
returns-clause-end c =
    end_grown c.requires.end c.tasks-tasks.ensures.line c.requires.set c.args.task c.requires.free c.waiting.result.now
    c.insert.ensures.value c.waiting.ensures.members c.meet.ensures.value
    c.remove.ensures.value c.add_ready.ensures.tasks c.add_ready.ensures.free c.add_ready.ensures.marked
