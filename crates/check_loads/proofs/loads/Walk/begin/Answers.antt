use Rattle.std.proofs.Common.{◌≡◌, ◌∙◌, sym, ap, true, false}
use Rattle.std.proofs.lemmas.Bool.{false≢true}
use Rattle.line_instance.specs.Line.{has}
use Rattle.line_instance.specs.Sums.{sum_where}
use Rattle.line_rules.specs.Loads.{taken}
use Rattle.line_rules.specs.Sides.{fills, nothing_yet}
use Rattle.line_rules.specs.declared.types.Side.{Side}
use Rattle.line_rules.specs.declared.types.Load.{Load}
use Rattle.line_rules.proofs.SideFacts.{each_side}
use Rattle.line_rules.proofs.ScanFacts.{nothing_sum}
use Rattle.line_rules.specs.Ends.{IsEnd}
use Rattle.check_loads.specs.Standing.{stand, end_of}
use Rattle.check_loads.specs.declared.loads.Walk.{Walk}
use Rattle.line_rules.proofs.NextLoad.{same_pair}
use Rattle.check_loads.proofs.loads.Walk.begin.Goals as goal

pub returns-clause-walk : goal.returns-clause-walk
returns-clause-walk c =
    let new : Walk = record { given = false; sum = 0; front = c.start.result; back = c.start-2.result } in
    let none : stand new ≡ nothing_yet = same_pair c.start.result.tasks nothing_yet.front c.start-2.result.tasks
    nothing_yet.back c.start.ensures.tasks c.start-2.ensures.tasks in
    record {
      load = λ e. absurd (false≢true e);
      nothing = λ e. none;
      sum = sym (ap (λ (l : Load). sum_where (has (taken l)) c.args.inst.now.times) none ∙ nothing_sum c.args.inst.now);
      kept = each_side (λ (s : Side). fills c.args.q.now.mode s ≡ true
          → IsEnd c.args.inst.now s c.args.q.now.set (end_of s new).tasks (end_of s new).free (end_of s new).places)
          c.start.ensures.kept c.start-2.ensures.kept;
    }
