use Rattle.std.proofs.Common.{◌≡◌, sym, subst, ℕ}
use Rattle.cert_lines.specs.Rows.{row_text}
use Rattle.cert_lines.specs.LineForms.{opening_row, IsOpening}
use Rattle.cert_lines.specs.declared.line_forms.Opening.TheVariants as opening
use Rattle.line_rules.specs.declared.types.Ask.{Ask}
use Rattle.cert_lines.proofs.JudgedLine.{lower_read, no_lower, task_read, no_task, no_opening, no_bound, out_of_range}
use Rattle.cert_lines.proofs.line_forms.OpeningLinePattern.read.Goals as goal

pub returns-in-Ok : goal.returns-in-Ok
returns-in-Ok c =
    let P : ℕ → Type 0 = λ x. IsOpening c.args.self.now.ask c.args.self.now.tasks (opening.Lower x)
    × (row_text (opening_row (opening.Lower x)) ≡ c.args.line.now) in
    subst P (sym c.in-Ok.ensures.0) (lower_read c.args.line.now c.args.self.now.ask c.args.self.now.tasks
    c.in-Some.lower (sym c.in-Some.ensures) c.in-Ok.ensures.1)

pub returns-in-Err : goal.returns-in-Err
returns-in-Err c =
    let f = no_lower c.args.line.now c.args.self.now.ask c.args.self.now.tasks c.in-Some.lower c.requires.1
    (sym c.in-Some.ensures) c.in-Err.ensures.1 in
    out_of_range opening_row (IsOpening c.args.self.now.ask c.args.self.now.tasks) c.args.line.now c.in-Err.error
    c.in-Err.ensures.0 f.0 f.1

pub returns-in-Cycle : goal.returns-in-Cycle
returns-in-Cycle c = no_bound c.args.line.now c.args.self.now.ask _ c.args.self.now.tasks c.in-Cycle.is
    (sym c.in_default.ensures)

pub returns-in-None : goal.returns-in-None
returns-in-None c = no_opening c.args.line.now c.args.self.now.ask _ c.args.self.now.tasks c.in-Stations.is
    (sym c.in_default.ensures) (sym c.in-None.ensures)

pub returns-in-Ok-task_within : goal.returns-in-Ok-task_within
returns-in-Ok-task_within c =
    let e = c.in-Ok-task_within.ensures in
    let P : Ask → Type 0 = λ a. IsOpening a c.args.self.now.tasks (opening.TooLong c.in-Ok-task_within.task) in (
      subst P (sym c.in-Stations.is) e.1,
      task_read c.args.line.now c.args.self.now.tasks c.in-Some-keyed.task
          c.in-Ok-task_within.task c.requires.1 (sym c.in-Some-keyed.ensures) e.0 e.1,
    )

pub returns-in-Err-task_within : goal.returns-in-Err-task_within
returns-in-Err-task_within c =
    let f = no_task c.args.line.now c.args.self.now.ask _ c.args.self.now.tasks c.in-Some-keyed.task c.in-Stations.is
    c.requires.0 c.requires.1 (sym c.in-Some-keyed.ensures) c.in-Err-task_within.ensures.1 in
    out_of_range opening_row (IsOpening c.args.self.now.ask c.args.self.now.tasks) c.args.line.now
    c.in-Err-task_within.error c.in-Err-task_within.ensures.0 f.0 f.1
