use Rattle.std.proofs.Common.{◌≡◌, ◌≤◌, sym, subst, ℕ}
use Rattle.cert_lines.specs.Rows.{row_text}
use Rattle.cert_lines.specs.ValueRows.{ask_row}
use Rattle.line_rules.specs.Ranges.{IsAsked, IsCycle}
use Rattle.line_rules.specs.declared.types.Ask.TheVariants as ask
use Rattle.cert_lines.proofs.JudgedLine.{ask_cycle, ask_stations, no_cycle, no_stations, no_ask, out_of_range}
use Rattle.cert_lines.proofs.line_forms.AskLinePattern.read.Goals as goal

pub returns-in-Ok : goal.returns-in-Ok
returns-in-Ok c =
    let P : ℕ → Type 0 = λ x. IsCycle x × (row_text (ask_row (ask.Stations x)) ≡ c.args.line.now) in
    subst P (sym c.in-Ok.ensures.0) (
      c.in-Ok.ensures.1,
      ask_cycle c.args.line.now c.in-Some.cycle
          (sym c.in-Some.ensures) c.in-Ok.ensures.1,
    )

pub returns-in-Err : goal.returns-in-Err
returns-in-Err c =
    let f = no_cycle c.args.line.now c.in-Some.cycle (sym c.in-Some.ensures) c.in-Err.ensures.1 in
    out_of_range ask_row IsAsked c.args.line.now c.in-Err.error c.in-Err.ensures.0 f.0 f.1

pub returns-in-Ok-stations_within : goal.returns-in-Ok-stations_within
returns-in-Ok-stations_within c =
    let e = c.in-Ok-stations_within.ensures in
    let P : ℕ → Type 0 = λ x. ((1 ≤ x) × (x ≤ 1024)) × (row_text (ask_row (ask.Cycle x)) ≡ c.args.line.now) in
    subst P (sym e.0) (e.1, ask_stations c.args.line.now c.in-Some-keyed.stations (sym c.in-Some-keyed.ensures) e.1.1)

pub returns-in-Err-stations_within : goal.returns-in-Err-stations_within
returns-in-Err-stations_within c =
    let f = no_stations c.args.line.now c.in-Some-keyed.stations (sym c.in-Some-keyed.ensures)
    c.in-Err-stations_within.ensures.1 in
    out_of_range ask_row IsAsked c.args.line.now c.in-Err-stations_within.error c.in-Err-stations_within.ensures.0 f.0
    f.1

pub returns : goal.returns
returns c = no_ask c.args.line.now (sym c.in_default.ensures) (sym c.in_default-keyed.ensures)
