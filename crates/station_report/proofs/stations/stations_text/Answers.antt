use Rattle.std.proofs.Common.{◌≡◌, ◌∙◌, ◌+◌, ◌-◌, ◌++◌, List, ap, sym, arith, suc, add-one, append_assoc, string_bytes}
use Rattle.std.proofs.Common.{ℕ}
use Rattle.line_rules.specs.declared.types.LineKind.{LineKind}
use Rattle.line_rules.specs.declared.types.Seatplace.{Seatplace}
use Rattle.task_names.specs.declared.naming.Naming.{Naming}
use Rattle.station_report.specs.StationsText.{lines_from, station_lines}
use Rattle.station_report.proofs.stations.stations_text.Goals as goal

pub loop-station-preserved : goal.loop-station-preserved
loop-station-preserved c =
    let naming : Naming = c.args.naming.now in
    let kind : LineKind = c.args.kind in
    let k : ℕ = c.loop-station.station in
    let n : ℕ = c.args.balance.now.stations + 1 - (k + 1) in
    let one : c.args.balance.now.stations + 1 - k ≡ suc n = omega arith in
    let places : List Seatplace = c.args.balance.now.place in
    ap (λ t. t ++ lines_from naming kind (k + 1) n places) (c.in_ok-push_station.ensures
    ∙ ap (λ ps. string_bytes c.loop-station.text ++ station_lines naming kind k ps) c.as_slice.ensures)
    ∙ append_assoc (string_bytes c.loop-station.text) (station_lines naming kind k places)
    (lines_from naming kind (k + 1) n places)
    ∙ ap (λ j. string_bytes c.loop-station.text
    ++ (station_lines naming kind k places ++ lines_from naming kind j n places)) (add-one k)
    ∙ sym (ap (λ m. string_bytes c.loop-station.text ++ lines_from naming kind k m places) one)
    ∙ c.loop-station.invariant
