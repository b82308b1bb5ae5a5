use Rattle.std.proofs.Common.{◌≡◌, ◌∙◌, ◌+◌, ◌-◌, ◌++◌, List, ap, sym, arith, suc, add-one, append_assoc, string_bytes}
use Rattle.std.proofs.Common.{ℕ}
use Rattle.line_rules.specs.declared.types.Seatplace.{Seatplace}
use Rattle.named_drawing.specs.NamedDrawing.{rows_from, station_text}
use Rattle.named_drawing.proofs.picture.push_rows.Goals as goal

pub loop-station-preserved : goal.loop-station-preserved
loop-station-preserved c =
    let k : ℕ = c.loop-station.station in
    let n : ℕ = c.args.balance.now.stations + 1 - (k + 1) in
    let one : c.args.balance.now.stations + 1 - k ≡ suc n = omega arith in
    let line = c.args.inst.now in
    let f = c.args.figures.now in
    let names : List (List ℕ) = c.args.names.now in
    let places : List Seatplace = c.args.balance.now.place in
    let old : List ℕ = string_bytes c.loop-station.text in
    ap (λ (t : List ℕ). t ++ rows_from line f names places (k + 1) n) c.in_ok-push_station.ensures
    ∙ append_assoc old (station_text line f names places k) (rows_from line f names places (k + 1) n)
    ∙ ap (λ (j : ℕ). old ++ (station_text line f names places k ++ rows_from line f names places j n)) (add-one k)
    ∙ sym (ap (λ (m : ℕ). old ++ rows_from line f names places k m) one)
    ∙ c.loop-station.invariant
