use Rattle.std.proofs.Common.{sym, arith}
use Rattle.cert_lines.proofs.JudgedSeat.{seat_none, seat_ok, seat_range}
use Rattle.cert_lines.proofs.line_forms.SeatLinePattern.read.Goals as goal

pub returns-in_default : goal.returns-in_default
returns-in_default c = seat_none c.args.self.now.kind c.args.self.now.stations c.args.line.now
    (sym c.in_default.ensures)

pub returns-then-station-lt1 : goal.returns-then-station-lt1
returns-then-station-lt1 c =
    seat_range c.args.self.now.kind c.args.self.now.stations c.args.line.now c.in-Some.station c.in-Some.side
    c.requires.0 c.requires.1 (sym c.in-Some.ensures) (λ h. absurd (omega (arith, h.0, c.if-station-lt1.true)))

pub returns-then-station-from : goal.returns-then-station-from
returns-then-station-from c =
    seat_range c.args.self.now.kind c.args.self.now.stations c.args.line.now c.in-Some.station c.in-Some.side
    c.requires.0 c.requires.1 (sym c.in-Some.ensures) (λ h.
    absurd (omega (arith, h.1, c.if-station-from.true, c.from.ensures)))

pub returns : goal.returns
returns c =
    seat_ok c.args.self.now.kind c.args.self.now.stations c.args.line.now c.in-Some.station c.in-Some.side c.requires.1
    (sym c.in-Some.ensures) c.if-station-lt1.false (omega (arith, c.if-station-from.false, c.from.ensures))
