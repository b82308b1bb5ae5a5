use Rattle.std.proofs.Common.{sym, subst, List, [], ℕ, Ok, Err}
use Rattle.line_rules.specs.declared.types.Seatplace.{Seatplace}
use Rattle.line_rules.specs.Ranges.{IsPlaced, IsPlacing}
use Rattle.cert_text.specs.Parts.{seatings}
use Rattle.cert_lines.specs.Pattern.{IsRead, AreSaid}
use Rattle.cert_text.proofs.PartErrors.{ends, first, second, same, hand}
use Rattle.cert_text.proofs.PartSequences.{both_read}
use Rattle.cert_text.proofs.CertificateParts.{station_numbers, unique_stations, seats_of, seats_behind, some_seat}
use Rattle.cert_text.proofs.CertificateParts.{some_seats}
use Rattle.cert_text.proofs.CertificateParts.{seating_said, same_seatings, seating_read}
use Rattle.cert_text.proofs.parts.read_seating.Goals as goal

pub returns-in_err-stations-clause-read : goal.returns-in_err-stations-clause-read
returns-in_err-stations-clause-read g c t =
    hand (seatings c.args.kind c.args.tasks) _ _ _ _ c.from_residual.result c.in_err-stations.field-0.0
    c.from_residual.ensures.1
    (same (seats_behind c.args.kind c.args.tasks) (seatings c.args.kind c.args.tasks)
    (same_seatings c.args.kind c.args.tasks)
    (first station_numbers (seats_of c.args.kind c.args.tasks) unique_stations (some_seats c.args.kind c.args.tasks)
    (ends station_numbers _ 0 _ [] _ (c.in_err-stations.ensures.read t))))

pub read_lines-requires-clause-some : goal.read_lines-requires-clause-some
read_lines-requires-clause-some g c = some_seat c.args.kind c.in_ok-stations.stations c.in_ok-stations.ensures.said.0

pub returns-in_err-places-clause-read : goal.returns-in_err-places-clause-read
returns-in_err-places-clause-read g c t =
    hand (seatings c.args.kind c.args.tasks) _ _ _ _ c.from_residual-in_err-places.result c.in_err-places.field-0.0
    c.from_residual-in_err-places.ensures.1
    (same (seats_behind c.args.kind c.args.tasks) (seatings c.args.kind c.args.tasks)
    (same_seatings c.args.kind c.args.tasks)
    (second station_numbers (seats_of c.args.kind c.args.tasks) _ _ _ _ _ unique_stations
    (c.in_ok-stations.ensures.read t)
    (let P : ℕ → Type 0 = λ k. IsRead (seats_of c.args.kind k c.in_ok-stations.stations)
    (g.S.Source.number c.read_number.new.source) (g.S.Source.left c.read_number.new.source) [] 0
    (Err c.in_err-places.field-0.0) in
    ends (seats_of c.args.kind c.args.tasks c.in_ok-stations.stations) _ 0 _ [] _
    (subst P c.from.ensures (c.in_err-places.ensures.read t)))))

pub returns-clause-said : goal.returns-clause-said
returns-clause-said g c =
    let P : ℕ → Type 0 = λ k. AreSaid (IsPlaced c.args.kind c.in_ok-stations.stations) k c.in_ok-places.places.items in
    let Q : List Seatplace → Type 0 = λ ps. IsPlacing c.args.kind c.args.tasks
    (record { stations = c.in_ok-stations.stations; place = ps }) in
    subst Q (sym c.from_vec.ensures) (seating_said c.args.kind c.args.tasks c.in_ok-stations.stations
    c.in_ok-places.places.items c.in_ok-stations.ensures.said (subst P c.from.ensures c.in_ok-places.ensures.said))

pub returns-clause-read : goal.returns-clause-read
returns-clause-read g c t =
    let P : ℕ → Type 0 = λ k. IsRead (seats_of c.args.kind k c.in_ok-stations.stations)
    (g.S.Source.number c.read_number.new.source) (g.S.Source.left c.read_number.new.source)
    (g.S.Source.left c.read_lines.new.source) (g.S.Source.number c.read_lines.new.source)
    (Ok c.in_ok-places.places.items) in
    let Q : List Seatplace → Type 0 = λ ps. IsRead (seatings c.args.kind c.args.tasks)
    (g.S.Source.number c.args.source.now) (g.S.Source.left c.args.source.now)
    (g.S.Source.left c.read_lines.new.source) (g.S.Source.number c.read_lines.new.source)
    (Ok (record { stations = c.in_ok-stations.stations; place = ps })) in
    subst Q (sym c.from_vec.ensures)
    (seating_read c.args.kind c.args.tasks c.in_ok-stations.stations c.in_ok-places.places.items _ _ _ _
    (both_read station_numbers (seats_of c.args.kind c.args.tasks) c.in_ok-stations.stations c.in_ok-places.places.items
    _ _ _ _ _ _ (c.in_ok-stations.ensures.read t) (subst P c.from.ensures (c.in_ok-places.ensures.read t))))
