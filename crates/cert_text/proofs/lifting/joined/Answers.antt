use Rattle.std.proofs.Common.{◌≡◌, ℕ, ◌++◌, map, subst}
use Rattle.entry_lists.specs.Lift.{lifted_entry, lifted_frame}
use Rattle.cert_text.proofs.LiftFacts.{joined_entries, joined_trail}
use Rattle.cert_text.proofs.lifting.joined.Goals as goal

pub returns-clause-entries : goal.returns-clause-entries
returns-clause-entries c =
    let P : ℕ → Type 0 = λ k. c.append.new.entries ≡ c.args.first.entries
    ++ map (lifted_entry c.args.second.cycle k) c.args.second.entries in
    joined_entries c.requires.0 c.args.first c.args.second c.append.new.entries c.requires.1.0.0
    (subst P c.len-earlier.ensures c.in_ok-append.ensures)

pub returns-clause-trail : goal.returns-clause-trail
returns-clause-trail c =
    let P : ℕ → Type 0 = λ k. c.in_ok-behind.behind ≡ map (lifted_frame k) c.args.second.frames in
    joined_trail c.args.first c.args.second c.either.result c.trail_at.result c.trail_at-2.result c.in_ok-behind.behind
    c.trail_at.ensures (subst P c.len-earlier.ensures c.in_ok-behind.ensures) c.trail_at-2.ensures c.either.ensures
