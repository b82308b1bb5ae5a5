use Rattle.std.proofs.Common.{ℕ, Some, sym, subst}
use Rattle.line_rules.specs.declared.types.Certificate.{Certificate}
use Rattle.line_rules.specs.declared.types.Claim.TheVariants as claim
use Rattle.round_run.specs.Certified.{IsStopFrom, about_stations}
use Rattle.round_run.proofs.CertificateFacts.{stop}
use Rattle.round_run.proofs.certify.certify_warm_stop.Goals as goal

pub returns : goal.returns
returns c = λ before top plan room spent.
    let b = c.into_parts-entries.result.1 in
    let es = c.into_parts-entries.result.0 in
    let P : Certificate → Type 0 = IsStopFrom c.args.kind c.args.inst.now c.args.cycle plan before c.args.lower
    c.args.book.state.best in
    let C : ℕ → ℕ → Certificate = λ l u. about_stations c.args.kind c.args.inst.now c.args.cycle
    (claim.Bounds l u b es (Some (record { cycle = c.args.cycle; frames = c.args.frames }))) in
    let L : ℕ → Type 0 = λ x. P (C x c.from-upper.result) in
    let U : ℕ → Type 0 = λ x. P (C c.args.lower x) in
    subst P (sym c.about_stations.ensures.said) (subst L (sym c.from.ensures) (subst U (sym c.from-upper.ensures)
    (stop c.args.kind c.args.inst.now c.args.cycle plan before c.args.book es b c.about_stations.ensures.line
    c.requires.cycle room
    c.into_parts-entries.ensures.entries c.into_parts-entries.ensures.best c.into_parts-entries.ensures.derived
    c.into_parts-entries.ensures.statable c.into_parts-entries.ensures.right
    top c.args.lower c.args.frames spent c.into_parts-entries.ensures.fresh)))
