use Rattle.std.proofs.Common.{◌≡◌, ℕ, ◌+◌, List, [], ◌∷◌, ◌++◌, length, Option, Some, sym, ap, ◌∙◌, subst}
use Rattle.std.proofs.Math.Path.{subst₃}
use Rattle.sequence_values.specs.declared.types.SeqEntry.{SeqEntry}
use Rattle.warm_sequence.specs.declared.warming.Judged.{Judged}
use Rattle.warm_sequence.specs.inner.Keeping.{taking, IsSound, IsJudged}
use Rattle.warm_sequence.proofs.KeepFacts.{kept_sound}
use Rattle.warm_sequence.proofs.warming.Warming.take.Goals as goal

pub returns-clause-sound : goal.returns-clause-sound
returns-clause-sound c =
    let self = c.args.self.now in
    let J : Option Judged → Type 0 = λ z. IsJudged c.args.times.now c.args.interval c.args.reach c.args.charges.now
    c.args.room (taking c.args.self.now) c.args.old.now z in
    let judged = subst J c.in-Some.is c.in_ok-judged.ensures in
    let R : List SeqEntry → List (Option ℕ) → ℕ → Type 0 = λ es ns units. IsSound c.args.times.now c.args.interval
    c.args.reach c.args.charges.now c.args.room (record { kept = es; numbers = ns }) (c.args.self.now.units + units) in
    let numbers : c.push-2.new.self.items
    ≡ c.args.self.now.numbers.items ++ Some (length c.args.self.now.kept) ∷ [] =
    c.in_ok-push-2.ensures.items
    ∙ ap (λ (z : ℕ). c.args.self.now.numbers.items ++ Some z ∷ []) c.len-number.ensures in
    subst₃ R (sym c.in_ok-push-3.ensures.ok) (sym numbers) (sym judged.2)
    (kept_sound c.args.times.now c.args.interval c.args.reach c.args.charges.now c.args.room (taking c.args.self.now)
    c.args.self.now.units c.args.old.now c.in-Some.field-0.entry c.requires.sound judged.0 judged.1)
