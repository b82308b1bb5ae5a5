use Rattle.std.proofs.Common.{◌∙◌, ◌++◌, ◌∷◌, [], ap, sym, refl, rules}
use Rattle.alb_reader.proofs.TakenLines.{count_taken, cycle_taken, strength_taken, time_taken, pair_taken}
use Rattle.alb_reader.proofs.draft.Draft.take_body.Goals as goal

pub returns-in_ok-some_number-in-Some-Tasks : goal.returns-in_ok-some_number-in-Some-Tasks
returns-in_ok-some_number-in-Some-Tasks c = λ before h m.
    count_taken before (c.args.line, c.args.content.now) c.args.self.now h m _ c.in_ok-some_number-in-Some-Tasks.field-0
    (search rules) (sym c.is_some.ensures ∙ c.if-is_some.false) c.in_ok-some_number-in-Some-Tasks.ensures.0
    c.in_ok-some_number-in-Some-Tasks.ensures.1 refl

pub returns-in_ok-some_number-in-Some-Cycle : goal.returns-in_ok-some_number-in-Some-Cycle
returns-in_ok-some_number-in-Some-Cycle c = λ before h m.
    cycle_taken before (c.args.line, c.args.content.now) c.args.self.now h m _ c.in_ok-some_number-in-Some-Cycle.field-0
    (search rules) (sym c.is_some-in-Some-Cycle.ensures ∙ c.if-is_some-2.false)
    c.in_ok-some_number-in-Some-Cycle.ensures.0 c.in_ok-some_number-in-Some-Cycle.ensures.1 refl

pub returns-else-self : goal.returns-else-self
returns-else-self c = λ before h m. strength_taken before (c.args.line, c.args.content.now) c.args.self.now h m
    (search rules) c.if-self.false

pub returns-in_ok-push-in-Some-Times : goal.returns-in_ok-push-in-Some-Times
returns-in_ok-push-in-Some-Times c = λ before h m.
    time_taken before (c.args.line, c.args.content.now) c.args.self.now h m _ (search rules)
    c.in_ok-timed_line-in-Some-Times.ensures.1 refl refl refl refl refl
    (c.in_ok-push-in-Some-Times.ensures.items ∙ ap (λ t. c.args.self.now.times.items ++ t ∷ [])
    c.in_ok-timed_line-in-Some-Times.ensures.0) refl

pub returns-in_ok-push-in-Some-Pairs : goal.returns-in_ok-push-in-Some-Pairs
returns-in_ok-push-in-Some-Pairs c = λ before h m.
    pair_taken before (c.args.line, c.args.content.now) c.args.self.now h m _ c.len.result (search rules) (search rules)
    c.in_ok-paired_line-in-Some-Pairs.ensures.1 refl refl refl refl refl refl
    (c.in_ok-push-in-Some-Pairs.ensures.items ∙ ap (λ t. c.args.self.now.pairs.items ++ t ∷ [])
    c.in_ok-paired_line-in-Some-Pairs.ensures.0)
