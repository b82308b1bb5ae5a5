use Rattle.cert_lines.specs.Pattern.{then_}
use Rattle.text_grammar.specs.Texts.{spelled, Tells}
use Rattle.text_grammar.proofs.TwoParts.{TwoParts, parted, as_pair, first_fails, second_fails, two_read}
use Rattle.text_grammar.proofs.sequence.Tuple2Part.read.Goals as goal
use Rattle.cert_lines.specs.Faults.{Grammar}

-- one part behind the other
abbrev pair : {A B : Type 0} (one : Grammar A) (two : Grammar B) → Tells one → Tells two
    → TwoParts one (λ v. two) (then_ one (λ v. two))
pair one two t u = parted t (λ v r. u) (as_pair (then_ one (λ v. two)))

pub returns-in_err-first-clause-read : goal.returns-in_err-first-clause-read
returns-in_err-first-clause-read g c t =
    let one = spelled (g.A.Part.rows c.args.self.now.0) (g.A.Part.may_say c.args.self.now.0) in
    let two = spelled (g.B.Part.rows c.args.self.now.1) (g.B.Part.may_say c.args.self.now.1) in
    first_fails (pair one two c.requires.can.0.1 c.requires.can.1.1) _ _ _ _ c.from_residual.result
    c.in_err-first.field-0.0 c.from_residual.ensures.1 (c.in_err-first.ensures.read t)

pub returns-in_err-second-clause-read : goal.returns-in_err-second-clause-read
returns-in_err-second-clause-read g c t =
    let one = spelled (g.A.Part.rows c.args.self.now.0) (g.A.Part.may_say c.args.self.now.0) in
    let two = spelled (g.B.Part.rows c.args.self.now.1) (g.B.Part.may_say c.args.self.now.1) in
    second_fails (pair one two c.requires.can.0.1 c.requires.can.1.1) c.in_ok-first.first _ _ _ _ _ _
    c.from_residual-in_err-second.result c.in_err-second.field-0.0 c.from_residual-in_err-second.ensures.1
    (c.in_ok-first.ensures.read t) (c.in_err-second.ensures.read t)

pub returns-clause-read : goal.returns-clause-read
returns-clause-read g c t =
    let one = spelled (g.A.Part.rows c.args.self.now.0) (g.A.Part.may_say c.args.self.now.0) in
    let two = spelled (g.B.Part.rows c.args.self.now.1) (g.B.Part.may_say c.args.self.now.1) in
    two_read (pair one two c.requires.can.0.1 c.requires.can.1.1) c.in_ok-first.first c.in_ok-second.second
    _ _ _ _ _ _ (c.in_ok-first.ensures.read t) (c.in_ok-second.ensures.read t)
