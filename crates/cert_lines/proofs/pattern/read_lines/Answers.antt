use Rattle.std.proofs.Common.{◌∙◌, sym, ap, arith, rules, ◌+◌, []}
use Rattle.std.proofs.lemmas.List.{length-map}
use Rattle.cert_lines.proofs.TextParts.{none_so_far, one_more, none_said, one_more_said, all_said, each_error}
use Rattle.cert_lines.proofs.TextParts.{handed_on}
use Rattle.cert_lines.proofs.pattern.read_lines.Goals as goal

pub loop-init : goal.loop-init
loop-init g c = record {
  many = c.new-values.ensures.len;
  said = none_said (g.P.Pattern.may_say c.args.pattern.now) c.new-values.result.items c.new-values.ensures.items;
  read = λ t. none_so_far (g.P.Pattern.line_of c.args.pattern.now) (g.P.Pattern.may_say c.args.pattern.now)
      (g.S.Source.number c.args.source.now) (g.S.Source.left c.args.source.now) c.new-values.result.items
      c.new-values.ensures.items;
  source = search rules;
}

pub loop-preserved : goal.loop-preserved
loop-preserved g c = record {
  many = c.in_ok-push.ensures.len ∙ ap (λ n. n + 1) c.loop.invariant.many;
  said = one_more_said (g.P.Pattern.may_say c.args.pattern.now) c.loop.counter c.loop.values.items c.push.new.self.items
      c.in_ok-value.value c.loop.invariant.said c.in_ok-value.ensures.said c.in_ok-push.ensures.items;
  read = λ t.
      one_more (g.P.Pattern.line_of c.args.pattern.now) (g.P.Pattern.may_say c.args.pattern.now)
      (g.S.Source.number c.args.source.now) (g.S.Source.left c.args.source.now) c.loop.values.items
      c.push.new.self.items c.in_ok-value.value
      (g.S.Source.left c.loop.source) (g.S.Source.left c.read_line.new.source) (g.S.Source.number c.loop.source)
      (g.S.Source.number c.read_line.new.source) (c.loop.invariant.read t) (c.in_ok-value.ensures.read t)
      c.in_ok-push.ensures.items;
  source = search rules;
}

pub returns-in_err-value-clause-read : goal.returns-in_err-value-clause-read
returns-in_err-value-clause-read g c t =
    handed_on c.from_residual.result c.in_err-value.field-0.0 _ _ c.from_residual.ensures.1
    (each_error (g.P.Pattern.line_of c.args.pattern.now) (g.P.Pattern.may_say c.args.pattern.now) c.args.count
    (g.S.Source.number c.args.source.now) (g.S.Source.number c.loop.source)
    (g.S.Source.number c.read_line.new.source) 0
    (g.S.Source.left c.args.source.now) (g.S.Source.left c.loop.source) (g.S.Source.left c.read_line.new.source) []
    c.loop.values.items c.in_err-value.field-0.0 (c.loop.invariant.read t)
    (omega (arith, c.loop.invariant.many, c.loop-test.true)) (c.in_err-value.ensures.read t))

pub returns-clause-read : goal.returns-clause-read
returns-clause-read g c t =
    let s = c.loop.invariant.read t in (
      record { many = omega (arith, c.loop.invariant.many, c.loop-test.false, c.loop.auto.counter-end); each = s.said },
      s.text,
      s.count ∙ ap (λ n. g.S.Source.number c.args.source.now + n)
          (sym (length-map c.loop.values.items (g.P.Pattern.line_of c.args.pattern.now))),
    )

pub returns-clause-said : goal.returns-clause-said
returns-clause-said g c = all_said (g.P.Pattern.may_say c.args.pattern.now) c.loop.counter c.args.count
    c.loop.values.items c.loop.invariant.said (omega (arith, c.loop-test.false, c.loop.auto.counter-end))
