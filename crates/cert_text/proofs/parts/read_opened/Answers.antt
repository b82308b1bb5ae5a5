use Rattle.std.proofs.Common.{sym, subst, [], Err}
use Rattle.cert_text.specs.Parts.{opened}
use Rattle.cert_lines.specs.Pattern.{IsRead}
use Rattle.cert_lines.specs.LineForms.{IsOpening}
use Rattle.cert_lines.specs.declared.line_forms.Opening.{Opening}
use Rattle.cert_lines.specs.declared.line_forms.Opening.TheVariants as opening
use Rattle.cert_text.proofs.PartErrors.{Fails, ends, same}
use Rattle.cert_text.proofs.Claims.{end_grammar, opening_task, same_end}
use Rattle.cert_text.proofs.parts.read_opened.Goals as goal

pub returns-in-Ok-clause-said : goal.returns-in-Ok-clause-said
returns-in-Ok-clause-said g c =
    let Q : Opening → Type 0 = IsOpening c.args.head.ask c.args.head.tasks in (
      opening_task c.args.head.ask c.args.head.tasks c.in-TooLong.task (subst Q c.in-TooLong.is c.requires.opening),
      sym c.in-TooLong.is,
    )

pub returns-in-Err-clause-read : goal.returns-in-Err-clause-read
returns-in-Err-clause-read g c t =
    let Q : Opening → Type 0 = IsOpening c.args.head.ask c.args.head.tasks in
    let P : Opening → Type 0 = λ o. IsRead (opened c.args.version c.args.head o) (g.S.Source.number c.args.source.now)
    (g.S.Source.left c.args.source.now) [] 0 (Err c.in-Err.error) in
    let f : Fails (opened c.args.version c.args.head (opening.TooLong c.in-TooLong.task))
    (g.S.Source.number c.args.source.now) (g.S.Source.left c.args.source.now) c.in-Err.error =
    same end_grammar (opened c.args.version c.args.head (opening.TooLong c.in-TooLong.task))
    (same_end c.args.version c.args.head c.in-TooLong.task (subst Q c.in-TooLong.is c.requires.opening))
    (ends end_grammar _ 0 _ [] _ (c.in-Err.ensures.read t)) in
    subst P (sym c.in-TooLong.is) f.is

pub returns-in-Lower-clause-read : goal.returns-in-Lower-clause-read
returns-in-Lower-clause-read g c t =
    let P : Opening → Type 0 = λ o. IsRead (opened c.args.version c.args.head o) (g.S.Source.number c.args.source.now)
    (g.S.Source.left c.args.source.now) (g.S.Source.left c.read_bounds.new.source)
    (g.S.Source.number c.read_bounds.new.source) c.read_bounds.result in
    subst P (sym c.in-Lower.is) (c.read_bounds.ensures.read t)
