use Rattle.std.proofs.Common.{[], sym, ◌∙◌}
use Rattle.cert_text.specs.Parts.{placings, lists, opened}
use Rattle.cert_text.specs.inner.OldParts.{counted}
use Rattle.cert_lines.specs.declared.line_forms.Opening.TheVariants as opening
use Rattle.cert_text.proofs.PartErrors.{ends, hand}
use Rattle.cert_text.proofs.CertificateParts.{unique_lists}
use Rattle.cert_text.proofs.VersionOneParts.{unique_counted}
use Rattle.cert_text.proofs.PairFacts.{first_version}
use Rattle.cert_text.proofs.Claims.{end_grammar, list_fails, end_fails, new_fails, old_fails, new_read, old_read}
use Rattle.cert_text.proofs.Claims.{placed_fails}
use Rattle.cert_text.proofs.parts.read_bounds.Goals as goal

pub returns-in_err-placed-clause-read : goal.returns-in_err-placed-clause-read
returns-in_err-placed-clause-read g c t =
    hand (opened c.args.version c.args.head (opening.Lower c.args.lower)) _ _ _ _ c.from_residual.result
    c.in_err-placed.field-0.0 c.from_residual.ensures.1
    (placed_fails c.args.version c.args.head c.args.lower c.requires.lower
    (ends (placings c.args.head.kind c.args.head.tasks) _ 0 _ [] _ (c.in_err-placed.ensures.read t)))

pub returns-in_err-list-in-Some-clause-read : goal.returns-in_err-list-in-Some-clause-read
returns-in_err-list-in-Some-clause-read g c t =
    hand (opened c.args.version c.args.head (opening.Lower c.args.lower)) _ _ _ _
    c.from_residual-in_err-list-in-Some.result c.in_err-list-in-Some.field-0.0
    c.from_residual-in_err-list-in-Some.ensures.1
    (new_fails c.args.version c.in-Some.pairs c.args.head c.args.lower (sym c.pairs_of.ensures ∙ c.in-Some.is)
    c.requires.lower
    (list_fails (lists c.args.head.tasks c.in-Some.pairs) c.args.head _ _ _ _ _ (unique_lists c.args.head.tasks
    c.in-Some.pairs c.requires.head.few)
    (c.in_ok-placed.ensures.read t)
    (ends (lists c.args.head.tasks c.in-Some.pairs) _ 0 _ [] _ (c.in_err-list-in-Some.ensures.read t))))

pub returns-in_err-read_line-in-Some-clause-read : goal.returns-in_err-read_line-in-Some-clause-read
returns-in_err-read_line-in-Some-clause-read g c t =
    hand (opened c.args.version c.args.head (opening.Lower c.args.lower)) _ _ _ _
    c.from_residual-in_err-read_line-in-Some.result c.in_err-read_line-in-Some.field-0.0
    c.from_residual-in_err-read_line-in-Some.ensures.1
    (new_fails c.args.version c.in-Some.pairs c.args.head c.args.lower (sym c.pairs_of.ensures ∙ c.in-Some.is)
    c.requires.lower
    (end_fails (lists c.args.head.tasks c.in-Some.pairs) c.args.head _ _ _ _ _ _ _ _
    (unique_lists c.args.head.tasks c.in-Some.pairs c.requires.head.few) (c.in_ok-placed.ensures.read t)
    (c.in_ok-list-in-Some.ensures.read t) (ends end_grammar _ 0 _ [] _ (c.in_err-read_line-in-Some.ensures.read t))))

pub returns-in_err-parts-in-None-clause-read : goal.returns-in_err-parts-in-None-clause-read
returns-in_err-parts-in-None-clause-read g c t =
    hand (opened c.args.version c.args.head (opening.Lower c.args.lower)) _ _ _ _
    c.from_residual-in_err-parts-in-None.result c.in_err-parts-in-None.field-0.0
    c.from_residual-in_err-parts-in-None.ensures.1
    (old_fails c.args.head c.args.lower (first_version c.args.version (sym c.pairs_of.ensures ∙ c.in-None.is))
    c.requires.lower
    (list_fails (counted c.args.head.tasks) c.args.head _ _ _ _ _
    (unique_counted c.args.head.tasks c.requires.head.few) (c.in_ok-placed.ensures.read t)
    (ends (counted c.args.head.tasks) _ 0 _ [] _ (c.in_err-parts-in-None.ensures.read t))))

pub returns-in_err-read_line-in-None-clause-read : goal.returns-in_err-read_line-in-None-clause-read
returns-in_err-read_line-in-None-clause-read g c t =
    hand (opened c.args.version c.args.head (opening.Lower c.args.lower)) _ _ _ _
    c.from_residual-in_err-read_line-in-None.result c.in_err-read_line-in-None.field-0.0
    c.from_residual-in_err-read_line-in-None.ensures.1
    (old_fails c.args.head c.args.lower (first_version c.args.version (sym c.pairs_of.ensures ∙ c.in-None.is))
    c.requires.lower
    (end_fails (counted c.args.head.tasks) c.args.head _ _ _ _ _ _ _ _
    (unique_counted c.args.head.tasks c.requires.head.few) (c.in_ok-placed.ensures.read t)
    (c.in_ok-parts-in-None.ensures.read t) (ends end_grammar _ 0 _ [] _ (c.in_err-read_line-in-None.ensures.read t))))

pub returns-in_ok-read_line-in-Some-clause-read : goal.returns-in_ok-read_line-in-Some-clause-read
returns-in_ok-read_line-in-Some-clause-read g c t =
    new_read c.args.version c.in-Some.pairs c.args.head c.args.lower c.in_ok-placed.placed c.in_ok-list-in-Some.list _
    _ _ _ _ _ _ _
    (sym c.pairs_of.ensures ∙ c.in-Some.is) c.requires.lower (c.in_ok-placed.ensures.read t)
    (c.in_ok-list-in-Some.ensures.read t)
    (c.in_ok-read_line-in-Some.ensures.read t)

pub returns-in_ok-read_line-in-None-clause-read : goal.returns-in_ok-read_line-in-None-clause-read
returns-in_ok-read_line-in-None-clause-read g c t =
    old_read c.args.version c.args.head c.args.lower c.in_ok-placed.placed c.in_ok-parts-in-None.parts _ _ _ _ _ _ _ _
    (first_version c.args.version (sym c.pairs_of.ensures ∙ c.in-None.is)) c.requires.lower
    (c.in_ok-placed.ensures.read t) (c.in_ok-parts-in-None.ensures.read t)
    (c.in_ok-read_line-in-None.ensures.read t)
