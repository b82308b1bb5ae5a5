use Rattle.std.proofs.Common.{sym, subst, None, length, List, [], Ok}
use Rattle.std.specs.Prelude.{codes}
use Rattle.line_rules.specs.Ranges.{AreEntries, IsTrailOrNone}
use Rattle.line_rules.specs.declared.types.Entry.{Entry}
use Rattle.cert_text.specs.Parts.{trails, lists, MayHave}
use Rattle.cert_lines.specs.Pattern.{IsRead}
use Rattle.cert_text.proofs.PartErrors.{ends, first, second, same, hand}
use Rattle.cert_lines.proofs.JudgedEntry.{some_entry}
use Rattle.cert_text.proofs.PartSequences.{both_read}
use Rattle.cert_text.proofs.CertificateParts.{numbers, unique_count, entries_of, unique_given, entry_rest, list_parts}
use Rattle.cert_text.proofs.CertificateParts.{some_rest}
use Rattle.cert_text.proofs.CertificateParts.{same_lists, list_said, list_read}
use Rattle.cert_text.proofs.parts.read_entries.Goals as goal

pub returns-in_err-count-clause-read : goal.returns-in_err-count-clause-read
returns-in_err-count-clause-read g c t =
    hand (lists c.args.tasks c.args.pairs) _ _ _ _ c.from_residual.result c.in_err-count.field-0.0
    c.from_residual.ensures.1
    (same (list_parts c.args.tasks c.args.pairs) (lists c.args.tasks c.args.pairs) (same_lists c.args.tasks
    c.args.pairs)
    (first (numbers (codes "entries") 0 20000000) (entry_rest c.args.tasks c.args.pairs) unique_count
    (λ a r. some_rest c.args.tasks c.args.pairs a (some_entry c.args.tasks a None c.args.pairs tt))
    (ends (numbers (codes "entries") 0 20000000) _ 0 _ [] _ (c.in_err-count.ensures.read t))))

pub read_lines-requires-clause-some : goal.read_lines-requires-clause-some
read_lines-requires-clause-some g c = some_entry c.args.tasks c.in_ok-count.count None c.args.pairs tt

pub returns-in_err-entries-clause-read : goal.returns-in_err-entries-clause-read
returns-in_err-entries-clause-read g c t =
    hand (lists c.args.tasks c.args.pairs) _ _ _ _ c.from_residual-in_err-entries.result c.in_err-entries.field-0.0
    c.from_residual-in_err-entries.ensures.1
    (same (list_parts c.args.tasks c.args.pairs) (lists c.args.tasks c.args.pairs) (same_lists c.args.tasks
    c.args.pairs)
    (second (numbers (codes "entries") 0 20000000) (entry_rest c.args.tasks c.args.pairs) _ _ _ _ _ unique_count
    (c.in_ok-count.ensures.read t)
    (first (entries_of c.args.tasks c.args.pairs c.in_ok-count.count) (λ es. trails c.args.tasks c.in_ok-count.count)
    (unique_given c.args.tasks c.in_ok-count.count None c.args.pairs c.requires.few c.in_ok-count.ensures.said.1)
    (λ es r. (None, tt))
    (ends (entries_of c.args.tasks c.args.pairs c.in_ok-count.count) _ 0 _ [] _ (c.in_err-entries.ensures.read t)))))

pub returns-in_err-trail-clause-read : goal.returns-in_err-trail-clause-read
returns-in_err-trail-clause-read g c t =
    hand (lists c.args.tasks c.args.pairs) _ _ _ _ c.from_residual-in_err-trail.result c.in_err-trail.field-0.0
    c.from_residual-in_err-trail.ensures.1
    (same (list_parts c.args.tasks c.args.pairs) (lists c.args.tasks c.args.pairs) (same_lists c.args.tasks
    c.args.pairs)
    (second (numbers (codes "entries") 0 20000000) (entry_rest c.args.tasks c.args.pairs) _ _ _ _ _ unique_count
    (c.in_ok-count.ensures.read t)
    (second (entries_of c.args.tasks c.args.pairs c.in_ok-count.count) (λ es. trails c.args.tasks c.in_ok-count.count)
    _ _ _ _ _
    (unique_given c.args.tasks c.in_ok-count.count None c.args.pairs c.requires.few c.in_ok-count.ensures.said.1)
    (c.in_ok-entries.ensures.read t)
    (ends (trails c.args.tasks c.in_ok-count.count) _ 0 _ [] _ (c.in_err-trail.ensures.read t)))))

pub returns-clause-said : goal.returns-clause-said
returns-clause-said g c =
    let Q : List Entry → Type 0 = λ es. AreEntries c.args.tasks es
    × IsTrailOrNone c.args.tasks (length es) c.in_ok-trail.trail × MayHave c.args.pairs es in
    subst Q (sym c.from_vec.ensures) (list_said c.args.tasks c.args.pairs c.in_ok-count.count
    c.in_ok-entries.entries.items
    c.in_ok-trail.trail c.in_ok-count.ensures.said.1 c.in_ok-entries.ensures.said c.in_ok-trail.ensures.said)

pub returns-clause-read : goal.returns-clause-read
returns-clause-read g c t =
    let Q : List Entry → Type 0 = λ es. IsRead (lists c.args.tasks c.args.pairs) (g.S.Source.number c.args.source.now)
    (g.S.Source.left c.args.source.now) (g.S.Source.left c.read_trail.new.source)
    (g.S.Source.number c.read_trail.new.source)
    (Ok (record { entries = es; trail = c.in_ok-trail.trail })) in
    subst Q (sym c.from_vec.ensures)
    (list_read c.args.tasks c.args.pairs c.in_ok-count.count c.in_ok-entries.entries.items c.in_ok-trail.trail _ _ _ _
    (both_read (numbers (codes "entries") 0 20000000) (entry_rest c.args.tasks c.args.pairs) c.in_ok-count.count
    (c.in_ok-entries.entries.items, c.in_ok-trail.trail) _ _ _ _ _ _ (c.in_ok-count.ensures.read t)
    (both_read (entries_of c.args.tasks c.args.pairs c.in_ok-count.count) (λ es. trails c.args.tasks
    c.in_ok-count.count)
    c.in_ok-entries.entries.items c.in_ok-trail.trail _ _ _ _ _ _ (c.in_ok-entries.ensures.read t)
    (c.in_ok-trail.ensures.read t))))
