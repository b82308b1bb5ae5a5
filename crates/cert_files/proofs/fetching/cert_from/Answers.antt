use Rattle.std.proofs.Common.{rules, ◌≡◌, ◌∙◌, Ok}
use Rattle.cert_files.proofs.FileEnds.{same_files, stopped_read, fault_read, good_read, none_of, none_of_newest}
use Rattle.cert_files.proofs.FileEnds.{none_of_old}
use Rattle.cert_files.proofs.fetching.cert_from.Goals as goal

pub returns-in-Stopped-clause-read : goal.returns-in-Stopped-clause-read
returns-in-Stopped-clause-read g c = λ t.
    stopped_read g.S.Shelf.tells _ _ c.args.name.now _ c.args.limit _ _ _ (g.S.Shelf.file c.args.shelf.now)
    (g.S.Shelf.file c.read_all-answer.new.source.shelf.now) c.read_all-answer.ensures.source.base t
    c.read_all-answer.new.source.stop c.stopped.result c.stopped.ensures
    c.read_all-answer.new.source.long

pub returns-in-Stopped-clause-files : goal.returns-in-Stopped-clause-files
returns-in-Stopped-clause-files g c = λ t q.
    let h : g.S.Shelf.file c.read_all-answer.new.source.shelf.now q ≡ g.S.Shelf.file c.args.shelf.now q =
    same_files g.S.Shelf.tells _ _ c.args.name.now _ c.args.limit _ _ _ (g.S.Shelf.file c.args.shelf.now)
    (g.S.Shelf.file c.read_all-answer.new.source.shelf.now) c.read_all-answer.ensures.source.base t q in
    search rules

pub returns-in-Fault-clause-read : goal.returns-in-Fault-clause-read
returns-in-Fault-clause-read g c = λ t.
    fault_read g.S.Shelf.tells _ _ c.args.name.now _ c.args.limit _ _ _ (g.S.Shelf.file c.args.shelf.now)
    (g.S.Shelf.file c.read_all-answer.new.source.shelf.now) c.read_all-answer.ensures.source.base t
    c.read_on-in-Fault.result _ _ _ c.in-Err.error c.in-Fault.fault
    c.faulty.result (c.read_all-answer.ensures.read t) c.in-Err.is c.in-Fault.is c.faulty.ensures
    (c.read_on-in-Fault.ensures.whole t) (c.read_on-in-Fault.ensures.within t) (c.read_on-in-Fault.ensures.long t)

pub returns-in-Fault-clause-none : goal.returns-in-Fault-clause-none
returns-in-Fault-clause-none g c = λ t. none_of (g.S.Shelf.file c.args.shelf.now c.args.name.now) c.args.limit
    c.faulty.result (returns-in-Fault-clause-read g c t)

pub returns-in-Fault-clause-none_newest : goal.returns-in-Fault-clause-none_newest
returns-in-Fault-clause-none_newest g c = λ t. none_of_newest (g.S.Shelf.file c.args.shelf.now c.args.name.now)
    c.args.limit c.faulty.result (returns-in-Fault-clause-read g c t)

pub returns-in-Fault-clause-none_old : goal.returns-in-Fault-clause-none_old
returns-in-Fault-clause-none_old g c = λ t. none_of_old (g.S.Shelf.file c.args.shelf.now c.args.name.now) c.args.limit
    c.faulty.result (returns-in-Fault-clause-read g c t)

pub returns-in-Fault-clause-files : goal.returns-in-Fault-clause-files
returns-in-Fault-clause-files g c = λ t q.
    let h : g.S.Shelf.file c.read_on-in-Fault.new.shelf q ≡ g.S.Shelf.file c.args.shelf.now q =
    c.read_on-in-Fault.ensures.files t q ∙ same_files g.S.Shelf.tells _ _ c.args.name.now _ c.args.limit _ _ _
    (g.S.Shelf.file c.args.shelf.now) (g.S.Shelf.file c.read_all-answer.new.source.shelf.now)
    c.read_all-answer.ensures.source.base t q in search rules

pub returns-in-Ok-answer-clause-read : goal.returns-in-Ok-answer-clause-read
returns-in-Ok-answer-clause-read g c = λ t.
    good_read g.S.Shelf.tells _ _ c.args.name.now _ c.args.limit _ _ _ (g.S.Shelf.file c.args.shelf.now)
    (g.S.Shelf.file c.read_all-answer.new.source.shelf.now) c.read_all-answer.ensures.source.base t c.read_on.result
    _ c.read_all-answer.new.source.at _
    (Ok c.in-Ok-answer.cert) c.in-Ok-answer.cert c.ended.result (c.in-Ok-answer.ensures.read t) c.ended.ensures
    (c.read_on.ensures.nothing t) (c.read_on.ensures.more t) (c.read_on.ensures.whole t)
    (c.read_on.ensures.within t) (c.read_on.ensures.long t)

pub returns-in-Ok-answer-clause-none : goal.returns-in-Ok-answer-clause-none
returns-in-Ok-answer-clause-none g c = λ t. none_of (g.S.Shelf.file c.args.shelf.now c.args.name.now) c.args.limit
    c.ended.result (returns-in-Ok-answer-clause-read g c t)

pub returns-in-Ok-answer-clause-none_newest : goal.returns-in-Ok-answer-clause-none_newest
returns-in-Ok-answer-clause-none_newest g c = λ t. none_of_newest (g.S.Shelf.file c.args.shelf.now c.args.name.now)
    c.args.limit c.ended.result (returns-in-Ok-answer-clause-read g c t)

pub returns-in-Ok-answer-clause-none_old : goal.returns-in-Ok-answer-clause-none_old
returns-in-Ok-answer-clause-none_old g c = λ t. none_of_old (g.S.Shelf.file c.args.shelf.now c.args.name.now)
    c.args.limit c.ended.result (returns-in-Ok-answer-clause-read g c t)

pub returns-in-Ok-answer-clause-files : goal.returns-in-Ok-answer-clause-files
returns-in-Ok-answer-clause-files g c = λ t q.
    let h : g.S.Shelf.file c.read_on.new.shelf q ≡ g.S.Shelf.file c.args.shelf.now q =
    c.read_on.ensures.files t q ∙ same_files g.S.Shelf.tells _ _ c.args.name.now _ c.args.limit _ _ _
    (g.S.Shelf.file c.args.shelf.now) (g.S.Shelf.file c.read_all-answer.new.source.shelf.now)
    c.read_all-answer.ensures.source.base t q in search rules
