use Rattle.std.proofs.Common.{rules, ◌≡◌, ◌∙◌, ℕ, false, List, Some, take, subst}
use Rattle.line_io.specs.Outside.{Grows, GrowsWhole}
use Rattle.cert_text.specs.Cert.{cert_text}
use Rattle.cert_files.proofs.SentBytes.{others_stay, front_kept, all_put, same_front, front_grown, whole_grown}
use Rattle.cert_files.proofs.SentBytes.{whole_front}
use Rattle.cert_files.proofs.streaming.fill.Goals as goal

pub returns-then-failed-clause-prefix : goal.returns-then-failed-clause-prefix
returns-then-failed-clause-prefix g c = λ t e.
    let f : (k : ℕ) × (g.S.Shelf.file c.put_cert.new.out.shelf.now c.args.name.now
    ≡ Some (take k (cert_text c.args.cert.now))) =
    front_kept g.S.Shelf.tells _ _ c.args.name.now _ (g.S.Shelf.file c.args.shelf.now)
    (g.S.Shelf.file c.put_cert.new.out.shelf.now) _ _ _ _ _ _ c.put_cert.ensures t c.requires.none e
    c.if-failed.true in
    same_front (g.S.Shelf.file c.put_cert.new.out.shelf.now c.args.name.now) _ (cert_text c.args.cert.now) f
    (search rules)

pub returns-then-failed-clause-others : goal.returns-then-failed-clause-others
returns-then-failed-clause-others g c = λ t q n.
    let h : g.S.Shelf.file c.put_cert.new.out.shelf.now q ≡ g.S.Shelf.file c.args.shelf.now q =
    others_stay g.S.Shelf.tells _ _ c.args.name.now _ (g.S.Shelf.file c.args.shelf.now)
    (g.S.Shelf.file c.put_cert.new.out.shelf.now) false c.put_cert.new.out.failed _ _ _ _ _ c.put_cert.ensures t q
    n in search rules

pub returns-in-Failed-clause-prefix : goal.returns-in-Failed-clause-prefix
returns-in-Failed-clause-prefix g c = λ t e.
    let a = all_put g.S.Shelf.tells _ _ c.args.name.now _ (g.S.Shelf.file c.args.shelf.now)
    (g.S.Shelf.file c.put_cert.new.out.shelf.now) _ _ _ _ _ _ c.put_cert.ensures t c.requires.none e
    c.if-failed.false in
    let P : List ℕ → Type 0 = λ n. Grows (g.S.Shelf.file c.put_cert.new.out.shelf.now c.args.name.now) n
    (g.S.Shelf.file c.append.new.self c.args.name.now) in
    same_front (g.S.Shelf.file c.append.new.self c.args.name.now) _ (cert_text c.args.cert.now)
    (front_grown _ _ _ (cert_text c.args.cert.now) a.0 a.1 (subst P c.deref.ensures.value
    (c.append.ensures.failed t c.in-Failed.is))) (search rules)

pub returns-in-Failed-clause-others : goal.returns-in-Failed-clause-others
returns-in-Failed-clause-others g c = λ t q n.
    let j : g.S.Shelf.file c.append.new.self q ≡ g.S.Shelf.file c.args.shelf.now q =
    c.append.ensures.others t q n ∙ others_stay g.S.Shelf.tells _ _ c.args.name.now _ (g.S.Shelf.file c.args.shelf.now)
    (g.S.Shelf.file c.put_cert.new.out.shelf.now) false c.put_cert.new.out.failed _ _ _ _ _ c.put_cert.ensures t q
    n in search rules

pub returns-clause-prefix : goal.returns-clause-prefix
returns-clause-prefix g c = λ t e.
    let a = all_put g.S.Shelf.tells _ _ c.args.name.now _ (g.S.Shelf.file c.args.shelf.now)
    (g.S.Shelf.file c.put_cert.new.out.shelf.now) _ _ _ _ _ _ c.put_cert.ensures t c.requires.none e
    c.if-failed.false in
    let P : List ℕ → Type 0 = λ n. GrowsWhole (g.S.Shelf.file c.put_cert.new.out.shelf.now c.args.name.now) n
    (g.S.Shelf.file c.append.new.self c.args.name.now) in
    same_front (g.S.Shelf.file c.append.new.self c.args.name.now) _ (cert_text c.args.cert.now)
    (whole_front _ (cert_text c.args.cert.now) (whole_grown _ _ _ (cert_text c.args.cert.now) a.0 a.1
    (subst P c.deref.ensures.value (c.append.ensures.done t c.in-Done.is)))) (search rules)

pub returns-clause-others : goal.returns-clause-others
returns-clause-others g c = λ t q n.
    let j : g.S.Shelf.file c.append.new.self q ≡ g.S.Shelf.file c.args.shelf.now q =
    c.append.ensures.others t q n ∙ others_stay g.S.Shelf.tells _ _ c.args.name.now _ (g.S.Shelf.file c.args.shelf.now)
    (g.S.Shelf.file c.put_cert.new.out.shelf.now) false c.put_cert.new.out.failed _ _ _ _ _ c.put_cert.ensures t q
    n in search rules
