use Rattle.std.proofs.Common.{◌≡◌, inl, inr, refl, ℕ, List, Option, Some, option_map}
use Rattle.line_rules.specs.declared.types.Certificate.{Certificate}
use Rattle.cert_text.specs.Cert.{cert_text}
use Rattle.line_words.specs.declared.job.FormWord.TheVariants.{Cert}
use Rattle.command_outcome.specs.Outcome.{Outside, outcome_of, outside}
use Rattle.command_outcome.specs.declared.report.Kept.TheVariants.{Nothing}
use Rattle.command_outcome.specs.declared.report.Report.{Report}
use Rattle.command_outcome.specs.declared.status.Status.TheVariants as ends
use Rattle.command_outcome.proofs.WrittenFacts.{comes, cut, wrote_as}
use Rattle.input_files.specs.Certificate.{IsCertificateOf}
use Rattle.command_convert.specs.Convert.{IsConvertOutcome}
use Rattle.command_outcome.specs.Wrote.{written_line}
use Rattle.command_convert.proofs.convert.convert_cert.Goals as goal

-- a certificate that is written anew
anew : (o : Outside) (file name : List ℕ) (apart : Option (List ℕ)) (word : Option ℕ) (r : Report) (cert : Certificate)
    → IsCertificateOf o.files file cert → r.status ≡ ends.Done → r.text.items ≡ written_line name → r.kept ≡ Nothing
    → IsConvertOutcome o file name Cert apart word
    (outcome_of r (Some (record { name = name; bytes = cert_text cert })))
anew o file name apart word r cert said s t k =
    inr (refl, inl (record { cert = cert; said = said; shown = wrote_as r name (cert_text cert) s t k }))

pub returns-in-Done-clause-ends : goal.returns-in-Done-clause-ends
returns-in-Done-clause-ends g c = λ t.
    let a = c.args in
    let o : Outside = outside (g.S.Shelf.file a.shelf.now) (g.S.Shelf.blames c.stream_cert.new.shelf) in
    let text : List ℕ = cert_text c.in_ok-cert.cert in
    let r = c.in_ok-report in
    comes (IsConvertOutcome o a.file.now a.name.now Cert (option_map (λ x. x.now) a.apart) a.word) r.report a.name.now
    text text o.files
    (g.S.Shelf.file c.certificate_of.new.shelf) (g.S.Shelf.file c.stream_cert.new.shelf) o.blames
    (anew o a.file.now a.name.now (option_map (λ x. x.now) a.apart) a.word r.report c.in_ok-cert.cert
    (c.in_ok-cert.ensures.said t) r.ensures.status
    r.ensures.text r.ensures.kept)
    refl (c.in_ok-cert.ensures.files t) (c.in-Done.ensures.done t refl) (c.in-Done.ensures.others t)

pub returns-in-WriteFault-clause-ends : goal.returns-in-WriteFault-clause-ends
returns-in-WriteFault-clause-ends g c = λ t.
    let a = c.args in
    let o : Outside = outside (g.S.Shelf.file a.shelf.now) (g.S.Shelf.blames c.stream_cert.new.shelf) in
    let text : List ℕ = cert_text c.in_ok-cert.cert in
    let r = c.in_ok-report in
    cut (IsConvertOutcome o a.file.now a.name.now Cert (option_map (λ x. x.now) a.apart) a.word) r.report a.name.now
    text text o.files
    (g.S.Shelf.file c.certificate_of.new.shelf) (g.S.Shelf.file c.stream_cert.new.shelf) o.blames
    (anew o a.file.now a.name.now (option_map (λ x. x.now) a.apart) a.word r.report c.in_ok-cert.cert
    (c.in_ok-cert.ensures.said t) r.ensures.status
    r.ensures.text r.ensures.kept)
    refl (c.in_ok-cert.ensures.files t) (c.in-WriteFault.ensures.blame t refl) (c.in-WriteFault.ensures.prefix t)
    (c.in-WriteFault.ensures.others t)
