use Rattle.std.proofs.Common.{inl, inr, refl, ℕ}
use Rattle.std.specs.Prelude.{string_bytes}
use Rattle.sequence_rules.proofs.LemmasHold.{proved}
use Rattle.sequence_search.specs.About.{About}
use Rattle.command_outcome.proofs.FoundFacts.{cut_as}
use Rattle.command_sequence.specs.Ordered.{least_work}
use Rattle.command_sequence.specs.declared.beginning.Beginning.{Beginning}
use Rattle.command_sequence.proofs.SequenceLengths.{text_fits}
use Rattle.command_sequence.proofs.sequence.ordered.Goals as goal

-- what a search in so many units begins with
abbrev about_of : ℕ → Beginning → About
about_of units b = record { units = units; first = b.first; charges = b.charges; kept = b.kept }

pub returns-in_ok-text-in-Solved-clause-answer : goal.returns-in_ok-text-in-Solved-clause-answer
returns-in_ok-text-in-Solved-clause-answer c =
    let a = c.args in
    let f = c.in_ok-first in
    let cert = c.in-Solved.cert in
    record {
      certificate = cert;
      keeps = refl;
      answer = inl (
        refl,
        record {
          about = about_of a.units f.field-0;
          said = string_bytes f.field-0.said;
          begun = f.ensures;
          solved = c.in-Solved.ensures;
          proved = proved a.timed.now.times a.interval a.reach cert c.in-Solved.ensures.certified.accepted;
          fits = text_fits a.timed.now.times a.interval a.reach cert c.in-Solved.ensures.certified.range
              c.in-Solved.ensures.certified.accepted;
          printed = c.in_ok-text-in-Solved.ensures;
        },
      );
    }

pub returns-in_ok-text-in-Stopped-clause-answer : goal.returns-in_ok-text-in-Stopped-clause-answer
returns-in_ok-text-in-Stopped-clause-answer c =
    let a = c.args in
    let f = c.in_ok-first in
    let cert = c.in-Stopped.cert in
    record {
      certificate = cert;
      keeps = refl;
      answer = inr (
        refl,
        record {
          about = about_of a.units f.field-0;
          said = string_bytes f.field-0.said;
          begun = f.ensures;
          stopped = c.in-Stopped.ensures;
          proved = proved a.timed.now.times a.interval a.reach cert c.in-Stopped.ensures.certified.accepted;
          fits = text_fits a.timed.now.times a.interval a.reach cert c.in-Stopped.ensures.certified.range
              c.in-Stopped.ensures.certified.accepted;
          printed = c.in_ok-text-in-Stopped.ensures;
        },
      );
    }

pub returns-in_ok-cut_short-in-Memory-clause-answer : goal.returns-in_ok-cut_short-in-Memory-clause-answer
returns-in_ok-cut_short-in-Memory-clause-answer c =
    let a = c.args in
    let f = c.in_ok-first in
    let m = c.in-Memory in
    cut_as (least_work a.timed.now.mix a.timed.now.times a.interval a.reach a.units a.seek) m.lower m.upper
    c.in_ok-cut_short-in-Memory.field-0 m.ensures.below
    (record {
      about = about_of a.units f.field-0;
      said = string_bytes f.field-0.said;
      begun = f.ensures;
      bounds = m.ensures;
    })
    c.in_ok-cut_short-in-Memory.ensures.answer
