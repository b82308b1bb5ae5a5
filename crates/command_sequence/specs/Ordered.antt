-- What `sequence` comes to, and what it promises.
use Rattle.std.specs.Prelude.{◌≡◌, ◌⊎◌, ◌≤◌, ℕ, List, length, ◌++◌, Option}
use Rattle.combined_graph.specs.Mixes.{MixedLine}
use Rattle.sequence_rules.specs.Laws.{IsProved}
use Rattle.sequence_values.specs.declared.types.Times.{Times}
use Rattle.sequence_values.specs.declared.types.SeqCert.{SeqCert}
use Rattle.sequence_search.specs.About.{About}
use Rattle.sequence_search.specs.Outcomes.{AreBounds, IsSolved, IsStopped as HasStopped}
use Rattle.sequence_cert.specs.SequenceText.{sequence_text}
use Rattle.command_outcome.specs.Found.{Search, IsAnswer, IsFiled}
use Rattle.command_outcome.specs.Outcome.{Files, Outside, Outcome}
use Rattle.command_outcome.specs.declared.report.Kept.{Kept}
use Rattle.command_outcome.specs.declared.report.Kept.TheVariants.{Sequence}
use Rattle.command_outcome.specs.declared.status.Status.{Status}
use Rattle.mix_files.specs.inputs.InputFile.{max_certificate}
use Rattle.command_sequence.specs.Beginning.{IsBegun}
use Rattle.command_sequence.specs.TimedMix.{IsTimed, IsUntimed}
use Rattle.command_sequence.specs.SequenceText.{optimal_text, stopped_text}

-- The least utility work: the bounds of the certificate meet, the check accepts it, and it proves them. It is printed
-- with the sequence, behind the line about a seek. The search began as `about` says. The check reads files of this
-- length.
pub record IsOptimal (mix : MixedLine) (times : Times) (interval reach units seek : ℕ) (cert : SeqCert)
    (text : List ℕ) : Type 0 where
  pub about : About
  pub said : List ℕ
  pub begun : IsBegun times interval reach units seek about said
  pub solved : IsSolved times interval reach about cert
  pub proved : IsProved times interval reach cert
  pub fits : length (sequence_text cert) ≤ max_certificate
  pub printed : text ≡ said ++ optimal_text mix cert

-- The units were all used behind the kept entries: the bounds of the certificate differ, and it proves them. They are
-- printed with the best sequence, behind the line about a seek. The search began as `about` says. The check reads files
-- of this length.
pub record IsStopped (mix : MixedLine) (times : Times) (interval reach units seek : ℕ) (cert : SeqCert)
    (text : List ℕ) : Type 0 where
  pub about : About
  pub said : List ℕ
  pub begun : IsBegun times interval reach units seek about said
  pub stopped : HasStopped times interval reach about cert
  pub proved : IsProved times interval reach cert
  pub fits : length (sequence_text cert) ≤ max_certificate
  pub printed : text ≡ said ++ stopped_text mix cert

-- bounds that differ, are true, and are no worse than those that the search begins with
pub record AreBoundsFrom (times : Times) (interval reach units seek lower upper : ℕ) : Type 0 where
  pub about : About
  pub said : List ℕ
  pub begun : IsBegun times interval reach units seek about said
  pub bounds : AreBounds times interval reach about lower upper

-- The search for a sequence of least utility work, in so many units and with a seek of so many before: it answers by
-- the certificate of a sequence.
abbrev pub least_work : MixedLine → Times → ℕ → ℕ → ℕ → ℕ → Search
least_work mix times interval reach units seek = record {
  Cert = SeqCert;
  keep = λ cert. Sequence cert;
  tell = sequence_text;
  Solved = IsOptimal mix times interval reach units seek;
  Stopped = IsStopped mix times interval reach units seek;
  Bounds = AreBoundsFrom times interval reach units seek;
}

-- the files say a mix and its table, and this is answered of them
pub record IsAnswered (files : Files) (mix_name cert_name : List ℕ) (interval reach units seek : ℕ)
    (name : Option (List ℕ)) (out : Outcome) : Type 0 where
  pub mix : MixedLine
  pub times : Times
  pub timed : IsTimed files mix_name cert_name interval mix times
  pub answer : IsAnswer (least_work mix times interval reach units seek) name out

-- What `sequence` comes to for a launch interval, a length of the stations, so many units and a seek of so many: an
-- answer, or why the files say no table.
abbrev pub IsSequenceOutcome : Outside → List ℕ → List ℕ → ℕ → ℕ → ℕ → ℕ → Option (List ℕ) → Outcome → Type 0
IsSequenceOutcome o mix_name cert_name interval reach units seek name out =
    IsAnswered o.files mix_name cert_name interval reach units seek name out
    ⊎ IsUntimed o mix_name cert_name interval out

-- The promise of `sequence` with status 0 or 1, for the mix and the balance that the files say: what is printed is
-- shown by a certificate, which is kept, and written where the words name a file.
pub record IsSequencePromised (files after : Files) (mix_name cert_name : List ℕ) (interval reach units seek : ℕ)
    (name : Option (List ℕ)) (status : Status) (text : List ℕ) (kept : Kept) : Type 0 where
  pub mix : MixedLine
  pub times : Times
  pub timed : IsTimed files mix_name cert_name interval mix times
  pub filed : IsFiled (least_work mix times interval reach units seek) name after status text kept
