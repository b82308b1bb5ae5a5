-- What reading a certificate's text answers.
use Rattle.std.specs.Prelude.{◌≡◌, ◌⊎◌, ℕ, suc, ◌<◌, ◌≤◌, ◌+◌, ◌-◌, Bool, List, [], ◌++◌, length, drop, Option}
use Rattle.std.specs.Prelude.{Result, Ok, Err}
use Rattle.line_rules.specs.Ranges.{IsInRange, AreEntries, IsTrailOrNone}
use Rattle.line_rules.specs.declared.types.Certificate.{Certificate}
use Rattle.entry_lists.specs.Lift.{lift}
use Rattle.entry_lists.specs.OldRanges.{IsOldInRange}
use Rattle.entry_lists.specs.declared.version_one.OldCertificate.{OldCertificate}
use Rattle.cert_text.specs.Cert.{cert_text, newest_text, list_rows}
use Rattle.cert_text.specs.OldCert.{old_text}
use Rattle.cert_text.specs.Versions.{AnyCertificate, IsAnyInRange, any_rows, any_text, lifted, both}
use Rattle.cert_lines.specs.Faults.{IsFault}
use Rattle.cert_lines.specs.Pattern.{IsRead}
use Rattle.cert_text.specs.Parts.{MayHave, lists as list_grammar}
use Rattle.cert_lines.specs.declared.fault.CertFault.{CertFault}
use Rattle.cert_lines.specs.declared.fault.CertKind.TheVariants.{Trailing}
use Rattle.cert_lines.specs.declared.fault.ReadError.{ReadError}
use Rattle.cert_lines.specs.Rows.{rows_text}
use Rattle.line_rules.specs.declared.types.Entry.{Entry}
use Rattle.line_rules.specs.declared.types.Trail.{Trail}
use Rattle.cert_text.specs.declared.parts.EntryList.{EntryList}
use Rattle.cert_text.specs.declared.whole_text.ListRead.{ListRead}
use Rattle.cert_text.specs.declared.whole_text.ListRead.TheVariants as lists
use Rattle.cert_text.specs.declared.whole_text.CertRead.{CertRead}
use Rattle.cert_text.specs.declared.whole_text.CertRead.TheVariants.{Good, Fault, NoMemory}

-- The lines of a certificate of any version are read: it is the one that they say, or its lift; or they have a fault.
abbrev pub IsAnyRead : ℕ → List ℕ → List ℕ → ℕ → Result Certificate ReadError → Type 0
IsAnyRead passed text rest after (Ok cert) = (x : AnyCertificate) × (cert ≡ lifted x)
    × IsRead both passed text rest after (Ok x)
IsAnyRead passed text rest after (Err error) = IsRead both passed text rest after (Err error)

-- a whole text of a certificate of any version, and a byte behind it: the fault is of that byte's line
pub record IsTrailing (bytes : List ℕ) (f : CertFault) : Type 0 where
  pub whole : AnyCertificate
  pub in_range : IsAnyInRange whole
  pub rest : List ℕ
  pub some : 0 < length rest
  pub all : bytes ≡ any_text whole ++ rest
  pub line : f.line ≡ suc (length (any_rows whole))
  pub kind : f.kind ≡ Trailing

-- the fault of a text: its first line that no certificate's text passes, of any version, or its end, or a byte behind
-- the last line
abbrev pub IsCertFault : List ℕ → CertFault → Type 0
IsCertFault bytes f = IsFault both 0 bytes f ⊎ IsTrailing bytes f

-- the certificate within its ranges whose text the bytes are, as it is written or in version 3; or the lift of one of
-- version 1 whose one text they are
abbrev pub IsSaidBy : List ℕ → Certificate → Type 0
IsSaidBy bytes cert = (IsInRange cert × ((bytes ≡ cert_text cert) ⊎ (bytes ≡ newest_text cert)))
    ⊎ ((old : OldCertificate) × IsOldInRange old × (bytes ≡ old_text old) × (cert ≡ lift old))

-- Each answer with its cause: the certificate that the bytes say, or the text's first fault.
abbrev pub IsCertRead : List ℕ → CertRead → Type 0
IsCertRead bytes (Good cert) = IsSaidBy bytes cert
IsCertRead bytes (Fault f) = IsCertFault bytes f
IsCertRead bytes NoMemory = Unit {0}

-- what stands behind a certificate that was read decides the answer
abbrev pub IsEnded : Certificate → List ℕ → ℕ → CertRead → Type 0
IsEnded cert left number (Good c) = (c ≡ cert) × (left ≡ [])
IsEnded cert left number (Fault f) = (0 < length left) × (f ≡ record { line = suc number; kind = Trailing })
IsEnded cert left number NoMemory = Unit {0}

-- entries and a trail that were read from a place of a text on, whose first line has this number, with entries by pairs
-- or without: where the text goes on, and the number of the line there
pub record IsListGood (bytes : List ℕ) (from line n : ℕ) (pairs : Bool) (es : List Entry) (left : Option Trail)
    (next after : ℕ) : Type 0 where
  pub entries : AreEntries n es
  pub trail : IsTrailOrNone n (length es) left
  pub kinds : MayHave pairs es
  pub within : next ≤ length bytes
  pub text : drop from bytes ≡ rows_text (list_rows n es left) ++ drop next bytes
  pub behind : after ≡ line + length (list_rows n es left)

-- Each answer with its cause: entries and a trail, or the first fault of the text from that place on.
abbrev pub IsListRead : List ℕ → ℕ → ℕ → ℕ → Bool → ListRead → Type 0
IsListRead bytes from line n pairs (lists.Good es left next after) =
    IsListGood bytes from line n pairs es left next after
IsListRead bytes from line n pairs (lists.Fault f) = IsFault (list_grammar n pairs) (line - 1) (drop from bytes) f
IsListRead bytes from line n pairs lists.NoMemory = Unit {0}

-- what was read, and what is left, decide the answer
abbrev pub IsListed : EntryList → List ℕ → List ℕ → ℕ → ListRead → Type 0
IsListed list bytes left number (lists.Good es t next after) = (es ≡ list.entries) × (t ≡ list.trail)
    × (next ≡ length bytes - length left) × (after ≡ number + 1)
IsListed list bytes left number (lists.Fault f) = ⊥
IsListed list bytes left number lists.NoMemory = Unit {0}
