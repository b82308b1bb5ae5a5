-- Laws of the check of certificates.
use Rattle.std.specs.Prelude.{◌≡◌, ℕ, List, Option}
use Rattle.line_instance.specs.Line.{Line, IsLine, IsRanked}
use Rattle.line_rules.specs.declared.types.LineKind.{LineKind}
use Rattle.line_rules.specs.declared.types.Entry.{Entry}
use Rattle.line_rules.specs.declared.types.Trail.{Trail}
use Rattle.line_rules.specs.declared.types.Certificate.{Certificate}
use Rattle.line_check.specs.Certificates.{IsVerdict}
use Rattle.line_check.specs.Faults.{IsFound, IsChecked}
use Rattle.line_check.specs.Lists.{AreFound}
use Rattle.line_check.specs.Verdicts.{IsListChecked}
use Rattle.line_check.specs.declared.types.EntryChecked.{EntryChecked}
use Rattle.line_check.specs.declared.types.Checked.{Checked}
use Rattle.line_check.specs.declared.types.EntryFault.{EntryFault}
use Rattle.line_check.specs.declared.types.ListChecked.{ListChecked}
use Rattle.line_check.specs.declared.types.ListFound.{ListFound}
use Rattle.line_check.specs.declared.types.Verified.{Verified}

-- what is found with so many steps is one answer: of a certificate, of a list with a trail, of a list, and of one entry
-- after others, with its fault and without it
pub record VerdictIsOne : Type 0 where
  pub certificate : (line : Line) → IsLine line → IsRanked line → (cert : Certificate) (steps : ℕ) (v w : Verified)
      → IsVerdict line cert steps v → IsVerdict line cert steps w → v ≡ w
  pub list : (kind : LineKind) (line : Line) → IsRanked line
      → (es : List Entry) (trail : Option Trail) (steps : ℕ) (v w : ListChecked)
      → IsListChecked kind line es trail steps v → IsListChecked kind line es trail steps w → v ≡ w
  pub entries : (kind : LineKind) (line : Line) → IsRanked line → (es : List Entry) (steps : ℕ) (v w : ListFound)
      → AreFound kind line es steps v → AreFound kind line es steps w → v ≡ w
  pub found : (kind : LineKind) (line : Line) → IsRanked line
      → (earlier : List Entry) (e : Entry) (steps : ℕ) (v w : Checked EntryFault)
      → IsFound kind line earlier e steps v → IsFound kind line earlier e steps w → v ≡ w
  pub entry : (kind : LineKind) (line : Line) → IsRanked line
      → (earlier : List Entry) (e : Entry) (steps : ℕ) (v w : EntryChecked)
      → IsChecked kind line earlier e steps v → IsChecked kind line earlier e steps w → v ≡ w
