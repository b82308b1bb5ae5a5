-- What files say stays so where they stay.
use Rattle.std.proofs.Common.{inl, inr, Bool, List, ℕ, Option, Some, None, subst}
use Rattle.line_instance.specs.Line.{Line}
use Rattle.line_rules.specs.declared.types.LineKind.{LineKind}
use Rattle.line_rules.specs.declared.types.Entry.{Entry}
use Rattle.command_outcome.specs.Outcome.{Files, Outcome, Stay, outside}
use Rattle.input_files.specs.InputFile.{Reads, max_certificate}
use Rattle.input_files.specs.Certificate.{IsTextOf, IsNoCertificate}
use Rattle.command_solve.specs.WarmStart.{AreOld, IsUnwarmed}

-- the same old entries, of files that stayed
pub old_in : (files mid : Files) (warm : Option (List ℕ)) (kind : LineKind) (line : Line) (olds : Option (List Entry))
    → Stay files mid → AreOld mid warm kind line olds → AreOld files warm kind line olds
old_in files mid None kind line olds same o = o
old_in files mid (Some name) kind line olds same o =
    let P : Option (List ℕ) → Type 0 = λ f. Reads max_certificate f (IsTextOf o.0) in
    (o.0, o.1, (subst P (same name) o.2.0, o.2.1, o.2.2))

-- the same refusal of an old certificate, of files that stayed
pub unwarmed_in : (files mid : Files) (blames : List ℕ → Bool) (warm : Option (List ℕ)) (kind : LineKind) (line : Line)
    (out : Outcome) → Stay files mid → IsUnwarmed (outside mid blames) warm kind line out
    → IsUnwarmed (outside files blames) warm kind line out
unwarmed_in files mid blames None kind line out same u = u
unwarmed_in files mid blames (Some name) kind line out same (inl n) =
    let P : Option (List ℕ) → Type 0 = λ f. IsNoCertificate (outside (λ q. f) blames) name out in
    inl (subst P (same name) n)
unwarmed_in files mid blames (Some name) kind line out same (inr s) =
    let P : Option (List ℕ) → Type 0 = λ f. Reads max_certificate f (IsTextOf s.0) in
    inr (s.0, (subst P (same name) s.1.0, s.1.1))
