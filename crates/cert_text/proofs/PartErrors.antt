-- Errors of parts, handed on to the whole.
use Rattle.std.proofs.Common.{◌≡◌, ℕ, List, [], Ok, Err, Result}
use Rattle.std.specs.Result.{IsErrAnd}
use Rattle.cert_lines.specs.Faults.{Grammar}
use Rattle.cert_lines.specs.Pattern.{IsRead, then_}
use Rattle.cert_lines.specs.declared.fault.ReadError.{ReadError}
use Rattle.cert_lines.specs.declared.fault.ReadError.TheVariants as errors
use Rattle.cert_lines.proofs.TextParts.{read_error}
use Rattle.cert_text.proofs.PartSequences.{Unique, first_error, second_error, same_error, Same}

-- a part fails with an error
pub record Fails {V : Type 0} (g : Grammar V) (passed : ℕ) (text : List ℕ) (e : ReadError) : Type 0 where
  pub is : IsRead g passed text [] 0 (Err e)

pub ends : {V : Type 0} (g : Grammar V) (passed after : ℕ) (text rest : List ℕ) (e : ReadError)
    → IsRead g passed text rest after (Err e) → Fails g passed text e
ends g passed after text rest (errors.Fault f) h = record { is = h }
ends g passed after text rest errors.Stopped h = record { is = tt }

pub first : {A B : Type 0} (g : Grammar A) (h : A → Grammar B) {passed : ℕ} {text : List ℕ} {e : ReadError} → Unique g
    → ((a : A) → g.ranged a → (b : B) × (h a).ranged b) → Fails g passed text e → Fails (then_ g h) passed text e
first g h {passed = passed} {text = text} {e = e} u some f =
    record { is = first_error g h passed 0 0 text [] [] e u some f.is }

pub second : {A B : Type 0} (g : Grammar A) (h : A → Grammar B) (a : A) (passed middle : ℕ) (text left : List ℕ)
    {e : ReadError} → Unique g → IsRead g passed text left middle (Ok a) → Fails (h a) middle left e
    → Fails (then_ g h) passed text e
second g h a passed middle text left {e = e} u x f = record {
  is =
      second_error g h a passed middle 0 0 text left [] [] e u x f.is;
}

pub same : {V W : Type 0} (g : Grammar V) (h : Grammar W) {passed : ℕ} {text : List ℕ} {e : ReadError} → Same g h
    → Fails g passed text e → Fails h passed text e
same g h {passed = passed} {text = text} {e = e} s f = record { is = same_error g h passed 0 0 text [] [] e s f.is }

pub hand : {V : Type 0} (g : Grammar V) (passed after : ℕ) (text rest : List ℕ) (r : Result V ReadError) (e : ReadError)
    → IsErrAnd r (λ y. y ≡ e) → Fails g passed text e → IsRead g passed text rest after r
hand g passed after text rest r (errors.Fault f) h x = read_error g passed after text rest r (errors.Fault f) h x.is
hand g passed after text rest r errors.Stopped h x = read_error g passed after text rest r errors.Stopped h tt
