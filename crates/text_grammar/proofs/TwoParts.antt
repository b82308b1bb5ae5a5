-- A value that is read in two parts, of which the second may depend on what the first says: each exit of its reader is
-- one lemma here.
use Rattle.std.proofs.Common.{◌≡◌, ℕ, List, [], refl, Result, Ok, Err}
use Rattle.std.specs.Result.{IsErrAnd}
use Rattle.cert_lines.specs.Faults.{Grammar}
use Rattle.cert_lines.specs.Pattern.{IsRead, then_}
use Rattle.cert_lines.specs.declared.fault.ReadError.{ReadError}
use Rattle.cert_text.proofs.PartErrors.{ends, first, second, same, hand}
use Rattle.cert_text.proofs.PartSequences.{Unique, Same, both_read, same_read}
use Rattle.text_grammar.specs.Texts.{Tells}

-- two parts, and the value that they say together
pub record TwoParts {A B V : Type 0} (g : Grammar A) (h : A → Grammar B) (whole : Grammar V) : Type 0 where
  pub unique : Unique g
  pub some : (a : A) → g.ranged a → (b : B) × (h a).ranged b
  pub same : Same (then_ g h) whole

-- two parts that are told apart
abbrev pub parted : {A B V : Type 0} {g : Grammar A} {h : A → Grammar B} {whole : Grammar V} → Tells g
    → ((a : A) → g.ranged a → Tells (h a)) → Same (then_ g h) whole → TwoParts g h whole
parted t u s = record { unique = t.unique; some = λ a r. (u a r).some; same = s }

-- both parts as they are
abbrev pub as_pair : {V : Type 0} (g : Grammar V) → Same g g
as_pair g = record {
  to = λ v. v;
  from = λ v. v;
  to_ranged = λ v r. r;
  from_ranged = λ v r. r;
  to_rows = λ v r. refl;
  from_rows = λ v r. refl;
}

-- the first part fails
pub first_fails : {A B V : Type 0} {g : Grammar A} {h : A → Grammar B} {whole : Grammar V} → TwoParts g h whole
    → (passed after : ℕ) (text rest : List ℕ) (r : Result V ReadError) (e : ReadError) → IsErrAnd r (λ y. y ≡ e)
    → IsRead g passed text [] 0 (Err e) → IsRead whole passed text rest after r
first_fails {g = g} {h = h} {whole = whole} p passed after text rest r e k x =
    hand whole passed after text rest r e k
    (same (then_ g h) whole p.same (first g h p.unique p.some (ends g passed 0 text [] e x)))

-- the second part fails, behind the first
pub second_fails : {A B V : Type 0} {g : Grammar A} {h : A → Grammar B} {whole : Grammar V} → TwoParts g h whole
    → (a : A) (passed middle after : ℕ) (text left rest : List ℕ) (r : Result V ReadError) (e : ReadError)
    → IsErrAnd r (λ y. y ≡ e) → IsRead g passed text left middle (Ok a) → IsRead (h a) middle left [] 0 (Err e)
    → IsRead whole passed text rest after r
second_fails {g = g} {h = h} {whole = whole} p a passed middle after text left rest r e k x y =
    hand whole passed after text rest r e k
    (same (then_ g h) whole p.same
    (second g h a passed middle text left p.unique x (ends (h a) middle 0 left [] e y)))

-- both parts are read
pub two_read : {A B V : Type 0} {g : Grammar A} {h : A → Grammar B} {whole : Grammar V} (p : TwoParts g h whole)
    (a : A) (b : B) (passed middle after : ℕ) (text left rest : List ℕ) → IsRead g passed text left middle (Ok a)
    → IsRead (h a) middle left rest after (Ok b) → IsRead whole passed text rest after (Ok (p.same.to (a, b)))
two_read {g = g} {h = h} {whole = whole} p a b passed middle after text left rest x y =
    same_read (then_ g h) whole passed after text rest (a, b) p.same
    (both_read g h a b passed middle after text left rest x y)
