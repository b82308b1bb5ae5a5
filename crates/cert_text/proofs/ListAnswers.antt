-- Where a text goes on behind entries and a trail.
use Rattle.std.proofs.Common.{◌≡◌, ℕ, ◌-◌, ◌≤◌, Bool, List, ◌++◌, length, take, drop, sym, ◌∙◌, ap, subst, arith, Ok}
use Rattle.std.proofs.Common.{Err}
use Rattle.std.proofs.Common.{append_assoc, length-append, length-drop, Option}
use Rattle.std.proofs.lemmas.List.{take-append-drop, drop_at, length-take-le}
use Rattle.line_rules.specs.Ranges.{AreEntries, IsTrailOrNone}
use Rattle.line_rules.specs.declared.types.Entry.{Entry}
use Rattle.line_rules.specs.declared.types.Trail.{Trail}
use Rattle.cert_lines.specs.Rows.{rows_text}
use Rattle.cert_text.specs.Cert.{list_rows}
use Rattle.cert_text.specs.Parts.{MayHave, lists}
use Rattle.cert_lines.specs.Pattern.{IsRead}
use Rattle.cert_lines.specs.Faults.{IsFault}
use Rattle.cert_text.specs.WholeText.{IsListGood, IsListRead, IsListed}
use Rattle.cert_text.specs.declared.parts.EntryList.{EntryList}
use Rattle.cert_text.specs.declared.whole_text.ListRead.{ListRead}
use Rattle.cert_text.specs.declared.whole_text.ListRead.TheVariants as answers
use Rattle.cert_lines.specs.declared.fault.CertFault.{CertFault}
use Rattle.cert_text.proofs.LineTexts.{list_has_none}
use Rattle.cert_lines.specs.declared.fault.ReadError.{ReadError}
use Rattle.cert_lines.specs.declared.fault.ReadError.TheVariants as errors

goes_on : (bytes rows left : List ℕ) (from next : ℕ) → from ≤ length bytes → drop from bytes ≡ rows ++ left
    → next ≡ length bytes - length left → (next ≤ length bytes) × (drop from bytes ≡ rows ++ drop next bytes)
goes_on bytes rows left from next h e n =
    let whole : bytes ≡ (take from bytes ++ rows) ++ left =
    sym (take-append-drop from bytes) ∙ ap (λ z. take from bytes ++ z) e
    ∙ sym (append_assoc (take from bytes) rows left) in
    let l : length (take from bytes ++ rows) ≡ next = length-append (take from bytes) rows
    ∙ omega (arith, n, length-take-le from bytes h, length-drop from bytes, ap length e, length-append rows left) in
    let d : drop next bytes ≡ left = ap (drop next) whole ∙ drop_at (take from bytes ++ rows) left next l in
    (omega (arith, n), e ∙ ap (λ z. rows ++ z) (sym d))

pub list_answer : (bytes text left : List ℕ) (from line n : ℕ) (pairs : Bool) (passed number : ℕ) (list : EntryList)
    (r : ListRead) → from ≤ length bytes → 1 ≤ line → IsRead (lists n pairs) passed text left number (Ok list)
    → passed ≡ line - 1 → text ≡ drop from bytes
    → IsListed list bytes left number r → IsListRead bytes from line n pairs r
list_answer bytes text left from line n pairs passed number list (answers.Good es t next after) a b h p q e =
    let g = goes_on bytes (rows_text (list_rows n list.entries list.trail)) left from next a (sym q ∙ h.1) e.2 in
    let P : List Entry → Option Trail → Type 0 = λ x y. IsListGood bytes from line n pairs x y next after in
    let Q : List Entry → Type 0 = λ x. P x list.trail in
    let R : Option Trail → Type 0 = λ y. P es y in
    subst R (sym e.1) (subst Q (sym e.0) (record {
      entries = h.0.0;
      trail = h.0.1;
      kinds = h.0.2;
      within = g.0;
      text = g.1;
      behind = omega (arith, e.3, h.2, p);
    }))
list_answer bytes text left from line n pairs passed number list (answers.Fault f) a b h p q e = absurd e
list_answer bytes text left from line n pairs passed number list answers.NoMemory a b h p q e = tt

pub list_fault : (bytes text rest : List ℕ) (from line n : ℕ) (pairs : Bool) (passed after : ℕ) (e : ReadError)
    (f g : CertFault) → IsRead (lists n pairs) passed text rest after (Err e) → e ≡ errors.Fault f → passed ≡ line - 1
    → text ≡ drop from bytes
    → g ≡ f
    → IsFault (lists n pairs) (line - 1) (drop from bytes) g
list_fault bytes text rest from line n pairs passed after e f g h i a b c =
    let P : ReadError → Type 0 = λ z. IsRead (lists n pairs) passed text rest after (Err z) in
    let x : IsFault (lists n pairs) passed text f = subst P i h in
    let Q : ℕ → Type 0 = λ z. IsFault (lists n pairs) z text f in
    let R : List ℕ → Type 0 = λ z. IsFault (lists n pairs) (line - 1) z f in
    let S : CertFault → Type 0 = λ z. IsFault (lists n pairs) (line - 1) (drop from bytes) z in
    subst S (sym c) (subst R b (subst Q a x))

-- an answer that is a fault, of a text that doesn't begin with that of entries and a trail
pub no_list : (bytes : List ℕ) (from line n : ℕ) (pairs : Bool) (r : ListRead) (f : CertFault) (es : List Entry)
    (t : Option Trail) (rest : List ℕ) → n ≤ 1024 → IsListRead bytes from line n pairs r → r ≡ answers.Fault f
    → AreEntries n es → IsTrailOrNone n (length es) t → MayHave pairs es
    → drop from bytes ≡ rows_text (list_rows n es t) ++ rest → ⊥
no_list bytes from line n pairs r f es t rest a h e k l m x =
    let P : ListRead → Type 0 = IsListRead bytes from line n pairs in
    list_has_none n pairs (line - 1) (drop from bytes) rest f es t a (subst P e h) k l m x
