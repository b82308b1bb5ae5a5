-- A text is the text of its lines alone, and so no text with a fault is that of a value.
use Rattle.std.proofs.Common.{◌≡◌, ℕ, suc, List, [], ◌++◌, length, refl, sym, ◌∙◌, ap, subst, arith, Ok, Err}
use Rattle.std.proofs.Common.{◌+◌, inl, inr}
use Rattle.std.proofs.lemmas.List.{append-nil}
use Rattle.cert_lines.specs.Rows.{Row}
use Rattle.cert_lines.specs.Faults.{Grammar, IsFault}
use Rattle.cert_lines.specs.Pattern.{one, then_, IsRead}
use Rattle.cert_lines.specs.declared.fault.CertFault.{CertFault}
use Rattle.cert_lines.specs.declared.fault.ReadError.{ReadError}
use Rattle.cert_lines.specs.declared.fault.ReadError.TheVariants as errors
use Rattle.cert_text.proofs.PartSequences.{Unique, unique_one, unique_then, texts, Same}
use Rattle.cert_text.proofs.CertificateParts.{unique_same}
use Rattle.cert_text.proofs.LineTexts.{AllLack, lack_both, fault_has_none, begins_one}
use Rattle.text_grammar.specs.Texts.{Tells, TellsLine, text_of, Says, IsTextFault, IsTextRead, IsEnded}
use Rattle.text_grammar.specs.Texts.{NoneBegins}
use Rattle.text_grammar.specs.declared.text.TextRead.{TextRead}
use Rattle.text_grammar.specs.declared.text.TextRead.TheVariants.{Good, Fault, NoMemory}

-- one line for each value
pub one_tells : {V : Type 0} (row : V → Row) (ranged : V → Type 0) → TellsLine row ranged → Tells (one row ranged)
one_tells row ranged t = record {
  unique = unique_one row ranged t.one;
  some = t.some;
  plain = λ v. (t.plain v, tt);
}

-- one part behind the other, of which the second may depend on what the first says
pub led_tells : {A B : Type 0} (g : Grammar A) (h : A → Grammar B) → Tells g → ((a : A) → g.ranged a → Tells (h a))
    → ((a : A) (b : B) → AllLack (texts ((h a).rows b))) → Tells (then_ g h)
led_tells g h t u p =
    let s = (u t.some.0 t.some.1).some in
    record {
      unique = unique_then g h t.unique (λ a r. (u a r).unique);
      some = ((t.some.0, s.0), (t.some.1, s.1));
      plain = λ v. lack_both (g.rows v.0) ((h v.0).rows v.1) (t.plain v.0) (p v.0 v.1);
    }

pub then_tells : {A B : Type 0} (g : Grammar A) (h : Grammar B) → Tells g → Tells h → Tells (then_ g (λ a. h))
then_tells g h t u = led_tells g (λ a. h) t (λ a r. u) (λ a b. u.plain b)

-- the same lines for other values
pub same_tells : {V W : Type 0} (g : Grammar V) (h : Grammar W) (s : Same g h)
    → ((w : W) → h.ranged w → s.to (s.from w) ≡ w) → ((w : W) → g.rows (s.from w) ≡ h.rows w) → Tells g → Tells h
same_tells {W = W} g h s back rows t = record {
  unique = unique_same g h s t.unique back;
  some = (s.to t.some.0, s.to_ranged t.some.0 t.some.1);
  plain = λ w. let P : List Row → Type 0 = λ z. AllLack (texts z) in subst P (rows w) (t.plain (s.from w));
}

-- no text of a value begins that of another
pub none_begins : {V : Type 0} (g : Grammar V) → Tells g → NoneBegins g
none_begins g t c d rest h k e = begins_one g c d rest t.unique t.plain h k e

has_none : {V : Type 0} (g : Grammar V) (bytes : List ℕ) (f : CertFault) (v : V) → Tells g → IsTextFault g bytes f
    → g.ranged v → bytes ≡ text_of g v → ⊥
has_none g bytes f v t (inl x) h e = fault_has_none g 0 bytes [] f v t.unique t.plain x h
    (e ∙ sym (append-nil (text_of g v)))
has_none g bytes f v t (inr x) h e =
    let z : x.rest ≡ [] = (none_begins g t x.whole v x.rest x.ranged h (sym x.all ∙ e)).1 in
    absurd (omega (arith, x.some, ap length z))

-- what stands behind a value that was read decides the answer
pub ended_read : {V : Type 0} (g : Grammar V) (bytes left : List ℕ) (number : ℕ) (value : V) (r : TextRead V)
    → IsRead g 0 bytes left number (Ok value) → IsEnded value left number r → IsTextRead g bytes r
ended_read {V = V} g bytes left number value (Good v) h e =
    let P : V → Type 0 = Says g bytes in
    subst P (sym e.0) (h.0, h.1 ∙ ap (λ z. text_of g value ++ z) e.1 ∙ append-nil (text_of g value))
ended_read g bytes left number value (Fault f) h e =
    inr (record {
      whole = value;
      ranged = h.0;
      rest = left;
      some = e.0;
      all = h.1;
      line = ap (λ z. z.line) e.1 ∙ ap suc h.2 ∙ omega arith;
      kind = ap (λ z. z.kind) e.1;
    })
ended_read g bytes left number value NoMemory h e = tt

-- an answer that is a fault, of a text that is no value's
pub no_text : {V : Type 0} (g : Grammar V) (bytes : List ℕ) (r : TextRead V) (f : CertFault) (v : V) → Tells g
    → IsTextRead g bytes r → r ≡ Fault f → g.ranged v → bytes ≡ text_of g v → ⊥
no_text {V = V} g bytes r f v t h e k x =
    let P : TextRead V → Type 0 = IsTextRead g bytes in has_none g bytes f v t (subst P e h) k x

-- what was read from the front of a text is what was read of it
pub read_whole : {V : Type 0} (g : Grammar V) (bytes text left : List ℕ) (n number : ℕ) (v : V)
    → IsRead g n text left number (Ok v) → n ≡ 0 → text ≡ bytes → IsRead g 0 bytes left number (Ok v)
read_whole g bytes text left n number v h e f = (h.0, sym f ∙ h.1, h.2 ∙ ap (λ z. z + length (g.rows v)) e)

pub fault_whole : {V : Type 0} (g : Grammar V) (bytes text rest : List ℕ) (n after : ℕ) (e : ReadError)
    (f x : CertFault) → IsRead g n text rest after (Err e) → e ≡ errors.Fault f → n ≡ 0 → text ≡ bytes → x ≡ f
    → IsTextFault g bytes x
fault_whole g bytes text rest n after e f x h i a b c =
    let P : ReadError → Type 0 = λ z. IsRead g n text rest after (Err z) in
    let y : IsFault g n text f = subst P i h in
    let Q : ℕ → Type 0 = λ z. IsFault g z text f in
    let R : List ℕ → Type 0 = λ z. IsFault g 0 z f in
    let S : CertFault → Type 0 = λ z. IsFault g 0 bytes z in
    inl (subst S (sym c) (subst R b (subst Q a y)))
