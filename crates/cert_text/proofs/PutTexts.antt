-- Texts that are put one behind the other.
use Rattle.std.proofs.Common.{◌≡◌, ℕ, Bool, true, false, List, [], ◌++◌, take, length, refl, sym, ◌∙◌, ap, subst, arith}
use Rattle.std.proofs.Common.{append_assoc, min}
use Rattle.std.proofs.lemmas.List.{append-nil, take-append-le, take_all}
use Rattle.std.proofs.lemmas.Bool.{false≢true, false_from_ne_true}
use Rattle.line_io.specs.Outside.{Rises}
use Rattle.cert_lines.specs.Numbers.{number_text}
use Rattle.cert_text.specs.Sent.{Sent, IsFront, Adds, Puts}

-- a prefix of a text is a prefix of a longer one
pub front_of_more : (front a b : List ℕ) → IsFront front a → IsFront front (a ++ b)
front_of_more front a b f = (
  min f.0 (length a),
  f.1 ∙ clipped f.0 a
      ∙ sym (take-append-le (min f.0 (length a)) a b (omega arith)),
)
  where
    clipped : (k : ℕ) (a : List ℕ) → take k a ≡ take (min k (length a)) a
    clipped k a = grind (arith, take_all)

pub puts_both : {B : Type 0} (a b c : Sent B) (s t : List ℕ) → Adds a s b → Adds b t c → Adds a (s ++ t) c
puts_both a b c s t p q = record {
  before = λ g. p.before (q.before g);
  all = λ g. q.all g ∙ ap (λ x. x ++ t) (p.all (q.before g)) ∙ append_assoc a.shown s t;
  front = λ g f. middle b.good refl g f;
  stays = λ f. q.stays (false_from_ne_true b.good (λ g. false≢true (sym f ∙ p.before g))) ∙ p.stays f;
}
  where
    middle : (x : Bool) → b.good ≡ x → a.good ≡ true → c.good ≡ false → IsFront c.kept (a.shown ++ (s ++ t))
    middle true e g f =
        let P : List ℕ → Type 0 = λ w. IsFront c.kept w in
        subst P (ap (λ x. x ++ t) (p.all e) ∙ append_assoc a.shown s t) (q.front e f)
    middle false e g f =
        let P : List ℕ → Type 0 = λ w. IsFront w (a.shown ++ (s ++ t)) in
        let Q : List ℕ → Type 0 = λ w. IsFront b.kept w in
        subst P (sym (q.stays e)) (subst Q (append_assoc a.shown s t)
        (front_of_more b.kept (a.shown ++ s) t (p.front g e)))

pub puts_none : {B : Type 0} (a : Sent B) → Adds a [] a
puts_none a = record {
  before = λ g. g;
  all = λ g. sym (append-nil a.shown);
  front = λ g f. absurd (false≢true (sym f ∙ g));
  stays = λ f. refl;
}

-- nothing is put
pub nothing : {B : Type 0} (told : Type 0) (a : Sent B) (s : List ℕ) → s ≡ [] → Puts told a s a
nothing told a s e = record {
  base = refl;
  count = omega arith;
  fault = λ g f. absurd (false≢true (sym f ∙ g));
  adds = λ t. let P : List ℕ → Type 0 = λ x. Adds a x a in subst P (sym e) (puts_none a);
}

-- the same text, written otherwise
pub puts_as : {B : Type 0} (told : Type 0) (a b : Sent B) (s t : List ℕ) → Puts told a s b → t ≡ s → Puts told a t b
puts_as told a b s t p e = record {
  base = p.base;
  count = p.count;
  fault = p.fault;
  adds = λ k. let P : List ℕ → Type 0 = λ x. Adds a x b in subst P (sym e) (p.adds k);
}

-- a text is put behind one that was put
pub behind : {B : Type 0} (told : Type 0) (a b c : Sent B) (s t : List ℕ) → Puts told a s b → Puts told b t c
    → Puts told a (s ++ t) c
behind told a b c s t p q = record {
  base = q.base ∙ p.base;
  count = omega (arith, p.count, q.count);
  fault = risen b.good refl;
  adds = λ k. puts_both a b c s t (p.adds k) (q.adds k);
}
  where
    risen : (x : Bool) → b.good ≡ x → a.good ≡ true → c.good ≡ false → Rises a.faults c.faults
    risen true e g f = omega (arith, p.count, q.fault e f)
    risen false e g f = omega (arith, p.fault g e, q.count)

pub puts : {B : Type 0} (told : Type 0) (a b c : Sent B) (s t u : List ℕ) → Puts told a s b → Puts told b t c
    → u ≡ s ++ t → Puts told a u c
puts told a b c s t u p q e = puts_as told a c (s ++ t) u (behind told a b c s t p q) e

-- a text behind a text
infixr 5 ◌▹◌
pub ◌▹◌ : {B : Type 0} {told : Type 0} {a b c : Sent B} {s t : List ℕ} → Puts told a s b → Puts told b t c
    → Puts told a (s ++ t) c
p ▹ q = behind _ _ _ _ _ _ p q

-- a number that is another number
pub number_as : {B : Type 0} {told : Type 0} {a b : Sent B} {m : ℕ} (n : ℕ) → Puts told a (number_text m) b → m ≡ n
    → Puts told a (number_text n) b
number_as n p e = puts_as _ _ _ _ _ p (ap number_text (sym e))
