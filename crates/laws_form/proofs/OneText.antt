-- A line has one list of covering pairs, so one canonical text in each form.
use Rattle.std.proofs.Common.{◌≡◌, ◌∙◌, ℕ, zero, suc, ◌+◌, ◌<◌, List, [], ◌∷◌, length, Option, refl, sym, ap, subst}
use Rattle.std.proofs.Common.{inl, inr, arith}
use Rattle.std.proofs.lemmas.List.{get_or_read}
use Rattle.line_instance.specs.declared.arcs.Prec.{Prec}
use Rattle.line_instance.specs.Line.{Line}
use Rattle.line_instance.specs.Walks.{Leads, arc_at}
use Rattle.in2_reader.specs.Written.{AreCovers, IsIn2Text, StandsBefore, in2_text}
use Rattle.alb_reader.specs.Written.{IsAlbText, alb_text}
use Rattle.laws_form.specs.Laws.{EveryLineHasOneText}

abbrev Rises : List Prec → Type 0
Rises ps = (k : ℕ) → k + 1 < length ps → StandsBefore (arc_at ps k) (arc_at ps (k + 1))

before_on : (a b c : Prec) → StandsBefore a b → StandsBefore b c → StandsBefore a c
before_on a b c (inl h) (inl g) = inl (omega (arith, h, g))
before_on a b c (inl h) (inr g) = inl (omega (arith, h, g.0))
before_on a b c (inr h) (inl g) = inl (omega (arith, h.0, g))
before_on a b c (inr h) (inr g) = inr (h.0 ∙ g.0, omega (arith, h.1, g.1))

not_itself : (a : Prec) → StandsBefore a a → ⊥
not_itself a (inl h) = omega (arith, h)
not_itself a (inr h) = omega (arith, h.1)

rest_rises : (p : Prec) (ps : List Prec) → Rises (p ∷ ps) → Rises ps
rest_rises p ps up k l =
    let P : ℕ → Type 0 = λ m. StandsBefore (arc_at ps k) (arc_at (p ∷ ps) m) in
    let next : suc k + 1 ≡ suc (k + 1) = omega arith in
    subst P next (up (suc k) (omega (arith, l)))

-- the first pair stands before each other one
first_before : (p : Prec) (ps : List Prec) → Rises (p ∷ ps) → (k : ℕ) → k < length ps → StandsBefore p (arc_at ps k)
first_before p [] up k l = absurd (omega (arith, l))
first_before p (q ∷ ps) up zero l = up 0 (omega arith)
first_before p (q ∷ ps) up (suc k) l =
    before_on p q (arc_at ps k) (up 0 (omega arith))
    (first_before q ps (rest_rises p (q ∷ ps) up) k (omega (arith, l)))

-- each pair of the one list is in the other
abbrev Within : List Prec → List Prec → Type 0
Within ps qs = (k : ℕ) → k < length ps → (m : ℕ) × (m < length qs) × (arc_at qs m ≡ arc_at ps k)

-- so the first pairs are the same
same_first : (p q : Prec) (ps qs : List Prec) → Rises (p ∷ ps) → Rises (q ∷ qs) → Within (p ∷ ps) (q ∷ qs)
    → Within (q ∷ qs) (p ∷ ps) → p ≡ q
same_first p q ps qs up also there back =
    let x = there 0 (omega arith) in
    let y = back 0 (omega arith) in
    by x.0 x.1 x.2 y.0 y.1 y.2
  where
    by : (m : ℕ) → m < length (q ∷ qs) → arc_at (q ∷ qs) m ≡ p → (k : ℕ) → k < length (p ∷ ps)
        → arc_at (p ∷ ps) k ≡ q → p ≡ q
    by zero l e k h f = sym e
    by (suc m) l e zero h f = f
    by (suc m) l e (suc k) h f =
        let P : Prec → Type 0 = λ x. StandsBefore q x in
        let Q : Prec → Type 0 = λ x. StandsBefore p x in
        absurd (not_itself p (before_on p q p (subst Q f (first_before p ps up k (omega (arith, h))))
        (subst P e (first_before q qs also m (omega (arith, l))))))

rest_within : (p q : Prec) (ps qs : List Prec) → Rises (p ∷ ps) → p ≡ q → Within (p ∷ ps) (q ∷ qs) → Within ps qs
rest_within p q ps qs up same there k l =
    let x = there (suc k) (omega (arith, l)) in
    by x.0 x.1 x.2
  where
    by : (m : ℕ) → m < length (q ∷ qs) → arc_at (q ∷ qs) m ≡ arc_at ps k
        → (m : ℕ) × (m < length qs) × (arc_at qs m ≡ arc_at ps k)
    by zero h e =
        let P : Prec → Type 0 = λ x. StandsBefore p x in
        absurd (not_itself p (subst P (sym (same ∙ e)) (first_before p ps up k l)))
    by (suc m) h e = (m, omega (arith, h), e)

same_pairs : (ps qs : List Prec) → Rises ps → Rises qs → Within ps qs → Within qs ps → ps ≡ qs
same_pairs [] [] up also there back = refl
same_pairs [] (q ∷ qs) up also there back = (let h = (back 0 (omega arith)).1 in absurd (omega (arith, h)))
same_pairs (p ∷ ps) [] up also there back = (let h = (there 0 (omega arith)).1 in absurd (omega (arith, h)))
same_pairs (p ∷ ps) (q ∷ qs) up also there back =
    let first : p ≡ q = same_first p q ps qs up also there back in
    ap (λ x. x ∷ ps) first
    ∙ ap (λ xs. q ∷ xs) (same_pairs ps qs (rest_rises p ps up) (rest_rises q qs also)
    (rest_within p q ps qs up first there) (rest_within q p qs ps also (sym first) back))

covers_within : (line : Line) (ps qs : List Prec) → AreCovers line ps → AreCovers line qs → Within ps qs
covers_within line ps qs a b k l =
    let is : Prec = arc_at ps k in
    let led : Leads qs is.first is.«then» = b.all is.first is.«then» (a.right k l) in
    (led.0, led.1, sym (get_or_read qs led.0 is led.1 (sym led.2) (record { first = 0; «then» = 0 })))

pub one_covers : (line : Line) (ps qs : List Prec) → AreCovers line ps → AreCovers line qs → ps ≡ qs
one_covers line ps qs a b =
    same_pairs ps qs a.rises b.rises (covers_within line ps qs a b) (covers_within line qs ps b a)

pub one_in2_text : (line : Line) (a b : List ℕ) → IsIn2Text line a → IsIn2Text line b → a ≡ b
one_in2_text line a b s t =
    s.text ∙ ap (in2_text line.times) (one_covers line s.ps t.ps s.covers t.covers) ∙ sym t.text

pub one_alb_text : (line : Line) (cycle : Option ℕ) (a b : List ℕ) → IsAlbText line cycle a → IsAlbText line cycle b
    → a ≡ b
one_alb_text line cycle a b s t =
    s.text ∙ ap (λ ps. alb_text line ps cycle) (one_covers line s.ps t.ps s.covers t.covers) ∙ sym t.text

pub one_text : EveryLineHasOneText
one_text = record { in2 = one_in2_text; alb = one_alb_text }
