-- Old entries are taken in one way.
use Rattle.std.proofs.Common.{◌≡◌, ℕ, ◌+◌, List, [], ◌∷◌, refl, sym, ap, ◌∙◌, subst, inl, inr, arith}
use Rattle.std.proofs.lemmas.Option.{same_Some}
use Rattle.line_instance.specs.Line.{Line}
use Rattle.line_rules.proofs.Monotone.{entries_same}
use Rattle.line_rules.specs.Units.{UnitsBy}
use Rattle.line_rules.specs.declared.types.Entry.{Entry}
use Rattle.lemma_core.specs.Books.{BookView}
use Rattle.warm_book.specs.declared.warming.Warmed.TheVariants as warmed
use Rattle.warm_book.specs.Warm.{Taking, IsKept, Takes, TakesAll, IsWarmed, keeping, untaken}

units_once : (line : Line) (e : Entry) (a b : ℕ) → UnitsBy line e e.why a → UnitsBy line e e.why b → a ≡ b
units_once line e a b x y =
    omega (arith, entries_same line (e ∷ []) (a + 0) (b + 0) (a, 0, (x, refl, refl)) (b, 0, (y, refl, refl)))

kept_once : (room : ℕ) (t : Taking) (old a b : Entry) (m n : ℕ) → IsKept room t old a m → IsKept room t old b n
    → keeping t a m ≡ keeping t b n
kept_once room t old a b m n k l =
    let same : a ≡ b = same_Some a b (sym k.cites ∙ l.cites) in
    let P : Entry → Type 0 = λ z. UnitsBy t.book.about.line z z.why m in
    let as_many : m ≡ n = units_once t.book.about.line b m n (subst P same k.counted) l.counted in
    ap (λ (z : Entry). keeping t z m) same ∙ ap (λ (z : ℕ). keeping t b z) as_many

taken_once : (room : ℕ) (t : Taking) (old : Entry) (a b : Taking) → Takes room t old a → Takes room t old b → a ≡ b
taken_once room t old a b (inl k) (inl l) =
    k.2.1 ∙ (kept_once room t old k.0 l.0 k.1 l.1 k.2.0 l.2.0 ∙ sym l.2.1)
taken_once room t old a b (inl k) (inr d) = absurd (d.0 k.0 k.1 k.2.0)
taken_once room t old a b (inr d) (inl k) = absurd (d.0 k.0 k.1 k.2.0)
taken_once room t old a b (inr d) (inr e) = d.1 ∙ sym e.1

all_once : (room : ℕ) (t : Taking) (olds : List Entry) (a b : Taking) → TakesAll room t olds a → TakesAll room t olds b
    → a ≡ b
all_once room t [] a b h g = sym h ∙ g
all_once room t (old ∷ olds) a b h g =
    let P : Taking → Type 0 = λ z. TakesAll room z olds a in
    all_once room g.0 olds a b (subst P (taken_once room t old h.0 g.0 h.1.0 g.1.0) h.1.1) g.1.1

-- whoever takes in all old entries comes to the same book, with as many of them
pub one_warmed : (room : ℕ) (b : BookView) (olds : List Entry) (end : Taking) → TakesAll room (untaken b) olds end
    → (other : BookView) (k : ℕ) → IsWarmed room b olds (warmed.Done other k) → (other ≡ end.book) × (k ≡ end.kept)
one_warmed room b olds end h other k w =
    let same : w.0 ≡ end = all_once room (untaken b) olds w.0 end w.1.0 h in (
      sym w.1.1 ∙ ap (λ (z : Taking). z.book) same,
      sym w.1.2 ∙ ap (λ (z : Taking). z.kept) same,
    )
