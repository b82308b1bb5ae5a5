-- What the questions on tasks tell while a table is written.
use Rattle.std.proofs.Common.{◌≡◌, ◌↔◌, ℕ, ◌<◌, Bool, true, false, ◌&&◌, not, List, [], get_or, sym, ap, ◌∙◌, subst}
use Rattle.std.proofs.Common.{inl, inr}
use Rattle.std.proofs.lemmas.Bool.{and_from, and_parts, cases_Bool, false≢true}
use Rattle.line_instance.proofs.Sums.{same_truth}
use Rattle.line_instance.specs.Line.{Line, IsLine, Apart, Covers, is_apart, is_before, tasks}
use Rattle.line_instance.specs.Truths.{IsEmpty}
use Rattle.in2_reader.proofs.CollectedPairs.{first_task}
use Rattle.table_text.specs.TableText.{has_pair, is_direct, some_below}
use Rattle.table_text.proofs.Below.{none_of, of_some, some_of}

-- one task covers another exactly where it is directly before it
pub covers_direct : (line : Line) (i j : ℕ) (b : Bool) → IsLine line → (b ≡ true ↔ Covers line i j)
    → b ≡ is_direct line j i
covers_direct line i j b ok told =
    let between : ℕ → Bool = λ k. is_before line i k && is_before line k j in
    same_truth b (is_direct line j i)
    (λ e.
    let c = told.0 e in
    let none : some_below between (tasks line) ≡ false = none_of between (tasks line)
    (λ k l t. let q = and_parts (is_before line i k) (is_before line k j) t in c.between k q.0 q.1) in
    and_from (is_before line i j) (not (some_below between (tasks line))) c.before (ap not none))
    (λ d.
    let q = and_parts (is_before line i j) (not (some_below between (tasks line))) d in
    told.1 (record {
      before = q.0;
      between = λ k v w.
          let some : some_below between (tasks line) ≡ true =
          some_of between (tasks line) k (first_task line k j ok w)
          (and_from (is_before line i k) (is_before line k j) v w) in
          false≢true (ap not (sym some) ∙ q.1);
    }))

-- a task that others are apart from is one of a pair
pub pair_found : (line : Line) (j : ℕ) (row : List Bool) (empty : Bool) → IsLine line → j < tasks line
    → row ≡ get_or line.apart j [] → (empty ≡ true ↔ IsEmpty row) → empty ≡ false → has_pair line ≡ true
pair_found line j row empty ok l is told e = elim (cases_Bool (some_below (λ i. is_apart line i j) (tasks line))) [
  | inl some ↦ some_of (λ j. some_below (λ i. is_apart line i j) (tasks line)) (tasks line) j l some
  | inr none ↦
      let P : List Bool → Type 0 = IsEmpty in
      let all : IsEmpty (get_or line.apart j []) =
      λ i m. false≢true (sym none
      ∙ some_of (λ i. is_apart line i j) (tasks line) i ((ok.apart j l).tasks i m) m) in
      absurd (false≢true (sym e ∙ told.1 (subst P (sym is) all)))
]

-- no task was found to be one of a pair
pub no_pair_found : (line : Line) → ((j : ℕ) → j < tasks line → (i : ℕ) → Apart line i j → ⊥)
    → has_pair line ≡ false
no_pair_found line h = none_of (λ j. some_below (λ i. is_apart line i j) (tasks line)) (tasks line)
    (λ j l e. let m = of_some (λ i. is_apart line i j) (tasks line) e in h j l m.0 m.2)
