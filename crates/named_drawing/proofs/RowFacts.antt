-- The segments of a station are of tasks that have a name.
use Rattle.std.proofs.Common.{◌≡◌, ℕ, suc, ◌+◌, ◌<◌, List, [], ◌∷◌, arith}
use Rattle.std.specs.Prelude.{All}
use Rattle.std.proofs.lemmas.List.Elements.{All-append, All-cons, All-nil}
use Rattle.line_instance.specs.Line.{Line, IsLine, IsRanked, tasks, time}
use Rattle.line_rules.specs.declared.types.Seatplace.{Seatplace}
use Rattle.line_rules.specs.declared.types.Side.TheVariants.{Front, Back}
use Rattle.line_drawing.specs.Segments.{backs_of, fronts_from, segments_at, tasks_at}
use Rattle.line_drawing.proofs.ListedTasks.{tasks_within}

module _ (line : Line) (c : ℕ) (P : ℕ → Type 0) where
  fronts_are : (sum : ℕ) (is : List ℕ) → All P is → All (λ s. P s.task) (fronts_from line c sum is)
  fronts_are sum [] h = All-nil (λ s. P s.task)
  fronts_are sum (i ∷ is) h = All-cons (λ s. P s.task) _ (fronts_from line c (sum + time line i) is)
      (h 0 0 (omega arith)) (fronts_are (sum + time line i) is (λ k d l. h (suc k) d (omega (arith, l))))

  backs_are : (is : List ℕ) → All P is → All (λ s. P s.task) (backs_of line c is)
  backs_are [] h = All-nil (λ s. P s.task)
  backs_are (i ∷ is) h = All-cons (λ s. P s.task) _ (backs_of line c is) (h 0 0 (omega arith))
      (backs_are is (λ k d l. h (suc k) d (omega (arith, l))))

-- each segment's task is one of so many as there are tasks
pub segments_named : (line : Line) → IsLine line → IsRanked line → (places : List Seatplace) (k c n : ℕ)
    → n ≡ tasks line → All (λ s. s.task < n) (segments_at line c places k)
segments_named line ok ranked places k c n many =
    let P : ℕ → Type 0 = λ i. i < n in
    All-append (λ s. s.task < n) (fronts_from line c 0 (tasks_at line places Front k))
    (backs_of line c (tasks_at line places Back k))
    (fronts_are line c P 0 (tasks_at line places Front k)
    (λ p d l. omega (arith, many, tasks_within line ok ranked places Front k p d l)))
    (backs_are line c P (tasks_at line places Back k)
    (λ p d l. omega (arith, many, tasks_within line ok ranked places Back k p d l)))
