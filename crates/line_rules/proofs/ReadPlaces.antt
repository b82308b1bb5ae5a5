-- Places read from a list, and what a test of them says of the definition.
use Rattle.std.proofs.Common.{◌≡◌, ℕ, ◌<◌, ◌≤◌, List, Some, sym, subst}
use Rattle.std.specs.List.{slice_get}
use Rattle.std.proofs.lemmas.Option.{get_or_from_slice_get}
use Rattle.line_instance.specs.Line.{Line, Before, tasks}
use Rattle.line_rules.specs.Balance.{Keeps, seat}
use Rattle.line_rules.specs.Checked.{Breaks}
use Rattle.line_rules.specs.declared.types.LineKind.{LineKind}
use Rattle.line_rules.specs.declared.types.Seatplace.{Seatplace}
use Rattle.line_rules.specs.declared.types.Side.TheVariants.{Front}
use Rattle.line_rules.specs.declared.types.Balance.{Balance as Assignment}
use Rattle.line_rules.proofs.All.{In-all}

-- the place that a list gives is the task's
pub seat_read : (ps : List Seatplace) (i : ℕ) (p : Seatplace) → slice_get ps i ≡ Some p → p ≡ seat ps i
seat_read ps i p e = sym (get_or_from_slice_get ps i p (record { station = 0; side = Front }) e)

module _ (kind : LineKind) (line : Line) (b : Assignment) (small : tasks line ≤ 1024) (i j : ℕ) (p q : Seatplace)
    (pi : slice_get b.place i ≡ Some p) (qj : slice_get b.place j ≡ Some q) where
  kept : Keeps kind (seat b.place i) (seat b.place j) → Keeps kind p q
  kept k =
      let P : Seatplace → Type 0 = λ s. Keeps kind s (seat b.place j) in
      let Q : Seatplace → Type 0 = λ s. Keeps kind p s in
      subst Q (sym (seat_read b.place j q qj)) (subst P (sym (seat_read b.place i p pi)) k)

  pub breaks : i < tasks line → j < tasks line → Before line i j → (Keeps kind p q → ⊥) → Breaks kind line b i j
  breaks li lj before n = record {
    first = In-all line i small li;
    second = In-all line j small lj;
    before = before;
    broken = λ k. n (kept k);
  }

  pub keeps : Keeps kind p q → Keeps kind (seat b.place i) (seat b.place j)
  keeps k =
      let P : Seatplace → Type 0 = λ s. Keeps kind s q in
      let Q : Seatplace → Type 0 = λ s. Keeps kind (seat b.place i) s in
      subst Q (seat_read b.place j q qj) (subst P (seat_read b.place i p pi) k)
