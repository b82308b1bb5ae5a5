-- What follows from a balance: one of a part of its tasks, in more stations, at a greater cycle.
use Rattle.std.proofs.Common.{◌≡◌, ℕ, ◌≤◌, Bool, true, ◌&&◌, nat_eq, List, arith}
use Rattle.line_instance.specs.Truths.{IsSubset}
use Rattle.line_instance.specs.Line.{Line, has}
use Rattle.line_rules.specs.Balance.{IsBalance, Holds}
use Rattle.line_rules.specs.declared.types.LineKind.{LineKind}
use Rattle.line_rules.specs.declared.types.Seatplace.{Seatplace}
use Rattle.line_instance.proofs.Sums.{sum_where-le}
use Rattle.std.proofs.lemmas.Bool.{and_parts, and_from}

module _ (kind : LineKind) (line : Line) (c c' : ℕ) (R R' : List Bool) (r r' : ℕ) (place : ℕ → Seatplace) where
  pub restricted : c ≤ c' → r ≤ r' → IsSubset R' R → IsBalance kind line c R r place
      → IsBalance kind line c' R' r' place
  restricted lc lr sub b = record {
    first = λ i m. b.first i (sub i m);
    last = λ i m. omega (arith, b.last i (sub i m));
    keeps = λ i j m n w. b.keeps i j (sub i m) (sub j n) w;
    parted = λ i j m n a. b.parted i j (sub i m) (sub j n) a;
    fits = λ s. omega (
      arith,
      b.fits s,
      sum_where-le (λ i. has R' i && nat_eq (place i).station s) (λ i. has R i && nat_eq (place i).station s)
          (λ i e. let p : (has R' i ≡ true) × (nat_eq (place i).station s ≡ true) =
          and_parts (has R' i) (nat_eq (place i).station s) e in
          and_from (has R i) (nat_eq (place i).station s) (sub i p.0) p.1) line.times,
    );
  }

-- what holds of fewer tasks, more stations and a greater cycle holds of R
pub holds_more : (kind : LineKind) (line : Line) (c c' : ℕ) (R R' : List Bool) (r r' : ℕ) → c ≤ c' → r ≤ r'
    → IsSubset R' R → Holds kind line c' R' r' → Holds kind line c R r
holds_more kind line c c' R R' r r' lc lr sub h place b = h place
    (restricted kind line c c' R R' r r' place lc lr sub b)
