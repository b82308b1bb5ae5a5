use Rattle.std.proofs.Common.{◌≡◌, ℕ, suc, ◌+◌, ◌-◌, ◌*◌, ◌<◌, ◌≤◌, Bool, true, false, cond, eqb, max, List, inl, inr}
use Rattle.std.proofs.Common.{rules, subst, arith}
use Rattle.std.specs.Prelude.{nat_lt}
use Rattle.std.proofs.lemmas.Bool.{cases_lt}
use Rattle.std.proofs.lemmas.Bool.Decides.{nat_tests}
use Rattle.std.proofs.Math.Nat.{div-lt_iff_lt-mul}
use Rattle.line_instance.specs.Truths.{count}
use Rattle.line_instance.specs.Line.{Line, IsTaskSet, has}
use Rattle.line_instance.specs.Sums.{sum_where, count_where}
use Rattle.line_rules.specs.Bounds.{up, lm1, lm2, lm3, chained, bound}
use Rattle.line_rules.specs.declared.types.LineKind.{LineKind}
use Rattle.tests_line.proofs.books.entry_of.Goals as goal

-- what is more than r times b is more than r, divided by b and rounded up
up_more : (r b a : ℕ) → 1 ≤ b → r * b < a → r < up a b
up_more r b a o l = elim (cases_lt r (up a b)) [
  | inl k ↦ k
  | inr k ↦ (let m : a + (b - 1) < suc r * b = (div-lt_iff_lt-mul {k = b} {x = a + (b - 1)} {y = suc r} o).0
      (omega (arith, k)) in absurd (omega (arith, m, l)))
]

over : (most l x : ℕ) (b : Bool) → most ≤ 1024 → most < l → most < cond b 1025 (max 1 (max l x))
over most l x true s g = omega arith
over most l x false s g = omega arith

some_over : (n most x : ℕ) → 1 ≤ n → most < x → most < cond (eqb n 0) 0 x
some_over n most x o l = let t : eqb n 0 ≡ false = grind (arith, nat_tests, o) in rw t l

-- a set that has more time than `most` stations hold has a bound above that
big : (kind : LineKind) (line : Line) (c : ℕ) (R : List Bool) (most : ℕ) → 1 ≤ c → most ≤ 1024 → 1 ≤ count R
    → most * c < sum_where (has R) line.times → most < bound kind line c R
unfolding bound lm1
big kind line c R most o s n l =
    some_over (count R) most (cond (nat_lt 0 (count_where (λ t. nat_lt c t) (has R) line.times)) 1025
    (max 1 (max (lm1 line c R) (max (lm2 line c R) (max (lm3 line c R) (chained kind line c R)))))) n
    (over most (lm1 line c R) (max (lm2 line c R) (max (lm3 line c R) (chained kind line c R)))
    (nat_lt 0 (count_where (λ t. nat_lt c t) (has R) line.times)) s
    (up_more most c (sum_where (has R) line.times) o l))

pub returns : goal.returns
returns c =
    let P : ℕ → Type 0 = λ z. z * c.args.cycle < c.sum.result in
    let Q : ℕ → Type 0 = λ z. c.args.most * c.args.cycle < z in
    let long : c.args.most * c.args.cycle < sum_where (has c.args.set) c.args.inst.now.times =
    subst Q c.sum.ensures.sum (subst P c.from.ensures c.if-sum-from.false) in
    let some : 1 ≤ count c.args.set = omega (arith, c.count.ensures.value, c.if-count-eq0.false) in
    let few : c.args.most ≤ 1024 = omega (arith, c.capacity-truths.ensures.value, c.if-most-truths.false) in
    let cycle : 1 ≤ c.args.cycle = omega (arith, c.if-cycle-eq0.false) in
    let set : IsTaskSet c.args.inst.now c.args.set = search rules in
    record {
      follows = λ kind es. record {
        set = set;
        cycle = cycle;
        by = big kind c.args.inst.now c.args.cycle c.args.set c.args.most cycle few some long;
      };
      range = record { most = few; cycle = record { some = cycle; limit = omega arith } };
    }
