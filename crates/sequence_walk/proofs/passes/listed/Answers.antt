use Rattle.std.proofs.Common.{◌≡◌, ◌++◌, ◌∷◌, [], ◌≤◌, ℕ, List, length, length-append, sym, ap, subst, arith}
use Rattle.std.specs.Prelude.{All}
use Rattle.sequence_walk.proofs.StateFacts.{all_push}
use Rattle.sequence_walk.proofs.passes.listed.Goals as goal

pub loop-m-preserved : goal.loop-m-preserved
loop-m-preserved c =
    let pushed : c.push.new.self.items ≡ c.loop-m.list.items ++ c.min.result ∷ [] = c.in_ok-push.ensures.items in
    let P : List ℕ → Type 0 = λ xs. All (λ a. a ≤ 100000000000000) xs in
    record {
      many = omega (
        arith,
        c.loop-m.invariant.many,
        length-append c.loop-m.list.items (c.min.result ∷ []),
        ap (λ (xs : List ℕ). length xs) pushed,
      );
      each = subst P (sym pushed) (all_push 100000000000000 c.min.result c.loop-m.list.items (omega arith)
          c.loop-m.invariant.each);
    }
