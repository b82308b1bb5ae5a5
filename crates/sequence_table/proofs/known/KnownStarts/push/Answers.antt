use Rattle.std.proofs.Common.{◌≡◌, ◌∙◌, ◌∷◌, ◌++◌, [], ℕ, nat_eq, List, Option, Some, length, sym, ap, subst, arith}
use Rattle.std.specs.HashMap.{get, Updates}
use Rattle.sequence_table.specs.Index.{key_of, IsIndexed}
use Rattle.sequence_table.proofs.IndexFacts.{indexed}
use Rattle.sequence_table.proofs.known.KnownStarts.push.Goals as goal

pub invariant_of-self-2 : goal.invariant_of-self-2
invariant_of-self-2 c =
    let known = c.self.inside in
    let all : List (List ℕ) = known.all.items in
    let new = c.insert.new.self in
    let key : c.key_of.result ≡ key_of c.args.starts = c.key_of.ensures ∙ ap key_of c.as_slice.ensures in
    let number : c.len-number.result ≡ length all =
    omega (arith, c.len-number.ensures, ap (λ (xs : List (List ℕ)). length xs) c.reserve.ensures.items) in
    let U : ℕ → Type 0 = λ k. Updates nat_eq known.latest new k (Some c.len-number.result) in
    let kept =
    indexed all c.args.starts known.latest new known.before.items c.in_ok-last.last c.len-number.result
    c.self.invariant number (c.in_ok-last.ensures.old ∙ ap (λ k. get nat_eq known.latest k) key)
    (subst U key c.in_ok-last.ensures.updates) in
    let B : List (Option ℕ) → Type 0 = λ xs. IsIndexed new xs (all ++ c.args.starts ∷ []) in
    let E : List (List ℕ) → Type 0 = λ xs. IsIndexed new c.push_reserved.new.self.items xs in
    subst E (sym (c.push_reserved-2.ensures.items ∙ ap (λ xs. xs ++ c.args.starts ∷ []) c.reserve.ensures.items))
    (subst B (sym (c.push_reserved.ensures.items ∙ ap (λ xs. xs ++ c.in_ok-last.last ∷ []) c.reserve-2.ensures.items))
    kept)
