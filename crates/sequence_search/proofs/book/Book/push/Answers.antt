use Rattle.std.proofs.Common.{◌≡◌, ◌∙◌, ◌∷◌, ◌++◌, [], ℕ, nat_eq, List, Option, Some, length, sym, ap, subst, arith}
use Rattle.std.specs.HashMap.{get, Updates}
use Rattle.sequence_values.specs.declared.types.SeqEntry.{SeqEntry}
use Rattle.sequence_search.specs.Index.{key_of, IsIndexed}
use Rattle.sequence_search.proofs.IndexFacts.{indexed}
use Rattle.sequence_search.proofs.book.Book.push.Goals as goal

pub invariant_of-self-2 : goal.invariant_of-self-2
invariant_of-self-2 c =
    let book = c.self.inside in
    let es : List SeqEntry = book.entries.items in
    let new = c.insert.new.self in
    let key : c.key_of.result ≡ key_of c.args.entry.rem = c.key_of.ensures ∙ ap key_of c.as_slice.ensures in
    let number : c.len-number.result ≡ length es =
    omega (arith, c.len-number.ensures, ap (λ (xs : List SeqEntry). length xs) c.reserve.ensures.items) in
    let U : ℕ → Type 0 = λ k. Updates nat_eq book.latest new k (Some c.len-number.result) in
    let kept =
    indexed es c.args.entry book.latest new book.before.items c.in_ok-last.last c.len-number.result c.self.invariant
    number (c.in_ok-last.ensures.old ∙ ap (λ k. get nat_eq book.latest k) key)
    (subst U key c.in_ok-last.ensures.updates) in
    let B : List (Option ℕ) → Type 0 = λ xs. IsIndexed new xs (es ++ c.args.entry ∷ []) in
    let E : List SeqEntry → Type 0 = λ xs. IsIndexed new c.push_reserved.new.self.items xs in
    subst E (sym (c.push_reserved-2.ensures.items ∙ ap (λ xs. xs ++ c.args.entry ∷ []) c.reserve.ensures.items))
    (subst B (sym (c.push_reserved.ensures.items ∙ ap (λ xs. xs ++ c.in_ok-last.last ∷ []) c.reserve-2.ensures.items))
    kept)
