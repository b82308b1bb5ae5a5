use Rattle.std.proofs.Common.{◌≡◌, ◌+◌, ℕ, List, Bool, ◌<◌, ◌≤◌, length, subst, arith}
use Rattle.line_instance.specs.Walks.{at}
use Rattle.line_instance.specs.inner.Inside.{IsAppended}
use Rattle.line_instance.proofs.RingFacts.{ring_is}
use Rattle.line_instance.proofs.rings.ring_of.Goals as goal

pub returns : goal.returns
returns c =
    let direct : List (List Bool) = c.args.direct.now in
    let path : List ℕ = c.in_ok-back.back.path.items in
    let from : ℕ = c.place_of-from.result in
    let cut : ℕ = c.least_from-least.result in
    let one : c.deref.result.now ≡ path = c.deref.ensures.value in
    let two : c.deref-2.result.now ≡ path = c.deref-2.ensures.value in
    let three : c.deref-3.result.now ≡ path = c.deref-3.ensures.value in
    let four : c.deref-4.result.now ≡ path = c.deref-4.ensures.value in
    let S : List ℕ → Type 0 = λ p. at p from ≡ c.in_ok-back.back.again in
    let L : List ℕ → Type 0 = λ p. (k : ℕ) → from ≤ k → k < length p → at p cut ≤ at p k in
    let H : List ℕ → Type 0 = λ p. cut < length p in
    let A : List ℕ → Type 0 = λ p. IsAppended c.new-items.result.items p from (cut + 1) c.append_back.new.list.items in
    let O : List ℕ → Type 0 = λ o. IsAppended o path from (cut + 1) c.append_back.new.list.items in
    let B : List ℕ → Type 0 = λ p. IsAppended c.append_back.new.list.items p (cut + 1) c.len.result
    c.append_back-2.new.list.items in
    let T : ℕ → Type 0 = λ t. IsAppended c.append_back.new.list.items path (cut + 1) t c.append_back-2.new.list.items in
    ring_is direct path c.in_ok-back.back.again from cut c.append_back.new.list.items c.append_back-2.new.list.items
    c.in_ok-back.ensures
    c.least_from-least.ensures.low (subst H two c.least_from-least.ensures.high)
    (subst S one c.place_of-from.ensures.task) (subst L two c.least_from-least.ensures.least)
    (subst O c.new-items.ensures.items (subst A three c.in_ok-append_back.ensures))
    (subst T (omega arith) (subst B four c.in_ok-append_back-2.ensures))
