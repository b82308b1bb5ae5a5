use Rattle.std.proofs.Common.{◌++◌, sym, subst, arith, ℕ, List, Bool, [], length, get_or, take, drop}
use Rattle.std.specs.Prelude.{◌↔◌}
use Rattle.std.proofs.lemmas.List.{take_at}
use Rattle.line_instance.specs.Truths.{In}
use Rattle.line_instance.specs.Line.{Line, tasks}
use Rattle.line_instance.specs.Walks.{AreArcs, ArePairs, IsGiven}
use Rattle.line_instance.specs.inner.Inside.{IsSound, ArePaired, ArePartners, of_rows}
use Rattle.line_instance.specs.declared.partners.Kept.{Kept}
use Rattle.line_instance.proofs.InstanceFacts.{parted}
use Rattle.line_instance.proofs.instance.Instance.set_apart.Goals as goal

pub part-requires-clause-pairs : goal.part-requires-clause-pairs
part-requires-clause-pairs c =
    let P : Line → Type 0 = λ line. ArePairs (tasks line) c.args.pairs.now in
    let Q : List ℕ → Type 0 = λ times. AreArcs (length times) c.args.pairs.now in
    let h = subst P (sym c.self.view_is) c.requires in
    subst Q (sym c.deref.ensures.value) (λ k l. (h k l).0)

pub invariant_of-self : goal.invariant_of-self
invariant_of-self c =
    let times : List ℕ = c.self.inside.times.items in
    let before : List (List Bool) = c.self.inside.before.items in
    let apart : List (List Bool) = c.part.new.apart in
    let partners : List Kept = c.part.new.partners in
    let P : Line → Type 0 = λ line. ArePairs (tasks line) c.args.pairs.now in
    let T : List ℕ → Type 0 = λ ts. ArePaired (length ts) c.args.pairs.now apart in
    let A : List ℕ → Type 0 = λ ts. ArePartners (of_rows ts c.deref-2.result.now apart) partners in
    let B : List (List Bool) → Type 0 = λ rows. ArePartners (of_rows times rows apart) partners in
    let S : List Kept → Type 0 = λ ps. IsSound c.self.inside.after.items c.self.inside.ranks.items ps
    (record { times = times; before = before; apart = apart; order = c.self.inside.order.items }) in
    let R : List (List Bool) → Type 0 = λ rows. IsSound c.self.inside.after.items c.self.inside.ranks.items
    (take c.self.inside.partners.len (partners ++ drop (length partners) c.self.inside.partners.items))
    (record { times = times; before = before; apart = rows; order = c.self.inside.order.items }) in
    subst R (sym (take_at apart (drop (length apart) c.self.inside.apart.items) c.self.inside.apart.len
    (omega (arith, c.part.auto.apart, c.deref_mut.ensures.len))))
    (subst S (sym (take_at partners (drop (length partners) c.self.inside.partners.items) c.self.inside.partners.len
    (omega (arith, c.part.auto.partners, c.deref_mut-2.ensures.len))))
    (parted c.self.inside.after.items c.self.inside.ranks.items c.self.inside.partners.items partners times before
    c.self.inside.apart.items apart c.self.inside.order.items c.args.pairs.now
    (subst P (sym c.self.view_is) c.requires) c.self.invariant (subst T c.deref.ensures.value c.part.ensures.apart)
    (subst B c.deref-2.ensures.value (subst A c.deref.ensures.value c.part.ensures.partners))))

pub returns-clause-apart : goal.returns-clause-apart
returns-clause-apart c = λ i j.
    let apart : List (List Bool) = c.part.new.apart in
    let R : List (List Bool) → Type 0 = λ rows. In (get_or rows j []) i ↔ IsGiven c.args.pairs.now i j in
    subst R (sym (take_at apart (drop (length apart) c.self.inside.apart.items) c.self.inside.apart.len
    (omega (arith, c.part.auto.apart, c.deref_mut.ensures.len))))
    (c.part.ensures.apart.only i j, c.part.ensures.apart.there i j)
