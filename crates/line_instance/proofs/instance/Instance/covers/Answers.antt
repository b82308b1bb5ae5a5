use Rattle.std.proofs.Common.{◌≡◌, ◌<◌, sym, subst, arith, ℕ, List, Bool, [], get_or}
use Rattle.std.specs.Prelude.{IsTrue, ◌↔◌}
use Rattle.std.proofs.lemmas.List.{get_or_read}
use Rattle.line_instance.specs.Truths.{In, meet, IsEmpty}
use Rattle.line_instance.proofs.Members.{In-meet, In-meet_parts}
use Rattle.line_instance.specs.Line.{Line, Covers, tasks, IsLine}
use Rattle.line_instance.specs.inner.Inside.{AreTurned}
use Rattle.line_instance.proofs.instance.Instance.covers.Goals as goal

-- nothing is after i and before j
covering : (line : Line) (after : List (List Bool)) (i j : ℕ) (a b m : List Bool) (empty : Bool) → IsLine line
    → AreTurned line.before after → i < tasks line → j < tasks line
    → b ≡ get_or line.before j b → a ≡ get_or after i a → In b i → m ≡ meet a b → (IsTrue empty ↔ IsEmpty m)
    → IsTrue empty ↔ Covers line i j
covering line after i j a b m empty s t l h e f there is test =
    let row : b ≡ get_or line.before j [] = get_or_read line.before j b (omega (arith, s.before_rows)) e [] in
    let later : a ≡ get_or after i [] = get_or_read after i a (omega (arith, s.before_rows, t.sets.many)) f [] in
    let at : (r q : List Bool) (k : ℕ) → r ≡ q → In r k → In q k =
    λ r q k g x. (let P : List Bool → Type 0 = λ y. In y k in subst P g x) in (
      λ y. record {
        before = at b (get_or line.before j []) i row there;
        between = λ k v w. test.0 y k (at (meet a b) m k (sym is)
            (In-meet a b k (at (get_or after i []) a k (sym later) ((t.same i k).0 v))
            (at (get_or line.before j []) b k (sym row) w)));
      },
      λ c. test.1 (λ k x.
          let p = In-meet_parts a b k (at m (meet a b) k is x) in
          c.between k ((t.same i k).1 (at a (get_or after i []) k later p.0))
          (at b (get_or line.before j []) k row p.1)),
    )

pub returns-then-has : goal.returns-then-has
returns-then-has c =
    let P : Line → Type 0 = λ line. IsTrue c.is_empty.result ↔ Covers line c.args.i c.args.j in
    let Q : ℕ → Line → Type 0 = λ k line. k < tasks line in
    let I : Line → Type 0 = λ line. c.args.i < tasks line in
    let J : Line → Type 0 = λ line. c.args.j < tasks line in
    subst P c.self.view_is (covering _ c.self.inside.after.items c.args.i c.args.j c.index.result.now
    c.index-before.result.now c.meet.result c.is_empty.result c.self.invariant.line_is c.self.invariant.turned
    (subst I (sym c.self.view_is) c.requires.first) (subst J (sym c.self.view_is) c.requires.then)
    c.index-before.ensures c.index.ensures (sym (c.if-has.ensures)) c.meet.ensures.value c.is_empty.ensures)
