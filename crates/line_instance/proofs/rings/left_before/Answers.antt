use Rattle.std.proofs.Common.{◌≡◌, ◌∙◌, ℕ, List, Bool, [], false, ◌<◌, length, get_or, ap, subst, refl}
use Rattle.std.proofs.lemmas.List.{get_or_read}
use Rattle.line_instance.specs.Truths.{In, minus, IsEmpty, IsLeast}
use Rattle.line_instance.proofs.Members.{In-minus_parts}
use Rattle.line_instance.specs.inner.Inside.{LeadsIn}
use Rattle.line_instance.proofs.RingFacts.{none_left}
use Rattle.line_instance.proofs.rings.left_before.Goals as goal

row : (direct : List (List Bool)) (task : ℕ) (placed r m : List Bool) → task < length direct → r ≡ get_or direct task r
    → m ≡ minus r placed → m ≡ minus (get_or direct task []) placed
row direct task placed r m l e f = f ∙ ap (λ x. minus x placed) (get_or_read direct task r l e [])

parts : (direct : List (List Bool)) (task i : ℕ) (placed r m : List Bool) → task < length direct
    → r ≡ get_or direct task r → m ≡ minus r placed → IsLeast m i
    → LeadsIn direct i task × (get_or placed i false ≡ false)
parts direct task i placed r m l e f s =
    let P : List Bool → Type 0 = λ x. In x i in
    In-minus_parts (get_or direct task []) placed i (subst P (row direct task placed r m l e f) s.member)

pub unreachable-requires : goal.unreachable-requires
unreachable-requires c =
    let P : List Bool → Type 0 = λ x. IsEmpty x in
    let e = row c.args.direct.now c.args.task c.args.placed.now c.index-direct-task.result c.minus.result
    c.requires.task c.index-direct-task.is c.minus.ensures.value in
    c.requires.stuck.none c.args.task record {
      task = c.requires.task;
      new = c.requires.left;
      ready = none_left (get_or c.args.direct.now c.args.task []) c.args.placed.now
          (subst P e (c.in-None.ensures.none.0 refl));
    }

pub returns-clause-task : goal.returns-clause-task
returns-clause-task c =
    let p = parts c.args.direct.now c.args.task c.in-Some.i c.args.placed.now c.index-direct-task.result c.minus.result
    c.requires.task c.index-direct-task.is c.minus.ensures.value c.in-Some.ensures.some in
    (c.requires.rows.tasks c.in-Some.i c.args.task p.0).0

pub returns-clause-left : goal.returns-clause-left
returns-clause-left c = (parts c.args.direct.now c.args.task c.in-Some.i c.args.placed.now c.index-direct-task.result
    c.minus.result c.requires.task c.index-direct-task.is c.minus.ensures.value c.in-Some.ensures.some).1

pub returns-clause-arc : goal.returns-clause-arc
returns-clause-arc c = (parts c.args.direct.now c.args.task c.in-Some.i c.args.placed.now c.index-direct-task.result
    c.minus.result c.requires.task c.index-direct-task.is c.minus.ensures.value c.in-Some.ensures.some).0
