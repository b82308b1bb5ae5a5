use Rattle.std.proofs.Common.{◌≡◌, ◌∙◌, ap, sym, arith, List, Bool, [], true, set, length, subst, get_or, refl}
use Rattle.std.proofs.lemmas.List.{get_or_read}
use Rattle.line_instance.specs.Truths.{union}
use Rattle.line_instance.proofs.JoinedRows.{IsJoining, none_joined, one_joined, all_joined}
use Rattle.line_instance.proofs.rows.joined_row.Goals as goal

pub loop-j-init : goal.loop-j-init
loop-j-init c =
    let P : List Bool → Type 0 = λ r. IsJoining c.args.direct.now c.args.rows.now r 1024 in
    subst P (sym c.empty-row.ensures.value) (none_joined c.args.direct.now c.args.rows.now
    (λ j m. omega (arith, c.requires.few, c.requires.tasks j m)))

pub loop-j-preserved : goal.loop-j-preserved
loop-j-preserved c =
    let g = c.in-Some.ensures.some in
    let new : c.index-rows-j.result ≡ get_or c.args.rows.now c.in-Some.j [] =
    get_or_read c.args.rows.now c.in-Some.j c.index-rows-j.result (c.requires.tasks c.in-Some.j g.member)
    c.index-rows-j.is [] in
    let u : c.union.result ≡ union c.loop-j.row (get_or c.args.rows.now c.in-Some.j []) =
    c.union.ensures.value ∙ ap (union c.loop-j.row) new in
    let long : length (union c.loop-j.row (get_or c.args.rows.now c.in-Some.j [])) ≡ 1024 =
    ap length (sym u) ∙ c.union.ensures.truths in
    let P : List Bool → Type 0 = λ r. IsJoining c.args.direct.now c.args.rows.now r c.in-Some.j in
    subst P (ap (λ x. set x c.in-Some.j true) (sym u) ∙ sym c.with-row.ensures.value)
    (one_joined c.args.direct.now c.args.rows.now c.loop-j.row c.loop-j.bound c.in-Some.j long g c.loop-j.invariant)

pub returns : goal.returns
returns c = all_joined c.args.direct.now c.args.rows.now c.loop-j.row c.loop-j.bound (c.in_default.ensures.none.0 refl)
    c.loop-j.invariant
