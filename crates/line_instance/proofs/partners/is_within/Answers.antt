use Rattle.std.proofs.Common.{◌≡◌, ◌∙◌, ap, sym, subst, List, Bool, [], false, set, get_or}
use Rattle.std.proofs.lemmas.List.{get_or_read}
use Rattle.line_instance.specs.Truths.{In}
use Rattle.line_instance.proofs.KeptPartners.{In-without, In-without_parts}
use Rattle.line_instance.proofs.partners.is_within.Goals as goal

pub returns : goal.returns
returns c =
    let rows = c.args.rows.now in
    let j : c.index-rows-j.result ≡ get_or rows c.args.j [] =
    get_or_read rows c.args.j c.index-rows-j.result c.requires.other c.index-rows-j.is [] in
    let i : c.index-rows-i.result ≡ get_or rows c.args.i [] =
    get_or_read rows c.args.i c.index-rows-i.result c.requires.task c.index-rows-i.is [] in
    let but : c.without.result ≡ set (get_or rows c.args.j []) c.args.i false =
    c.without.ensures.value ∙ ap (λ r. set r c.args.i false) j in (
      λ t k m n.
          (let R : List Bool → Type 0 = λ r. In r k in
          subst R i (c.is_subset.ensures.0 t k (subst R (sym but)
          (In-without (get_or rows c.args.j []) c.args.i k m n)))),
      λ h. c.is_subset.ensures.1 (λ k m.
          let R : List Bool → Type 0 = λ r. In r k in
          let p = In-without_parts (get_or rows c.args.j []) c.args.i k (subst R but m) in
          subst R (sym i) (h k p.0 p.1)),
    )
