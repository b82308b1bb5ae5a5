use Rattle.std.proofs.Common.{List, Bool, ◌∙◌, sym, subst}
use Rattle.line_instance.specs.Truths.{In}
use Rattle.line_instance.proofs.Members.{In-empty}
use Rattle.line_check.proofs.pairs.is_closed_at.Goals as goal

pub returns : goal.returns
returns c = (
  λ e. record {
    parted = λ m j n p.
        let S : List Bool → Type 0 = λ s. In s j in
        In-empty 1024 j (subst S c.empty.ensures.value (c.keeps.ensures.0 c.if-not-keeps.false (c.has.ensures ∙ m) j n
        ((c.apart.ensures.members j).1 p)));
    before = λ m j n p. c.keeps-2.ensures.0 c.if-not-keeps-2.false (c.has-2.ensures ∙ m) j n
        ((c.before-2.ensures.members j).1 p);
    after = λ m j n p. c.keeps-3.ensures.0 e (c.has-3.ensures ∙ m) j n ((c.after.ensures.members j).1 p);
  },
  λ f. c.keeps-3.ensures.1 (λ m j n p. f.after (sym c.has-3.ensures ∙ m) j n ((c.after.ensures.members j).0 p)),
)
