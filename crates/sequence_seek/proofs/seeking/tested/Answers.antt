use Rattle.std.proofs.Common.{ℕ, subst, arith}
use Rattle.sequence_rules.specs.Charges.{IsChargesOf}
use Rattle.sequence_seek.proofs.seeking.tested.Goals as goal

pub returns : goal.returns
returns c =
    let C : ℕ → Type 0 = λ n. IsChargesOf n c.in_ok-listed.field-0 in
    record {
      within = omega arith;
      ordered = c.in_ok-tested_sequence.ensures;
      charged = subst C c.len.ensures c.in_ok-listed.ensures;
      few = c.tested_lemmas.ensures.few;
      ranged = c.tested_lemmas.ensures.range c.in_ok-listed.field-0;
    }
