use Rattle.std.proofs.Common.{List, ℕ, ap, sym, ◌∙◌, subst}
use Rattle.std.specs.List.{Contains}
use Rattle.entry_lists.specs.Trim.{cited_by}
use Rattle.tests_cert.proofs.streams.are_before.Goals as goal

pub returns-in-Branch : goal.returns-in-Branch
returns-in-Branch c = λ t cite m. let P : List ℕ → Type 0 = λ xs. Contains xs cite in
    c.are_below.ensures t cite (subst P (ap cited_by c.in-Branch.is ∙ sym c.as_slice.ensures) m)
