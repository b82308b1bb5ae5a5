use Rattle.std.proofs.Common.{List, ℕ, ◌∙◌, subst}
use Rattle.cert_text.specs.WholeText.{IsSaidBy}
use Rattle.command_try.proofs.ReadBack.{read_same}
use Rattle.command_try.proofs.trying.read_back.Goals as goal

pub returns-in-Good-clause-same : goal.returns-in-Good-clause-same
returns-in-Good-clause-same c =
    let P : List ℕ → Type 0 = λ bytes. IsSaidBy bytes c.in-Good.again in
    read_same c.args.cert.now c.in-Good.again c.requires (subst P (c.deref.ensures.value ∙ c.in_ok-bytes.ensures)
    c.in-Good.ensures.read)
