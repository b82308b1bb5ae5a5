-- What refutes a question before anything is listed.
use Rattle.std.proofs.Common.{◌≡◌, ℕ, Bool, List, sym, ap, ◌∙◌, subst, inl, inr}
use Rattle.line_instance.specs.Line.{Line}
use Rattle.line_instance.specs.Truths.{IsSubset}
use Rattle.line_rules.specs.Balance.{all_tasks}
use Rattle.line_rules.specs.Entries.{HasAnswer}
use Rattle.line_rules.specs.Pairs.{IsRefutedByPairs}
use Rattle.line_rules.specs.declared.types.LineKind.{LineKind}
use Rattle.lemma_core.specs.Books.{BookView}
use Rattle.line_seek.specs.Seeking.{IsRefuted}

module _ (book : BookView) (line : Line) (all : List Bool) (most : ℕ) (same : book.about.line ≡ line)
    (is : all ≡ all_tasks line) where
  all_of_book : all ≡ all_tasks book.about.line
  all_of_book = is ∙ sym (ap (λ (z : Line). all_tasks z) same)

  -- an entry of the book
  pub entry_refutes : HasAnswer book.state.entries all most book.about.cycle → IsRefuted book most
  entry_refutes a =
      let P : List Bool → Type 0 = λ z. HasAnswer book.state.entries z most book.about.cycle in
      inl (subst P all_of_book a)

  -- pairs
  pub pairs_refute : (kind : LineKind) (cycle : ℕ) (hull two : List Bool) → kind ≡ book.about.kind
      → cycle ≡ book.about.cycle → IsSubset hull all → IsRefutedByPairs kind line cycle hull most two
      → IsRefuted book most
  pairs_refute kind cycle hull two k c within refuted =
      let S : List Bool → Type 0 = λ z. IsSubset hull z in
      let K : LineKind → Type 0 = λ z. IsRefutedByPairs z line cycle hull most two in
      let L : Line → Type 0 = λ z. IsRefutedByPairs book.about.kind z cycle hull most two in
      let C : ℕ → Type 0 = λ z. IsRefutedByPairs book.about.kind book.about.line z hull most two in
      inr (hull, two, subst S all_of_book within, subst C c (subst L (sym same) (subst K k refuted)))
