use Rattle.std.proofs.Common.{◌≤◌, List, ℕ, length, sym, subst, arith}
use Rattle.std.specs.Prelude.{slice_range}
use Rattle.cert_files.specs.inner.Rest.{IsNext}
use Rattle.entry_lists.proofs.MarkFacts.{come_back}
use Rattle.cert_files.proofs.Windows.{next_piece}
use Rattle.cert_files.proofs.window.Window.refill.Goals as goal

pub returns-else-n-limit-clause-next : goal.returns-else-n-limit-clause-next
returns-else-n-limit-clause-next g c = λ t e.
    let P : List ℕ → Type 0 = λ items. IsNext (g.S.Shelf.file c.args.shelf.now c.args.name.now) c.args.at
    (slice_range items 0 c.in-Got.n) in
    let w : c.in-Got.n ≤ length c.fetch.new.piece = omega (arith, c.in-Got.ensures.within, c.fetch.auto.piece) in
    subst P (sym (come_back c.args.self.now.piece.len c.fetch.new.piece c.deref_mut.result.now
    c.args.self.now.piece.items c.fetch.auto.piece c.deref_mut.ensures.value c.deref_mut.ensures.len))
    (next_piece (g.S.Shelf.file c.args.shelf.now c.args.name.now) c.args.at c.in-Got.n c.fetch.new.piece
    c.in-Got.n-test.1 w (c.in-Got.ensures.got t))
