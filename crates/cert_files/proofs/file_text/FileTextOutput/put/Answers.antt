use Rattle.std.proofs.Common.{◌∷◌, [], Bool, true, List, ℕ, sym, subst}
use Rattle.line_io.specs.Outside.{Grows}
use Rattle.cert_text.specs.Sent.{Puts}
use Rattle.cert_files.specs.inner.Pieces.{sent_into}
use Rattle.cert_files.proofs.SentBytes.{failed_put, where_there}
use Rattle.cert_files.proofs.file_text.FileTextOutput.put.Goals as goal

pub returns-in-Failed : goal.returns-in-Failed
returns-in-Failed g c =
    let P : Bool → Type 0 = λ failed. Puts g.S.Shelf.tells (sent_into g.S.Shelf.tells failed
    c.args.self.now.buffer.items c.args.self.now.shelf.ghost_name c.args.self.now.name.now
    (g.S.Shelf.file c.args.self.now.shelf.now) (g.S.Shelf.write_faults c.args.self.now.shelf.now)) (c.args.byte ∷ [])
    (sent_into g.S.Shelf.tells true c.args.self.now.buffer.items c.args.self.now.shelf.ghost_name
    c.args.self.now.name.now (g.S.Shelf.file c.append.new.self) (g.S.Shelf.write_faults c.append.new.self)) in
    let Q : List ℕ → Type 0 = λ piece. Grows (g.S.Shelf.file c.args.self.now.shelf.now c.args.self.now.name.now) piece
    (g.S.Shelf.file c.append.new.self c.args.self.now.name.now) in
    subst P (sym c.if-self.false)
    (failed_put g.S.Shelf.tells c.args.self.now.shelf.ghost_name c.args.self.now.name.now c.args.self.now.buffer.items
    (c.args.byte ∷ []) (g.S.Shelf.file c.args.self.now.shelf.now) (g.S.Shelf.file c.append.new.self)
    (g.S.Shelf.write_faults c.args.self.now.shelf.now) (g.S.Shelf.write_faults c.append.new.self) c.append.ensures.count
    (where_there g.S.Shelf.tells _ (g.S.Shelf.file c.args.self.now.shelf.now c.args.self.now.name.now)
    c.args.self.now.there (c.append.ensures.fault c.in-Failed.is))
    (λ t. subst Q c.deref.ensures.value (c.append.ensures.failed t c.in-Failed.is)) c.append.ensures.others)
