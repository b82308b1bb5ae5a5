use Rattle.std.proofs.Common.{rules, ◌≡◌, ◌+◌, ◌<◌, ◌++◌, ◌∷◌, List, ℕ, length, take, subst, arith}
use Rattle.std.specs.Prelude.{slice_range}
use Rattle.cert_lines.specs.Faults.{IsLine}
use Rattle.cert_files.proofs.Windows.{split_line, free_front}
use Rattle.cert_files.proofs.window.Window.take_line.Goals as goal

pub returns-clause-line : goal.returns-clause-line
returns-clause-line c = λ e.
    let P : List ℕ → Type 0 = λ items. (part : List ℕ) × (slice_range items c.args.self.now.from c.args.self.now.to
    ≡ part ++ 10 ∷ slice_range items (c.args.self.now.from + (c.line_end-end.result + 1)) c.args.self.now.to)
    × (c.extend_from_slice.new.self.items ≡ c.args.line.now.items ++ part) × IsLine part in
    let l : c.line_end-end.result < length (slice_range c.deref.result.now c.args.self.now.from c.args.self.now.to) =
    omega (arith, c.line_end-end.ensures.within, c.if-is_last.false) in
    let ext : c.extend_from_slice.new.self.items ≡ c.args.line.now.items
    ++ take c.line_end-end.result (slice_range c.deref.result.now c.args.self.now.from c.args.self.now.to) =
    search rules in
    subst P c.deref.ensures.value (
      take c.line_end-end.result (slice_range c.deref.result.now c.args.self.now.from c.args.self.now.to),
      split_line c.deref.result.now c.args.self.now.from c.args.self.now.to c.line_end-end.result l
          (c.line_end-end.ensures.end l),
      ext,
      free_front (slice_range c.deref.result.now c.args.self.now.from c.args.self.now.to) c.line_end-end.result
          c.line_end-end.ensures.inside,
    )
