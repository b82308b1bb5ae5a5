use Rattle.std.proofs.Common.{◌-◌, ◌∙◌, List, Bool, false, ap, sym, subst, length, replicate, arith}
use Rattle.std.proofs.lemmas.Option.{slice_get_within}
use Rattle.line_rules.specs.lines.Truths.{In}
use Rattle.entry_lists.specs.Trim.{cited_by, AreMarked}
use Rattle.entry_lists.proofs.MarkFacts.{IsPassed, pass_begins, pass_marks, pass_ends, come_back, is_in}
use Rattle.entry_lists.proofs.trimming.marks_of.Goals as goal

pub loop-k-init : goal.loop-k-init
loop-k-init c = pass_begins c.args.entries.now c.args.goal c.len-k.result c.in_ok-marks.marks.items
    (c.in_ok-marks.ensures ∙ ap (λ n. replicate n false) c.len.ensures) c.len-k.ensures c.requires.there

pub mark_cites-requires : goal.mark_cites-requires
mark_cites-requires c = λ cite m. omega (
  arith,
  c.requires.earlier (c.loop-k.k - 1) c.at.result.now c.at.ensures cite m,
  slice_get_within c.args.entries.now (c.loop-k.k - 1) c.at.result.now c.at.ensures,
  c.loop-k.invariant.as_many,
  ap length c.deref_mut.ensures.value,
)

pub loop-k-preserved-then-index : goal.loop-k-preserved-then-index
loop-k-preserved-then-index c =
    let back = come_back c.loop-k.marks.len c.mark_cites.new.marks c.deref_mut.result.now c.loop-k.marks.items
    c.mark_cites.ensures.as_many c.deref_mut.ensures.value c.deref_mut.ensures.len in
    let P : List Bool → Type 0 = λ m. IsPassed c.args.entries.now c.args.goal (c.loop-k.k - 1) m in
    let Q : List Bool → Type 0 = λ m. AreMarked m (cited_by c.at.result.now.why) c.mark_cites.new.marks in
    let here : In c.loop-k.marks.items (c.loop-k.k - 1) = is_in c.loop-k.marks.items (c.loop-k.k - 1) c.index.result.now
    c.index.ensures c.if-index.true (omega (arith, c.loop-k.invariant.as_many, c.len-k.ensures)) in
    subst P (sym back) (pass_marks c.args.entries.now c.args.goal (c.loop-k.k - 1) c.loop-k.k c.loop-k.marks.items
    c.mark_cites.new.marks c.at.result.now (omega arith) here c.at.ensures c.requires.earlier
    (subst Q c.deref_mut.ensures.value c.mark_cites.ensures) c.loop-k.invariant)

pub returns : goal.returns
returns c = pass_ends c.args.entries.now c.args.goal c.loop-k.k c.loop-k.marks.items (omega arith) c.loop-k.invariant
