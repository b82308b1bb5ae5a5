use Rattle.std.proofs.Common.{◌+◌, ◌++◌, ◌∷◌, [], List, ℕ, length, arith, ◌∙◌, sym, ap, subst, length-append}
use Rattle.line_rules.specs.lines.Truths.{members_of}
use Rattle.line_rules.specs.declared.types.Entry.{Entry}
use Rattle.entry_lists.specs.Trim.{AreKeptEntries, entry_at}
use Rattle.entry_lists.proofs.KeptPlaces.{IsPlacing, placed, passed_over, all_placed}
use Rattle.entry_lists.proofs.trimming.kept.Goals as goal
use Rattle.entry_lists.proofs.trimming.kept.Goals.{then-marks-k+in_ok-moved+in_ok-push-2, else-marks-k}

pub moved-requires : goal.moved-requires
moved-requires c = λ cite m. omega (
  arith,
  (c.requires.closed c.loop-k.k c.at.result.now cite c.if-marks-k.true
      c.at.ensures m).1,
  c.loop-k.invariant.long,
  ap length (c.deref.ensures.value ∙ c.in_ok-push.ensures.items),
  length-append {A = ℕ},
)

pub loop-k-preserved : goal.loop-k-preserved
loop-k-preserved c = elim c.if-marks-k.branch [
  | then-marks-k+in_ok-moved+in_ok-push-2 w ↦
      let h = placed c.args.entries.now c.args.marks.now c.loop-k.k c.len.result c.loop-k.places.items
      c.loop-k.items.items w.at.result.now c.loop-k-test.true w.if-marks-k.true w.at.ensures
      (omega (arith, c.len.ensures, c.loop-k.items.ok.0)) c.requires c.loop-k.invariant in
      let P : List ℕ → Type 0 = λ places. IsPlacing c.args.entries.now c.args.marks.now (c.loop-k.k + 1) places
      c.if-marks-k.items.items in
      let Q : List Entry → Type 0 = λ items. IsPlacing c.args.entries.now c.args.marks.now (c.loop-k.k + 1)
      (c.loop-k.places.items ++ c.len.result ∷ []) items in
      subst P (sym c.in_ok-push.ensures.items) (subst Q
      (ap (λ places. c.loop-k.items.items ++ entry_at places w.at.result.now ∷ [])
      (sym (w.deref.ensures.value ∙ c.in_ok-push.ensures.items))
      ∙ ap (λ e. c.loop-k.items.items ++ e ∷ []) (sym w.in_ok-moved.ensures) ∙ sym w.in_ok-push-2.ensures.items
      ∙ ap (λ v. v.items) (sym w.items-is)) h)
  | else-marks-k w ↦
      let h = passed_over c.args.entries.now c.args.marks.now c.loop-k.k c.len.result c.loop-k.places.items
      c.loop-k.items.items c.loop-k-test.true w.if-marks-k.false (omega (arith, c.len.ensures, c.loop-k.items.ok.0))
      c.loop-k.invariant in
      let P : List ℕ → Type 0 = λ places. IsPlacing c.args.entries.now c.args.marks.now (c.loop-k.k + 1) places
      c.if-marks-k.items.items in
      let Q : List Entry → Type 0 = λ items. IsPlacing c.args.entries.now c.args.marks.now (c.loop-k.k + 1)
      (c.loop-k.places.items ++ c.len.result ∷ []) items in
      subst P (sym c.in_ok-push.ensures.items) (subst Q (ap (λ v. v.items) (sym w.items-is)) h)
]

pub returns : goal.returns
returns c =
    let P : List Entry → Type 0 = λ new. AreKeptEntries c.args.entries.now (members_of c.args.marks.now) new in
    subst P (sym c.from_vec.ensures) (all_placed c.args.entries.now c.args.marks.now c.loop-k.k c.loop-k.places.items
    c.loop-k.items.items c.loop-k-test.false c.loop-k.invariant)
