use Rattle.std.proofs.Common.{◌≡◌, ◌∙◌, ℕ, ◌+◌, ◌≤◌, List, length, take, refl, sym, ap, subst}
use Rattle.line_instance.specs.Line.{Line}
use Rattle.line_rules.specs.Entries.{IsDerived}
use Rattle.line_rules.specs.declared.types.LineKind.{LineKind}
use Rattle.lemma_core.specs.Machine.{About}
use Rattle.line_rules.specs.declared.types.Entry.{Entry}
use Rattle.effic_search.specs.Counted.{AreGoalsByBound, IsCounted, bounds}
use Rattle.effic_search.specs.inner.Going.{may_bound}
use Rattle.effic_search.proofs.AskFacts.{few_behind, goals_behind}
use Rattle.effic_search.proofs.trying.ask.Goals as goal

pub counted-listed-requires-clause-derived : goal.counted-listed-requires-clause-derived
counted-listed-requires-clause-derived g c =
    let book = c.in_ok-asked.asked.book in
    let es = c.entries.result.now in
    let all : book.about ≡ c.args.search.book.about = c.in_ok-asked.ensures.about in
    let P : LineKind → Type 0 = λ z. IsDerived z book.about.line es in
    let Q : Line → Type 0 = λ z. IsDerived c.kind-kind.result z es in
    subst Q (ap (λ (z : About). z.line) all ∙ c.requires.same)
    (subst P (ap (λ (z : About). z.kind) all ∙ sym c.kind-kind.ensures) c.entries.ensures.derived)

pub returns : goal.returns
returns g c =
    let s = c.in_ok-asked.ensures in
    let line = c.args.search.book.about.line in
    let old = c.args.search.book.state.entries in
    let seen = c.entries-2.result.now in
    let L : Line → Type 0 = λ z. IsCounted z c.entries.result.now (length c.entries.result.now) c.counted-listed.result in
    let E : List Entry → Type 0 = λ z. IsCounted line z (length z) c.counted-listed.result in
    let G : Line → Type 0 = λ z. AreGoalsByBound z s.gained in
    let M : ℕ → Type 0 = λ z. bounds seen ≤ bounds (take c.len-from.result seen) + z in
    record {
      cycle = refl;
      balance = refl;
      seeks = refl;
      asked = c.in_ok-asked.asked;
      book = refl;
      verdict = refl;
      does = s;
      counted = subst E c.entries.ensures.entries (subst L (sym c.requires.same) c.counted-listed.ensures.counted);
      goals = subst G (sym c.requires.same)
          (goals_behind c.args.inst.now old seen s.gained c.len-from.result (c.entries-2.ensures.entries ∙ s.entries)
          c.len-from.ensures.len (c.has_stray_bound.ensures.goals c.if-has_stray_bound.false));
      by_bound = few_behind c.args.inst.now old seen s.gained c.len-from.result (c.entries-2.ensures.entries ∙ s.entries)
          c.len-from.ensures.len (may_bound c.in_ok-asked.asked.verdict)
          (subst M c.may_bound.ensures (c.has_stray_bound.ensures.few c.if-has_stray_bound.false));
    }
