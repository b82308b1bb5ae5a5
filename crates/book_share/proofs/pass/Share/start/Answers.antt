use Rattle.std.proofs.Common.{◌≡◌, ◌<◌, List, [], ◌∷◌, ◌++◌, Option, Some, sym, ap, ◌∙◌, subst, arith}
use Rattle.atomic_table.specs.Table.{opening}
use Rattle.line_instance.specs.Line.{Line, tasks}
use Rattle.lemma_core.specs.Books.{BookView}
use Rattle.lemma_core.proofs.BookAsDesk.{fewest_seen}
use Rattle.book_share.specs.Rule.{Kept, Stands, newcomer}
use Rattle.book_share.proofs.TurnSteps.{starts}
use Rattle.book_share.proofs.Hands.{reached_in}
use Rattle.book_share.proofs.pass.Share.start.Goals as goal

pub new-requires : goal.new-requires
new-requires c =
    let b : BookView = c.args.book in
    let slots : c.push_reserved.new.self.items ≡ Some b ∷ [] =
    c.push_reserved.ensures.items ∙ ap (λ (l : List (Option BookView)). l ++ Some b ∷ []) c.in-Ok.ensures.items in
    let line : tasks c.instance.result.now ≡ tasks b.about.line = ap (λ (l : Line). tasks l) c.instance.ensures in
    let small : tasks b.about.line < 4294967296 = omega (
      arith,
      line,
      c.tasks-tasks.ensures.tasks,
      c.tasks-tasks.type_inv,
    ) in
    let ok : Stands (newcomer b).base b.events b.events = record {
      exact = c.log_len-count.ensures.exact;
      reached = reached_in b c.len-kept.ensures.kept;
      small = small;
    } in
    subst (λ (x : List (Option BookView) × BookView). Kept (opening
    (0 ∷ c.log_len-count.result ∷ c.from-least.result ∷ []) x.0 (newcomer x.1)))
    (λ t. (sym slots t, sym c.of-key.ensures t))
    (starts b c.requires.reserved ok c.log_len-count.result c.from-least.result c.log_len-count.ensures.len
    (c.from-least.ensures ∙ (c.least.ensures ∙ sym (fewest_seen b c.len-kept.ensures.kept))))
