use Rattle.std.proofs.Common.{◌≡◌, ◌≤◌, ◌∙◌, length, ap, sym, subst, refl, rules, Ok, Err, Result, List, ℕ}
use Rattle.task_table.specs.Records.{table_records}
use Rattle.task_table.specs.inner.Reading.{TasksSaid, ListsSaid}
use Rattle.task_table.specs.inner.Building.{IsReadAs, StopsLinks}
use Rattle.task_table.specs.declared.stop.Stop.{Stop}
use Rattle.task_table.specs.declared.table.Table.{Table}
use Rattle.task_table.proofs.TaskFacts.{tasks_are}
use Rattle.task_table.proofs.TableFacts.{right_tasks, right_times, as_many, lists_few, links_are, right_arcs}
use Rattle.task_table.proofs.TableFacts.{right_pairs}
use Rattle.task_table.proofs.TableFacts.{of_lists, stops_at, stops_tasks, stops_links, stops_line, table_is}
use Rattle.task_table.proofs.table.table_of.Goals as goal

pub returns-in_err-names : goal.returns-in_err-names
returns-in_err-names c =
    let is : ◌≡◌ {A = Result Table Stop} c.from_residual.result (Err c.in_err-names.field-0.0) = search rules in
    let P : Result Table Stop → Type 0 = IsReadAs c.args.mark c.args.bytes.now in
    subst P (sym is) (stops_tasks c.args.mark c.args.bytes.now c.in_err-names.field-0.0 c.in_err-names.ensures)

pub new-requires-clause-distinct : goal.new-requires-clause-distinct
new-requires-clause-distinct c =
    let d : TasksSaid = record {
      names = c.names.inside.names;
      times = c.names.inside.times.items;
      lists = c.names.inside.lists.items;
    } in
    let a = tasks_are (table_records c.args.mark c.args.bytes.now) d
    (c.in_ok-names.ensures ∙ ap (λ x. Ok x) (sym c.names.view_is)) in
    (right_tasks (table_records c.args.mark c.args.bytes.now) d a).distinct

pub new-requires-clause-few : goal.new-requires-clause-few
new-requires-clause-few c =
    let d : TasksSaid = record {
      names = c.names.inside.names;
      times = c.names.inside.times.items;
      lists = c.names.inside.lists.items;
    } in
    let a = tasks_are (table_records c.args.mark c.args.bytes.now) d
    (c.in_ok-names.ensures ∙ ap (λ x. Ok x) (sym c.names.view_is)) in
    (right_tasks (table_records c.args.mark c.args.bytes.now) d a).few

pub links_of-requires : goal.links_of-requires
links_of-requires c =
    let d : TasksSaid = record {
      names = c.names.inside.names;
      times = c.names.inside.times.items;
      lists = c.names.inside.lists.items;
    } in
    let a = tasks_are (table_records c.args.mark c.args.bytes.now) d
    (c.in_ok-names.ensures ∙ ap (λ x. Ok x) (sym c.names.view_is)) in
    let P : List ListsSaid → Type 0 = λ xs. length xs ≤ 1024 in
    subst P (sym c.deref.ensures.value) (lists_few (table_records c.args.mark c.args.bytes.now) d a)

pub returns-in_err-links : goal.returns-in_err-links
returns-in_err-links c =
    let d : TasksSaid = record {
      names = c.names.inside.names;
      times = c.names.inside.times.items;
      lists = c.names.inside.lists.items;
    } in
    let a = tasks_are (table_records c.args.mark c.args.bytes.now) d
    (c.in_ok-names.ensures ∙ ap (λ x. Ok x) (sym c.names.view_is)) in
    let is : ◌≡◌ {A = Result Table Stop} c.from_residual-in_err-links.result (Err c.in_err-links.field-0.0) =
    search rules in
    let P : Result Table Stop → Type 0 = IsReadAs c.args.mark c.args.bytes.now in
    subst P (sym is) (stops_links c.args.mark c.args.bytes.now d c.in_err-links.field-0.0 a
    (stops_at d.names c.in_ok-lookup.lookup d.lists c.deref.result.now c.in_err-links.field-0.0 c.in_ok-lookup.ensures
    c.deref.ensures.value c.in_err-links.ensures))

pub instance_of-requires-clause-times : goal.instance_of-requires-clause-times
instance_of-requires-clause-times c =
    let d : TasksSaid = record {
      names = c.names.inside.names;
      times = c.names.inside.times.items;
      lists = c.names.inside.lists.items;
    } in
    let a = tasks_are (table_records c.args.mark c.args.bytes.now) d
    (c.in_ok-names.ensures ∙ ap (λ x. Ok x) (sym c.names.view_is)) in
    right_times (table_records c.args.mark c.args.bytes.now) d a

pub instance_of-requires-clause-many : goal.instance_of-requires-clause-many
instance_of-requires-clause-many c =
    let d : TasksSaid = record {
      names = c.names.inside.names;
      times = c.names.inside.times.items;
      lists = c.names.inside.lists.items;
    } in
    let a = tasks_are (table_records c.args.mark c.args.bytes.now) d
    (c.in_ok-names.ensures ∙ ap (λ x. Ok x) (sym c.names.view_is)) in
    ap (length {A = List ℕ}) (c.into_names-names.ensures ∙ c.in_ok-lookup.ensures)
    ∙ as_many (table_records c.args.mark c.args.bytes.now) d a

pub instance_of-requires-clause-arcs : goal.instance_of-requires-clause-arcs
instance_of-requires-clause-arcs c =
    let d : TasksSaid = record {
      names = c.names.inside.names;
      times = c.names.inside.times.items;
      lists = c.names.inside.lists.items;
    } in
    let a = tasks_are (table_records c.args.mark c.args.bytes.now) d
    (c.in_ok-names.ensures ∙ ap (λ x. Ok x) (sym c.names.view_is)) in
    let l = links_are (table_records c.args.mark c.args.bytes.now) d c.in_ok-links.links a
    (of_lists d.names c.in_ok-lookup.lookup d.lists c.deref.result.now (Ok c.in_ok-links.links) c.in_ok-lookup.ensures
    c.deref.ensures.value c.in_ok-links.ensures) in
    right_arcs (table_records c.args.mark c.args.bytes.now) d c.in_ok-links.links a l

pub instance_of-requires-clause-pairs : goal.instance_of-requires-clause-pairs
instance_of-requires-clause-pairs c =
    let d : TasksSaid = record {
      names = c.names.inside.names;
      times = c.names.inside.times.items;
      lists = c.names.inside.lists.items;
    } in
    let a = tasks_are (table_records c.args.mark c.args.bytes.now) d
    (c.in_ok-names.ensures ∙ ap (λ x. Ok x) (sym c.names.view_is)) in
    let l = links_are (table_records c.args.mark c.args.bytes.now) d c.in_ok-links.links a
    (of_lists d.names c.in_ok-lookup.lookup d.lists c.deref.result.now (Ok c.in_ok-links.links) c.in_ok-lookup.ensures
    c.deref.ensures.value c.in_ok-links.ensures) in
    right_pairs (table_records c.args.mark c.args.bytes.now) d c.in_ok-links.links a l

pub returns-in_err-inst : goal.returns-in_err-inst
returns-in_err-inst c =
    let d : TasksSaid = record {
      names = c.names.inside.names;
      times = c.names.inside.times.items;
      lists = c.names.inside.lists.items;
    } in
    let a = tasks_are (table_records c.args.mark c.args.bytes.now) d
    (c.in_ok-names.ensures ∙ ap (λ x. Ok x) (sym c.names.view_is)) in
    let l = links_are (table_records c.args.mark c.args.bytes.now) d c.in_ok-links.links a
    (of_lists d.names c.in_ok-lookup.lookup d.lists c.deref.result.now (Ok c.in_ok-links.links) c.in_ok-lookup.ensures
    c.deref.ensures.value c.in_ok-links.ensures) in
    let is : ◌≡◌ {A = Result Table Stop} c.from_residual-in_err-inst.result (Err c.in_err-inst.field-0.0) =
    search rules in
    let P : Result Table Stop → Type 0 = IsReadAs c.args.mark c.args.bytes.now in
    let Q : List (List ℕ) → Type 0 = λ ns. StopsLinks ns c.in_ok-links.links c.in_err-inst.field-0.0 in
    subst P (sym is) (stops_line c.args.mark c.args.bytes.now d c.in_ok-links.links c.in_err-inst.field-0.0 a l
    (subst Q (c.into_names-names.ensures ∙ c.in_ok-lookup.ensures) c.in_err-inst.ensures))

pub returns : goal.returns
returns c =
    let d : TasksSaid = record {
      names = c.names.inside.names;
      times = c.names.inside.times.items;
      lists = c.names.inside.lists.items;
    } in
    let a = tasks_are (table_records c.args.mark c.args.bytes.now) d
    (c.in_ok-names.ensures ∙ ap (λ x. Ok x) (sym c.names.view_is)) in
    let l = links_are (table_records c.args.mark c.args.bytes.now) d c.in_ok-links.links a
    (of_lists d.names c.in_ok-lookup.lookup d.lists c.deref.result.now (Ok c.in_ok-links.links) c.in_ok-lookup.ensures
    c.deref.ensures.value c.in_ok-links.ensures) in
    table_is c.args.mark c.args.bytes.now d c.in_ok-links.links _ a l (record {
      line = c.in_ok-inst.ensures;
      names = c.into_names-names.ensures ∙ c.in_ok-lookup.ensures;
      mark_is = refl;
      bom = c.has_bom.ensures;
      pairs = ap (λ g. g.pairs) c.links.view_is;
      pairs_at = ap (λ g. g.pairs_at) c.links.view_is;
    })
