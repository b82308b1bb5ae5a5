use Rattle.std.proofs.Common.{◌≡◌, ◌≤◌, ◌<◌, ◌+◌, ◌*◌, ◌/◌, ◌%◌, ℕ, List, [], ◌∷◌, length-append, get_or, length, map}
use Rattle.std.proofs.Common.{sum, ap, ◌∙◌, sym, arith, subst}
use Rattle.std.specs.Prelude.{sum_by, All}
use Rattle.std.proofs.lemmas.List.{length-map, get_or_default}
use Rattle.std.proofs.lemmas.Nat.{div-mul-add, mod-mul-add, mul-add-lt, mod_below}
use Rattle.std.proofs.Math.Nat.{div-lt_iff_lt-mul, mul-le-mul_left, mul_comm}
use Rattle.combined_graph.specs.Mixes.{model_at}
use Rattle.utility_work.specs.Utility.{work_at}
use Rattle.sequence_search.specs.Tables.{demand_of}
use Rattle.sequence_search.proofs.TableFacts.{pushed, sum_demands, some_demand}
use Rattle.sequence_search.proofs.tables.station_times.Goals as goal

pub overflow_mul-i-end : goal.overflow_mul-i-end
overflow_mul-i-end c = omega (arith, mul-le-mul_left c.models-models.result c.requires.few, c.models-models.ensures.few)

pub bounds-index-i : goal.bounds-index-i
bounds-index-i c = omega (
  arith,
  (div-lt_iff_lt-mul {k = c.args.balance.now.stations} {x = c.loop-i.i}
      {y = c.models-models.result} (omega (arith, c.requires.some))).1 (omega (arith, c.loop-i-test.true)),
  c.models-models.ensures.few,
)

pub loop-i-preserved : goal.loop-i-preserved
loop-i-preserved c =
    let station = c.loop-i.i % c.args.balance.now.stations in
    let model = c.loop-i.i / c.args.balance.now.stations in
    let rows = c.in_ok-rows.ensures in
    let short : station < c.args.balance.now.stations = mod_below c.loop-i.i c.args.balance.now.stations
    (omega (arith, c.requires.some)) in
    let low : model < c.models-models.result = (div-lt_iff_lt-mul {k = c.args.balance.now.stations} {x = c.loop-i.i}
    {y = c.models-models.result} (omega (arith, c.requires.some))).1 (omega (arith, c.loop-i-test.true)) in
    let row : c.index.result.now ≡ get_or c.in_ok-rows.rows.items station [] =
    c.index.ensures ∙ get_or_default c.in_ok-rows.rows.items station c.index.result.now []
    (omega (arith, short, rows.each)) in
    let value : get_or c.index.result.now model 0 ≡ get_or (get_or c.in_ok-rows.rows.items station []) model 0 =
    ap (λ (xs : List ℕ). get_or xs model 0) row in
    let W : ℕ → ℕ = λ j. work_at c.args.balance.now.place (j % c.args.balance.now.stations + 1)
    (model_at c.args.mix.now.models (j / c.args.balance.now.stations)) in
    let A : List ℕ → Type 0 = λ xs. (j : ℕ) → j < c.loop-i.i + 1 → get_or xs j 0 ≡ W j in
    let B : List ℕ → Type 0 = λ xs. (j : ℕ) → j < c.loop-i.i + 1 → get_or xs j 0 ≤ 1024000000000 in
    record {
      each = omega (
        arith,
        ap (λ (xs : List ℕ). length xs) c.in_ok-push.ensures.items,
        length-append c.loop-i.work.items (get_or c.index.result.now model 0 ∷ []),
        c.loop-i.invariant.each,
      );
      work = subst A (sym c.in_ok-push.ensures.items) (pushed (λ j v. v ≡ W j) c.loop-i.work.items c.loop-i.i
          (get_or c.index.result.now model 0) c.loop-i.invariant.each c.loop-i.invariant.work
          (value ∙ rows.work station model short (omega (arith, low, c.models-models.ensures.models))));
      limit = subst B (sym c.in_ok-push.ensures.items) (pushed (λ j v. v ≤ 1024000000000) c.loop-i.work.items c.loop-i.i
          (get_or c.index.result.now model 0) c.loop-i.invariant.each c.loop-i.invariant.limit
          (omega (arith, value, rows.limit station model short)));
    }

pub returns-clause-times : goal.returns-clause-times
returns-clause-times c =
    let wanted : c.from_vec.result ≡ map demand_of c.args.mix.now.models =
    c.from_vec.ensures ∙ c.in_ok-demands.ensures in
    let many : length c.from_vec.result ≡ length c.args.mix.now.models =
    ap (λ (xs : List ℕ). length xs) wanted ∙ length-map c.args.mix.now.models demand_of in
    let units : sum c.from_vec.result ≡ sum_by demand_of c.args.mix.now.models =
    ap (λ xs. sum xs) wanted ∙ sum_demands c.args.mix.now.models in
    let product : length c.from_vec.result * c.args.balance.now.stations
    ≡ c.models-models.result * c.args.balance.now.stations =
    ap (λ n. n * c.args.balance.now.stations) (many ∙ sym c.models-models.ensures.models) in
    let full : length c.from_vec-2.result ≡ length c.loop-i.work.items =
    ap (λ (xs : List ℕ). length xs) c.from_vec-2.ensures in
    let P : List ℕ → Type 0 = λ xs. All (λ w. w ≤ 1024000000000) xs in
    record {
      some = c.requires.some;
      few = c.requires.few;
      modeled = omega (arith, many, c.models-models.ensures.some, c.models-models.ensures.models);
      models = omega (arith, many, c.models-models.ensures.few, c.models-models.ensures.models);
      wanted = omega (
        arith,
        units,
        some_demand c.args.mix.now.tasks c.args.mix.now.models
            (omega (arith, c.models-models.ensures.some, c.models-models.ensures.models))
            c.tasks-tasks.ensures.mix.draft.each,
      );
      units = omega (arith, units, c.requires.demand);
      many = omega (arith, full, product, c.loop-i.invariant.each, c.loop-i-test.false, c.loop-i.auto.i-end);
      limit = subst P (sym c.from_vec-2.ensures) (λ j d l. omega (
        arith,
        get_or_default c.loop-i.work.items j d 0 l,
        c.loop-i.invariant.limit j (omega (arith, l, c.loop-i.invariant.each)),
      ));
    }

pub returns-clause-work : goal.returns-clause-work
returns-clause-work c = λ m s lm ls.
    let place : ℕ = m * c.args.balance.now.stations + s in
    let within : place < c.loop-i.i = omega (
      arith,
      mul-add-lt m c.args.balance.now.stations s c.models-models.result
          (omega (arith, lm, c.models-models.ensures.models)) ls,
      mul_comm c.args.balance.now.stations c.models-models.result,
      c.loop-i-test.false,
    ) in
    let W : ℕ → ℕ → ℕ = λ r d. work_at c.args.balance.now.place (r + 1) (model_at c.args.mix.now.models d) in
    ap (λ (xs : List ℕ). get_or xs place 0) c.from_vec-2.ensures ∙ c.loop-i.invariant.work place within
    ∙ ap (λ r. W r (place / c.args.balance.now.stations)) (mod-mul-add m c.args.balance.now.stations s ls)
    ∙ ap (λ d. W s d) (div-mul-add m c.args.balance.now.stations s ls)
