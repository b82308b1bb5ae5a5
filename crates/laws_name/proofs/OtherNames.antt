-- An answer is taken apart and put together again with other names. Only the text is built from names.
use Rattle.std.proofs.Common.{◌≡◌, ◌⊎◌, inl, inr, ℕ, List, ◌++◌, Option, None, refl, sym, subst, ◌∙◌, append_assoc}
use Rattle.std.specs.Prelude.{codes, decimal}
use Rattle.line_instance.specs.Line.{Line, time}
use Rattle.line_rules.specs.Bounds.{idle_time, total_bound}
use Rattle.line_rules.specs.declared.types.Entry.{Entry}
use Rattle.line_rules.specs.declared.types.LineKind.{LineKind}
use Rattle.line_rules.specs.declared.types.Balance.{Balance as Assignment}
use Rattle.line_rules.specs.declared.types.Certificate.{Certificate}
use Rattle.line_rules.specs.declared.products.EfficCert.{EfficCert}
use Rattle.round_run.specs.declared.plans.Plan.{Plan}
use Rattle.task_names.specs.declared.naming.Naming.{Naming}
use Rattle.station_report.specs.StationsText.{stations_text}
use Rattle.station_report.specs.BalanceLines.{balance_lines}
use Rattle.station_report.specs.InfeasibleText.{infeasible_text}
use Rattle.command_outcome.specs.Found.{Search, IsReported, IsAnswer}
use Rattle.command_outcome.specs.Outcome.{Outcome, Page}
use Rattle.command_outcome.specs.Bounds.{bounds_line, seek_text}
use Rattle.command_outcome.specs.declared.report.Kept.{Kept}
use Rattle.command_outcome.specs.declared.report.Kept.TheVariants.{Nothing}
use Rattle.command_outcome.specs.declared.status.Status.{Status}
use Rattle.command_outcome.specs.declared.status.Status.TheVariants as ends
use Rattle.input_files.specs.Instance.{naming_of}
use Rattle.command_balance.specs.Balance as balancing
use Rattle.command_balance.specs.BalanceText.{balance_text}
use Rattle.command_solve.specs.Solution as solving
use Rattle.command_solve.specs.SolutionText as solve_text
use Rattle.command_solve.specs.Effort.{first_plan}
use Rattle.command_solve.specs.WarmStart.{Start}
use Rattle.command_cycle.specs.Found as cycling
use Rattle.command_cycle.specs.CycleText as cycle_text
use Rattle.command_effic.specs.EfficFound as efficient
use Rattle.command_effic.specs.EfficText as effic_text
use Rattle.laws_name.specs.Renaming.{DifferInNames, IsRenamed, HasLike}
use Rattle.laws_name.specs.Laws.{NamesChangeNothing}

-- Two searches that differ in names alone. Where one is solved, so is the other, by the same certificate and with a text
-- that differs in names. The same holds where one stops.
module _ (naming other : Naming) (s : Search) (Solved Stopped : s.Cert → List ℕ → Type 0)
    (solves : (cert : s.Cert) (text : List ℕ) → s.Solved cert text
    → (renamed : List ℕ) × Solved cert renamed × DifferInNames naming other text renamed)
    (stops : (cert : s.Cert) (text : List ℕ) → s.Stopped cert text
    → (renamed : List ℕ) × Stopped cert renamed × DifferInNames naming other text renamed)
    (name : Option (List ℕ)) (out : Outcome) where
  -- the other search
  abbrev pub the_other : Search
  the_other = record s { Solved = Solved; Stopped = Stopped }

  -- what one finds, the other finds with another text
  with_text : (p : IsReported s name out) (text : List ℕ) → DifferInNames naming other out.text text
      → ((out.status ≡ ends.Done) × Solved p.found.certificate text)
      ⊎ ((out.status ≡ ends.Stopped) × Stopped p.found.certificate text)
      → HasLike naming other out (λ renamed. IsReported the_other name renamed)
  with_text p text differs answer = (
    record out { text = text },
    (
      record {
        found = record { certificate = p.found.certificate; keeps = p.found.keeps; answer = answer };
        page = p.page;
      },
      record { status = refl; kept = refl; page = refl; text = differs },
    ),
  )

  pub reported_like : IsReported s name out → HasLike naming other out (λ renamed. IsReported the_other name renamed)
  reported_like p = elim p.found.answer [
    | inl a ↦ let l = solves p.found.certificate out.text a.1 in with_text p l.0 l.2 (inl (a.0, l.1))
    | inr a ↦ let l = stops p.found.certificate out.text a.1 in with_text p l.0 l.2 (inr (a.0, l.1))
  ]

  -- what one comes to, the other comes to: bounds have no names
  pub answer_like : IsAnswer s name out → HasLike naming other out (λ renamed. IsAnswer the_other name renamed)
  answer_like x = elim x [
    | inl p ↦ let l = reported_like p in (l.0, (inl l.1.0, l.1.1))
    | inr p ↦ (
      out,
      (
        inr (record { lower = p.lower; upper = p.upper; below = p.below; bounds = p.bounds; shown = p.shown }),
        record { status = refl; kept = refl; page = refl; text = inr (inr refl) },
      ),
    )
  ]

-- the line of an idle time
abbrev idle_front : ℕ → List ℕ
idle_front idle = codes "idle " ++ decimal idle ++ codes "\n"

-- the station lines stand last
lines_last : (front : List ℕ) (naming : Naming) (kind : LineKind) (b : Assignment) (idle : ℕ)
    → front ++ balance_lines naming kind b idle
    ≡ (front ++ idle_front idle) ++ stations_text naming kind b.stations b.place
lines_last front naming kind b idle =
    sym (append_assoc front (idle_front idle) (stations_text naming kind b.stations b.place))

module _ (naming other : Naming) where
  -- texts that end in the lines of a balance differ in these alone
  differ : (front : List ℕ) (kind : LineKind) (b : Assignment) (idle : ℕ)
      → DifferInNames naming other (front ++ balance_lines naming kind b idle)
      (front ++ balance_lines other kind b idle)
  differ front kind b idle = inl (record {
    first = front ++ idle_front idle;
    kind = kind;
    balance = b;
    by_these = lines_last front naming kind b idle;
    by_others = lines_last front other kind b idle;
  })

  -- the same behind further lines
  differ_behind : (first front : List ℕ) (kind : LineKind) (b : Assignment) (idle : ℕ)
      → DifferInNames naming other (first ++ (front ++ balance_lines naming kind b idle))
      (first ++ (front ++ balance_lines other kind b idle))
  differ_behind first front kind b idle = inl (record {
    first = (first ++ front) ++ idle_front idle;
    kind = kind;
    balance = b;
    by_these = sym (append_assoc first front (balance_lines naming kind b idle))
        ∙ lines_last (first ++ front) naming kind b idle;
    by_others = sym (append_assoc first front (balance_lines other kind b idle))
        ∙ lines_last (first ++ front) other kind b idle;
  })

  -- the same of a text that is these lines
  differ_told : {text : List ℕ} (first front : List ℕ) (kind : LineKind) (b : Assignment) (idle : ℕ)
      → text ≡ first ++ (front ++ balance_lines naming kind b idle)
      → DifferInNames naming other text (first ++ (front ++ balance_lines other kind b idle))
  differ_told first front kind b idle is =
      let D : List ℕ → Type 0 =
      λ x. DifferInNames naming other x (first ++ (front ++ balance_lines other kind b idle)) in
      subst D (sym is) (differ_behind first front kind b idle)

  -- the lines about a task that is too long differ in its name
  differ_task : (task duration : ℕ)
      → DifferInNames naming other (infeasible_text naming task duration) (infeasible_text other task duration)
  differ_task task duration =
      inr (inl (record { task = task; time = duration; by_these = refl; by_others = refl }))

  -- an outcome with another text that differs in names
  renamed_as : (status : Status) (page : Option Page) (kept : Kept) (text renamed : List ℕ) (out : Outcome)
      → DifferInNames naming other text renamed
      → out ≡ record { status = status; text = text; page = page; kept = kept }
      → IsRenamed naming other out (record { status = status; text = renamed; page = page; kept = kept })
  renamed_as status page kept text renamed out d e =
      subst (λ (o : Outcome). IsRenamed naming other o
      (record { status = status; text = renamed; page = page; kept = kept })) (sym e)
      (record { status = refl; kept = refl; page = refl; text = d })

  module _ (kind : LineKind) (line : Line) (c : ℕ) where
    balance_like : (out : Outcome) → balancing.IsAnswer naming kind line c out
        → HasLike naming other out (λ renamed. balancing.IsAnswer other kind line c renamed)
    balance_like out x = elim x [
      | inl p ↦ (
        record {
          status = ends.Done;
          text = balance_text other kind p.balance (total_bound line c) (idle_time line c p.balance.stations);
          page = None;
          kept = Nothing;
        },
        (
          inl (record { balance = p.balance; right = p.right; ranked = p.ranked; bound = p.bound; shown = refl }),
          renamed_as ends.Done None Nothing
              (balance_text naming kind p.balance (total_bound line c) (idle_time line c p.balance.stations))
              (balance_text other kind p.balance (total_bound line c) (idle_time line c p.balance.stations)) out
              (differ (codes "balance " ++ decimal p.balance.stations ++ codes "\ntotal bound "
              ++ decimal (total_bound line c) ++ codes "\n") kind p.balance (idle_time line c p.balance.stations)) p.shown,
        ),
      )
      | inr p ↦ (
        record {
          status = ends.Done;
          text = infeasible_text other p.task (time line p.task);
          page = None;
          kept = Nothing;
        },
        (
          inr (record { task = p.task; least = p.least; shown = refl }),
          renamed_as ends.Done None Nothing (infeasible_text naming p.task (time line p.task))
              (infeasible_text other p.task (time line p.task)) out (differ_task p.task (time line p.task)) p.shown,
        ),
      )
    ]

    -- an optimum is told with other names
    told_like : (plan : Plan) (before : List Entry) (first : List ℕ) (cert : Certificate) (text : List ℕ)
        → solving.IsToldOptimal naming kind line c plan before first cert text
        → (renamed : List ℕ) × solving.IsToldOptimal other kind line c plan before first cert renamed
        × DifferInNames naming other text renamed
    told_like plan before first cert text p =
        let idle : ℕ = idle_time line c p.balance.stations in (
          first ++ solve_text.optimal_text other kind p.balance idle,
          record { balance = p.balance; proved = p.proved; fits = p.fits; printed = refl },
          differ_told first (solve_text.optimal_line p.balance.stations) kind p.balance idle p.printed,
        )

    module _ (plan : Plan) (start : Start) where
      -- what solves the search, with these names
      abbrev Solves : Naming → Certificate → List ℕ → Type 0
      Solves n cert text =
          solving.IsOptimal n kind line c plan start cert text
          ⊎ solving.IsOptimalAtFirst n kind line c plan start cert text
          ⊎ solving.IsInfeasible n kind line c cert text

      solve_solves : (cert : Certificate) (text : List ℕ) → Solves naming cert text
          → (renamed : List ℕ) × Solves other cert renamed × DifferInNames naming other text renamed
      solve_solves cert text x = elim x [
        | inl p ↦ let l = told_like plan p.before p.first cert text p.told in (
          l.0,
          inl (record { before = p.before; first = p.first; top = p.top; begins = p.begins; told = l.1 }),
          l.2,
        )
        | inr (inl p) ↦
            let l = told_like (first_plan start.effort.first plan) p.at.book.state.entries p.warm_said cert text
            p.told in (
              l.0,
              inr (inl (record {
                has = p.has;
                book = p.book;
                opened = p.opened;
                at = p.at;
                warm_said = p.warm_said;
                took = p.took;
                told = l.1;
              })),
              l.2,
            )
        | inr (inr p) ↦ (
          infeasible_text other p.task (time line p.task),
          inr (inr (record { task = p.task; least = p.least; proved = p.proved; fits = p.fits; printed = refl })),
          inr (inl (record {
            task = p.task;
            time = time line p.task;
            by_these = p.printed;
            by_others = refl;
          })),
        )
      ]

      solve_stops : (cert : Certificate) (text : List ℕ)
          → solving.IsStopped naming kind line c plan start cert text
          → (renamed : List ℕ) × solving.IsStopped other kind line c plan start cert renamed
          × DifferInNames naming other text renamed
      solve_stops cert text p =
          let idle : ℕ = idle_time line c p.balance.stations in (
            p.first ++ solve_text.stopped_text other kind p.lower p.balance idle,
            record {
              before = p.before;
              first = p.first;
              top = p.top;
              begins = p.begins;
              lower = p.lower;
              balance = p.balance;
              few = p.few;
              proved = p.proved;
              fits = p.fits;
              printed = refl;
            },
            differ_told p.first (codes "stopped by units\n" ++ bounds_line p.lower p.balance.stations) kind p.balance
                idle p.printed,
          )

      solve_like : (name : Option (List ℕ)) (out : Outcome)
          → IsAnswer (solving.fewest_stations naming kind line c plan start) name out
          → HasLike naming other out
          (λ renamed. IsAnswer (solving.fewest_stations other kind line c plan start) name renamed)
      solve_like =
          answer_like naming other (solving.fewest_stations naming kind line c plan start)
          (Solves other) (solving.IsStopped other kind line c plan start) solve_solves solve_stops

  module _ (kind : LineKind) (line : Line) (m : ℕ) (plan : Plan) where
    cycle_solves : (cert : Certificate) (text : List ℕ) → cycling.IsOptimal naming kind line m plan cert text
        → (renamed : List ℕ) × cycling.IsOptimal other kind line m plan cert renamed
        × DifferInNames naming other text renamed
    cycle_solves cert text p =
        let first : List ℕ = seek_text plan.seek p.seeks.used p.seeks.most p.seeks.kept in
        let idle : ℕ = idle_time line p.cycle m in (
          first ++ cycle_text.optimal_text other kind p.cycle p.balance idle,
          record {
            cycle = p.cycle;
            balance = p.balance;
            proved = p.proved;
            fits = p.fits;
            seeks = p.seeks;
            counted = p.counted;
            printed = refl;
          },
          differ_told first (cycle_text.optimal_line p.cycle) kind p.balance idle p.printed,
        )

    cycle_stops : (cert : Certificate) (text : List ℕ) → cycling.IsStopped naming kind line m plan cert text
        → (renamed : List ℕ) × cycling.IsStopped other kind line m plan cert renamed
        × DifferInNames naming other text renamed
    cycle_stops cert text p =
        let first : List ℕ = seek_text plan.seek p.seeks.used p.seeks.most p.seeks.kept in
        let idle : ℕ = idle_time line p.upper m in (
          first ++ cycle_text.stopped_text other kind p.lower p.upper p.balance idle,
          record {
            lower = p.lower;
            upper = p.upper;
            balance = p.balance;
            proved = p.proved;
            fits = p.fits;
            seeks = p.seeks;
            counted = p.counted;
            printed = refl;
          },
          differ_told first (codes "stopped by units\n" ++ bounds_line p.lower p.upper) kind p.balance idle p.printed,
        )

    cycle_like : (name : Option (List ℕ)) (out : Outcome)
        → IsAnswer (cycling.least_cycle naming kind line m plan) name out
        → HasLike naming other out (λ renamed. IsAnswer (cycling.least_cycle other kind line m plan) name renamed)
    cycle_like =
        answer_like naming other (cycling.least_cycle naming kind line m plan)
        (cycling.IsOptimal other kind line m plan) (cycling.IsStopped other kind line m plan)
        cycle_solves cycle_stops

  module _ (kind : LineKind) (line : Line) (least most : ℕ) (plan : Plan) where
    effic_solves : (cert : EfficCert) (text : List ℕ)
        → efficient.IsOptimal naming kind line least most plan cert text
        → (renamed : List ℕ) × efficient.IsOptimal other kind line least most plan cert renamed
        × DifferInNames naming other text renamed
    effic_solves cert text p =
        let first : List ℕ = seek_text plan.seek p.seeks.used p.seeks.most p.seeks.kept in
        let idle : ℕ = efficient.idle_of line cert in (
          first ++ effic_text.optimal_text other cert idle,
          record { solved = p.solved; fits = p.fits; seeks = p.seeks; counted = p.counted; printed = refl },
          differ_told first (effic_text.optimal_line cert.upper
              ++ effic_text.place_line cert.balance.stations cert.cycle) cert.kind cert.balance idle p.printed,
        )

    effic_stops : (cert : EfficCert) (text : List ℕ)
        → efficient.IsStopped naming kind line least most plan cert text
        → (renamed : List ℕ) × efficient.IsStopped other kind line least most plan cert renamed
        × DifferInNames naming other text renamed
    effic_stops cert text p =
        let first : List ℕ = seek_text plan.seek p.seeks.used p.seeks.most p.seeks.kept in
        let idle : ℕ = efficient.idle_of line cert in (
          first ++ effic_text.stopped_text other p.why cert idle,
          record {
            why = p.why;
            closing_from = p.closing_from;
            stopped = p.stopped;
            fits = p.fits;
            seeks = p.seeks;
            counted = p.counted;
            printed = refl;
          },
          differ_told first (effic_text.stopped_line p.why ++ bounds_line cert.lower cert.upper
              ++ effic_text.place_line cert.balance.stations cert.cycle) cert.kind cert.balance idle p.printed,
        )

    effic_like : (name : Option (List ℕ)) (out : Outcome)
        → IsAnswer (efficient.least_product naming kind line least most plan) name out
        → HasLike naming other out
        (λ renamed. IsAnswer (efficient.least_product other kind line least most plan) name renamed)
    effic_like =
        answer_like naming other (efficient.least_product naming kind line least most plan)
        (efficient.IsOptimal other kind line least most plan) (efficient.IsStopped other kind line least most plan)
        effic_solves effic_stops

-- What the commands answer, over the files.
pub changed_nothing : NamesChangeNothing
changed_nothing = record {
  balance = λ word a b kind out same p.
      let l = balance_like (naming_of a.files a.line) (naming_of b.files b.line) kind p.line p.c out p.answer in
      (l.0, (record { line = p.line; c = p.c; said = same.said p.line p.c p.said; answer = l.1.0 }, l.1.1));
  solve = λ word a b effort kind plan name out same p.
      let l = solve_like (naming_of a.files a.line) (naming_of b.files b.line) kind p.line p.c plan
      (record { olds = p.olds; effort = effort }) name out p.answer in (
        l.0,
        (
          record {
            line = p.line;
            c = p.c;
            said = same.said p.line p.c p.said;
            olds = p.olds;
            old = same.old kind p.line p.olds p.old;
            answer = l.1.0;
          },
          l.1.1,
        ),
      );
  cycle = λ a b kind m plan name out same p.
      let l = cycle_like (naming_of a.files a.line) (naming_of b.files b.line) kind p.line m plan name out p.answer in
      (l.0, (record { line = p.line; said = same p.line p.said; answer = l.1.0 }, l.1.1));
  effic = λ a b kind least most plan name out same p.
      let l = effic_like (naming_of a.files a.line) (naming_of b.files b.line) kind p.line least most plan name out
      p.answer in
      (l.0, (record { line = p.line; said = same p.line p.said; answer = l.1.0 }, l.1.1));
}
