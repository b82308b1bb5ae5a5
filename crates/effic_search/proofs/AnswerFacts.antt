-- What a try comes to: its seek found a balance, or its question was answered, or its units ended.
use Rattle.std.proofs.Common.{◌≡◌, ℕ, suc, ◌+◌, ◌-◌, ◌*◌, ◌^◌, ◌<◌, ◌≤◌, min, List, [], ◌++◌, length, take, Option}
use Rattle.std.proofs.Common.{sym, ap, ◌∙◌, subst, inl, inr, arith, Some, length-append, append_assoc}
use Rattle.std.specs.Prelude.{slice_get}
use Rattle.std.proofs.lemmas.Bool.{cases_eq}
use Rattle.std.proofs.lemmas.List.{append-nil}
use Rattle.std.proofs.lemmas.Nat.{mul-le}
use Rattle.std.proofs.Math.Nat.{suc-mul}
use Rattle.std.proofs.Math.Seq.{take-length}
use Rattle.line_instance.specs.Line.{Line, tasks}
use Rattle.line_rules.specs.Balance.{IsRight, all_tasks}
use Rattle.line_rules.specs.Entries.{HasAnswer}
use Rattle.line_rules.specs.Ranges.{IsCycle}
use Rattle.line_rules.specs.Trails.{IsTrail, IsOpenOver}
use Rattle.line_rules.specs.Units.{UnitsOf, UnitsIn}
use Rattle.line_rules.specs.declared.types.LineKind.{LineKind}
use Rattle.line_rules.specs.declared.types.Entry.{Entry}
use Rattle.line_rules.specs.declared.types.OpenFrame.{OpenFrame}
use Rattle.line_rules.specs.declared.types.Balance.{Balance as Assignment}
use Rattle.lemma_core.specs.Machine.{About}
use Rattle.lemma_core.specs.Books.{BookView}
use Rattle.station_search.proofs.Events.{get_append_cases}
use Rattle.round_helpers.specs.Growth.{AreAtCycle}
use Rattle.cycle_search.specs.rounds.Rounds.{IsAnswer, frames_of}
use Rattle.cycle_search.specs.rounds.declared.closing.Verdict.{Verdict}
use Rattle.cycle_search.specs.rounds.declared.closing.Verdict.TheVariants as verdict
use Rattle.cycle_search.specs.rounds.declared.plans.Plan.{Plan}
use Rattle.cycle_search.specs.Asking.{ListsAll}
use Rattle.cycle_search.specs.Seek.{AreSeeks, seek_room}
use Rattle.cycle_search.specs.declared.seek.Seeks.{Seeks}
use Rattle.effic_check.specs.Accepted.{IsClosed, cycle_below}
use Rattle.effic_search.specs.Counted.{AreFew, IsCounted, IsWithin, bounds, others, most_ended}
use Rattle.effic_search.specs.NextTry.{IsNextTry}
use Rattle.effic_search.specs.Since.{IsSinceGoal}
use Rattle.effic_search.specs.inner.Going.{IsLowering, IsGoing, IsTry, IsPaid, IsLeftAt, IsStuck, IsImproved}
use Rattle.effic_search.specs.inner.Going.{HasSought, HasAsked, EndsWith, may_bound, product_of, entries_of}
use Rattle.effic_search.specs.declared.counting.Listed.{Listed}
use Rattle.effic_search.specs.declared.lowering.Lowering.{Lowering}
use Rattle.effic_search.proofs.ListFacts.{ends_split, last_added, get_behind}
use Rattle.effic_search.proofs.SinceFacts.{since_goal, since_more}
use Rattle.cycle_search.proofs.about_rounds.TrailFacts.{first_frame}
use Rattle.effic_search.proofs.CountFacts.{others_few}
use Rattle.effic_search.proofs.TryFacts.{left_cycle, ranked_going, ended_less, ended_next}
use Rattle.cycle_search.proofs.SeekFacts.{room_limit}
use Rattle.effic_search.proofs.GainFacts.{HasGained, sought_gains, asked_gains, gains_both, both_at}
use Rattle.effic_search.proofs.GainFacts.{about_now, gained_lowering, near_now, closed_now, clear_other, found_going}
use Rattle.cycle_search.proofs.SeekFacts.{try_limit}
use Rattle.effic_search.proofs.GainFacts.{product_now, paid_now, paid_more, bounds_now, listed_more, sought_listed, none_sought}

-- another balance leaves what was taken alone
paid_stays : (kind : LineKind) (line : Line) (m X : ℕ) (plan : Plan) (tries more : ℕ) (old new : Lowering)
    → IsImproved kind line m X old new → tries ≤ more → IsPaid plan tries old → IsPaid plan more new
paid_stays kind line m X plan tries more old new i l paid =
    let p : IsPaid plan more old = paid_more plan tries more old l paid in
    let S : Seeks → Type 0 = λ z. AreSeeks plan z in
    let units : new.listed.units ≡ old.listed.units = ap (λ (z : Listed). z.units) i.listed in
    let entries : new.listed.entries ≡ old.listed.entries = ap (λ (z : Listed). z.entries) i.listed in
    record {
      seeks = subst S (sym i.seeks) p.seeks;
      units = omega (arith, p.units, units);
      entries = omega (arith, p.entries, entries);
      within = omega (arith, p.within, units);
      few = omega (arith, p.few, entries);
      short = omega (arith, p.short, entries, ap (λ (z : Seeks). z.kept) i.seeks);
    }

-- a round may add one entry by Bound at most
one_bound : (v : Verdict) → may_bound v ≤ 1
one_bound verdict.Refuted = omega arith
one_bound verdict.Found = omega arith
one_bound (verdict.Spent frames) = omega arith
one_bound (verdict.NoMemory frames) = omega arith

-- so many entries more are counted, and no fewer more were kept
kept_on : (a b kept n more now : ℕ) → a ≤ b + kept → n ≤ more → now ≡ min (kept + more) (2 ^ 64 - 1)
    → a + n ≤ 20000000 → a + n ≤ b + now
kept_on a b kept n more now l few is all = omega (arith, l, few, is, all)

module _ (kind : LineKind) (line : Line) (least most m X : ℕ) (plan : Plan) (old : Lowering) (some : 1 ≤ least)
    (small : most ≤ 1024) (limit : plan.units ≤ 3000000) (t : IsTry kind line least most m X plan old) where
  -- the tries that have ended, and one of those
  abbrev ended : ℕ
  ended = most_ended line least m (product_of old)

  -- the tries that have ended where the product is that one
  abbrev pub ended_at : Lowering → ℕ
  ended_at h = most_ended line least m (product_of h)

  less_ended : (better : Lowering) → product_of better < product_of old → suc ended ≤ ended_at better
  less_ended better less =
      ended_less line least m (product_of better) (product_of old) less t.going.lowering.first

  -- the ranked balance has few enough stations
  pub ranked_found : (better : Lowering) → IsImproved kind line m X old better
      → (IsGoing kind line least most m better × (product_of better < product_of old))
      × IsPaid plan (ended_at better) better
  ranked_found better i =
      let r = ranked_going kind line least most m X old better some t.going t.left i in (
        r,
        paid_stays kind line m X plan ended (ended_at better) old better i
            (omega (arith, less_ended better r.1)) t.paid,
      )

  -- the book before the try was small enough for it
  few_old : AreFew line (entries_of old)
  few_old =
      let whole : take (length (entries_of old)) (entries_of old) ≡ entries_of old = take-length (entries_of old) in
      let U : List Entry → Type 0 = λ z. UnitsOf line z old.listed.units in
      record {
        units = old.listed.units;
        counted = subst U whole t.going.lowering.counted.units;
        small = t.small;
        short = omega (
          arith,
          t.short,
          t.going.lowering.counted.entries,
          ap (λ (z : List Entry). others z) whole,
        );
      }

  -- the seek of the try
  module _ (mid : Lowering) (found : Option Assignment) (s : HasSought m plan X old mid found) where
    sought_gain : HasGained (seek_room plan) (seek_room plan) 0 X old mid
    sought_gain = sought_gains m plan X old mid found s

    sought_few : seek_room plan ≤ 6000001
    sought_few = omega (arith, room_limit plan)

    sought_paid : seek_room plan ≤ 6000000
    sought_paid = omega (arith, room_limit plan)

    pub sought_lowering : IsLowering kind line least most mid
    sought_lowering =
        gained_lowering kind line least most m X (seek_room plan) (seek_room plan) 0 plan old mid some small t sought_few
        sought_paid sought_gain (omega arith)

    pub sought_cycle : mid.book.about.cycle ≡ X
    sought_cycle = ap (λ (z : About). z.cycle) sought_gain.about

    pub sought_range : IsCycle mid.book.about.cycle
    sought_range =
        let P : ℕ → Type 0 = λ z. IsCycle z in
        subst P (sym sought_cycle) (left_cycle kind line least most m X old t.going.lowering t.left)

    sought_seeks : AreSeeks plan mid.seeks
    sought_seeks = let P : Seeks → Type 0 = λ z. AreSeeks plan z in subst P s.seeks (s.does.seeks t.paid.seeks)

    -- what it brought was kept
    sought_short : mid.listed.entries ≤ ended * (2 * plan.units + 1) + mid.seeks.kept
    sought_short =
        let gained : List Entry = s.does.gained in
        let C : Line → Type 0 = λ z. IsCounted z (entries_of old) (length (entries_of old)) old.listed in
        let is : mid.listed.entries ≡ old.listed.entries + others gained =
        sought_listed m plan X old mid found s (subst C (sym t.going.lowering.line_is) t.going.lowering.counted) in
        let kept : mid.seeks.kept ≡ min (old.seeks.kept + s.does.taking.kept) (2 ^ 64 - 1) =
        ap (λ (z : Seeks). z.kept) (sym s.seeks) ∙ s.does.kept t.paid.seeks in
        let all : old.listed.entries + others gained ≤ old.listed.entries + seek_room plan =
        omega (arith, others_few gained, s.does.few) in
        let on : old.listed.entries + others gained ≤ ended * (2 * plan.units + 1) + mid.seeks.kept =
        kept_on old.listed.entries (ended * (2 * plan.units + 1)) old.seeks.kept (others gained) s.does.taking.kept
        mid.seeks.kept t.paid.short (omega (arith, others_few gained, s.does.added)) kept
        (omega (arith, all, t.short, sought_few)) in
        omega (arith, is, on)

    sought_pays : IsPaid plan (suc ended) mid
    sought_pays =
        paid_now kind line least most m X (seek_room plan) (seek_room plan) 0 plan old mid some small t sought_few
        sought_paid sought_gain (omega arith) (omega arith) sought_seeks
        (omega (arith, sought_short, suc-mul ended (2 * plan.units + 1)))

    -- a balance that it found is right
    pub sought_right : (b : Assignment) → found ≡ Some b → IsRight kind line X b × (b.stations ≤ m)
    sought_right b is =
        let about : s.mid.about ≡ record { line = line; kind = kind; cycle = X } =
        s.about ∙ (λ i. record { line = t.going.lowering.line_is i; kind = t.going.lowering.kind_is i; cycle = X }) in
        let r = s.does.found b (s.found_is ∙ is) in
        let P : About → Type 0 = λ z. IsRight z.kind z.line z.cycle b in
        (subst P about r.0, r.1)

    pub sought_found : (better : Lowering) → IsImproved kind line m X mid better
        → (IsGoing kind line least most m better × (product_of better < product_of old))
        × IsPaid plan (ended_at better) better
    sought_found better i =
        let r = found_going kind line least most m X (seek_room plan) (seek_room plan) 0 plan old mid some small t
        sought_few sought_paid sought_gain (omega arith) better i in (
          r,
          paid_stays kind line m X plan (suc ended) (ended_at better) mid better i (less_ended better r.1) sought_pays,
        )

    -- the question was asked
    module _ (new : Lowering) (v : Verdict) (h : HasAsked m plan mid new v) where
      -- what a try may add, in entries and in units
      abbrev many : ℕ
      many = seek_room plan + (2 * plan.units + 1)

      abbrev paid : ℕ
      paid = seek_room plan + 2 * plan.units

      asked_gain : HasGained (2 * plan.units + 1) (2 * plan.units) (may_bound v) X mid new
      asked_gain = asked_gains m plan X mid new v sought_cycle h

      gain : HasGained many paid (may_bound v) X old new
      gain =
          gains_both (seek_room plan) (2 * plan.units + 1) (seek_room plan) (2 * plan.units) (may_bound v) X old mid new
          sought_gain asked_gain

      all_few : many ≤ 6000001
      all_few = omega (arith, try_limit plan limit)

      all_paid : paid ≤ 6000000
      all_paid = omega (arith, try_limit plan limit)

      about_new : new.book.about ≡ record { line = line; kind = kind; cycle = X }
      about_new =
          about_now kind line least most m X many paid (may_bound v) plan old new some small t all_few all_paid gain

      cycle_new : new.book.about.cycle ≡ X
      cycle_new = ap (λ (z : About). z.cycle) about_new

      pub line_new : new.book.about.line ≡ line
      line_new = ap (λ (z : About). z.line) about_new

      pub kind_new : new.book.about.kind ≡ kind
      kind_new = ap (λ (z : About). z.kind) about_new

      pub some_new : 1 ≤ new.book.about.cycle
      some_new = omega (arith, cycle_new, t.left.some)

      -- the round brought at most one entry more than twice the units
      asked_short : new.listed.entries ≤ suc ended * (2 * plan.units + 1) + new.seeks.kept
      asked_short =
          let is : new.listed.entries ≡ mid.listed.entries + others asked_gain.gained =
          listed_more mid.book.about.line mid new asked_gain.gained
          (let C : Line → Type 0 = λ z. IsCounted z (entries_of mid) (length (entries_of mid)) mid.listed in
          subst C (sym sought_lowering.line_is) sought_lowering.counted)
          asked_gain.counted asked_gain.entries in
          omega (
            arith,
            is,
            sought_short,
            others_few asked_gain.gained,
            asked_gain.few,
            ap (λ (z : Seeks). z.kept) h.seeks,
            suc-mul ended (2 * plan.units + 1),
          )

      asked_pays : IsPaid plan (suc ended) new
      asked_pays =
          let P : Seeks → Type 0 = λ z. AreSeeks plan z in
          paid_now kind line least most m X many paid (may_bound v) plan old new some small t all_few all_paid gain (omega arith)
          (omega arith) (subst P (sym h.seeks) sought_seeks) asked_short

      pub asked_lowering : IsLowering kind line least most new
      asked_lowering =
          gained_lowering kind line least most m X many paid (may_bound v) plan old new some small t all_few all_paid gain
          (one_bound v)

      bounded_new : bounds (entries_of new) + 2 * least ≤ most + 1 + m + may_bound v
      bounded_new =
          bounds_now kind line least most m X many paid (may_bound v) plan old new some small t all_few all_paid gain

      same_product : product_of new ≡ product_of old
      same_product =
          product_now kind line least most m X many paid (may_bound v) plan old new some small t all_few all_paid gain

      closed_new : (s : ℕ) → least ≤ s → s < m → IsClosed line (entries_of new) (product_of new) s
      closed_new =
          closed_now kind line least most m X many paid (may_bound v) plan old new some small t all_few all_paid gain

      clear_new : (Y : ℕ) → 1 ≤ Y → m * Y < product_of old → (Y ≡ X → ⊥) → IsSinceGoal line Y (entries_of new) []
      clear_new =
          clear_other kind line least most m X many paid (may_bound v) plan old new some small t all_few all_paid gain

      -- a balance was found
      pub found_few : v ≡ verdict.Found → new.book.state.best.stations ≤ m
      found_few e =
          let P : Verdict → Type 0 = λ z. IsAnswer h.asked.book m h.does.left z in
          let Q : BookView → Type 0 = λ z. z.state.best.stations ≤ m in
          subst Q h.book (subst P (h.verdict ∙ e) h.does.answer)

      pub found_after : may_bound v ≤ 0 → (better : Lowering)
          → IsImproved kind line m new.book.about.cycle new better
          → (IsGoing kind line least most m better × (product_of better < product_of old))
          × IsPaid plan (ended_at better) better
      found_after none better i =
          let P : ℕ → Type 0 = λ z. IsImproved kind line m z new better in
          let r = found_going kind line least most m X many paid (may_bound v) plan old new some small t all_few all_paid
          gain none better (subst P cycle_new i) in (
            r,
            paid_stays kind line m new.book.about.cycle plan (suc ended) (ended_at better) new better i
                (less_ended better r.1) asked_pays,
          )

      refuted_answer : v ≡ verdict.Refuted → HasAnswer (entries_of new) (all_tasks line) m X
      refuted_answer e =
          let P : Verdict → Type 0 = λ z. IsAnswer h.asked.book m h.does.left z in
          let Q : BookView → Type 0 = λ z. HasAnswer z.state.entries (all_tasks z.about.line) m z.about.cycle in
          let R : About → Type 0 = λ z. HasAnswer (entries_of new) (all_tasks z.line) m z.cycle in
          subst R about_new (subst Q h.book (subst P (h.verdict ∙ e) h.does.answer))

      -- an entry that answers the question was added
      none_old : HasAnswer (entries_of old) (all_tasks line) m X → ⊥
      none_old = t.left.left

      gained_some : HasAnswer (entries_of new) (all_tasks line) m X → gain.gained ≡ [] → ⊥
      gained_some a none =
          let P : List Entry → Type 0 = λ z. HasAnswer z (all_tasks line) m X in
          let Q : List Entry → Type 0 = λ z. HasAnswer (entries_of old ++ z) (all_tasks line) m X in
          none_old (subst P (append-nil (entries_of old)) (subst Q none (subst P gain.entries a)))

      -- memory ended, or the last entry isn't as it should be
      pub left_as : IsLowering kind line least most new
          × IsPaid plan (most_ended line least (most + 1) (product_of new)) new
      left_as = (
        asked_lowering,
        paid_more plan (suc ended) (most_ended line least (most + 1) (product_of new)) new
            (omega (arith, same_product, t.left.from, t.left.to)) asked_pays,
      )

      -- the question was refuted, and the last entry is of all tasks
      pub refuted_going : v ≡ verdict.Refuted → EndsWith (entries_of new) (all_tasks line)
          → IsGoing kind line least most (m + 1) new × IsPaid plan (most_ended line least (m + 1) (product_of new)) new
      refuted_going refuted ends =
          let answer : HasAnswer (entries_of new) (all_tasks line) m X = refuted_answer refuted in
          let L : List Entry → Type 0 = λ z. length z ≡ suc ends.before in
          let G : List Entry → Type 0 = λ z. slice_get z ends.before ≡ Some ends.entry in
          let cycle : ends.entry.cycle ≡ X =
          (elim (last_added (entries_of old) gain.gained ends.before ends.entry (subst L gain.entries ends.last)
          (subst G gain.entries ends.there)) [
            | inl none ↦ absurd (gained_some answer none)
            | inr b ↦ gain.cycles b.0 ends.entry b.1
          ]) in (
            record {
              lowering = asked_lowering;
              clear = λ Y one near. elim (cases_eq Y X) [
                | inl e ↦
                    let P : ℕ → Type 0 = λ z. IsSinceGoal line z (entries_of new) [] in
                    subst P (sym e) (since_goal line X (entries_of new) (take ends.before (entries_of new)) ends.entry
                    (ends_split (entries_of new) ends.before ends.entry ends.last ends.there) cycle ends.same)
                | inr n ↦
                    let a : m * Y ≤ (m + 1) * Y = mul-le m Y (m + 1) Y (omega arith) (omega arith) in
                    clear_new Y one (omega (arith, near, a, same_product)) n
              ];
              closed = λ s from to. elim (cases_eq s m) [
                | inl e ↦
                    let P : ℕ → Type 0 = λ z. IsClosed line (entries_of new) (product_of new) z in
                    let Q : ℕ → Type 0 = λ z. HasAnswer (entries_of new) (all_tasks line) m z in
                    let R : ℕ → Type 0 = λ z. HasAnswer (entries_of new) (all_tasks line) m (cycle_below z m) in
                    subst P (sym e) (λ one. subst R (sym same_product) (subst Q t.is answer))
                | inr n ↦ closed_new s from (omega (arith, to, n))
              ];
              bounded = omega (arith, bounded_new, one_bound v);
            },
            paid_more plan (suc ended) (most_ended line least (m + 1) (product_of new)) new
                (ended_next line least m (product_of new) (product_of old) same_product t.left.from) asked_pays,
          )

      -- the units ended, and no entry that the round added is of all tasks
      module _ (frames : List OpenFrame) (spent : v ≡ verdict.Spent frames)
          (none : (k : ℕ) (e : Entry) → length (entries_of mid) ≤ k → slice_get (entries_of new) k ≡ Some e
          → e.set ≡ all_tasks line → ⊥) where
        answer_now : IsAnswer new.book m h.does.left (verdict.Spent frames)
        answer_now =
            let P : Verdict → Type 0 = λ z. IsAnswer h.asked.book m h.does.left z in
            let Q : BookView → Type 0 = λ z. IsAnswer z m h.does.left (verdict.Spent frames) in
            subst Q h.book (subst P (h.verdict ∙ spent) h.does.answer)

        trail_now : IsTrail kind line new.book.about.cycle (entries_of new) (all_tasks line) m frames
        trail_now =
            let X' : ℕ = new.book.about.cycle in
            let P : LineKind → Type 0 =
            λ z. IsTrail z new.book.about.line X' (entries_of new) (all_tasks new.book.about.line) m frames in
            let Q : Line → Type 0 = λ z. IsTrail kind z X' (entries_of new) (all_tasks z) m frames in
            subst Q line_new (subst P kind_new answer_now.0.trail)

        opens_now : IsOpenOver line new.book.about.cycle (entries_of new) frames
        opens_now =
            let P : Line → Type 0 = λ z. IsOpenOver z new.book.about.cycle (entries_of new) frames in
            subst P line_new answer_now.1

        left_now : HasAnswer (entries_of new) (all_tasks line) m X → ⊥
        left_now a =
            let P : List Entry → Type 0 = λ z. slice_get z a.0 ≡ Some a.1 in
            elim (get_append_cases (entries_of old) gain.gained a.0 a.1 (subst P gain.entries a.2.0)) [
              | inl o ↦ none_old (a.0, a.1, (o, a.2.1))
              | inr b ↦
                  let f =
                  first_frame kind line new.book.about.cycle (entries_of new) (all_tasks line) m frames trail_now in
                  let c : a.1.cycle ≡ new.book.about.cycle = gain.cycles b.0 a.1 b.1 ∙ sym cycle_new in
                  opens_now.unanswered 0 f.0 f.1 a.0 a.1 a.2.0 c (record {
                    same = a.2.1.same ∙ sym f.2;
                    stations = omega (arith, a.2.1.stations, f.3);
                    long = omega (arith, c);
                  })
            ]

        -- what the round added
        round_entries : entries_of new ≡ entries_of mid ++ h.does.gained
        round_entries = ap (λ (z : BookView). z.state.entries) (sym h.book) ∙ h.does.entries

        round_cycles : AreAtCycle X h.does.gained
        round_cycles = let A : ℕ → Type 0 = λ z. AreAtCycle z h.does.gained in subst A sought_cycle h.does.cycles

        none_since : (k : ℕ) (e : Entry) → slice_get h.does.gained k ≡ Some e → e.set ≡ all_tasks line → ⊥
        none_since k e g =
            let P : List Entry → Type 0 = λ z. slice_get z (length (entries_of mid) + k) ≡ Some e in
            none (length (entries_of mid) + k) e (omega arith)
            (subst P (sym round_entries)
            (get_behind (entries_of mid) h.does.gained k (length (entries_of mid) + k) e g (omega arith)))

        sought_within : IsWithin line sought_gain.gained (seek_room plan)
        sought_within =
            let U : Line → Type 0 = λ z. UnitsOf z sought_gain.gained sought_gain.units in
            record {
              few = sought_gain.few;
              units = sought_gain.units;
              counted = subst U t.going.lowering.line_is sought_gain.entry_units;
              paid = sought_gain.within;
            }

        -- without a seek the book was before the round as before the try
        goal_now : plan.seek ≡ 0 → IsSinceGoal line X (entries_of new) h.does.gained
        goal_now seekless =
            let P : List Entry → Type 0 = λ z. IsSinceGoal line X z h.does.gained in
            let Q : List Entry → Type 0 = λ z. IsSinceGoal line X z [] in
            let A : List Entry → Type 0 = λ z. entries_of mid ≡ entries_of old ++ z in
            let before : entries_of mid ≡ entries_of old =
            subst A (none_sought line plan sought_gain.gained seekless sought_within) sought_gain.entries
            ∙ append-nil (entries_of old) in
            subst P (sym round_entries) (since_more line X (entries_of mid) h.does.gained round_cycles
            none_since (subst Q (sym before) (t.going.clear X t.left.some t.left.near)))

        frame_units_now : UnitsIn line new.book.about.cycle frames h.does.listed
        frame_units_now =
            let P : Verdict → Type 0 =
            λ z. UnitsIn mid.book.about.line mid.book.about.cycle (frames_of z) h.does.listed in
            let Q : About → Type 0 = λ z. UnitsIn z.line z.cycle frames h.does.listed in
            let R : Line → Type 0 = λ z. UnitsIn z new.book.about.cycle frames h.does.listed in
            subst R line_new (subst Q (ap (λ (z : BookView). z.about) h.book) (subst Q (sym h.does.about)
            (subst P (h.verdict ∙ spent) h.does.frame_units)))

        entry_units_now : UnitsOf line h.does.gained h.does.published
        entry_units_now =
            let P : Line → Type 0 = λ z. UnitsOf z h.does.gained h.does.published in
            subst P sought_lowering.line_is h.does.entry_units

        lists : ListsAll (verdict.Spent frames) plan (h.does.published + h.does.listed)
        lists =
            let P : Verdict → Type 0 = λ z. ListsAll z plan (h.does.published + h.does.listed) in
            subst P (h.verdict ∙ spent) h.does.all

        pub spent_stuck : (closing_from : ℕ) → closing_from ≡ length (entries_of mid) → m < tasks line
            → IsStuck kind line least most plan new frames closing_from
        spent_stuck closing_from from few =
            let same : X ≡ new.book.about.cycle = sym cycle_new in
            let G : ℕ → Type 0 = λ z. IsSinceGoal line z (entries_of new) h.does.gained in
            let A : ℕ → Type 0 = λ z. AreAtCycle z (sought_gain.gained ++ h.does.gained) in
            let N : ℕ → Type 0 = λ z. IsLeftAt line least most m z new in
            let K : ℕ → Type 0 = λ z. IsNextTry line (entries_of new) least most (product_of new) m z in
            record {
              lowering = asked_lowering;
              m = m;
              left = subst N same (record {
                from = t.left.from;
                to = t.left.to;
                some = t.left.some;
                floor = t.left.floor;
                near = near_now kind line least most m X many paid (may_bound v) plan old new some small t all_few all_paid gain;
                left = left_now;
              });
              next = subst K same (record {
                from = t.left.from;
                to = t.left.to;
                closed = closed_new;
                some = t.left.some;
                is = t.is ∙ ap (λ (z : ℕ). cycle_below z m) (sym same_product);
                left = left_now;
              });
              few = few;
              trail = trail_now;
              opens = opens_now;
              front = entries_of old;
              sought = sought_gain.gained;
              since = h.does.gained;
              added = round_entries
                  ∙ (ap (λ (z : List Entry). z ++ h.does.gained) sought_gain.entries
                  ∙ append_assoc (entries_of old) sought_gain.gained h.does.gained);
              from = omega (
                arith,
                from,
                ap (λ (z : List Entry). length z) sought_gain.entries,
                length-append (entries_of old) sought_gain.gained,
              );
              small = few_old;
              tried = subst A same (both_at X sought_gain.gained h.does.gained sought_gain.cycles round_cycles);
              room = sought_within;
              goal = λ seekless. subst G same (goal_now seekless);
              published = h.does.published;
              listed = h.does.listed;
              entry_units = entry_units_now;
              frame_units = frame_units_now;
              within = omega (arith, h.does.paid, h.does.within, limit);
              twice = omega (arith, h.does.paid, h.does.within);
              all = lists.0;
              alone = lists.1;
              paid = paid_more plan (suc ended) (suc (ended_at new)) new (omega (arith, same_product)) asked_pays;
            }
