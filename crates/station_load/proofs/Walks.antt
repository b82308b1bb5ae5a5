-- A walk and the load that it gave last.
use Rattle.std.proofs.Common.{◌≡◌, ℕ, ◌+◌, ◌*◌, Bool, true, false, cond, List, refl, sym, ap, ◌∙◌, subst, Option, Some}
use Rattle.std.proofs.Common.{None, IfSome, length, arith}
use Rattle.std.proofs.lemmas.Bool.{false≢true, true≢false}
use Rattle.std.proofs.lemmas.Option.{cond_some, same_Some}
use Rattle.line_instance.specs.Line.{Line, IsLine, IsRanked, IsTaskSet, tasks, has}
use Rattle.line_instance.specs.Sums.{sum_where}
use Rattle.line_instance.specs.Truths.{IsSubset, minus}
use Rattle.line_instance.proofs.Members.{In-minus_parts}
use Rattle.line_rules.specs.Loads.{IsLoad, IsFull, rest, taken}
use Rattle.line_rules.specs.Order.{IsFollowing, After}
use Rattle.line_rules.specs.Sides.{MayJoin, fills, part, nothing_yet}
use Rattle.line_rules.specs.declared.types.Mode.{Mode}
use Rattle.line_rules.specs.declared.types.Side.{Side}
use Rattle.line_rules.specs.declared.types.Side.TheVariants.{Front, Back}
use Rattle.line_rules.specs.declared.types.Load.{Load}
use Rattle.line_rules.specs.Sides.{AreSets}
use Rattle.line_rules.proofs.SideFacts.{each_side}
use Rattle.line_rules.proofs.JoinFacts.{full_of, full_none}
use Rattle.line_rules.specs.inner.Scan.{Scan}
use Rattle.line_rules.proofs.ScanFacts.{IsBase, scan_start, rescan, base_none, base_some, follows, none_follows}
use Rattle.station_load.specs.declared.ends.End.{End}
use Rattle.line_rules.specs.Ends.{IsEnd}
use Rattle.station_load.specs.Walking.{Walking, IsWalk, end_of, last_load}
use Rattle.station_load.specs.inner.Steps.{AreEnds, AreOver, IsBefore, IsNextFrom, pair}
use Rattle.line_rules.proofs.NextLoad.{same_pair}
use Rattle.station_load.proofs.SetFacts.{minus_union}

base_of : (line : Line) (c : ℕ) (mode : Mode) (R : List Bool) (last : Option Load)
    → ((l : Load) → last ≡ Some l → IsLoad line c mode R l) → IsBase line c mode R last (last_load last)
base_of line c mode R None f = base_none line c mode R
base_of line c mode R (Some l) f = base_some line c mode R l (f l refl)

-- the load that a walk stands at, by its sides
abbrev pub stand : Walking → Load
stand w = record { front = w.front.tasks; back = w.back.tasks }

module _ (line : Line) (ok : IsLine line) (ranked : IsRanked line) (w : Walking) (is : IsWalk line w) where
  pub stand_is : stand w ≡ last_load w.last
  stand_is = same_pair w.front.tasks (last_load w.last).front w.back.tasks (last_load w.last).back (is.stands Front)
      (is.stands Back)

  pub stand_sum : w.sum ≡ sum_where (has (taken (stand w))) line.times
  stand_sum = is.sum ∙ ap (λ l. sum_where (has (taken l)) line.times) (sym stand_is)

  stand_last : (l : Load) → w.last ≡ Some l → l ≡ stand w
  stand_last l e = sym (stand_is ∙ ap last_load e)

  -- the load given last is full where no task may join it
  pub full_yes : ((s : Side) (i : ℕ) → fills w.mode s ≡ true → MayJoin line w.cycle w.set s (stand w) i → ⊥)
      → (l : Load) → w.last ≡ Some l → IsFull line w.cycle w.mode w.set l
  full_yes none l e = full_of line ok w.cycle w.mode w.set is.set l (is.load l e)
      (λ s i f may. none s i f (let P : Load → Type 0 = λ k. MayJoin line w.cycle w.set s k i in
      subst P (stand_last l e) may))

  pub full_no : (s : Side) (i : ℕ) → fills w.mode s ≡ true → MayJoin line w.cycle w.set s (stand w) i → (l : Load)
      → w.last ≡ Some l → IsFull line w.cycle w.mode w.set l → ⊥
  full_no s i f may l e full = full_none line ok w.cycle w.mode w.set is.set l (is.load l e) full s i f
      (let P : Load → Type 0 = λ k. MayJoin line w.cycle w.set s k i in subst P (sym (stand_last l e)) may)

  -- the set without the front
  pub less_within : {less : List Bool} → less ≡ minus w.set w.front.tasks → IsSubset less w.set
  less_within {less} e i m = (In-minus_parts w.set w.front.tasks i (ap (λ s. has s i) (sym e) ∙ m)).0

  -- and without the back as well
  module _ {less left : List Bool} (is_less : less ≡ minus w.set w.front.tasks)
      (is_left : left ≡ minus less w.back.tasks) where
    pub left_set : length left ≡ 1024 → IsTaskSet line left
    left_set long = record {
      truths = long;
      tasks = λ i m. is.set.tasks i (less_within is_less i
          (In-minus_parts less w.back.tasks i (ap (λ s. has s i) (sym is_left) ∙ m)).0);
    }

    -- it is what the load given last leaves
    pub left_rest : (l : Load) → w.last ≡ Some l → left ≡ rest w.set l
    left_rest l e = is_left ∙ ap (λ s. minus s w.back.tasks) is_less
        ∙ minus_union w.set w.front.tasks w.back.tasks ∙ ap (λ k. rest w.set k) (sym (stand_last l e))

  pub base : IsBase line w.cycle w.mode w.set w.last (stand w)
  base =
      let P : Load → Type 0 = λ l. IsBase line w.cycle w.mode w.set w.last l in
      subst P (sym stand_is) (base_of line w.cycle w.mode w.set w.last is.load)

  pub start : Scan line w.cycle w.mode w.set (stand w) (stand w) (tasks line + tasks line)
  start =
      let b : IsBase line w.cycle w.mode w.set w.last (stand w) = base in
      rescan line w.cycle w.mode w.set (stand w) (stand w) (2 * tasks line) (tasks line + tasks line) (omega arith)
      (scan_start line ok ranked w.cycle w.mode w.set (stand w) b.is_part)

  -- all places are to be gone over, from the load that was given last
  pub before : IsBefore line w.cycle w.mode w.set (tasks line + tasks line) (stand w)
  before = (stand w, start)

  pub ends_kept : w.ended ≡ false → AreEnds line w.mode w.set w.front w.back w.sum
  ends_kept o = record { in_front = is.ready o Front; at_back = is.ready o Back; added = stand_sum }

  -- a load was found
  pub next_given : (b : Load) → IsNextFrom line w.cycle w.mode w.set (tasks line + tasks line) (stand w) b
      → IsFollowing line w.cycle w.mode w.set w.last b
  next_given b n = follows line w.cycle w.mode w.set ranked (stand w) w.last base b (n (stand w) start)

  pub walk_on : (front back : End) (sum : ℕ) → w.ended ≡ false
      → IsNextFrom line w.cycle w.mode w.set (tasks line + tasks line) (stand w) (pair front back)
      → AreEnds line w.mode w.set front back sum
      → IsWalk line (record {
        cycle = w.cycle;
        mode = w.mode;
        set = w.set;
        last = Some (pair front back);
        ended = w.ended;
        sum = sum;
        front = front;
        back = back;
      })
  walk_on front back sum on n ends =
      let new : Walking = record {
        cycle = w.cycle;
        mode = w.mode;
        set = w.set;
        last = Some (pair front back);
        ended = w.ended;
        sum = sum;
        front = front;
        back = back;
      } in
      let P : Load → Type 0 = λ l. IsLoad line w.cycle w.mode w.set l in
      record {
        set = is.set;
        load = λ l e. subst P (same_Some (pair front back) l e) (n (stand w) start).load;
        sum = ends.added;
        stands = each_side (λ (s : Side). (end_of s new).tasks ≡ part s (pair front back)) refl refl;
        ready = λ o. each_side (λ (s : Side). fills w.mode s ≡ true
            → IsEnd line s w.set (end_of s new).tasks (end_of s new).free (end_of s new).places) ends.in_front
            ends.at_back;
        over = λ o. absurd (false≢true (sym on ∙ o));
      }

  -- none was found
  module _ (front back : End)
      (over : AreOver line w.cycle w.mode w.set (tasks line + tasks line) w.front w.back front back) where
    pub none_after : (l : Load) → IsLoad line w.cycle w.mode w.set l → After line w.last l → ⊥
    none_after = none_follows line w.cycle w.mode w.set ranked (stand w) w.last base (over.none (stand w) start)

    pub walk_over : (given : Bool) → w.last ≡ cond given (Some (stand w)) None
        → IsWalk line (record {
          cycle = w.cycle;
          mode = w.mode;
          set = w.set;
          last = cond given (Some (pair front back)) None;
          ended = true;
          sum = w.sum;
          front = front;
          back = back;
        })
    walk_over given last =
        let new : Option Load → Walking = λ o. record {
          cycle = w.cycle;
          mode = w.mode;
          set = w.set;
          last = o;
          ended = true;
          sum = w.sum;
          front = front;
          back = back;
        } in
        let P : Option Load → Type 0 = λ o. IsWalk line (new o) in
        let same : pair front back ≡ stand w = same_pair front.tasks w.front.tasks back.tasks w.back.tasks
        over.same_front over.same_back in
        subst P (last ∙ ap (λ l. cond given (Some l) None) (sym same)) (record {
          set = is.set;
          load = is.load;
          sum = is.sum;
          stands = each_side (λ (s : Side). (end_of s (new w.last)).tasks ≡ part s (last_load w.last))
              (over.same_front ∙ is.stands Front) (over.same_back ∙ is.stands Back);
          ready = λ o. absurd (true≢false o);
          over = λ o. none_after;
        })

pub of_some : {P : Load → Type 0} (o : Option Load) → ((l : Load) → o ≡ Some l → P l) → IfSome o P
of_some None f = tt
of_some (Some l) f = f l refl

last_is : (b : Bool) (l : Load) → (b ≡ false → l ≡ nothing_yet) → last_load (cond b (Some l) None) ≡ l
last_is true l h = refl
last_is false l h = sym (h refl)

-- a walk that stands at a load given last, or before the first one
pub stands_at : (line : Line) (c : ℕ) (mode : Mode) (R : List Bool) → IsTaskSet line R
    → (given : Bool) (load : Load) (sum : ℕ) (front back : End)
    → (given ≡ true → IsLoad line c mode R load) → (given ≡ false → load ≡ nothing_yet)
    → sum ≡ sum_where (has (taken load)) line.times → front.tasks ≡ load.front → back.tasks ≡ load.back
    → (fills mode Front ≡ true → IsEnd line Front R front.tasks front.free front.places)
    → (fills mode Back ≡ true → IsEnd line Back R back.tasks back.free back.places)
    → IsWalk line (record {
      cycle = c;
      mode = mode;
      set = R;
      last = cond given (Some (record { front = front.tasks; back = back.tasks })) None;
      ended = false;
      sum = sum;
      front = front;
      back = back;
    })
stands_at line c mode R set given load sum front back is nothing total f b ready_front ready_back =
    let pair : Load = record { front = front.tasks; back = back.tasks } in
    let new : Walking = record {
      cycle = c;
      mode = mode;
      set = R;
      last = cond given (Some pair) None;
      ended = false;
      sum = sum;
      front = front;
      back = back;
    } in
    let same : pair ≡ load = same_pair front.tasks load.front back.tasks load.back f b in
    let at : last_load (cond given (Some pair) None) ≡ pair = last_is given pair (λ e. same ∙ nothing e) in
    let P : Load → Type 0 = λ l. IsLoad line c mode R l in
    record {
      set = set;
      load = λ l e. let q : (given ≡ true) × (pair ≡ l) = cond_some given pair l e in subst P (sym same ∙ q.1) (is q.0);
      sum = total ∙ ap (λ l. sum_where (has (taken l)) line.times) (sym (at ∙ same));
      stands = each_side (λ (s : Side). (end_of s new).tasks ≡ part s (last_load new.last))
          (ap (λ (l : Load). l.front) (sym at)) (ap (λ (l : Load). l.back) (sym at));
      ready = λ o. each_side (λ (s : Side). fills mode s ≡ true
          → IsEnd line s R (end_of s new).tasks (end_of s new).free (end_of s new).places) ready_front ready_back;
      over = λ e. absurd (cc);
    }

-- both sides of it are sets of tasks
pub stand_sets : (line : Line) (c : ℕ) (mode : Mode) (R : List Bool) (given : Bool) (load : Load)
    → (given ≡ true → IsLoad line c mode R load) → (given ≡ false → load ≡ nothing_yet) → AreSets line load
stand_sets line c mode R true load is nothing = record { front = (is refl).front; back = (is refl).back }
stand_sets line c mode R false load is nothing =
    let b : IsBase line c mode R None nothing_yet = base_none line c mode R in
    let P : Load → Type 0 = λ l. AreSets line l in
    subst P (sym (nothing refl)) (record { front = b.is_part.front; back = b.is_part.back })
