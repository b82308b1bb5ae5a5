-- Loads that are passed over, since what they leave takes too long.
use Rattle.std.proofs.Common.{◌≡◌, ℕ, ◌+◌, ◌-◌, ◌*◌, ◌<◌, ◌≤◌, ◌⊎◌, inl, inr, List, Bool, Option, Some, None, refl, sym}
use Rattle.std.proofs.Common.{ap, ◌∙◌, subst, arith}
use Rattle.std.proofs.lemmas.Option.{same_Some}
use Rattle.std.specs.Prelude.{IsSome, IfSome, ◌↔◌}
use Rattle.line_instance.specs.Truths.{In}
use Rattle.line_rules.specs.Bounds.{IsChained}
use Rattle.line_rules.specs.declared.types.LineKind.TheVariants.{Straight}
use Rattle.line_instance.specs.Line.{Line, IsRanked}
use Rattle.line_rules.specs.Loads.{IsLoad, rest}
use Rattle.line_rules.specs.Order.{IsFollowing}
use Rattle.line_rules.specs.Entries.{IsOpen}
use Rattle.line_rules.specs.declared.types.LineKind.{LineKind}
use Rattle.line_rules.specs.declared.types.Mode.{Mode}
use Rattle.line_rules.specs.declared.types.Load.{Load}
use Rattle.line_rules.specs.declared.types.OpenFrame.{OpenFrame}
use Rattle.line_rules.specs.Times.{AreTimes}
use Rattle.line_rules.proofs.Rest.{long_rest}
use Rattle.lower_bounds.specs.declared.sizes.Times.{Times}
use Rattle.lemma_core.specs.Desks.{DeskView, entries, Keeps}
use Rattle.lemma_core.proofs.HistoryGrows.{keeps_none}
use Rattle.station_load.specs.Walking.{IsWalk}
use Rattle.station_search.specs.inner.Work.{IsBeside, with_last}
use Rattle.station_search.specs.inner.Steps.{with_mark, stands_with, Skips, none, one_more, HasSkipped, HasMet, IsLast}
use Rattle.station_search.specs.inner.Steps.{ListsOn}
use Rattle.station_search.specs.declared.standing.Standing.{Standing}
use Rattle.station_search.specs.declared.standing.Listed.TheVariants as listed
use Rattle.station_search.specs.declared.listings.Listing.{Listing}
use Rattle.station_search.specs.declared.searching_beside.Walk.{Walk}
use Rattle.station_search.proofs.Events.{waits_none}
use Rattle.station_search.proofs.PaidSteps.{one_none, does_few}
use Rattle.station_search.proofs.RestTimes.{times_of_rest}
use Rattle.station_search.proofs.States.{IsSearching, closed}
use Rattle.station_search.proofs.Tallies.{Tally, tally_lists, Outlay, outlay_lists}
use Rattle.station_search.proofs.WalkStates.{IsWalking, walk_closed}

-- where there is a value, it is one
pub value_of : (o : Option Load) → IsSome o → (l : Load) × (o ≡ Some l)
value_of None h = absurd (cc)
value_of (Some l) h = (l, refl)

-- no load was passed over
pub skips_none : (kind : LineKind) (line : Line) (X : ℕ) (f : OpenFrame) (g : Listing) (used : ℕ)
    → IsBeside line X f g → HasSkipped kind line X f used used g
skips_none kind line X f g used b =
    let P : Option Load → Type 0 = λ z. IsBeside line X (with_mark f z) g in
    record {
      light = 0;
      skips = none b.same_last refl;
      cost = omega arith;
      beside = subst P (sym b.same_last) b;
    }

-- the listing goes on to the next load
pub meets : (kind : LineKind) (line : Line) (X : ℕ) (f : OpenFrame) (before used after : ℕ) (g h : Listing)
    → HasSkipped kind line X f before used g → IsWalk line h.walk → h.walk.cycle ≡ g.walk.cycle
    → h.walk.mode ≡ g.walk.mode → h.walk.set ≡ g.walk.set → h.times ≡ g.times → h.chained ≡ g.chained
    → IsSome h.walk.last
    → IfSome h.walk.last (IsFollowing line g.walk.cycle g.walk.mode g.walk.set g.walk.last) → after ≡ used + 1
    → HasMet kind line X f before after h
meets kind line X f before used after g h s walk cycle mode set times chained given next more =
    let b = s.beside in
    let v = value_of h.walk.last given in
    let N : Option Load → Type 0 =
    λ z. IfSome z (IsFollowing line g.walk.cycle g.walk.mode g.walk.set g.walk.last) in
    let C : ℕ → Type 0 = λ z. IsFollowing line z g.walk.mode g.walk.set g.walk.last v.0 in
    let M : Mode → Type 0 = λ z. IsFollowing line X z g.walk.set g.walk.last v.0 in
    let S : List Bool → Type 0 = λ z. IsFollowing line X f.mode z g.walk.last v.0 in
    let T : Times → Type 0 = λ z. AreTimes line f.set z.total z.longest in
    let K : Option (List Bool) → Type 0 =
    λ z. IfSome z (λ t. (j : ℕ) → In t j ↔ IsChained Straight line X f.set (f.most - 1) j) in
    record {
      last = g.walk.last;
      light = s.light;
      skips = s.skips;
      load = v.0;
      next = subst S b.same_set (subst M b.same_mode (subst C b.same_cycle (subst N v.1 next)));
      stands = v.1;
      cost = omega (arith, more, s.cost);
      beside = record {
        walk = walk;
        same_cycle = cycle ∙ b.same_cycle;
        same_mode = mode ∙ b.same_mode;
        same_set = set ∙ b.same_set;
        same_last = v.1;
        times = subst T (sym times) b.times;
        chained = subst K (sym chained) b.chained;
      };
    }

-- a listing that stands where another does has met the same load
pub met_at : (kind : LineKind) (line : Line) (X : ℕ) (f : OpenFrame) (before after : ℕ) (g h : Listing)
    → HasMet kind line X f before after g → h.walk ≡ g.walk → IsBeside line X (with_mark f g.walk.last) h
    → HasMet kind line X f before after h
met_at kind line X f before after g h m same beside =
    let P : Option Load → Type 0 = λ z. IsBeside line X (with_mark f z) h in
    record {
      last = m.last;
      light = m.light;
      skips = m.skips;
      load = m.load;
      next = m.next;
      stands = ap (λ w. w.last) same ∙ m.stands;
      cost = m.cost;
      beside = subst P m.stands beside;
    }

-- a load whose rest takes too long isn't open
pub light_closed : (kind : LineKind) (line : Line) (X : ℕ) (f : OpenFrame) (g : Listing) (l : Load)
    → IsBeside line X (with_last f l) g → IsLoad line X f.mode f.set l → 1 ≤ X → 1 ≤ f.most → f.most ≤ 1024
    → (f.most - 1) * X < g.times.total - g.walk.sum → IsOpen kind line X f.mode f.set f.most l → ⊥
light_closed kind line X f g l b load cycle some few more o =
    let t = times_of_rest line X (with_last f l) g l b load refl in
    omega (
      arith,
      o.bound,
      long_rest kind line X (rest f.set l) f.most cycle some (omega (arith, few)) (omega (arith, more, t.total)),
    )

-- a load that isn't open is passed over
pub passes_over : (kind : LineKind) (line : Line) (X : ℕ) (f : OpenFrame) (before after : ℕ) (g : Listing)
    → (m : HasMet kind line X f before after g) → (IsOpen kind line X f.mode f.set f.most m.load → ⊥)
    → HasSkipped kind line X f before after g
passes_over kind line X f before after g m shut =
    let P : Option Load → Type 0 = λ z. IsBeside line X (with_mark f z) g in
    record {
      light = m.light + 1;
      skips = one_more m.last m.light m.load m.skips m.next shut m.stands refl;
      cost = m.cost;
      beside = subst P (sym m.stands) m.beside;
    }

-- the listing is beside the frame that has the load at which it stands
pub beside_met : (kind : LineKind) (line : Line) (X : ℕ) (f : OpenFrame) (before after : ℕ) (g : Listing)
    → HasMet kind line X f before after g → IsBeside line X (with_mark f g.walk.last) g
beside_met kind line X f before after g m =
    let P : Option Load → Type 0 = λ z. IsBeside line X (with_mark f z) g in
    subst P (sym m.stands) m.beside

-- where no load was passed over, the listing stands where it stood; else it stands at a load
pub stood : (kind : LineKind) (line : Line) (X : ℕ) (f : OpenFrame) (last : Option Load) (n : ℕ)
    → Skips kind line X f last n → n ≡ 0 → last ≡ f.last
stood kind line X f last n (none e z) q = e
stood kind line X f last n (one_more before k l s next shut e z) q = absurd (omega (arith, z, q))

pub stands : (kind : LineKind) (line : Line) (X : ℕ) (f : OpenFrame) (last : Option Load) (n : ℕ)
    → Skips kind line X f last n → 1 ≤ n → IsSome last
stands kind line X f last n (none e z) q = absurd (omega (arith, z, q))
stands kind line X f last n (one_more before k l s next shut e z) q =
    let P : Option Load → Type 0 = λ z. IsSome z in subst P (sym e) refl

module _ (asked : Option Mode) (kind : LineKind) (line : Line) (ranked : IsRanked line) (X : ℕ) (R : List Bool)
    (most : ℕ) (old mid : DeskView) where
  -- the search of a question alone stands at the last load that was passed over
  module _ (passed : List OpenFrame) (f : OpenFrame)
      (now : IsSearching asked kind line X (entries mid) R most passed f) where
    pub searching_past : (last : Option Load) (n : ℕ) → Skips kind line X f last n
        → IsSearching asked kind line X (entries mid) R most passed (with_mark f last)
    searching_past last n (none e z) =
        let P : Option Load → Type 0 = λ z. IsSearching asked kind line X (entries mid) R most passed (with_mark f z) in
        subst P (sym e) now
    searching_past last n (one_more before k l s next shut e z) =
        let P : Option Load → Type 0 = λ z. IsSearching asked kind line X (entries mid) R most passed (with_mark f z) in
        subst P (sym e) (closed asked kind line ranked X R most (entries mid) passed (with_mark f before)
        (searching_past before k s) l next shut)

    pub tally_past : (spent spent' : ℕ) → Keeps old mid → Tally asked kind line X old mid passed f spent 0
        → (last : Option Load) (n : ℕ) → Skips kind line X f last n → spent' ≡ spent + n
        → Tally asked kind line X old mid passed (with_mark f last) spent' 0
    tally_past spent spent' before tally last n (none e z) more =
        let P : Option Load → Type 0 = λ z. Tally asked kind line X old mid passed (with_mark f z) spent' 0 in
        let N : ℕ → Type 0 = λ z. Tally asked kind line X old mid passed f z 0 in
        let same : spent ≡ spent' = omega (arith, more, z) in
        subst P (sym e) (subst N same tally)
    tally_past spent spent' before tally last n (one_more upto k l s next shut e z) more =
        let P : Option Load → Type 0 = λ z. Tally asked kind line X old mid passed (with_mark f z) spent' 0 in
        let here = searching_past upto k s in
        subst P (sym e) (tally_lists asked kind line ranked X old mid mid passed (with_mark f upto) (spent + k) before
        (keeps_none mid) (tally_past spent (spent + k) before tally upto k s refl) (entries mid) R most l f.cites 0 0
        spent' here.leads next here.deep.last
        (one_none asked kind line X mid mid (rest f.set l) 0 (waits_none mid)) (omega arith) (omega (arith, more, z)))

  -- the same beside others
  module _ (passed : List OpenFrame) (walks : List Walk) (f : OpenFrame) (walk : Walk)
      (now : IsWalking asked kind line X (entries mid) R most passed walks f walk) where
    pub walking_past : (last : Option Load) (n : ℕ) → Skips kind line X f last n
        → IsWalking asked kind line X (entries mid) R most passed walks (with_mark f last) walk
    walking_past last n (none e z) =
        let P : Option Load → Type 0 =
        λ z. IsWalking asked kind line X (entries mid) R most passed walks (with_mark f z) walk in
        subst P (sym e) now
    walking_past last n (one_more before k l s next shut e z) =
        let P : Option Load → Type 0 =
        λ z. IsWalking asked kind line X (entries mid) R most passed walks (with_mark f z) walk in
        subst P (sym e) (walk_closed asked kind line ranked X R most (entries mid) passed walks (with_mark f before)
        walk (walking_past before k s) l next shut)

    pub outlay_past : (spent spent' : ℕ) → Keeps old mid → Outlay asked kind line X old mid passed f spent 0
        → (last : Option Load) (n : ℕ) → Skips kind line X f last n → spent' ≡ spent + n
        → Outlay asked kind line X old mid passed (with_mark f last) spent' 0
    outlay_past spent spent' before outlay last n (none e z) more =
        let P : Option Load → Type 0 = λ z. Outlay asked kind line X old mid passed (with_mark f z) spent' 0 in
        let N : ℕ → Type 0 = λ z. Outlay asked kind line X old mid passed f z 0 in
        let same : spent ≡ spent' = omega (arith, more, z) in
        subst P (sym e) (subst N same outlay)
    outlay_past spent spent' before outlay last n (one_more upto k l s next shut e z) more =
        let P : Option Load → Type 0 = λ z. Outlay asked kind line X old mid passed (with_mark f z) spent' 0 in
        let here = walking_past upto k s in
        subst P (sym e) (outlay_lists asked kind line ranked X old mid mid passed (with_mark f upto) (spent + k) before
        (keeps_none mid) (outlay_past spent (spent + k) before outlay upto k s refl) l f.cites 0 0 spent' next
        here.chain.deep.last
        (does_few asked kind line X mid mid (rest f.set l) 0 0
        (one_none asked kind line X mid mid (rest f.set l) 0 (waits_none mid))) (omega arith) (omega (arith, more, z)))

-- units used since a count u, after so many loads were passed over and a listing that took k
pub past_none : (a b n k u : ℕ) → a ≡ b + (n + k) → k ≡ 0 → u ≤ b → a - u ≡ (b - u) + n
past_none a b n k u e z l = omega (arith, e, z, l)

pub past_one : (a b n k u : ℕ) → a ≡ b + (n + k) → k ≡ 1 → u ≤ b → a - u ≡ ((b - u) + n) + 1
past_one a b n k u e z l = omega (arith, e, z, l)

pub past_some : (a b n k u : ℕ) → a ≡ b + (n + k) → k ≡ 1 → u ≤ b → ((b - u) + n) + 1 ≤ a - u
past_some a b n k u e z l = omega (arith, e, z, l)

pub past_more : (a b u : ℕ) → b + 1 ≤ a → u ≤ b → (b - u) + 1 ≤ a - u
past_more a b u e l = omega (arith, e, l)

-- the load at which the listing stands
pub met_load : (kind : LineKind) (line : Line) (X : ℕ) (f : OpenFrame) (before after : ℕ) (g : Listing) (l : Load)
    → (m : HasMet kind line X f before after g) → (IsSome g.walk.last → g.walk.last ≡ Some l)
    → IsFollowing line X f.mode f.set m.last l × IsBeside line X (with_last f l) g
met_load kind line X f before after g l m told =
    let I : Option Load → Type 0 = λ z. IsSome z in
    let same : m.load ≡ l = same_Some m.load l (sym m.stands ∙ told (subst I (sym m.stands) refl)) in
    let N : Load → Type 0 = λ z. IsFollowing line X f.mode f.set m.last z in
    let B : Load → Type 0 = λ z. IsBeside line X (with_last f z) g in
    (subst N same m.next, subst B same m.beside)

-- what the walk says that its load leaves is what the load leaves of the frame's set
pub rest_at : (line : Line) (X : ℕ) (f : OpenFrame) (g : Listing) (l : Load) → IsBeside line X f g → f.last ≡ Some l
    → (r : List Bool) → IfSome g.walk.last (λ k. r ≡ rest g.walk.set k) → r ≡ rest f.set l
rest_at line X f g l b e r h =
    let L : Option Load → Type 0 = λ z. IfSome z (λ k. r ≡ rest g.walk.set k) in
    let S : List Bool → Type 0 = λ z. r ≡ rest z l in
    subst S b.same_set (subst L (b.same_last ∙ e) h)

-- the load at which the listing stands is one of the frame
pub load_at : (line : Line) (X : ℕ) (f : OpenFrame) (g : Listing) (l : Load) → IsBeside line X f g → g.walk.last ≡ Some l
    → IsLoad line X f.mode f.set l
load_at line X f g l b e =
    let C : ℕ → Type 0 = λ z. IsLoad line z g.walk.mode g.walk.set l in
    let M : Mode → Type 0 = λ z. IsLoad line X z g.walk.set l in
    let S : List Bool → Type 0 = λ z. IsLoad line X f.mode z l in
    subst S b.same_set (subst M b.same_mode (subst C b.same_cycle (b.walk.load l e)))

-- no load or no unit is left, and the frame has the last load that was passed over
module _ (kind : LineKind) (line : Line) (X : ℕ) (s : Standing) (before after left : ℕ) (g h : Listing) (f : OpenFrame)
    (desk : DeskView) (sure : Bool) (stop : HasSkipped kind line X s.frame before after g)
    (e : f ≡ with_mark s.frame g.walk.last) where
  abbrev pub at_stop : Standing
  at_stop = record { passed = s.passed; listings = s.listings; frame = f; listing = h }

  stays : at_stop ≡ stands_with s (with_mark s.frame g.walk.last) h
  stays = ap (λ (z : OpenFrame). stands_with s z h) e

  pub lists_none : IsLast line X f f.last → ListsOn kind line X sure desk desk s at_stop before after left listed.Ended
  lists_none over =
      let P : OpenFrame → Type 0 = λ z. IsLast line X z z.last in
      record {
        last = g.walk.last;
        light = stop.light;
        skips = stop.skips;
        listing = g;
        lists = (record { stays = stays; desk = refl }, subst P e over);
        cost = omega (arith, stop.cost);
      }

  pub lists_spent : (l : Load) → IsFollowing line X f.mode f.set f.last l
      → ((left ≡ 0) ⊎ IsLast line X s.frame g.walk.last)
      → ListsOn kind line X sure desk desk s at_stop before after left listed.Spent
  lists_spent l next why =
      let P : OpenFrame → Type 0 = λ z. IsFollowing line X z.mode z.set z.last l in
      let n = subst P e next in
      let zero_left : left ≡ 0 = elim why [ inl z ↦ z | inr over ↦ absurd (over l n.load n.above) ] in
      record {
        last = g.walk.last;
        light = stop.light;
        skips = stop.skips;
        listing = g;
        lists = (record { stays = stays; desk = refl }, zero_left, (l, n));
        cost = omega (arith, stop.cost);
      }
