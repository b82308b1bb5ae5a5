-- In a derived list every entry holds.
use Rattle.std.proofs.Common.{◌≡◌, ℕ, zero, suc, ◌-◌, ◌<◌, ◌≤◌, List, set, take, inl, inr, arith}
use Rattle.std.proofs.Common.{Some}
use Rattle.std.specs.Prelude.{slice_get}
use Rattle.std.proofs.lemmas.Option.{slice_get_within}
use Rattle.line_instance.specs.Line.{Line, IsLine, IsTaskSet}
pub use Rattle.line_rules.proofs.ListFacts.{get_take}
use Rattle.line_rules.specs.Balance.{Holds}
use Rattle.line_rules.specs.Loads.{rest}
use Rattle.line_rules.specs.Bounds.{bound}
use Rattle.line_rules.specs.Entries.{Cites, FollowsByBranch, FollowsBySwap, FollowsBy, Follows, IsDerived}
use Rattle.line_rules.specs.declared.types.LineKind.{LineKind}
use Rattle.line_rules.specs.declared.types.Mode.{Mode}
use Rattle.line_rules.specs.declared.types.Entry.{Entry}
use Rattle.line_rules.specs.declared.types.Why.{Why}
use Rattle.line_rules.specs.declared.types.Why.TheVariants as why
use Rattle.line_rules.proofs.SubBalance.{restricted}
use Rattle.line_rules.proofs.BoundIsTrue.{bound_le}
use Rattle.line_rules.proofs.FullLoadExists.{step}
use Rattle.line_rules.proofs.ListFacts.{get_some}
use Rattle.line_rules.proofs.Swap.{swapped, swap_seats}
use Rattle.line_rules.proofs.PairSharing.{sound as pairs_sound}
use Rattle.std.proofs.lemmas.Bool.{cases_lt}

-- Bound: the bound exceeds `most`
by_bound : (kind : LineKind) (line : Line) (e : Entry) → 1 ≤ e.cycle → e.most < bound kind line e.cycle e.set
    → Holds kind line e.cycle e.set e.most
by_bound kind line e o l place b = omega (arith, l, bound_le kind line e.cycle o e.set e.most place b)

-- Branch: the entries before it hold
by_branch : (kind : LineKind) (line : Line) → IsLine line → (earlier : List Entry) (e : Entry) (mode : Mode)
    (cites : List ℕ) → IsTaskSet line e.set → 1 ≤ e.cycle
    → ((k : ℕ) (f : Entry) → slice_get earlier k ≡ Some f → Holds kind line f.cycle f.set f.most)
    → FollowsByBranch kind line earlier e mode cites → Holds kind line e.cycle e.set e.most
by_branch kind line ok earlier e mode cites set o held f place b =
    step kind line ok.small e.cycle mode f.belongs e.set set f.some.0 f.some.1 e.most place b
    (λ l load full place' b'. elim (cases_lt (bound kind line e.cycle (rest e.set l)) e.most) [
      | inr above ↦ omega (arith, f.stations, above, bound_le kind line e.cycle o (rest e.set l) (e.most - 1) place' b')
      | inl under ↦
          let p : (k : ℕ) × (slice_get f.covers.loads k ≡ Some l) =
          f.covers.listed.complete l (record { load = load; full = full; bound = under }) in
          let q : (x : ℕ) × (slice_get cites p.0 ≡ Some x) =
          get_some cites p.0 (omega (arith, f.covers.as_many, slice_get_within f.covers.loads p.0 l p.1)) in
          let g : Cites earlier q.0 (rest e.set l) (e.most - 1) e.cycle = f.covers.cited p.0 q.0 l q.1 p.1 in
          held q.0 g.entry g.there place' (restricted kind line e.cycle g.entry.cycle (rest e.set l) g.entry.set
          (e.most - 1) g.entry.most place' g.cycle g.stations g.part b')
    ])

-- Swap: a balance of the set gives one of the cited set, with `into` in the seat of `out`
by_swap : (kind : LineKind) (line : Line) → IsLine line → (earlier : List Entry) (e : Entry) (cite out into : ℕ)
    → IsTaskSet line e.set
    → ((k : ℕ) (f : Entry) → slice_get earlier k ≡ Some f → Holds kind line f.cycle f.set f.most)
    → FollowsBySwap line earlier e cite out into → Holds kind line e.cycle e.set e.most
by_swap kind line ok earlier e cite out into set held f place b =
    held cite f.entry f.there (swapped place out into)
    (restricted kind line e.cycle f.entry.cycle f.entry.set f.entry.set e.most f.entry.most (swapped place out into)
    f.cycle f.stations (λ i m. m)
    (swap_seats kind line ok e.cycle e.set f.entry.set e.most place out into b set f.out_in f.into_out f.set f.time
    f.before f.after f.apart))

-- what each entry says holds
by_any : (kind : LineKind) (line : Line) → IsLine line → (earlier : List Entry) (e : Entry) (w : Why)
    → IsTaskSet line e.set → 1 ≤ e.cycle
    → ((k : ℕ) (f : Entry) → slice_get earlier k ≡ Some f → Holds kind line f.cycle f.set f.most)
    → FollowsBy kind line earlier e w → Holds kind line e.cycle e.set e.most
by_any kind line ok earlier e why.Bound set o held f = by_bound kind line e o f
by_any kind line ok earlier e (why.Branch mode cites) set o held f =
    by_branch kind line ok earlier e mode cites set o held f
by_any kind line ok earlier e (why.Swap cite out into) set o held f =
    by_swap kind line ok earlier e cite out into set held f
by_any kind line ok earlier e (why.Pairs two) set o held f = pairs_sound kind line e.cycle e.set e.most two ok set f

-- the entries below n hold
sound_below : (kind : LineKind) (line : Line) → IsLine line → (es : List Entry) → IsDerived kind line es
    → (n k : ℕ) (e : Entry) → k < n → slice_get es k ≡ Some e → Holds kind line e.cycle e.set e.most
sound_below kind line ok es d zero k e l g = absurd (omega arith)
sound_below kind line ok es d (suc n) k e l g =
    let f : Follows kind line (take k es) e = d k e g in
    by_any kind line ok (take k es) e e.why f.set f.cycle
    (λ j h q. let p : (j < k) × (slice_get es j ≡ Some h) = get_take es k j h q in
    sound_below kind line ok es d n j h (omega (arith, p.0)) p.1)
    f.by

pub sound : (kind : LineKind) (line : Line) → IsLine line → (es : List Entry) → IsDerived kind line es
    → (k : ℕ) (e : Entry) → slice_get es k ≡ Some e → Holds kind line e.cycle e.set e.most
sound kind line ok es d k e g = sound_below kind line ok es d (suc k) k e (omega arith) g
