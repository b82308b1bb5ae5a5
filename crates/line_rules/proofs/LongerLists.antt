-- A derived list that grows stays derived, and what follows from a list follows from each longer one.
use Rattle.std.proofs.Common.{◌≡◌, ℕ, ◌-◌, Bool, List, [], ◌∷◌, ◌++◌, take, sym, ◌∙◌, subst, inl, inr, arith}
use Rattle.line_instance.specs.Line.{Line}
pub use Rattle.line_rules.proofs.ListFacts.{get_longer, get_push_cases}
use Rattle.line_rules.specs.Loads.{rest}
use Rattle.line_rules.specs.Entries.{IsOpen, Covers, Cites, FollowsBy, Follows, IsDerived, HasAnswer}
use Rattle.line_rules.specs.declared.types.LineKind.{LineKind}
use Rattle.line_rules.specs.declared.types.Load.{Load}
use Rattle.line_rules.specs.declared.types.Entry.{Entry}
use Rattle.line_rules.specs.declared.types.Why.{Why}
use Rattle.line_rules.specs.declared.types.Why.TheVariants as why
use Rattle.std.proofs.lemmas.List.{take-append-le, take_all}

pub cites_longer : (es more : List Entry) (cite : ℕ) (T : List Bool) (r c : ℕ) → Cites es cite T r c
    → Cites (es ++ more) cite T r c
cites_longer es more cite T r c h = record {
  entry = h.entry;
  there = get_longer es more cite h.entry h.there;
  part = h.part;
  stations = h.stations;
  cycle = h.cycle;
}

pub covers_longer : (line : Line) (P : Load → Type 0) (es more : List Entry) (R : List Bool) (most c : ℕ)
    (cites : List ℕ) → Covers line P es R most c cites → Covers line P (es ++ more) R most c cites
covers_longer line P es more R most c cites h = record {
  loads = h.loads;
  listed = h.listed;
  as_many = h.as_many;
  cited = λ p cite l a b. cites_longer es more cite (rest R l) (most - 1) c (h.cited p cite l a b);
}

by_longer : (kind : LineKind) (line : Line) (es more : List Entry) (e : Entry) (w : Why) → FollowsBy kind line es e w
    → FollowsBy kind line (es ++ more) e w
by_longer kind line es more e why.Bound f = f
by_longer kind line es more e (why.Branch mode cites) f = record {
  some = f.some;
  stations = f.stations;
  belongs = f.belongs;
  covers = covers_longer line (IsOpen kind line e.cycle mode e.set e.most) es more e.set e.most e.cycle cites f.covers;
}
by_longer kind line es more e (why.Swap cite out into) f = record {
  entry = f.entry;
  there = get_longer es more cite f.entry f.there;
  stations = f.stations;
  cycle = f.cycle;
  out_in = f.out_in;
  task = f.task;
  into_out = f.into_out;
  set = f.set;
  time = f.time;
  before = f.before;
  after = f.after;
  apart = f.apart;
}
by_longer kind line es more e (why.Pairs two) f = f

-- what follows from a list follows from each longer one
pub follows_longer : (kind : LineKind) (line : Line) (es more : List Entry) (e : Entry) → Follows kind line es e
    → Follows kind line (es ++ more) e
follows_longer kind line es more e f = record {
  set = f.set;
  cycle = f.cycle;
  by = by_longer kind line es more e e.why f.by;
}

-- a derived list with a further entry that follows from it
pub derived_push : (kind : LineKind) (line : Line) (es : List Entry) (e : Entry) → IsDerived kind line es
    → Follows kind line es e → IsDerived kind line (es ++ e ∷ [])
derived_push kind line es e d f k x g = elim (get_push_cases es e x k g) [
  | inl p ↦ (let P : List Entry → Type 0 = λ before. Follows kind line before x in
      subst P (sym (take-append-le k es (e ∷ []) (omega (arith, p.0)))) (d k x p.1))
  | inr q ↦
      let t : take k (es ++ e ∷ []) ≡ es = take-append-le k es (e ∷ []) (omega (arith, q.0))
      ∙ take_all k es (omega (arith, q.0)) in
      let P : List Entry → Type 0 = λ before. Follows kind line before x in
      let Q : Entry → Type 0 = λ y. Follows kind line es y in
      subst P (sym t) (subst Q q.1 f)
]

-- what answers a question answers it in a longer list
pub has_longer : (es more : List Entry) (set : List Bool) (most X : ℕ) → HasAnswer es set most X
    → HasAnswer (es ++ more) set most X
has_longer es more set most X h = (h.0, h.1, (get_longer es more h.0 h.1 h.2.0, h.2.1))
