-- When an entry with cites follows: it has a unit, and its cites match the numbers that need one.
use Rattle.std.proofs.Common.{◌≡◌, ℕ, ◌<◌, ◌≤◌, Bool, List, length, take, refl, sym, subst, arith, Some, sum}
use Rattle.std.specs.Prelude.{slice_get}
use Rattle.std.proofs.lemmas.List.{length-take-le}
use Rattle.std.proofs.lemmas.Option.{slice_get_within, same_Some}
use Rattle.line_rules.proofs.ListFacts.{get_some}
use Rattle.sequence_values.specs.declared.types.Times.{Times}
use Rattle.sequence_values.specs.declared.types.SeqEntry.{SeqEntry}
use Rattle.sequence_values.specs.declared.types.SeqWhy.{SeqWhy}
use Rattle.sequence_values.specs.declared.types.SeqWhy.TheVariants as why
use Rattle.sequence_rules.specs.Entries.{passing, needs_cite, Covers, FollowsBy, units_by}
use Rattle.sequence_check.specs.Walks.{CoversBelow, IsFirstLate, AreBelow, IsSpare, AnswersStep}
use Rattle.sequence_check.specs.Faults.{cites_of, models_by, is_walked, is_open, IsCiteFor, IsReady}
use Rattle.sequence_check.proofs.WalkFacts.{passing_all}

-- the numbers below n that need a cite are as many as the cites, and each has one in order
pub record Matches (needs : ℕ → Bool) (Cited : ℕ → ℕ → Type 0) (cites : List ℕ) (n : ℕ) : Type 0 where
  pub as_many : length cites ≡ length (passing needs n)
  pub cited : (p m cite : ℕ) → slice_get (passing needs n) p ≡ Some m → slice_get cites p ≡ Some cite → Cited m cite

module _ (needs : ℕ → Bool) (Cited : ℕ → ℕ → Type 0) (cites : List ℕ) (n : ℕ) where
  -- what matches is covered by the first cites
  pub matches_below : Matches needs Cited cites n → CoversBelow needs Cited cites n
  matches_below h = record { enough = omega (arith, h.as_many); cited = h.cited }

  -- what is covered by as many cites as there are matches
  pub covers_all : CoversBelow needs Cited cites n → length cites ≤ length (passing needs n)
      → Matches needs Cited cites n
  covers_all h l = record { as_many = omega (arith, h.enough, l); cited = h.cited }

  -- where all match, no cite is left
  pub not_spare : Matches needs Cited cites n → IsSpare needs Cited cites n → ⊥
  not_spare h spare = omega (arith, h.as_many, spare.left)

  -- where all match and cites are of entries below k, each cite is below k
  pub all_within : (k : ℕ) → ((m x : ℕ) → Cited m x → x < k) → Matches needs Cited cites n → (p x : ℕ)
      → slice_get cites p ≡ Some x → x < k
  all_within k within h p x there =
      let m : (m : ℕ) × (slice_get (passing needs n) p ≡ Some m) =
      get_some (passing needs n) p (omega (arith, h.as_many, slice_get_within cites p x there)) in
      within m.0 x (h.cited p m.0 x m.1 there)

  pub not_late : (k : ℕ) → ((m x : ℕ) → Cited m x → x < k) → Matches needs Cited cites n → (x : ℕ)
      → IsFirstLate cites k x → ⊥
  not_late k within h x late = omega (arith, late.late, all_within k within h late.place x late.there)

-- what a frame covers matches
pub covers_match : (t : Times) (interval reach : ℕ) (charges : List ℕ) (es : List SeqEntry) (rem starts : List ℕ)
    (need n : ℕ) (cites : List ℕ)
    → Covers t interval reach charges es rem starts need n cites
    → Matches (needs_cite t interval reach rem starts need)
    (AnswersStep t interval reach charges es rem starts need) cites n
covers_match t interval reach charges es rem starts need n cites h = record { as_many = h.as_many; cited = h.cited }

pub step_within : (t : Times) (interval reach : ℕ) (charges : List ℕ) (es : List SeqEntry) (rem starts : List ℕ)
    (need m x : ℕ)
    → AnswersStep t interval reach charges es rem starts need m x → x < length es
step_within t interval reach charges es rem starts need m x c = slice_get_within es x c.entry c.there

module _ (t : Times) (interval reach : ℕ) (charges : List ℕ) (earlier : List SeqEntry) (e : SeqEntry) where
  -- an entry by this reason has a unit, and its cites match
  pub record IsMatched (w : SeqWhy) (cites : List ℕ) : Type 0 where
    pub some : 0 < sum e.rem
    pub all : Matches (is_open t interval reach charges e w) (IsCiteFor t interval reach charges earlier e w) cites
        (models_by charges e w)

  pub cite_within : (w : SeqWhy) (m x : ℕ) → IsCiteFor t interval reach charges earlier e w m x → x < length earlier
  cite_within why.Bound m x c = slice_get_within earlier x c.entry c.there
  cite_within (why.Branch cites) m x c = slice_get_within earlier x c.entry c.there
  cite_within (why.Charge cites) m x c = slice_get_within earlier x c.entry c.there

  pub follows_matched : (w : SeqWhy) (cites : List ℕ) → cites_of w ≡ Some cites
      → FollowsBy t interval reach charges earlier e w → IsMatched w cites
  follows_matched why.Bound cites is f = absurd (cc)
  follows_matched (why.Branch c) cites is f =
      subst (λ (z : List ℕ). IsMatched (why.Branch c) z) (same_Some c cites is)
      (record { some = f.some; all = record { as_many = f.covers.as_many; cited = f.covers.cited } })
  follows_matched (why.Charge c) cites is f =
      subst (λ (z : List ℕ). IsMatched (why.Charge c) z) (same_Some c cites is)
      (record { some = f.some; all = record { as_many = f.as_many; cited = f.cited } })

  pub matched_follows : (w : SeqWhy) (cites : List ℕ) → cites_of w ≡ Some cites → IsMatched w cites
      → FollowsBy t interval reach charges earlier e w
  matched_follows why.Bound cites is m = absurd (cc)
  matched_follows (why.Branch c) cites is m =
      let own : IsMatched (why.Branch c) c =
      subst (λ (z : List ℕ). IsMatched (why.Branch c) z) (sym (same_Some c cites is)) m in
      record { some = own.some; covers = record { as_many = own.all.as_many; cited = own.all.cited } }
  matched_follows (why.Charge c) cites is m =
      let own : IsMatched (why.Charge c) c =
      subst (λ (z : List ℕ). IsMatched (why.Charge c) z) (sym (same_Some c cites is)) m in
      record { some = own.some; as_many = own.all.as_many; cited = own.all.cited }

-- an entry that has a unit may be walked after the first k entries, where its cites are below k
pub ready : (es : List SeqEntry) (e : SeqEntry) (cites : List ℕ) (k : ℕ) → k ≤ length es → 0 < sum e.rem
    → AreBelow cites k
    → IsReady (take k es) e cites
ready es e cites k l some below = record {
  some = some;
  below = λ p x g. omega (arith, below p x g, length-take-le k es l);
}

-- the units of an entry with cites are its models that are walked
pub units_are : (charges : List ℕ) (e : SeqEntry) (w : SeqWhy) (cites : List ℕ) → cites_of w ≡ Some cites
    → length (passing (is_walked e w) (models_by charges e w)) ≡ units_by charges e w
units_are charges e why.Bound cites is = absurd (cc)
units_are charges e (why.Branch c) cites is = refl
units_are charges e (why.Charge c) cites is = passing_all (length charges)
