-- What helpers left and used, taken over one by one.
use Rattle.std.proofs.Common.{◌≡◌, ℕ, zero, suc, ◌+◌, ◌<◌, List, [], ◌∷◌, length, take, refl, sym, ap, ◌∙◌, subst}
use Rattle.std.proofs.Common.{arith, Some}
use Rattle.std.proofs.lemmas.Option.{slice_get-get_or, get_or_from_slice_get}
use Rattle.std.specs.Prelude.{slice_get, slice_index_or, slice_set, ◌^◌}
use Rattle.station_search.specs.declared.answers.Units.{Units}
use Rattle.round_helpers.specs.Helping.{all_used, HaveSpent}
use Rattle.round_helpers.specs.inner.Seats.{used_by}
use Rattle.round_helpers.specs.inner.Teams.{settled, settled_one, AreSettled}
use Rattle.round_helpers.specs.declared.teams.Helper.{Helper}

settled_none : (us : List Units) → settled us [] ≡ us
settled_none [] = refl
settled_none (u ∷ us) = refl

-- the next one hasn't been taken over
settled_next : (us : List Units) (hs : List Helper) (k : ℕ) (d : Units)
    → slice_index_or (settled us (take k hs)) k d ≡ slice_index_or us k d
settled_next [] hs k d = refl
settled_next (u ∷ us) hs zero d = refl
settled_next (u ∷ us) [] (suc k) d = refl
settled_next (u ∷ us) (h ∷ hs) (suc k) d = settled_next us hs k d

settled_turn : (us : List Units) (hs : List Helper) (k : ℕ) (d : Units) (e : Helper) → k < length us → k < length hs
    → slice_set (settled us (take k hs)) k (settled_one (slice_index_or us k d) (slice_index_or hs k e))
    ≡ settled us (take (suc k) hs)
settled_turn [] hs k d e l m = absurd (omega (arith, l))
settled_turn (u ∷ us) [] k d e l m = absurd (omega (arith, m))
settled_turn (u ∷ us) (h ∷ hs) zero d e l m = ap (λ (z : List Units). settled_one u h ∷ z) (sym (settled_none us))
settled_turn (u ∷ us) (h ∷ hs) (suc k) d e l m =
    ap (λ (z : List Units). settled_one u h ∷ z) (settled_turn us hs k d e (omega (arith, l)) (omega (arith, m)))

-- the default of a place that is there says nothing
same_read : (hs : List Helper) (k : ℕ) (e f : Helper) → k < length hs → slice_index_or hs k e ≡ slice_index_or hs k f
same_read hs k e f l =
    sym (get_or_from_slice_get hs k (slice_index_or hs k e) f (slice_get-get_or hs k e l))

pub settle_turn : (us : List Units) (hs : List Helper) (now : List Units) (k : ℕ) (d : Units) (e f : Helper)
    → k < length us → k < length hs → now ≡ settled us (take k hs)
    → slice_set now k (record {
      left = (slice_index_or hs k e).units.left;
      used = (slice_index_or now k d).used + (slice_index_or hs k f).units.used;
    })
    ≡ settled us (take (k + 1) hs)
settle_turn us hs now k d e f l m is =
    let P : List Units → Type 0 = λ z. slice_set z k (record {
      left = (slice_index_or hs k e).units.left;
      used = (slice_index_or z k d).used + (slice_index_or hs k f).units.used;
    })
    ≡ settled us (take (k + 1) hs) in
    let n : suc k ≡ k + 1 = omega arith in
    let next : slice_index_or (settled us (take k hs)) k d ≡ slice_index_or us k d = settled_next us hs k d in
    let same : slice_index_or hs k f ≡ slice_index_or hs k e = same_read hs k f e m in
    subst P (sym is)
    ((λ i. slice_set (settled us (take k hs)) k (record {
      left = (slice_index_or hs k e).units.left;
      used = (next i).used + (same i).units.used;
    }))
    ∙ (settled_turn us hs k d e l m ∙ ap (λ (z : ℕ). settled us (take z hs)) n))

-- the sum of what was used is a number of 64 bits
pub settle_fits : (us : List Units) (hs : List Helper) (now : List Units) (k : ℕ) (d : Units) (e : Helper)
    → k < length us → k < length hs → now ≡ settled us (take k hs) → AreSettled us hs
    → (slice_index_or now k d).used + (slice_index_or hs k e).units.used < 2 ^ 64
settle_fits us hs now k d e l m is sums =
    let next : slice_index_or now k d ≡ slice_index_or us k d =
    ap (λ (z : List Units). slice_index_or z k d) is ∙ settled_next us hs k d in
    let s = sums k (slice_index_or us k d) (slice_index_or hs k e) (slice_get-get_or us k d l)
    (slice_get-get_or hs k e m) in
    omega (arith, s, ap (λ (z : Units). z.used) next)

pub settle_start : (us : List Units) → us ≡ settled us []
settle_start us = sym (settled_none us)

-- each has used some of its units and no more, and all together what the helpers used
pub settled_spent : (us : List Units) (hs : List Helper) → length hs ≡ length us
    → ((k : ℕ) (u : Units) (h : Helper) → slice_get us k ≡ Some u → slice_get hs k ≡ Some h
    → h.units.used + h.units.left ≡ u.left)
    → HaveSpent us (settled us hs)
settled_spent [] hs e s = tt
settled_spent (u ∷ us) [] e s = absurd (omega (arith, e))
settled_spent (u ∷ us) (h ∷ hs) e s = (
  omega arith,
  omega (arith, s 0 u h refl refl),
  settled_spent us hs (omega (arith, e)) (λ k v g a b. s (suc k) v g a b),
)

pub settled_used : (us : List Units) (hs : List Helper) → length hs ≡ length us
    → all_used (settled us hs) ≡ all_used us + used_by hs
settled_used [] [] e = refl
settled_used [] (h ∷ hs) e = absurd (omega (arith, e))
settled_used (u ∷ us) [] e = absurd (omega (arith, e))
settled_used (u ∷ us) (h ∷ hs) e = omega (arith, settled_used us hs (omega (arith, e)))

-- what a helper left stands in its place
pub settled_left : (us : List Units) (hs : List Helper) (k : ℕ) (h : Helper) → length hs ≡ length us
    → slice_get hs k ≡ Some h
    → (v : Units) × ((slice_get (settled us hs) k ≡ Some v) × (v.left ≡ h.units.left))
settled_left us [] k h e g = absurd (cc)
settled_left [] (x ∷ hs) k h e g = absurd (omega (arith, e))
settled_left (u ∷ us) (x ∷ hs) zero h e g =
    let same : x ≡ h = cc in
    (settled_one u x, (refl, ap (λ (z : Helper). z.units.left) same))
settled_left (u ∷ us) (x ∷ hs) (suc k) h e g = settled_left us hs k h (omega (arith, e)) g

-- nothing was used
pub spent_none : (us : List Units) → HaveSpent us us
spent_none [] = tt
spent_none (u ∷ us) = (omega arith, refl, spent_none us)
