-- The units of a try, and those of all tries, are few.
use Rattle.std.proofs.Common.{◌≡◌, ℕ, zero, suc, ◌+◌, ◌-◌, ◌*◌, ◌^◌, ◌<◌, ◌≤◌, List, [], ◌∷◌, ◌++◌, length, ap, ◌∙◌}
use Rattle.std.proofs.Common.{inl, inr, arith, None, sum}
use Rattle.std.proofs.Math.Nat.{one-le-pow, pow-suc, pow-le-pow_right, mul-le-mul_right, mul-le-mul_left}
use Rattle.std.proofs.lemmas.Bool.{cases_lt}
use Rattle.std.proofs.lemmas.Grind.{pow_more}
use Rattle.std.proofs.lemmas.List.Sums.{sum_by_push}
use Rattle.sequence_values.specs.declared.types.Times.{Times}
use Rattle.sequence_values.specs.declared.types.SeqEntry.{SeqEntry}
use Rattle.sequence_values.specs.declared.types.SeqFrame.{SeqFrame}
use Rattle.sequence_rules.specs.Entries.{units_of}
use Rattle.sequence_rules.specs.Trails.{up_to}
use Rattle.sequence_rules.specs.Ranges.{AreTimes}
use Rattle.sequence_search.specs.About.{About, charges_of}
use Rattle.sequence_search.specs.Steps.{IsNextModel, IsNextState}
use Rattle.sequence_search.specs.Work.{work_of, root_work, frame_work, frames_work, AreTried, most_units}
use Rattle.sequence_search.proofs.PathFacts.{sum_less, some_left}
use Rattle.sequence_search.proofs.TurnFacts.{with_last}

-- a step by the next model, with what the next state takes
pub work_step : (models : ℕ) (f : SeqFrame) (m : ℕ) → length f.rem ≡ models → IsNextModel f.rem (up_to f.last) m
    → frame_work models (with_last f m) + (1 + work_of models (sum f.rem - 1)) ≤ frame_work models f
work_step models f m l n = fewer (models - suc m) (models - up_to f.last) (1 + work_of models (sum f.rem - 1))
    (omega (arith, l, n.after, n.below))
  where
    fewer : (a b w : ℕ) → a + 1 ≤ b → a * w + w ≤ b * w
    fewer a b w h = omega (arith, mul-le-mul_right w h)

-- a frame that has taken no step takes what its state takes
pub work_begun : (models : ℕ) (f : SeqFrame) (left : ℕ) → sum f.rem ≡ left → 0 < left → f.last ≡ None
    → frame_work models f ≡ work_of models left
work_begun models f zero e some n = absurd (omega (arith, some))
work_begun models f (suc k) e some n =
    let all : models - up_to f.last ≡ models = omega (arith, ap (λ o. up_to o) n) in
    let next : sum f.rem - 1 ≡ k = omega (arith, e) in
    ap (λ a. a * (1 + work_of models (sum f.rem - 1))) all ∙ ap (λ r. models * (1 + work_of models r)) next

-- a frame more
pub work_push : (models : ℕ) (above : List SeqFrame) (f : SeqFrame)
    → frames_work models (above ++ f ∷ []) ≡ frames_work models above + frame_work models f
work_push models above f = sum_by_push (frame_work models) above f

-- what is used and what the frames still take, after a step by the next model
pub step_works : (models used most : ℕ) (above : List SeqFrame) (f : SeqFrame) (m : ℕ) → length f.rem ≡ models
    → IsNextModel f.rem (up_to f.last) m
    → used + (frames_work models above + frame_work models f) ≤ most
    → (used + 1) + (frames_work models above + frame_work models (with_last f m)) ≤ most
step_works models used most above f m l n h = omega (arith, h, work_step models f m l n)

-- and where a further frame is opened by it
pub open_works : (t : Times) (interval reach models used most : ℕ) (above : List SeqFrame) (f g : SeqFrame) (m : ℕ)
    → length f.rem ≡ models → IsNextModel f.rem (up_to f.last) m
    → IsNextState t interval reach f m g → 0 < sum g.rem → g.last ≡ None
    → used + (frames_work models above + frame_work models f) ≤ most
    → (used + 1) + (frames_work models (above ++ with_last f m ∷ []) + frame_work models g) ≤ most
open_works t interval reach models used most above f g m l n state some none h =
    let less : sum g.rem ≡ sum f.rem - 1 = omega (
      arith,
      ap (λ xs. sum xs) state.rem,
      sum_less f.rem m (some_left f.rem m n.left),
    ) in
    omega (
      arith,
      h,
      work_step models f m l n,
      work_push models above (with_last f m),
      work_begun models g (sum f.rem - 1) less (omega (arith, less, some)) none,
    )

-- what a state takes: M + M^2 + .. up to the units left
pub work_few : (models left : ℕ) → 1 ≤ models → work_of models left ≤ left * models ^ left
work_few models zero l = omega arith
work_few models (suc k) l =
    step models (work_of models k) k (models ^ k) (models ^ suc k) (work_few models k l) (one-le-pow k models l)
    (pow-suc models k)
  where
    step : (models w k p q : ℕ) → w ≤ k * p → 1 ≤ p → q ≡ p * models → models * (1 + w) ≤ suc k * q
    step models w k p q h one e =
        omega (arith, mul-le-mul_left models h, mul-le-mul_left models one, ap (λ z. suc k * z) e)

-- a try more, after which the bounds are at most half as far from one another
pub tried_more : (t : Times) (about : About) (lower upper low high : ℕ) (old new : List SeqEntry)
    → AreTried t about lower upper old
    → 2 * (high - low) ≤ upper - lower → units_of (charges_of about) new ≤ units_of (charges_of about) old + root_work t
    → AreTried t about low high new
tried_more t about lower upper low high old new h half few = record {
  tries = h.tries + 1;
  near = omega (
    arith,
    h.near,
    nearer (high - low) (upper - lower) (2 ^ h.tries) (2 ^ (h.tries + 1)) half
        (pow_more 2 h.tries),
  );
  work = omega (arith, h.work, few);
}
  where
    nearer : (a b p q : ℕ) → 2 * a ≤ b → q ≡ p * 2 → a * q ≤ b * p
    nearer a b p q l e = omega (arith, mul-le-mul_right p l, ap (λ z. a * z) e)

-- while the bounds are apart, there were at most 55 tries
pub few_tries : (apart tries : ℕ) → 1 ≤ apart → apart * 2 ^ tries ≤ 65536000000000000 → tries < 56
few_tries apart tries some near = elim (cases_lt tries 56) [
  | inl l ↦ l
  | inr g ↦ absurd (omega (arith, near, mul-le-mul_right (2 ^ tries) some, pow-le-pow_right {n = 2} (omega arith) g))
]

-- so a try more uses fewer units than exclude it
pub tight : (t : Times) (about : About) (lower upper units : ℕ) (es : List SeqEntry) → AreTimes t
    → AreTried t about lower upper es
    → lower < upper
    → units_of (charges_of about) about.kept + units ≤ units_of (charges_of about) es + root_work t
    → units < most_units t
tight t about lower upper units es times h apart few =
    below (sum t.demands) (length t.demands ^ sum t.demands) (root_work t) h.tries units
    (few_tries (upper - lower) h.tries (omega (arith, apart)) h.near)
    (work_few (length t.demands) (sum t.demands) times.modeled)
    times.wanted (one-le-pow (sum t.demands) (length t.demands) times.modeled) (omega (arith, few, h.work))
  where
    below : (k p w d units : ℕ) → d < 56 → w ≤ k * p → 1 ≤ k → 1 ≤ p → units ≤ d * w + w → units < 64 * k * p
    below k p w d units l h some one few =
        omega (arith, mul-le-mul_right w l, h, mul-le-mul_right p some, few)
