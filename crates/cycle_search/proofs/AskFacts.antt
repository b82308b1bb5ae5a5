-- A round at the cycle of a book is what its question needs: what helpers and the closing pass added is paid for.
use Rattle.std.proofs.Common.{◌≡◌, ℕ, ◌+◌, ◌-◌, ◌*◌, ◌≤◌, List, ◌++◌, length, refl}
use Rattle.std.proofs.Common.{ap, ◌∙◌, subst, arith, append_assoc, length-append}
use Rattle.line_rules.specs.Units.{UnitsOf, UnitsIn}
use Rattle.line_rules.specs.declared.types.Entry.{Entry}
use Rattle.lemma_core.specs.Machine.{About}
use Rattle.lemma_core.specs.Books.{BookView, IsReserved}
use Rattle.round_helpers.specs.Growth.{AreAtCycle}
use Rattle.round_helpers.specs.Helping.{all_used, HaveSpent}
use Rattle.round_helpers.proofs.AddedEntries.{cycles_both}
use Rattle.round_run.specs.Plans.{IsFilled}
use Rattle.round_run.specs.Rounds.{IsAnswer, IsListed, IsRound, frames_of}
use Rattle.round_run.specs.declared.closing.Verdict.{Verdict}
use Rattle.round_run.specs.declared.closing.Verdict.TheVariants as verdict
use Rattle.round_run.specs.declared.plans.Plan.{Plan}
use Rattle.round_run.specs.declared.plans.Purse.{Purse}
use Rattle.round_run.specs.declared.rounds.Round.{Round}
use Rattle.round_run.proofs.PurseFacts.{spent_sum}
use Rattle.cycle_search.specs.Asking.{HasAskedBook, ListsAll}
use Rattle.cycle_search.specs.Seek.{HasSoughtBook}
use Rattle.cycle_search.specs.inner.Searching.{HasSought, HasAsked}
use Rattle.cycle_search.specs.declared.asking.Asked.{Asked}
use Rattle.cycle_search.specs.declared.seek.SoughtBook.{SoughtBook}
use Rattle.cycle_search.specs.declared.halving.Halving.{Halving}
use Rattle.line_rules.proofs.ListUnits.{units_both}

-- where units ended, all of the plan's are listed
lists_all : (v : Verdict) (plan : Plan) (b : BookView) (m left helped published listed used : ℕ) → IsAnswer b m left v
    → (IsListed v → published + listed ≡ used) → used + left ≡ plan.units → (plan.helpers ≡ 0 → helped ≡ 0)
    → ListsAll v plan (helped + published + listed)
lists_all verdict.Refuted plan b m left helped published listed used a exact sum alone = tt
lists_all verdict.Found plan b m left helped published listed used a exact sum alone = tt
lists_all (verdict.Spent frames) plan b m left helped published listed used a exact sum alone = (
  omega (arith, exact tt, sum, a.0.spent),
  λ none. omega (arith, exact tt, sum, a.0.spent, alone none),
)
lists_all (verdict.NoMemory frames) plan b m left helped published listed used a exact sum alone = tt

module _ (m : ℕ) (plan : Plan) (old : BookView) (purse after : Purse) (round : Round) (filled : IsFilled plan purse)
    (sum : after.closing.used + after.closing.left ≡ purse.closing.used + purse.closing.left)
    (spent : HaveSpent purse.helper.items after.helper.items)
    (r : IsRound old round m after.helper.items (all_used after.helper.items - all_used purse.helper.items)
    (after.closing.used - purse.closing.used)) where
  gained : List Entry
  gained = r.helps.gained ++ r.gains.gained

  same_about : r.mid.about ≡ old.about
  same_about = r.helps.goes_on.about

  helped_few : all_used after.helper.items ≤ plan.units
  helped_few = omega (arith, spent_sum purse.helper.items after.helper.items spent, filled.few, filled.none_used)

  helped_none : plan.helpers ≡ 0 → all_used after.helper.items ≡ 0
  helped_none z =
      omega (arith, spent_sum purse.helper.items after.helper.items spent, filled.alone z, filled.none_used)

  all_units : UnitsOf old.about.line gained (r.helps.published + r.gains.published)
  unfolding gained
  all_units =
      let P : About → Type 0 = λ z. UnitsOf z.line r.gains.gained r.gains.published in
      units_both old.about.line r.helps.gained r.gains.gained r.helps.published r.gains.published r.helps.units
      (subst P same_about r.gains.entry_units)

  all_cycles : AreAtCycle old.about.cycle gained
  unfolding gained
  all_cycles =
      let P : About → Type 0 = λ z. AreAtCycle z.cycle r.gains.gained in
      cycles_both old.about.cycle r.helps.gained r.gains.gained r.helps.goes_on.cycles
      (subst P same_about r.gains.goes_on.cycles)

  all_frames : UnitsIn old.about.line old.about.cycle (frames_of round.verdict) r.gains.listed
  all_frames =
      let P : About → Type 0 = λ z. UnitsIn z.line z.cycle (frames_of round.verdict) r.gains.listed in
      subst P same_about r.gains.frame_units

  entries_now : round.book.state.entries ≡ old.state.entries ++ gained
  unfolding gained
  entries_now =
      r.gains.goes_on.entries
      ∙ (ap (λ (z : List Entry). z ++ r.gains.gained) r.helps.goes_on.entries
      ∙ append_assoc old.state.entries r.helps.gained r.gains.gained)

  few_now : length gained ≤ 2 * plan.units + 1
  unfolding gained
  few_now = omega (
    arith,
    length-append r.helps.gained r.gains.gained,
    r.helps.few,
    r.gains.few,
    helped_few,
    sum,
    filled.used,
    filled.left,
  )

  -- the round as its asker sees it
  pub has_asked : IsAnswer round.book m after.closing.left round.verdict → IsReserved round.book
      → HasAskedBook m plan old (record {
        book = round.book;
        verdict = round.verdict;
        used = after.closing.used + all_used after.helper.items;
      })
  has_asked answer reserved = record {
    about = r.gains.goes_on.about ∙ same_about;
    reserved = reserved;
    gained = gained;
    entries = entries_now;
    cycles = all_cycles;
    few = few_now;
    published = r.helps.published + r.gains.published;
    listed = r.gains.listed;
    entry_units = all_units;
    frame_units = all_frames;
    paid = omega (arith, r.helps.within, r.gains.within, filled.used, filled.none_used);
    within = omega (arith, helped_few, sum, filled.used, filled.left);
    left = after.closing.left;
    answer = answer;
    all = lists_all round.verdict plan round.book m after.closing.left r.helps.published r.gains.published
        r.gains.listed
        (after.closing.used - purse.closing.used) answer r.gains.exact (omega (arith, sum, filled.used, filled.left))
        (λ z. omega (arith, r.helps.within, helped_none z));
  }

  -- the units used fit into the numbers that are summed
  pub fits : plan.units ≤ 3000000 → (after.closing.used ≤ 3000000) × (all_used after.helper.items ≤ 3000000)
  fits limit = (omega (arith, sum, filled.used, filled.left, limit), omega (arith, helped_few, limit))

-- a question over the book of a search
pub search_asked : (m : ℕ) (plan : Plan) (old : Halving) (asked : Asked) → HasAskedBook m plan old.book asked
    → HasAsked m plan old (record {
      lower = old.lower;
      upper = old.upper;
      balance = old.balance;
      proof = old.proof;
      book = asked.book;
      paid = old.paid + asked.used;
      seeks = old.seeks;
    }) asked.verdict
search_asked m plan old asked h = record {
  lower = refl;
  upper = refl;
  balance = refl;
  proof = refl;
  seeks = refl;
  about = h.about;
  reserved = h.reserved;
  gained = h.gained;
  entries = h.entries;
  cycles = h.cycles;
  few = h.few;
  published = h.published;
  listed = h.listed;
  entry_units = h.entry_units;
  frame_units = h.frame_units;
  paid = omega (arith, h.paid);
  within = omega (arith, h.within);
  left = h.left;
  answer = h.answer;
  all = h.all;
}

-- a seek over the book of a search
pub search_sought : (m : ℕ) (plan : Plan) (old : Halving) (sought : SoughtBook)
    → HasSoughtBook m plan old.book old.seeks sought → HasSought m plan old (record {
      lower = old.lower;
      upper = old.upper;
      balance = old.balance;
      proof = old.proof;
      book = sought.book;
      paid = old.paid + sought.paid;
      seeks = sought.seeks;
    }) sought.found
search_sought m plan old sought h = record {
  lower = refl;
  upper = refl;
  balance = refl;
  proof = refl;
  about = h.about;
  reserved = h.reserved;
  gained = h.gained;
  entries = h.entries;
  cycles = h.cycles;
  few = h.few;
  units = h.units;
  counted = h.counted;
  paid = omega (arith, h.paid);
  within = omega (arith, h.within);
  found = h.found;
  seeks = h.seeks;
}
