-- What a search begins with after a seek. Entries without one by Charge are the same without charges.
use Rattle.std.proofs.Common.{◌≡◌, ℕ, zero, suc, ◌+◌, ◌≤◌, List, [], ◌∷◌, length, take, Option, Some, None, arith}
use Rattle.std.proofs.Common.{◌-◌, refl, sym, subst}
use Rattle.std.specs.Prelude.{slice_get, IfSome}
use Rattle.std.proofs.lemmas.List.Sums.{sum_by-cons}
use Rattle.line_rules.proofs.ListFacts.{get_take}
use Rattle.sequence_values.specs.declared.types.Times.{Times}
use Rattle.sequence_values.specs.declared.types.SeqEntry.{SeqEntry}
use Rattle.sequence_values.specs.declared.types.SeqWhy.{SeqWhy}
use Rattle.sequence_values.specs.declared.types.SeqWhy.TheVariants as why
use Rattle.sequence_rules.specs.States.{IsSequenceOf, cost, root_starts}
use Rattle.sequence_rules.specs.Charges.{AreCharges}
use Rattle.sequence_rules.specs.Entries.{AnswersBy, IsByCharge, FollowsBy, IsDerived, units_by, entry_units, units_of}
use Rattle.sequence_rules.specs.Ranges.{IsWhy, IsEntry}
use Rattle.sequence_search.specs.About.{About}
use Rattle.sequence_search.specs.Outcomes.{model_order}
use Rattle.command_outcome.specs.Bounds.{seek_line}
use Rattle.sequence_seek.specs.Sought.{IsFound}
use Rattle.warm_sequence.specs.Warm.{AreKept}
use Rattle.command_sequence.specs.Beginning.{HasRow, AreChargesFor, Begins, IsBegun}

-- no entry of a list is by Charge
abbrev NoRow : List SeqEntry → Type 0
NoRow es = (k : ℕ) (e : SeqEntry) → slice_get es k ≡ Some e → IsByCharge e.why → ⊥

answers_plain : (cs ds : List ℕ) (e : SeqEntry) (w : SeqWhy) (rem starts : List ℕ) (need : ℕ) → (IsByCharge w → ⊥)
    → AnswersBy cs e w rem starts need → AnswersBy ds e w rem starts need
answers_plain cs ds e why.Bound rem starts need plain a = a
answers_plain cs ds e (why.Branch cites) rem starts need plain a = a
answers_plain cs ds e (why.Charge cites) rem starts need plain a = absurd (plain tt)

follows_plain : (t : Times) (interval reach : ℕ) (cs ds : List ℕ) (earlier : List SeqEntry) (e : SeqEntry) (w : SeqWhy)
    → (IsByCharge w → ⊥) → NoRow earlier → FollowsBy t interval reach cs earlier e w
    → FollowsBy t interval reach ds earlier e w
follows_plain t interval reach cs ds earlier e why.Bound plain none f = f
follows_plain t interval reach cs ds earlier e (why.Branch cites) plain none f = record {
  some = f.some;
  covers = record {
    as_many = f.covers.as_many;
    cited = λ p model cite g c. let own = f.covers.cited p model cite g c in
        record {
          entry = own.entry;
          there = own.there;
          answers = answers_plain cs ds own.entry own.entry.why _ _ _ (none cite own.entry own.there) own.answers;
        };
  };
}
follows_plain t interval reach cs ds earlier e (why.Charge cites) plain none f = absurd (plain tt)

derived_plain : (t : Times) (interval reach : ℕ) (cs ds : List ℕ) (es : List SeqEntry) → NoRow es
    → IsDerived t interval reach cs es → IsDerived t interval reach ds es
derived_plain t interval reach cs ds es none d k e g =
    follows_plain t interval reach cs ds (take k es) e e.why (none k e g)
    (λ j x h. none j x (get_take es k j x h).1) (d k e g)

why_plain : (o p : Option (List ℕ)) (w : SeqWhy) → (IsByCharge w → ⊥) → IsWhy o w → IsWhy p w
why_plain o p why.Bound plain h = tt
why_plain o p (why.Branch cites) plain h = h
why_plain o p (why.Charge cites) plain h = absurd (plain tt)

units_plain : (cs ds : List ℕ) (e : SeqEntry) (w : SeqWhy) → (IsByCharge w → ⊥)
    → units_by cs e w ≡ units_by ds e w
units_plain cs ds e why.Bound plain = omega arith
units_plain cs ds e (why.Branch cites) plain = omega arith
units_plain cs ds e (why.Charge cites) plain = absurd (plain tt)

all_units_plain : (cs ds : List ℕ) (es : List SeqEntry) → NoRow es → units_of cs es ≡ units_of ds es
all_units_plain cs ds [] none = omega arith
all_units_plain cs ds (e ∷ es) none = omega (
  arith,
  sum_by-cons (entry_units cs) e es,
  sum_by-cons (entry_units ds) e es,
  units_plain cs ds e e.why (none 0 e (cc)),
  all_units_plain cs ds es (λ k x g. none (suc k) x g),
)

-- What a seek with these charges found, and what of it a search begins with.
pub record HasFound (t : Times) (interval reach room limit : ℕ) (first charges : List ℕ) (kept : List SeqEntry)
    (said : List ℕ) : Type 0 where
  pub sequence : List ℕ
  pub lemmas : List SeqEntry
  pub used : ℕ
  pub found : IsFound t limit sequence charges lemmas used
  pub no_worse : cost t interval reach (root_starts t) first ≤ cost t interval reach (root_starts t) sequence
  pub taken : AreKept t interval reach charges room lemmas kept
  pub said_so : said ≡ seek_line used limit (length kept)

-- a search begins with what a seek of some units found
begins_so : (t : Times) (interval reach room limit units : ℕ) (first cs : List ℕ) (o : Option (List ℕ))
    (kept : List SeqEntry) (said : List ℕ) → 1 ≤ limit → HasFound t interval reach room limit first cs kept said
    → IfSome o (λ a. a ≡ cs)
    → Begins t interval reach room limit (record { units = units; first = first; charges = o; kept = kept }) said
begins_so t interval reach room zero units first cs o kept said some h same = absurd (omega (arith, some))
begins_so t interval reach room (suc k) units first cs o kept said some h same = record {
  sequence = h.sequence;
  charges = cs;
  lemmas = h.lemmas;
  used = h.used;
  found = h.found;
  no_worse = h.no_worse;
  kept = h.taken;
  same = same;
  said_so = h.said_so;
}

module _ (t : Times) (interval reach units limit : ℕ) (first cs : List ℕ) (kept : List SeqEntry) (said : List ℕ)
    (some : 1 ≤ limit) (is : IsSequenceOf t.demands first)
    (no_worse : cost t interval reach (root_starts t) first
    ≤ cost t interval reach (root_starts t) (model_order t.demands))
    (charges : AreCharges t cs) (derived : IsDerived t interval reach cs kept)
    (range : (k : ℕ) (e : SeqEntry) → slice_get kept k ≡ Some e → IsEntry (length t.demands) t.stations (Some cs) e)
    (many : length kept + units ≤ 1999999) (paid : units_of cs kept + units ≤ 1999999)
    (has : HasFound t interval reach (1999999 - units) limit first cs kept said) where
  -- with the charges of the seek
  charged : HasRow kept → IsBegun t interval reach units limit
      (record { units = units; first = first; charges = Some cs; kept = kept }) said
  charged row = record {
    given = omega arith;
    is = is;
    no_worse = no_worse;
    charged = row;
    limit = charges;
    derived = derived;
    range = range;
    many = many;
    paid = paid;
    begins = begins_so t interval reach (1999999 - units) limit units first cs (Some cs) kept said some has refl;
  }

  pub begun_sought : (o : Option (List ℕ)) → AreChargesFor kept o → IfSome o (λ a. a ≡ cs)
      → IsBegun t interval reach units limit (record { units = units; first = first; charges = o; kept = kept }) said
  begun_sought None row same =
      let none : NoRow kept = λ k e g c. row (k, e, (g, c)) in
      record {
        given = omega arith;
        is = is;
        no_worse = no_worse;
        charged = row;
        limit = tt;
        derived = derived_plain t interval reach cs [] kept none derived;
        range = λ k e g. record {
          state = (range k e g).state;
          least = (range k e g).least;
          why = why_plain (Some cs) None e.why (none k e g) (range k e g).why;
        };
        many = many;
        paid = omega (arith, paid, all_units_plain cs [] kept none);
        begins = begins_so t interval reach (1999999 - units) limit units first cs None kept said some has tt;
      }
  begun_sought (Some a) row same =
      let P : List ℕ → Type 0 = λ z. IsBegun t interval reach units limit
      (record { units = units; first = first; charges = Some z; kept = kept }) said in
      subst P (sym same) (charged row)
