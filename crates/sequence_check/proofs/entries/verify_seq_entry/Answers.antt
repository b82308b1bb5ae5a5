use Rattle.std.proofs.Common.{◌≡◌, ℕ, List, length, Option, Bor, option_map, [], refl, sym, ap, ◌∙◌, subst}
use Rattle.sequence_rules.specs.Charges.{listed_charges}
use Rattle.sequence_check.specs.Walks.{AreCitable}
use Rattle.sequence_check.specs.Faults.{IsPosedEntry}
use Rattle.sequence_check.proofs.RangeFacts.{entry_posed, entry_few, citable}
use Rattle.sequence_check.proofs.entries.verify_seq_entry.Goals as goal

pub check_after-requires : goal.check_after-requires
check_after-requires c =
    let t = c.args.times.now in
    let o : Option (List ℕ) = option_map (λ a. a.now) c.args.charges in
    let same : listed_charges o ≡ c.as_slice.result.now =
    ap (λ (z : Option (Bor (List ℕ))). listed_charges (option_map (λ a. a.now) z)) c.in-Some.is
    ∙ sym c.as_slice.ensures in
    let P : List ℕ → Type 0 = λ z. IsPosedEntry t c.args.interval c.args.reach z c.args.entry.now in
    let Q : List ℕ → Type 0 = λ z. AreCitable z c.args.before.now in
    record {
      posed = subst P same (entry_posed t c.args.interval c.args.reach (length t.demands) t.stations o c.requires.times
          c.requires.interval c.requires.reach refl refl c.requires.charges c.args.entry.now c.requires.entry);
      few = entry_few (length t.demands) t.stations o c.args.entry.now c.requires.times.models c.requires.entry;
      citable = subst Q same (citable t c.args.interval c.args.reach (length t.demands) t.stations o c.requires.times
          c.requires.interval c.requires.reach refl refl c.requires.charges c.args.before.now c.requires.before);
    }

pub check_after-requires-in-None : goal.check_after-requires-in-None
check_after-requires-in-None c =
    let t = c.args.times.now in
    let o : Option (List ℕ) = option_map (λ a. a.now) c.args.charges in
    let same : listed_charges o ≡ [] =
    ap (λ (z : Option (Bor (List ℕ))). listed_charges (option_map (λ a. a.now) z)) c.in-None.is in
    let P : List ℕ → Type 0 = λ z. IsPosedEntry t c.args.interval c.args.reach z c.args.entry.now in
    let Q : List ℕ → Type 0 = λ z. AreCitable z c.args.before.now in
    record {
      posed = subst P same (entry_posed t c.args.interval c.args.reach (length t.demands) t.stations o c.requires.times
          c.requires.interval c.requires.reach refl refl c.requires.charges c.args.entry.now c.requires.entry);
      few = entry_few (length t.demands) t.stations o c.args.entry.now c.requires.times.models c.requires.entry;
      citable = subst Q same (citable t c.args.interval c.args.reach (length t.demands) t.stations o c.requires.times
          c.requires.interval c.requires.reach refl refl c.requires.charges c.args.before.now c.requires.before);
    }
