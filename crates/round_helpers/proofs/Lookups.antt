-- What a look into a book tells of a question.
use Rattle.std.proofs.Common.{◌≡◌, ℕ, Bool, List, refl, Option, Some, None}
use Rattle.line_rules.specs.Entries.{HasAnswer, IsLastAnswer, IsUnanswered}
use Rattle.line_rules.specs.declared.types.Entry.{Entry}
use Rattle.lemma_core.specs.Machine.{last_answer, found}
use Rattle.lemma_core.specs.declared.types.Looked.TheVariants as looked
use Rattle.lemma_core.proofs.Runs.{last_found, last_absent}

module _ (es : List Entry) (set : List Bool) (most cycle : ℕ) where
  found_case : (id m : ℕ) (o : Option ℕ) → last_answer es set most cycle ≡ o → looked.Found id m ≡ found es o
      → HasAnswer es set most cycle
  found_case id m (Some i) e r =
      let a : IsLastAnswer es set most cycle i = last_found es set most cycle i e in
      (i, a.entry, (a.there, a.answers))
  found_case id m None e r = absurd (cc)

  pub found_answers : (id m : ℕ) → looked.Found id m ≡ found es (last_answer es set most cycle)
      → HasAnswer es set most cycle
  found_answers id m r = found_case id m (last_answer es set most cycle) refl r

  absent_case : (o : Option ℕ) → last_answer es set most cycle ≡ o → looked.Absent ≡ found es o
      → IsUnanswered es set most cycle
  absent_case (Some i) e r = absurd (cc)
  absent_case None e r = last_absent es set most cycle e

  pub absent_answers : looked.Absent ≡ found es (last_answer es set most cycle) → HasAnswer es set most cycle → ⊥
  absent_answers r h = absent_case (last_answer es set most cycle) refl r h.0 h.1 h.2.0 h.2.1
