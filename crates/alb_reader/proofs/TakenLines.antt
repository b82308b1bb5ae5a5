-- A line of a section is taken.
use Rattle.std.proofs.Common.{◌≡◌, ◌∙◌, ℕ, suc, ◌<◌, Bool, true, false, cond, nat_eq, List, [], ◌∷◌, ◌++◌, length, map}
use Rattle.std.proofs.Common.{Some, None, refl, sym, ap, subst, arith}
use Rattle.std.proofs.lemmas.Bool.{false≢true}
use Rattle.std.proofs.lemmas.Bool.Decides.{nat_tests}
use Rattle.alb_reader.specs.declared.fault.AlbKind.TheVariants.{Range}
use Rattle.line_io.specs.Lines.{number_in}
use Rattle.line_io.specs.declared.text.Num.TheVariants.{Value}
use Rattle.std.specs.Option.{is_some as is_there}
use Rattle.in2_reader.specs.Contents.{Lines}
use Rattle.in2_reader.specs.Pairs.{pair_in}
use Rattle.alb_reader.specs.Sections.{mark_of, section_after, under}
use Rattle.alb_reader.specs.Faults.{line_fault, mark_fault, body_fault, single, some_fault, timed, timed_fault}
use Rattle.alb_reader.specs.Faults.{pair_fault}
use Rattle.alb_reader.specs.Instance.{value, first_number}
use Rattle.alb_reader.specs.inner.Drafts.{IsDraft, is_some, time_line, pair_line}
use Rattle.alb_reader.specs.declared.draft.Draft.{Draft}
use Rattle.alb_reader.specs.declared.mark.Section.{Section}
use Rattle.alb_reader.specs.declared.mark.Section.TheVariants.{Tasks, Cycle, Strength, Times, Pairs}
use Rattle.alb_reader.specs.declared.mark.Mark.TheVariants.{Body}
use Rattle.alb_reader.proofs.SectionFacts.{map_append, body_draft, still}

is_empty : (xs : Lines) → is_some xs ≡ false → xs ≡ []
is_empty [] e = refl
is_empty (x ∷ xs) e = absurd (false≢true (sym e))

some_is : (v n : ℕ) → some_fault (Value v) ≡ None → Some v ≡ Some n → 0 < n
some_is v n f e = by_test (nat_eq v 0) refl f
  where
    by_test : (b : Bool) → nat_eq v 0 ≡ b → cond b (Some Range) None ≡ None → 0 < n
    by_test true z f = (cc)
    by_test false z f = (let s : v ≡ n = cc in let p : 0 < v = grind (arith, nat_tests, z) in subst (λ k. 0 < k) s p)

length_map : {A B : Type 0} (g : A → B) (xs : List A) → length (map g xs) ≡ length xs
length_map g [] = refl
length_map g (x ∷ xs) = ap suc (length_map g xs)

module _ (before : Lines) (l : ℕ × List ℕ) (d : Draft) (h : IsDraft before d) (m : mark_of l.1 ≡ Body) where
  stands : (now : Section) → d.section ≡ Some now → section_after None before ≡ Some now
  stands now s = sym h.section ∙ s

  fault_of : (now : Section) → d.section ≡ Some now → line_fault before l.1 ≡ body_fault before l.1 (Some now)
  fault_of now s = ap (mark_fault before l.1) m ∙ ap (body_fault before l.1) (stands now s)

  first_of : (s : Section) → is_some (under s before) ≡ false → under s before ++ l ∷ [] ≡ l ∷ []
  first_of s e = ap (λ xs. xs ++ l ∷ []) (is_empty (under s before) e)

  pub count_taken : (e : Draft) (v : ℕ) → d.section ≡ Some Tasks → is_there d.tasks ≡ false
      → number_in 1024 l.1 ≡ Value v → some_fault (number_in 1024 l.1) ≡ None
      → e ≡ record {
        section = d.section;
        seen = d.seen;
        tasks = Some v;
        cycle = d.cycle;
        strength = d.strength;
        times = d.times;
        pairs = d.pairs;
      }
      → (line_fault before l.1 ≡ None) × IsDraft (before ++ l ∷ []) e
  count_taken e v s none n_is f same =
      let empty : is_some (under Tasks before) ≡ false = sym h.counted ∙ none in (
        fault_of Tasks s ∙ ap (λ xs. single xs (some_fault (number_in 1024 l.1))) (is_empty (under Tasks before) empty)
            ∙ f,
        subst (IsDraft (before ++ l ∷ [])) (sym same)
            (body_draft before l Tasks d (record {
              section = d.section;
              seen = d.seen;
              tasks = Some v;
              cycle = d.cycle;
              strength = d.strength;
              times = d.times;
              pairs = d.pairs;
            }) h (stands Tasks s) m refl refl
            (sym (ap is_some (first_of Tasks empty))) (sym (ap (first_number 1024) (first_of Tasks empty)
            ∙ ap value n_is))
            (still before l is_some Cycle (is_there d.cycle) h.timed)
            (still before l (first_number 1000000000000000000) Cycle d.cycle h.cycle)
            (λ n x. some_is v n (ap some_fault (sym n_is) ∙ f) x) h.long
            (still before l is_some Strength d.strength h.strength)
            (still before l (map time_line) Times d.times.items h.times)
            (still before l (map pair_line) Pairs d.pairs.items h.pairs)),
      )

  pub cycle_taken : (e : Draft) (v : ℕ) → d.section ≡ Some Cycle → is_there d.cycle ≡ false
      → number_in 1000000000000000000 l.1 ≡ Value v → some_fault (number_in 1000000000000000000 l.1) ≡ None
      → e ≡ record {
        section = d.section;
        seen = d.seen;
        tasks = d.tasks;
        cycle = Some v;
        strength = d.strength;
        times = d.times;
        pairs = d.pairs;
      }
      → (line_fault before l.1 ≡ None) × IsDraft (before ++ l ∷ []) e
  cycle_taken e v s none n_is f same =
      let empty : is_some (under Cycle before) ≡ false = sym h.timed ∙ none in (
        fault_of Cycle s ∙ ap (λ xs. single xs (some_fault (number_in 1000000000000000000 l.1)))
            (is_empty (under Cycle before) empty) ∙ f,
        subst (IsDraft (before ++ l ∷ [])) (sym same)
            (body_draft before l Cycle d (record {
              section = d.section;
              seen = d.seen;
              tasks = d.tasks;
              cycle = Some v;
              strength = d.strength;
              times = d.times;
              pairs = d.pairs;
            }) h (stands Cycle s) m refl refl
            (still before l is_some Tasks (is_there d.tasks) h.counted)
            (still before l (first_number 1024) Tasks d.tasks h.tasks)
            (sym (ap is_some (first_of Cycle empty))) (sym (ap (first_number 1000000000000000000) (first_of Cycle empty)
            ∙ ap value n_is))
            h.some (λ n x. some_is v n (ap some_fault (sym n_is) ∙ f) x)
            (still before l is_some Strength d.strength h.strength)
            (still before l (map time_line) Times d.times.items h.times)
            (still before l (map pair_line) Pairs d.pairs.items h.pairs)),
      )

  pub strength_taken : d.section ≡ Some Strength → d.strength ≡ false
      → (line_fault before l.1 ≡ None) × IsDraft (before ++ l ∷ [])
      (record {
        section = d.section;
        seen = d.seen;
        tasks = d.tasks;
        cycle = d.cycle;
        strength = true;
        times = d.times;
        pairs = d.pairs;
      })
  strength_taken s none =
      let empty : is_some (under Strength before) ≡ false = sym h.strength ∙ none in (
        fault_of Strength s ∙ ap (λ xs. single xs None) (is_empty (under Strength before) empty),
        body_draft before l Strength d (record {
          section = d.section;
          seen = d.seen;
          tasks = d.tasks;
          cycle = d.cycle;
          strength = true;
          times = d.times;
          pairs = d.pairs;
        }) h (stands Strength s) m refl refl
            (still before l is_some Tasks (is_there d.tasks) h.counted)
            (still before l (first_number 1024) Tasks d.tasks h.tasks)
            (still before l is_some Cycle (is_there d.cycle) h.timed)
            (still before l (first_number 1000000000000000000) Cycle d.cycle h.cycle)
            h.some h.long (sym (ap is_some (first_of Strength empty)))
            (still before l (map time_line) Times d.times.items h.times)
            (still before l (map pair_line) Pairs d.pairs.items h.pairs),
      )

  pub time_taken : (e : Draft) → d.section ≡ Some Times → timed_fault (timed l.1).0 (timed l.1).1 ≡ None
      → e.section ≡ d.section → e.seen ≡ d.seen → e.tasks ≡ d.tasks → e.cycle ≡ d.cycle → e.strength ≡ d.strength
      → e.times.items ≡ d.times.items ++ time_line l ∷ [] → e.pairs ≡ d.pairs
      → (line_fault before l.1 ≡ None) × IsDraft (before ++ l ∷ []) e
  time_taken e s f section seen tasks cycle strength times pairs = (
    fault_of Times s ∙ f,
    body_draft before l Times d e h (stands Times s) m section seen
        (still before l is_some Tasks (is_there e.tasks) (ap is_there tasks ∙ h.counted))
        (still before l (first_number 1024) Tasks e.tasks (tasks ∙ h.tasks))
        (still before l is_some Cycle (is_there e.cycle) (ap is_there cycle ∙ h.timed))
        (still before l (first_number 1000000000000000000) Cycle e.cycle (cycle ∙ h.cycle))
        (λ n x. h.some n (sym tasks ∙ x)) (λ n x. h.long n (sym cycle ∙ x))
        (still before l is_some Strength e.strength (strength ∙ h.strength))
        (times ∙ ap (λ xs. xs ++ time_line l ∷ []) h.times ∙ sym (map_append time_line (under Times before) (l ∷ [])))
        (still before l (map pair_line) Pairs e.pairs.items (ap (λ v. v.items) pairs ∙ h.pairs)),
  )

  pub pair_taken : (e : Draft) (many : ℕ) → d.section ≡ Some Pairs → many ≡ length d.pairs.items
      → pair_fault (nat_eq many 524288) (pair_in 1024 l.1) ≡ None
      → e.section ≡ d.section → e.seen ≡ d.seen → e.tasks ≡ d.tasks → e.cycle ≡ d.cycle → e.strength ≡ d.strength
      → e.times ≡ d.times → e.pairs.items ≡ d.pairs.items ++ pair_line l ∷ []
      → (line_fault before l.1 ≡ None) × IsDraft (before ++ l ∷ []) e
  pair_taken e many s k f section seen tasks cycle strength times pairs = (
    fault_of Pairs s ∙ ap (λ n. pair_fault (nat_eq n 524288) (pair_in 1024 l.1))
        (sym (k ∙ ap length h.pairs ∙ length_map pair_line (under Pairs before))) ∙ f,
    body_draft before l Pairs d e h (stands Pairs s) m section seen
        (still before l is_some Tasks (is_there e.tasks) (ap is_there tasks ∙ h.counted))
        (still before l (first_number 1024) Tasks e.tasks (tasks ∙ h.tasks))
        (still before l is_some Cycle (is_there e.cycle) (ap is_there cycle ∙ h.timed))
        (still before l (first_number 1000000000000000000) Cycle e.cycle (cycle ∙ h.cycle))
        (λ n x. h.some n (sym tasks ∙ x)) (λ n x. h.long n (sym cycle ∙ x))
        (still before l is_some Strength e.strength (strength ∙ h.strength))
        (still before l (map time_line) Times e.times.items (ap (λ v. v.items) times ∙ h.times))
        (pairs ∙ ap (λ xs. xs ++ pair_line l ∷ []) h.pairs ∙ sym (map_append pair_line (under Pairs before) (l ∷ []))),
  )
